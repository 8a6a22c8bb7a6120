-- A policy that was moved compiles as before, since compile sees of a policy's bytes what is read of them: specs/Laws.antt. Assumes nothing.
use mathlib.Core.Bool.{Bool, cond}
use mathlib.Core.List.{List}
use Rattle.std.specs.Prelude.{Option, None, Some}
use mathlib.Core.Path.{◌≡◌, refl, ap}
use Prim.Native.Nat.{ℕ}
use Rattle.contexts.specs.declared.Context.{Context}
use Rattle.policies.specs.Policy.{Policy}
use Rattle.policies.specs.Reading.{Answer, read_policy}
use Rattle.definition.specs.Refusals.{BadWork}
use Rattle.definition.specs.Compile.{refused_with, compile_read, compile_in, context_of, compile}
use Rattle.moving.proofs.RoundTrips.{same-policy}
use Rattle.movers.specs.Laws.{CompilesTheSame}

-- compile reads bytes as read_policy does
same_outcome : (context : ℕ) (work_fits : Bool) (left right : List ℕ) (room : ℕ) → read_policy left ≡ read_policy right
    → compile context work_fits left room ≡ compile context work_fits right room
unfolding compile
same_outcome context work_fits left right room e = by-context (context_of context)
  where
    by-context : (c : Option Context) → compile_in context work_fits room left c ≡ compile_in context work_fits room right c
    by-context None = refl
    by-context (Some c) = ap (λ (a : Answer Policy). cond work_fits (compile_read c room a) (refused_with BadWork)) e

pub compiles-the-same : CompilesTheSame
compiles-the-same form policy below space to e context work_fits room =
    same_outcome context work_fits to policy room (same-policy form policy below space to e)
