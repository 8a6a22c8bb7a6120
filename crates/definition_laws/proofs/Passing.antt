-- What compile writes passes the tree check, which gives its tree and its type: specs/Laws.antt.
use mathlib.Core.List.{List}
use Rattle.std.specs.Prelude.{Some}
use mathlib.Core.Path.{◌≡◌, ap, ◌∙◌}
use Prim.Native.Nat.{ℕ}
use Rattle.contexts.specs.declared.Context.{Context}
use Rattle.costs.specs.declared.Price.{Price}
use Rattle.trees.specs.Reading.{done}
use Rattle.trees.specs.Tree.{tree_of}
use Rattle.trees.specs.TreeCheck.{Typed, context_of}
use Rattle.trees.proofs.Theorem.{passes-well-typed-trees}
use Rattle.writing.proofs.ReadBack.{read_back}
use Rattle.policies.specs.Policy.{Policy}
use Rattle.definition.specs.Compile.{compiled, compile_policy}
use Rattle.definition_laws.specs.FormedPolicy.{FormedPolicy}
use Rattle.definition_laws.specs.Laws.{Sound, Passes, CompilePasses}
use Rattle.definition_laws.proofs.Compiling.{compiled-is-sound, compile-is-sound}

-- what is sound passes
sound-passes : (context : ℕ) {c : Context} {room : ℕ} {bytes : List ℕ} {nodes : ℕ} → context_of context ≡ Some c → Sound c room bytes nodes →
    Passes context bytes
sound-passes context {c} {bytes} k s =
    let x : Typed = record { tree = s.tree; type = s.ty } in
    let again : tree_of bytes ≡ done s.tree = ap tree_of s.written ∙ read_back s.tree s.formed s.within in
    record {
      found = x;
      passed = (passes-well-typed-trees context c bytes x k).1 (again, s.typed, s.low);
      base = s.base;
      safe = s.safe;
      non_malleable = s.non_malleable;
    }

-- what is compiled of a policy that can be written passes, in every context
pub compiled-passes : (context : ℕ) (c : Context) (room : ℕ) (q : Policy) (bytes : List ℕ) (cost : Price) (nodes : ℕ) → context_of context ≡ Some c →
    FormedPolicy q → compile_policy c room q ≡ compiled bytes cost nodes → Passes context bytes
compiled-passes context c room q bytes cost nodes k w h = sound-passes context k (compiled-is-sound c room q bytes cost nodes w h)

-- and so does what compile writes for the bytes of a policy
pub compile-passes : CompilePasses
compile-passes context work_fits policy room bytes cost nodes below h =
    let sound = compile-is-sound context work_fits policy room bytes cost nodes below h in
    sound-passes context sound.1 sound.2
