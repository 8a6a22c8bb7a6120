-- Entries don't affect one another, since reports are a map over them.
use Prim.Native.Nat.{ℕ, zero, suc}
use mathlib.Core.List.{List, [], ◌∷◌, ◌++◌, map}
use mathlib.Core.Path.{◌≡◌, refl, ap}
use lib.ListN.{get_or, length}
use Rattle.contexts.specs.declared.Context.{Context}
use Rattle.trees.specs.Fragment.{Fragment}
use Rattle.script_bytes.specs.Tables.{Tables}
use Rattle.spend_machine.specs.Entries.{Entry}
use Rattle.spend_machine.specs.Verdicts.{report}
use Rattle.spend_machine.specs.Laws.{in_order, EntriesApart}

module _ {A B : Type 0} (f : A → B) where
  get_d_map : (xs : List A) (i : ℕ) (x : A) → f (get_or xs i x) ≡ get_or (map f xs) i (f x)
  get_d_map [] i x = refl
  get_d_map (y ∷ xs) zero x = refl
  get_d_map (y ∷ xs) (suc i) x = get_d_map xs i x

  map-in-order : (xs : List A) (x : A) (order : List ℕ) → map f (in_order xs x order) ≡ in_order (map f xs) (f x) order
  map-in-order xs x [] = refl
  map-in-order xs x (i ∷ order) = rw (get_d_map xs i x, map-in-order xs x order)

  map-joined : (xs ys : List A) → map f (xs ++ ys) ≡ map f xs ++ map f ys
  map-joined [] ys = refl
  map-joined (x ∷ xs) ys = ap (λ zs. f x ∷ zs) (map-joined xs ys)

  map-counted : (xs : List A) → length (map f xs) ≡ length xs
  map-counted [] = refl
  map-counted (x ∷ xs) = ap suc (map-counted xs)

pub entries-apart : (c : Context) (t : Tables) (f : Fragment) → EntriesApart c t f
entries-apart c t f =
    record { reordered = map-in-order (report c t f); joined = map-joined (report c t f); counted = map-counted (report c t f) }
