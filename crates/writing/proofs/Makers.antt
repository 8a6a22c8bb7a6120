-- What holds of every line of the table of makers holds of the maker that is found. Assumes nothing.
use mathlib.Core.Path.{◌≡◌, refl}
use mathlib.Core.Bool.{Bool, true, false, cond}
use mathlib.Core.List.{List, [], ◌∷◌}
use Rattle.std.specs.Prelude.{Option, None, Some}
use Prim.Native.Nat.{ℕ}
use borrow.Author.Tests.{eqb-true}
use lib.Dec.{eqb}
use Rattle.records.specs.Payloads.{Payload, number_of, k_of, keys_of}
use Rattle.trees.specs.Fragment.{Fragment}
use Rattle.trees.specs.Reading.{done}
use Rattle.trees.specs.Tree.{Line, find, Maker, plain, with_number, one, two, three, of_keys, makers, made_by, make_fragment}
use Rattle.writing.proofs.Kept.{no-some, given-some}

infixr 40 ◌⊗◌
pub data AllLines (Q : ℕ → Maker → Type 0) : List (Line Maker) → Type 0 where
  no_line : AllLines Q []
  ◌⊗◌ : {line : Line Maker} {lines : List (Line Maker)} → Q line.kind line.this → AllLines Q lines → AllLines Q (line ∷ lines)

module _ (Q : ℕ → Maker → Type 0) where
  found-line : (kind : ℕ) {lines : List (Line Maker)} {maker : Maker} → AllLines Q lines → find kind lines ≡ Some maker → Q kind maker
  unfolding find
  found-line kind no_line e = absurd (no-some e)
  found-line kind {maker} (◌⊗◌ {line} {lines} this others) e = by-test (eqb kind line.kind) refl (λ e. found-line kind others e) e
    where
      by-test : (t : Bool) → eqb kind line.kind ≡ t → (find kind lines ≡ Some maker → Q kind maker)
          → cond t (Some line.this) (find kind lines) ≡ Some maker → Q kind maker
      by-test true same next e =
          let maker-is : line.this ≡ maker = cc in
          let kind-is : kind ≡ line.kind = eqb-true kind line.kind same in
          rw (kind-is, ← maker-is) this
      by-test false same next e = next e

  pub found-maker : AllLines Q makers → (kind : ℕ) (payload : Payload) (xs : List Fragment) {x : Fragment} → make_fragment kind payload xs ≡ done x
      → (maker : Maker) × Q kind maker × (maker payload xs ≡ Some x)
  found-maker all kind payload xs {x} m = by-maker (find kind makers) refl (given-some (made_by (find kind makers) payload xs) m)
    where
      by-maker : (o : Option Maker) → find kind makers ≡ o → made_by o payload xs ≡ Some x
          → (maker : Maker) × Q kind maker × (maker payload xs ≡ Some x)
      by-maker (Some maker) found made = (maker, found-line kind all found, made)
      by-maker None found made = absurd (no-some made)

-- ---- what each maker was given, and what it made

pub plain-made : (f : Fragment) (payload : Payload) (xs : List Fragment) {x : Fragment} → plain f payload xs ≡ Some x → (xs ≡ []) × (x ≡ f)
plain-made f payload [] m = (refl, cc)
plain-made f payload (y ∷ ys) m = (cc, cc)

pub number-made : (f : ℕ → Fragment) (payload : Payload) (xs : List Fragment) {x : Fragment} → with_number f payload xs ≡ Some x
    → (xs ≡ []) × (x ≡ f (number_of payload))
number-made f payload [] m = (refl, cc)
number-made f payload (y ∷ ys) m = (cc, cc)

pub keys-made : (f : ℕ → List ℕ → Fragment) (payload : Payload) (xs : List Fragment) {x : Fragment} → of_keys f payload xs ≡ Some x
    → (xs ≡ []) × (x ≡ f (k_of payload) (keys_of payload))
keys-made f payload [] m = (refl, cc)
keys-made f payload (y ∷ ys) m = (cc, cc)

pub one-made : (f : Fragment → Fragment) (payload : Payload) (xs : List Fragment) {x : Fragment} → one f payload xs ≡ Some x
    → (a : Fragment) × (xs ≡ a ∷ []) × (x ≡ f a)
one-made f payload [] m = absurd (no-some m)
one-made f payload (a ∷ []) m = (a, refl, cc)
one-made f payload (a ∷ b ∷ ys) m = absurd (no-some m)

pub two_made : (f : Fragment → Fragment → Fragment) (payload : Payload) (xs : List Fragment) {x : Fragment} → two f payload xs ≡ Some x
    → (a b : Fragment) × (xs ≡ a ∷ b ∷ []) × (x ≡ f a b)
two_made f payload [] m = absurd (no-some m)
two_made f payload (a ∷ []) m = absurd (no-some m)
two_made f payload (a ∷ b ∷ []) m = (a, b, refl, cc)
two_made f payload (a ∷ b ∷ c ∷ ys) m = absurd (no-some m)

pub three_made : (f : Fragment → Fragment → Fragment → Fragment) (payload : Payload) (xs : List Fragment) {x : Fragment}
    → three f payload xs ≡ Some x → (a b c : Fragment) × (xs ≡ a ∷ b ∷ c ∷ []) × (x ≡ f a b c)
three_made f payload [] m = absurd (no-some m)
three_made f payload (a ∷ []) m = absurd (no-some m)
three_made f payload (a ∷ b ∷ []) m = absurd (no-some m)
three_made f payload (a ∷ b ∷ c ∷ []) m = (a, b, c, refl, cc)
three_made f payload (a ∷ b ∷ c ∷ d ∷ ys) m = absurd (no-some m)
