-- What a record means is 'at least so many of these places': its own variables and its children; of an AndOr of x, y and z that is 2 of x, y, z, z.
use Rattle.std.specs.Prelude.{ℕ, ◌+◌, ◌≤◌, ◌<◌, Bool, false, cond, List, [], ◌∷◌, map, ◌≡◌, eqb, leb, length, get_or, Option, None, Some}
use Rattle.records.specs.Payloads.{Payload, k_of, count_of, children_of}
use Rattle.records.specs.RecordForm.{kind_of, fragment_payload}
use Rattle.contexts.specs.Lists.{one}
use Rattle.trees.specs.Tree.{◌is◌, find}
use Rattle.walk.specs.Heads.{head_in}
use Rattle.meaning.specs.Meaning.{count_true}
use Rattle.variables.specs.declared.Var.{Var}
use Rattle.variables.specs.Gathering.{codes_in}
use Rattle.truth.specs.Words.{bit_at, word_for}

abbrev pub or_else : {A : Type 0} → A → Option A → A
or_else a (Some x) = x
or_else a None = a

-- how many places must hold, by a record's kind and k
abbrev pub tree_gate : (kind k : ℕ) → ℕ
tree_gate kind k = or_else 1 (find kind (33 is 0 ∷ 49 is 2 ∷ 50 is 2 ∷ 55 is 2 ∷ 56 is k ∷ 57 is k ∷ 58 is k ∷ []))

abbrev pub policy_gate : (kind k : ℕ) → ℕ
policy_gate kind k = or_else 1 (find kind (2 is 0 ∷ 10 is 2 ∷ 12 is k ∷ []))

-- the third child of an AndOr counts twice
abbrev pub again : (kind : ℕ) → List Bool → ℕ
again kind xs = cond (eqb kind 55) (one (get_or xs 2 false)) 0

abbrev pub places_true : (kind : ℕ) → (own children : List Bool) → ℕ
places_true kind own children = again kind children + (count_true children + count_true own)

-- ---- a record's bytes, where work memory has the words of the records before it

abbrev pub bits_at : (work : List ℕ) → (j : ℕ) → List ℕ → List Bool
bits_at work j numbers = map (λ i. bit_at (get_or work i 0) j) numbers

abbrev pub own_bits : List Var → (words : List ℕ) → (j : ℕ) → List Var → List Bool
own_bits row words j codes = map (λ x. bit_at (word_for row words x) j) codes

-- k and the children of a record's payload, if it has one
abbrev pub k_here : Option Payload → ℕ
k_here (Some p) = k_of p
k_here None = 0

abbrev pub children_here : Option Payload → List ℕ
children_here (Some p) = children_of p
children_here None = []

pub record Stands (bytes work : List ℕ) : Type 0 where
  pub payload : Payload
  pub fits : fragment_payload bytes ≡ Some payload
  pub inside : (j : ℕ) → j < length (children_of payload) → get_or (children_of payload) j 0 < length work
  pub bounds : 56 ≤ kind_of bytes → (1 ≤ k_of payload) × (k_of payload ≤ count_of payload) × (count_of payload ≤ 16)

-- the record's word has in bit j whether at least so many of its places hold
pub record RecordWord (bytes work : List ℕ) (row : List Var) (words : List ℕ) (r : ℕ) : Type 0 where
  pub each : (j : ℕ) → j < 64
      → bit_at r j
      ≡ leb (tree_gate (kind_of bytes) (k_here (fragment_payload bytes)))
      (places_true (kind_of bytes) (own_bits row words j (codes_in (head_in bytes))) (bits_at work j (children_here (fragment_payload bytes))))
