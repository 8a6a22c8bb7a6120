-- What the parts of measuring and writing ask and answer. Assumes nothing.
use Rattle.std.specs.Prelude.{List, ◌≡◌, ℕ, ◌+◌, ◌<◌, ◌≤◌, length, get_or}
use Rattle.std.proofs.lemmas.List.Edits.{sets}
use Rattle.trees.specs.Reading.{max_records}
use Rattle.writing.specs.Writing.{Node, node, Nodes, nil, ◌▸◌, count, written, node_of}
use Rattle.policies.specs.Forms.{children_of}
use Rattle.policies.specs.Array.{Good, policy_at}
use Rattle.output.specs.declared.End.{End}
use Rattle.output.specs.Records.{tree_at, front_at, length_at, record_at}
use Rattle.output.specs.Answers.{Readable, max_bytes}

pub record FrontLength (pol m : List ℕ) (e n : ℕ) : Type 0 where
  pub is : n ≡ length (front_at pol m e)
  pub few : n ≤ 132

pub record RecordLength (pol m : List ℕ) (e n : ℕ) : Type 0 where
  pub is : n ≡ length_at pol m e
  pub few : n ≤ max_bytes

-- a record of the policy, and how many children it has
pub record Keyed (pol : List ℕ) (r n : ℕ) : Type 0 where
  pub good : Good pol
  pub stored : r < 64
  pub count : n ≡ length (children_of (policy_at pol r))

-- k is not 0 in the records of Multi and MultiA
unfoldable mutual
  pub SomeK : Node → Type 0
  SomeK (node kind front children) = (107 ≤ kind → 1 ≤ get_or front 0 0) × AllSomeK children

  pub AllSomeK : Nodes → Type 0
  AllSomeK nil = Unit
  AllSomeK (x ▸ xs) = SomeK x × AllSomeK xs

abbrev pub Sound : (pol m : List ℕ) (e : ℕ) → Type 0
Sound pol m e = SomeK (node_of (tree_at pol m e))

-- a part of a node's record, of so many bytes, fits into the output from a place on
pub record Place (pol m : List ℕ) (e : ℕ) (out : List ℕ) (at bytes : ℕ) : Type 0 where
  pub readable : Readable pol m e
  pub sound : Sound pol m e
  pub fits : at + bytes ≤ length out

-- the record of a node stands in the output, and ends at a place
pub record Placed (pol m : List ℕ) (e : ℕ) (row : List ℕ) (at : ℕ) (out₀ out : List ℕ) (ends : ℕ) : Type 0 where
  pub to : ends ≡ at + length_at pol m e
  pub is : out ≡ sets out₀ at (record_at pol m e row)

-- the records of a node fit into the output from a place on, and n records stand before them
pub record Room (pol m : List ℕ) (e : ℕ) (out : List ℕ) (at n : ℕ) : Type 0 where
  pub readable : Readable pol m e
  pub sound : Sound pol m e
  pub fits : at + length (written n (node_of (tree_at pol m e))) ≤ length out
  pub few : n + count (node_of (tree_at pol m e)) ≤ max_records

-- the records of a node stand in the output
pub record Ended (t : Node) (at n : ℕ) (out₀ out : List ℕ) (r : End) : Type 0 where
  pub is : out ≡ sets out₀ at (written n t)
  pub to : r.at ≡ at + length (written n t)
  pub records : r.records ≡ n + count t
