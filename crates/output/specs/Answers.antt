-- What measuring and writing a tree ask and answer: document 01, "Numbers the console shows", 13 (the records don't fit, or exceed 4,096; a
-- refusal leaves the output as it was, and so do done calls past the bytes written). Assumes nothing.
use Rattle.std.specs.Prelude.{List, ◌++◌, ◌⊎◌, ◌≡◌, ℕ, ◌*◌, ◌<◌, ◌≤◌, length, drop, Option, None, Some}
use Rattle.trees.specs.Fragment.{Fragment}
use Rattle.trees.specs.Reading.{max_records}
use Rattle.writing.specs.Writing.{size, bytes_of_tree}
use Rattle.policies.specs.Array.{Good}
use Rattle.memory.specs.Layout.{node_count}
use Rattle.nodes.specs.Answers.{Holds}
use Rattle.output.specs.declared.Extent.{Extent}

-- a node of work memory, and the policy that its leaves name
pub record Readable (pol m : List ℕ) (e : ℕ) : Type 0 where
  pub holds : Holds m
  pub good : Good pol
  pub there : e < node_count m

-- the most bytes that a record has
abbrev pub max_bytes : ℕ
max_bytes = 136

-- a tree has at most so many records, and their bytes are told, or it has more
pub data Measured (t : Fragment) (left : ℕ) : Option Extent → Type 0 where
  fits : {x : Extent}
      → size t ≡ x.records
      → length (bytes_of_tree t) ≡ x.bytes
      → x.records ≤ left
      → x.bytes ≤ max_bytes * x.records
      → Measured t left (Some x)
  too_many : left < size t → Measured t left None

-- a tree's bytes stand at the front of the output, or nothing is written
pub data Wrote (t : Fragment) (out₀ out : List ℕ) : Option ℕ → Type 0 where
  wrote : {n : ℕ}
      → size t ≤ max_records
      → length (bytes_of_tree t) ≡ n
      → n ≤ length out₀
      → out ≡ bytes_of_tree t ++ drop n out₀
      → Wrote t out₀ out (Some n)
  too_small : (max_records < size t) ⊎ (length out₀ < length (bytes_of_tree t)) → out ≡ out₀ → Wrote t out₀ out None
