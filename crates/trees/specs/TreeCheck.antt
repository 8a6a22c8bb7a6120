-- The tree check: document 01, "Numbers the console shows", 1, 2 and 14 to 16, in the order that the paragraph below the table gives; and document 02,
-- R-8: 19 for a record that is too tall, after 15 for the same record.
use Rattle.correctness.specs.declared.TypeError.{TypeError}
use Rattle.std.specs.Prelude.{ℕ, ◌≤◌, cond, List, map, ◌≡◌, ◌↔◌, eqb, leb, Option, None, Some, Result, Ok, Err}
use Rattle.records.specs.Payloads.{Payload}
use Rattle.types.specs.declared.«Type».{«Type»}
use Rattle.contexts.specs.declared.Context.{Context}
use Rattle.contexts.specs.declared.Context.TheVariants.{Segwitv0, Tap}
use Rattle.trees.specs.Fragment.{Fragment}
use Rattle.trees.specs.Typing.{type_of}
use Rattle.trees.specs.Height.{max_height, height_of}
use Rattle.trees.specs.Reading.{Answer, refused, done, ◌>>=◌, or_refuse, bad_tree, ill_typed, tree_too_tall, max_records, read_tree}
use Rattle.trees.specs.Tree.{fragment_of, tree_of}

abbrev pub bad_context : ℕ
bad_context = 1

abbrev pub bad_work : ℕ
bad_work = 2

-- a tree with its type
pub record Typed : Type 0 where
  pub tree : Fragment
  pub type : «Type»

-- a result, unless the tree that it is of is too tall
abbrev pub if_low : {A : Type 0} → (height : ℕ) → A → Answer A
if_low height a = cond (leb height max_height) (done a) (refused tree_too_tall)

abbrev pub typed : Fragment → Result «Type» TypeError → Answer Typed
typed f (Ok t) = if_low (height_of f) (record { tree = f; type = t })
typed f (Err TypeError.IllTyped) = refused ill_typed

-- a record's own fragment, if there is one, it is well-typed and not too tall
abbrev pub made : Context → Option Fragment → Answer Typed
made c o = do
  f ← or_refuse bad_tree o
  typed f (type_of c f)

abbrev pub make_typed : Context → ℕ → Payload → List Typed → Answer Typed
make_typed c kind payload xs = made c (fragment_of kind payload (map (λ x. x.tree) xs))

-- the tree and the type that some bytes write in a context
unfoldable pub typed_tree_of : Context → List ℕ → Answer Typed
typed_tree_of c bytes = read_tree (make_typed c) bytes

-- document 01's numbers of the contexts
abbrev pub context_of : ℕ → Option Context
context_of n = cond (eqb n 0) (Some Segwitv0) (cond (eqb n 1) (Some Tap) None)

-- work memory has one word for each record that a tree may have
abbrev pub work_of : ℕ → Option ℕ
work_of words = cond (eqb words max_records) (Some words) None

-- the check of a tree in a context, with work memory of so many words
abbrev pub check_in : Context → List ℕ → ℕ → Answer Typed
check_in c bytes words = do
  _ ← or_refuse bad_work (work_of words)
  typed_tree_of c bytes

-- the same in a context given by its number
unfoldable pub check_of : ℕ → List ℕ → ℕ → Answer Typed
check_of context bytes words = do
  c ← or_refuse bad_context (context_of context)
  check_in c bytes words

-- The check passes exactly the byte strings that write a tree which has a type in that context and is at most 128 high, and gives the tree and its
-- type.
abbrev pub PassesWellTypedTrees : Type 0
PassesWellTypedTrees =
    (context : ℕ) (c : Context) (bytes : List ℕ) (x : Typed) → context_of context ≡ Some c
    → (check_of context bytes max_records ≡ done x) ↔ ((tree_of bytes ≡ done x.tree) × (type_of c x.tree ≡ Ok x.type) × (height_of x.tree ≤ max_height))
