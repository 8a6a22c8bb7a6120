-- The slots of document 01's records in work memory, for the inner contracts of the tree check: a word for each record read, 0 once it is
-- taken; while it is free, its lowest ten bits are one more than the packed number of its type, and its height stands above them.
use Rattle.refusals.specs.declared.Refusal.{Refusal}
use Rattle.refusals.specs.Numbers.{number_of}
use Rattle.std.specs.Prelude.{ℕ, zero, suc, ◌+◌, ◌/◌, ◌%◌, ◌<◌, ◌≤◌, List, [], ◌∷◌, ◌++◌, map, ◌≡◌, length, take, Option, None, Some, Result, Ok, Err}
use Rattle.types.specs.declared.«Type».{«Type»}
use Rattle.types.specs.TypeOrder.{unpack}
use Rattle.contexts.specs.declared.Context.{Context}
use Rattle.trees.specs.declared.Subtree.{Subtree}
use Rattle.trees.specs.Reading.{Answer, refused, done, map_answer, Slots, Taken, add_record}
use Rattle.trees.specs.Height.{max_height}
use Rattle.trees.specs.Rules.{tallest, make_subtree}

abbrev pub unpacked : (height : ℕ) → Option «Type» → Option Subtree
unpacked height (Some t) = Some (record { ty = t; height = height })
unpacked height None = None

-- from the height and the ten bits below it
abbrev pub slot_from : (height packed : ℕ) → Option Subtree
slot_from height zero = None
slot_from height (suc n) = unpacked height (unpack n)

abbrev pub slot_of : ℕ → Option Subtree
slot_of word = slot_from (word / 0x400) (word % 0x400)

-- the slots of the first records
abbrev pub slots_in : List ℕ → (records : ℕ) → Slots Subtree
slots_in work records = map slot_of (take records work)

-- how many slots are free
unfoldable pub free_in : {A : Type 0} → Slots A → ℕ
free_in [] = 0
free_in (None ∷ slots) = free_in slots
free_in (Some x ∷ slots) = 1 + free_in slots

-- ---- what the functions of the tree check answer

-- n children that were looked for in the slots, and what is left of them
abbrev pub children_taken : Option (List Subtree) → (n : ℕ) → Slots Subtree → Option (Taken Subtree)
children_taken (Some xs) n slots = Some (record { those = take n xs; left = slots })
children_taken None n slots = None

-- the type alone
abbrev pub type_in : Answer Subtree → Answer «Type»
type_in a = map_answer (λ x. x.ty) a

-- the slots after a record
abbrev pub step_answer : Result ℕ Refusal → Slots Subtree → Answer (Slots Subtree)
step_answer (Ok children) slots = done slots
step_answer (Err r) slots = refused (number_of r)

-- a record with so many children leaves that many free slots less, and its own
abbrev pub FreeAfter : Result ℕ Refusal → (before after : Slots Subtree) → Type 0
FreeAfter (Ok children) before after = free_in after + children ≡ free_in before + 1
FreeAfter (Err r) before after = Unit

-- a record of this type over n children has its own slot behind those of `work₀`, unless it is too tall
pub data Placed (work₀ work : List ℕ) (records : ℕ) (t : «Type») (xs : List Subtree) (n : ℕ) : Result ℕ Refusal → Type 0 where
  placed : suc (tallest xs) ≤ max_height → length work ≡ length work₀ →
      slots_in work (records + 1) ≡ slots_in work₀ records ++ (Some (record { ty = t; height = suc (tallest xs) }) ∷ []) →
      Placed work₀ work records t xs n (Ok n)
  too_tall : max_height < suc (tallest xs) → length work ≡ length work₀ → Placed work₀ work records t xs n (Err Refusal.TreeTooTall)

pub record Stepped (c : Context) (bytes work₀ work : List ℕ) (records : ℕ) (r : Result ℕ Refusal) : Type 0 where
  pub says : add_record (make_subtree c) (slots_in work₀ records) bytes ≡ step_answer r (slots_in work (records + 1))
  pub free : FreeAfter r (slots_in work₀ records) (slots_in work (records + 1))
  pub same : length work ≡ length work₀
