-- Which bytes a work memory holds, if any: document 02, R-7 (whoever filled it). They are records that write one tree as compile does: document 01,
-- "Records" (the form of each; post-order, children left to right; the last record is the root), at most 4,096, with keys in the kinds of 64
-- bits (document 02, R-3). Types, heights and local validity are no part of it. Assumes nothing.
use Rattle.std.specs.Prelude.{Bool, true, false, cond, ◌&&◌, ◌||◌, List, [], ◌∷◌, ◌++◌, ℕ, zero, suc, ◌-◌, eqb, leb, length, take, drop, Option, None, Some}
use Rattle.memory.specs.Layout.{work_words, word_at}
use Rattle.records.specs.Numbers.{between}
use Rattle.records.specs.Payloads.{Payload, written_kind, children_of}
use Rattle.records.specs.RecordForm.{record_length, fragment_payload}
use Rattle.trees.specs.Reading.{max_records}
use Rattle.chosen.specs.Form.{tree_bytes, room_in, held_in}

abbrev pub if_so : {A : Type 0} → Bool → A → Option A
if_so true a = Some a
if_so false a = None

-- ---- records in post-order

-- the kinds of keys of 32 bits, which compile does not write
abbrev pub is_short : ℕ → Bool
is_short kind = between 34 35 kind || between 57 58 kind

-- whether two lists have the same numbers
unfoldable pub same : List ℕ → List ℕ → Bool
same [] [] = true
same [] (y ∷ ys) = false
same (x ∷ xs) [] = false
same (x ∷ xs) (y ∷ ys) = eqb x y && same xs ys

-- `roots` are the records that none has taken yet: a record takes the last of them, which must be its children in order, and is one itself
unfoldable pub taking : (roots : List ℕ) → (own : ℕ) → (children : List ℕ) → Option (List ℕ)
taking roots own children =
    if_so (same (drop (length roots - length children) roots) children) (take (length roots - length children) roots ++ (own ∷ []))

abbrev pub taking_all : (roots : List ℕ) → (own : ℕ) → Option Payload → Option (List ℕ)
taking_all roots own None = None
taking_all roots own (Some payload) = taking roots own (children_of payload)

-- the roots once record `own` has been read, if it is of the form and of a kind that is written
unfoldable pub with_record : (roots : List ℕ) → (own : ℕ) → (bytes : List ℕ) → Option (List ℕ)
with_record roots own bytes = cond (is_short (written_kind bytes)) None (taking_all roots own (fragment_payload bytes))

abbrev pub and_then : {A : Type 0} → Option A → (A → Bool) → Bool
and_then None next = false
and_then (Some a) next = next a

-- whether some bytes are such records, of which so many may still begin, and leave one root
unfoldable pub in_order : (more own : ℕ) → (roots : List ℕ) → List ℕ → Bool
in_order zero own roots [] = eqb (length roots) 1
in_order zero own roots (b ∷ bs) = false
in_order (suc more) own roots [] = eqb (length roots) 1
in_order (suc more) own roots (b ∷ bs) =
    and_then (record_length (b ∷ bs)) (λ len. and_then (with_record roots own (take len (b ∷ bs))) (λ after. in_order more (suc own) after (drop len (b ∷ bs))))

-- whether some bytes write a tree as compile writes it
unfoldable pub is_written : List ℕ → Bool
is_written bytes = in_order max_records 0 [] bytes

-- ---- the bytes in a work memory

unfoldable pub all_zero : List ℕ → Bool
all_zero [] = true
all_zero (n ∷ ns) = eqb n 0 && all_zero ns

-- the count fits, the bytes write a tree, and all else is zero
unfoldable pub holds_tree : List ℕ → Bool
holds_tree m =
    eqb (length m) work_words && leb (word_at m 0) tree_bytes && all_zero (drop (word_at m 0) (room_in m)) && is_written (held_in m)

unfoldable pub chosen_of : List ℕ → Option (List ℕ)
chosen_of m = if_so (holds_tree m) (held_in m)
