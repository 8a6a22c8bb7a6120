-- Differences that the definitions give, computed by the checker: document 02, R-10.
use Rattle.std.specs.Prelude.{ℕ, List, [], ◌∷◌, ◌++◌, ◌≡◌, refl}
use Rattle.words.specs.Bytes.{little, le_at}
use Rattle.records.specs.Numbers.{u16s, numbers_at}
use Rattle.records.specs.Shapes.{look_up, shape_of}
use Rattle.records.specs.Payloads.{width, payload_of}
use Rattle.records.specs.RecordForm.{kind_of}
use Rattle.differ.specs.Numbered.{those, numbered_from, numbered}
use Rattle.differ.specs.Differences.{Difference, same_keys, same_count, differences, differences_in}

-- PkK of a key; OrI and Alt over records; Thresh, 1 of 1 and 1 of 2
abbrev key : ℕ → List ℕ
key n = 8 ∷ 0 ∷ 34 ∷ 0 ∷ n ∷ 0 ∷ 0 ∷ 0 ∷ []

abbrev or : (left right : ℕ) → List ℕ
or left right = 8 ∷ 0 ∷ 54 ∷ 0 ∷ left ∷ 0 ∷ right ∷ 0 ∷ []

abbrev alt : ℕ → List ℕ
alt child = 6 ∷ 0 ∷ 42 ∷ 0 ∷ child ∷ 0 ∷ []

abbrev one : List ℕ
one = 10 ∷ 0 ∷ 56 ∷ 0 ∷ 1 ∷ 0 ∷ 1 ∷ 0 ∷ 0 ∷ 0 ∷ []

abbrev both : List ℕ
both = 12 ∷ 0 ∷ 56 ∷ 0 ∷ 1 ∷ 0 ∷ 2 ∷ 0 ∷ 0 ∷ 0 ∷ 1 ∷ 0 ∷ []

abbrev at : (left right : ℕ) → Difference
at left right = record { left = left; right = right }

-- PkK of a key of 64 bits
abbrev long_key : ℕ → List ℕ
long_key n = 12 ∷ 0 ∷ 84 ∷ 0 ∷ n ∷ 0 ∷ 0 ∷ 0 ∷ 0 ∷ 0 ∷ 0 ∷ 0 ∷ []

-- one tree in two orders of its records: no difference
pub renumbered : differences (numbered (key 1 ++ key 2 ++ or 0 1)) (numbered (key 2 ++ key 1 ++ or 1 0)) ≡ []
unfolding little le_at u16s numbers_at look_up shape_of kind_of width payload_of those numbered_from numbered same_keys same_count differences differences_in
renumbered = refl

-- both keys differ, told left to right also where the record numbers run otherwise
pub both-keys : differences (numbered (key 1 ++ key 2 ++ or 1 0)) (numbered (key 3 ++ key 4 ++ or 0 1)) ≡ at 1 0 ∷ at 0 1 ∷ []
unfolding little le_at u16s numbers_at look_up shape_of kind_of width payload_of those numbered_from numbered same_keys same_count differences differences_in
both-keys = refl

-- another kind at a child is one difference, whatever stands below it
pub other-kind : differences (numbered (key 1 ++ key 2 ++ or 0 1)) (numbered (key 1 ++ key 2 ++ alt 1 ++ or 0 2)) ≡ at 1 2 ∷ []
unfolding little le_at u16s numbers_at look_up shape_of kind_of width payload_of those numbered_from numbered same_keys same_count differences differences_in
other-kind = refl

-- another count of children is one difference, at the parent
pub child-more : differences (numbered (key 1 ++ one)) (numbered (key 1 ++ key 2 ++ both)) ≡ at 1 2 ∷ []
unfolding little le_at u16s numbers_at look_up shape_of kind_of width payload_of those numbered_from numbered same_keys same_count differences differences_in
child-more = refl

-- a key is its number, in four bytes or in eight: document 02, R-3
pub in-new-kinds : differences (numbered (key 1 ++ key 2 ++ or 0 1)) (numbered (long_key 1 ++ long_key 3 ++ or 0 1)) ≡ at 1 1 ∷ []
unfolding little le_at u16s numbers_at look_up shape_of kind_of width payload_of those numbered_from numbered same_keys same_count differences differences_in
in-new-kinds = refl
