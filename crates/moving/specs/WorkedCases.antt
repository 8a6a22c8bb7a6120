-- Small policies moved, by the definitions: keys 0, 4,294,967,295, 4,294,967,296 and 18,446,744,073,709,551,615. Assumes nothing.
use Rattle.std.specs.Prelude.{List, [], ◌∷◌, ◌++◌, ◌≡◌, refl, ℕ}
use Rattle.words.specs.Bytes.{little, bytes_of, le_at}
use Rattle.records.specs.Numbers.{u16s}
use Rattle.records.specs.Shapes.{look_up, shape_of}
use Rattle.records.specs.Payloads.{width, payload_of}
use Rattle.records.specs.RecordForm.{kind_of}
use Rattle.policies.specs.Policy.{from_list, depth, deepest}
use Rattle.policies.specs.Forms.{made}
use Rattle.policies.specs.Reading.{refused, done, without, read_whole, read_record, root_of, finish, read_from, read_policy}
use Rattle.policies.specs.Examples.{both, either}
use Rattle.moving.specs.declared.Form.TheVariants.{Old, New}
use Rattle.moving.specs.Moving.{moved, too_large, records_from, records_of, in_order, any, moved_policy, move}

-- the records of keys 0 and 4,294,967,295 in either form
abbrev pub old0 : List ℕ
old0 = 8 ∷ 0 ∷ 3 ∷ 0 ∷ 0 ∷ 0 ∷ 0 ∷ 0 ∷ []

abbrev pub new0 : List ℕ
new0 = 12 ∷ 0 ∷ 19 ∷ 0 ∷ 0 ∷ 0 ∷ 0 ∷ 0 ∷ 0 ∷ 0 ∷ 0 ∷ 0 ∷ []

abbrev pub old_last : List ℕ
old_last = 8 ∷ 0 ∷ 3 ∷ 0 ∷ 255 ∷ 255 ∷ 255 ∷ 255 ∷ []

abbrev pub new_last : List ℕ
new_last = 12 ∷ 0 ∷ 19 ∷ 0 ∷ 255 ∷ 255 ∷ 255 ∷ 255 ∷ 0 ∷ 0 ∷ 0 ∷ 0 ∷ []

-- those of the two larger keys
abbrev pub too_large1 : List ℕ
too_large1 = 12 ∷ 0 ∷ 19 ∷ 0 ∷ 0 ∷ 0 ∷ 0 ∷ 0 ∷ 1 ∷ 0 ∷ 0 ∷ 0 ∷ []

abbrev pub largest : List ℕ
largest = 12 ∷ 0 ∷ 19 ∷ 0 ∷ 255 ∷ 255 ∷ 255 ∷ 255 ∷ 255 ∷ 255 ∷ 255 ∷ 255 ∷ []

-- `both` is an And of records 0 and 1, `either` an Or of them with two weights
pub record WorkedCases : Type 0 where
  pub to-new : move New (old0 ++ old_last ++ both) 32 ≡ done (new0 ++ new_last ++ both)
  pub to-old : move Old (new0 ++ new_last ++ both) 24 ≡ done (old0 ++ old_last ++ both)
  pub mixed-to-new : move New (largest ++ old_last ++ both) 32 ≡ done (largest ++ new_last ++ both)
  pub mixed-to-old : move Old (new_last ++ old0 ++ both) 24 ≡ done (old_last ++ old0 ++ both)
  pub one-over : move Old (new0 ++ too_large1 ++ both) 24 ≡ refused 18
  pub largest-over : move Old largest 0 ≡ refused 18
  pub no-room-new : move New (old0 ++ old_last ++ both) 31 ≡ refused 13
  pub no-room-old : move Old new_last 7 ≡ refused 13
  pub not-read : move Old (largest ++ largest) 0 ≡ refused 3
  pub no-weight : move Old (largest ++ old0 ++ either 1 0) 0 ≡ refused 4

pub worked-cases : WorkedCases
unfolding little bytes_of le_at u16s look_up shape_of kind_of width payload_of read_policy read_from read_record read_whole without root_of finish made from_list depth deepest moved too_large records_from records_of in_order any moved_policy move
worked-cases =
    record {
      to-new = refl;
      to-old = refl;
      mixed-to-new = refl;
      mixed-to-old = refl;
      one-over = refl;
      largest-over = refl;
      no-room-new = refl;
      no-room-old = refl;
      not-read = refl;
      no-weight = refl;
    }
