-- Document 01's whole case and small ones of each refusal, by the definitions. Assumes nothing.
use Rattle.std.specs.Prelude.{List, [], ◌∷◌, ◌++◌, ◌≡◌, refl, ℕ}
use Rattle.words.specs.Bytes.{little, le_at}
use Rattle.records.specs.Numbers.{u16s}
use Rattle.records.specs.Shapes.{look_up, shape_of}
use Rattle.records.specs.Payloads.{width, payload_of}
use Rattle.records.specs.RecordForm.{kind_of}
use Rattle.policies.specs.Policy.{end, ◌▹◌, Key, And, Or, Thresh, from_list, depth, deepest}
use Rattle.policies.specs.Forms.{made}
use Rattle.policies.specs.Reading.{refused, done, without, read_whole, read_record, root_of, finish, read_from, read_policy}

-- the records of key 7, of key 8, of an And of records 0 and 1, and of an Or of them
abbrev pub key7 : List ℕ
key7 = 8 ∷ 0 ∷ 3 ∷ 0 ∷ 7 ∷ 0 ∷ 0 ∷ 0 ∷ []

abbrev pub key8 : List ℕ
key8 = 8 ∷ 0 ∷ 3 ∷ 0 ∷ 8 ∷ 0 ∷ 0 ∷ 0 ∷ []

abbrev pub both : List ℕ
both = 8 ∷ 0 ∷ 10 ∷ 0 ∷ 0 ∷ 0 ∷ 1 ∷ 0 ∷ []

abbrev pub either : (left_weight right_weight : ℕ) → List ℕ
either l r = 16 ∷ 0 ∷ 11 ∷ 0 ∷ 0 ∷ 0 ∷ 1 ∷ 0 ∷ l ∷ 0 ∷ 0 ∷ 0 ∷ r ∷ 0 ∷ 0 ∷ 0 ∷ []

-- a Thresh of k of records 0 and 1
abbrev pub thresh : (k : ℕ) → List ℕ
thresh k = 12 ∷ 0 ∷ 12 ∷ 0 ∷ k ∷ 0 ∷ 2 ∷ 0 ∷ 0 ∷ 0 ∷ 1 ∷ 0 ∷ []

pub record Examples : Type 0 where
  pub whole-case : read_policy key7 ≡ done (Key 7)
  pub an-and : read_policy (key7 ++ key8 ++ both) ≡ done (And (Key 7) (Key 8))
  pub an-or : read_policy (key7 ++ key8 ++ either 1 9) ≡ done (Or (Key 7) (Key 8) 1 9)
  pub a-thresh : read_policy (key7 ++ key8 ++ thresh 2) ≡ done (Thresh 2 (Key 7 ▹ Key 8 ▹ end))
  pub no_record : read_policy [] ≡ refused 3
  pub unused : read_policy (key7 ++ key8) ≡ refused 3
  pub taken_twice : read_policy (key7 ++ key8 ++ both ++ both) ≡ refused 3
  pub not-before : read_policy (key7 ++ both) ≡ refused 3
  pub k-over-n : read_policy (key7 ++ key8 ++ thresh 3) ≡ refused 3
  pub no-weight : read_policy (key7 ++ key8 ++ either 1 0) ≡ refused 4

pub examples : Examples
unfolding little le_at u16s look_up shape_of kind_of width payload_of read_policy read_from read_record read_whole without root_of finish made from_list depth deepest
examples =
    record {
      whole-case = refl;
      an-and = refl;
      an-or = refl;
      a-thresh = refl;
      no_record = refl;
      unused = refl;
      taken_twice = refl;
      not-before = refl;
      k-over-n = refl;
      no-weight = refl;
    }
