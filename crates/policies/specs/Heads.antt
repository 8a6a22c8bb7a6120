-- What a row of the array tells of its policy besides its children, as a value of this crate's types. Assumes nothing.
use Rattle.std.specs.Prelude.{ℕ, length}
use Rattle.policies.specs.Policy.{Policy}
use Rattle.policies.specs.Forms.{kind_of, number_of, k_of, left_weight_of, right_weight_of, children_of}
use Rattle.policies.specs.declared.Head.{Head}

abbrev pub head_of : Policy → Head
head_of p = record {
  kind = kind_of p;
  number = number_of p;
  k = k_of p;
  count = length (children_of p);
  left_weight = left_weight_of p;
  right_weight = right_weight_of p;
}

-- the heads of policies with no children, and with two
abbrev pub leaf_head : (kind number : ℕ) → Head
leaf_head kind number = record { kind = kind; number = number; k = 0; count = 0; left_weight = 0; right_weight = 0 }

abbrev pub pair_head : (kind left right : ℕ) → Head
pair_head kind left right = record { kind = kind; number = 0; k = 0; count = 2; left_weight = left; right_weight = right }
