-- The port's rules (the Rust's types/correctness.rs and types/malleability.rs with u for d:X in Tapscript, as the definitions of the `types`
-- crate give them) against the tables of BIP 379: both accept the same children and give the same letters in both contexts, except at the
-- differences that this file names.
use Rattle.std.specs.Prelude.{ℕ, Bool, true, false, not, ◌&&◌, List, map, ◌≡◌, T, length, Option, None, Some, Result, Ok, Err}
use Rattle.bip379.specs.Rust.{Base, Correctness, Malleability, «Type», TypeError}
use Rattle.bip379.specs.Rust as R
use Rattle.correctness.specs.Letters.{is_zero, is_one, is_non_zero}
use Rattle.malleability.specs.Letters.{is_none, is_unique}
use Rattle.contexts.specs.Lists.{all}
use Rattle.contexts.specs.declared.Context as Contexts
use Rattle.types.specs.TypeRules as Rule
use Rattle.types.specs.Sanity.{sane, arises}
use Rattle.bip379.specs.Correctness.{Context, p2wsh, tapscript, Correct, is_k, first_bdu}
use Rattle.bip379.specs.Correctness as C
use Rattle.bip379.specs.Malleability.{Malleable, all_e, all_s}
use Rattle.bip379.specs.Malleability as M
use Rattle.bip379.specs.Bip379.{Letters, Fragment, leaf, andor, pair, thresh, wrap, over, type_of, Leaf, Pair, Wrapper}
use Rattle.bip379.specs.Bip379.{just-0, just-1, pk_k, pk_h, older, after, sha256, hash256, ripemd160, hash160, multi, multi_a}
use Rattle.bip379.specs.Bip379.{and_v, and_b, or_b, or_c, or_d, or_i, a:, s:, c:, d:, v:, j:, n:, t:, l:, u:}

-- The port's types in letters.

abbrev pub base_letter : Base → C.Base
base_letter R.B = C.B
base_letter R.K = C.K
base_letter R.«V» = C.«V»
base_letter R.W = C.W

abbrev pub correct : Correctness → Correct
correct x =
    record {
      base = base_letter x.base;
      z = is_zero x.input;
      o = is_one x.input;
      n = is_non_zero x.input;
      d = x.dissatisfiable;
      u = x.unit;
    }

abbrev pub malleable : Malleability → Malleable
malleable x = record { m = x.non_malleable; s = x.safe; f = is_none x.dissat; e = is_unique x.dissat }

abbrev pub letters : «Type» → Letters
letters x = record { corr = correct x.corr; mall = malleable x.mall }

abbrev pub in_letters : Result «Type» TypeError → Option Letters
in_letters (Ok x) = Some (letters x)
in_letters (Err e) = None

-- The port's rule for each fragment. The context decides u of d:X and nothing else.

abbrev pub in_context : Context → Contexts.Context
in_context p2wsh = Contexts.TheVariants.Segwitv0
in_context tapscript = Contexts.TheVariants.Tap

abbrev pub leaf_rule : Leaf → «Type»
leaf_rule just-0 = Rule.FALSE
leaf_rule just-1 = Rule.TRUE
leaf_rule pk_k = Rule.pk_k
leaf_rule pk_h = Rule.pk_h
leaf_rule older = Rule.time
leaf_rule after = Rule.time
leaf_rule sha256 = Rule.hash
leaf_rule hash256 = Rule.hash
leaf_rule ripemd160 = Rule.hash
leaf_rule hash160 = Rule.hash
leaf_rule multi = Rule.multi
leaf_rule multi_a = Rule.multi_a

abbrev pub pair_rule : Pair → «Type» → «Type» → Result «Type» TypeError
pair_rule and_v x y = Rule.and_v x y
pair_rule and_b x y = Rule.and_b x y
pair_rule or_b x y = Rule.or_b x y
pair_rule or_c x y = Rule.or_c x y
pair_rule or_d x y = Rule.or_d x y
pair_rule or_i x y = Rule.or_i x y

abbrev pub wrapper_rule : Context → Wrapper → «Type» → Result «Type» TypeError
wrapper_rule ctx a: x = Rule.cast_alt x
wrapper_rule ctx s: x = Rule.cast_swap x
wrapper_rule ctx c: x = Rule.cast_check x
wrapper_rule ctx d: x = Rule.cast_dupif (in_context ctx) x
wrapper_rule ctx v: x = Rule.cast_verify x
wrapper_rule ctx j: x = Rule.cast_nonzero x
wrapper_rule ctx n: x = Rule.cast_zeronotequal x
wrapper_rule ctx t: x = Rule.cast_true x
wrapper_rule ctx l: x = Rule.cast_likely x
wrapper_rule ctx u: x = Rule.cast_unlikely x

abbrev pub port : Context → Fragment «Type» → Result «Type» TypeError
port ctx (leaf F) = Ok (leaf_rule F)
port ctx (andor x y z) = Rule.and_or x y z
port ctx (pair F x y) = pair_rule F x y
port ctx (thresh k xs) = Rule.threshold k xs
port ctx (wrap F x) = wrapper_rule ctx F x

-- The differences, one letter each, the same in both contexts.

pub data Difference : Type 0 where
  same e-of-thresh z-of-c : Difference

abbrev pub only_if : Bool → Difference → Difference
only_if true D = D
only_if false D = same

abbrev pub wrapper_difference : Wrapper → Letters → Difference
wrapper_difference a: X = same
wrapper_difference s: X = same
-- the port keeps z, the BIP has none here: it knows that no K is z
wrapper_difference c: X = only_if (is_k X.corr && X.corr.z) z-of-c
wrapper_difference d: X = same
wrapper_difference v: X = same
wrapper_difference j: X = same
wrapper_difference n: X = same
wrapper_difference t: X = same
wrapper_difference l: X = same
wrapper_difference u: X = same

-- the BIP grants e where all are s, the port where all are s and e
abbrev pub thresh_difference : List Letters → Difference
thresh_difference Xs =
    let corrs = map (λ X. X.corr) Xs in
    let malls = map (λ X. X.mall) Xs in
    only_if (first_bdu corrs && all_s malls && not (all_e malls)) e-of-thresh

abbrev pub difference : Fragment Letters → Difference
difference (leaf F) = same
difference (andor X Y Z) = same
difference (pair F X Y) = same
difference (thresh k Xs) = thresh_difference Xs
difference (wrap F X) = wrapper_difference F X

abbrev pub with_z : Bool → Correct → Correct
with_z b X = record { base = X.base; z = b; o = X.o; n = X.n; d = X.d; u = X.u }

abbrev pub with_e : Bool → Malleable → Malleable
with_e b X = record { m = X.m; s = X.s; f = X.f; e = b }

-- the BIP's letters, from the port's
abbrev pub amend : Difference → Letters → Letters
amend same X = X
amend e-of-thresh X = record { corr = X.corr; mall = with_e true X.mall }
amend z-of-c X = record { corr = with_z false X.corr; mall = X.mall }

abbrev pub amended : Difference → Option Letters → Option Letters
amended D (Some X) = Some (amend D X)
amended D None = None

-- The theorem, over children that pass the Rust's own sanity checks, and 1 ≤ k ≤ n ≤ 16 for a thresh.

abbrev pub sane_children : Fragment «Type» → Bool
sane_children (leaf F) = true
sane_children (andor x y z) = sane x && sane y && sane z
sane_children (pair F x y) = sane x && sane y
sane_children (thresh k xs) = Rule.k_of_n k (length xs) && all sane xs
sane_children (wrap F x) = sane x

-- the BIP's answer is the port's as amended, and is another wherever a difference is named
pub record AgreeButFor (D : Difference) (bip : Option Letters) (ours : Option Letters) : Type 0 where
  pub agree : bip ≡ amended D ours
  pub differ : ¬ (D ≡ same) → ¬ (bip ≡ ours)

abbrev pub Agreement : Type 0
Agreement = (ctx : Context) (f : Fragment «Type») → T (sane_children f)
    → AgreeButFor (difference (over letters f)) (type_of ctx (over letters f)) (in_letters (port ctx f))

-- d:X agrees in both contexts: it has u in Tapscript, and not in P2WSH
abbrev pub DAgrees : Type 0
DAgrees = (ctx : Context) (x : «Type») → T (sane x) → type_of ctx (wrap d: (letters x)) ≡ in_letters (port ctx (wrap d: x))

-- z-of-c is met by no type that arises from the rules
abbrev pub NoKz : Type 0
NoKz = (x : «Type») → T (arises x) → difference (wrap c: (letters x)) ≡ same

-- where e-of-thresh is met the whole has no m
abbrev pub NoM : Type 0
NoM = (k : ℕ) (Xs : List Letters) → thresh_difference Xs ≡ e-of-thresh → (M.thresh k (map (λ X. X.mall) Xs)).m ≡ false
