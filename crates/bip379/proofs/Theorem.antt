-- The theorem of specs/Agreement.antt, from the fragments by their number of children. Assumes nothing.
use mathlib.Core.Bool.{Bool, true, false, not, ◌&&◌, false≢true}
use mathlib.Core.List.{map}
use Rattle.std.specs.Prelude.{Option, None, Some}
use mathlib.Core.Path.{◌≡◌, refl, sym, ap, ◌∙◌}
use lib.Dec.{leb}
use lib.ListN.{length}
use lib.Ieee.Fits.{and_l}
use Rattle.types.specs.TypeRules.{k_of_n}
use Rattle.bip379.specs.Bip379.{Letters, leaf, andor, pair, thresh, wrap, leaf_type, Leaf, d:}
use Rattle.bip379.specs.Bip379.{just-0, just-1, pk_k, pk_h, older, after, sha256, hash256, ripemd160, hash160, multi, multi_a}
use Rattle.bip379.specs.Correctness.{first_bdu}
use Rattle.bip379.specs.Malleability.{all_m, all_e, all_s, not_s}
use Rattle.bip379.specs.Agreement.{letters, leaf_rule, Difference, same, e-of-thresh, z-of-c, only_if, amended}
use Rattle.bip379.specs.Agreement.{in_letters, port, AgreeButFor, Agreement, DAgrees, NoM}
use Rattle.bip379.proofs.Pairs.{pairs-agree}
use Rattle.bip379.proofs.Andor.{andor-agrees}
use Rattle.bip379.proofs.Wrappers.{wrappers-agree}
use Rattle.bip379.proofs.Thresh.{thresh-agrees}

leaves-agree : (F : Leaf) → Some (leaf_type F) ≡ Some (letters (leaf_rule F))
leaves-agree just-0 = refl
leaves-agree just-1 = refl
leaves-agree pk_k = refl
leaves-agree pk_h = refl
leaves-agree older = refl
leaves-agree after = refl
leaves-agree sha256 = refl
leaves-agree hash256 = refl
leaves-agree ripemd160 = refl
leaves-agree hash160 = refl
leaves-agree multi = refl
leaves-agree multi_a = refl

amended-same : (a : Option Letters) → a ≡ amended same a
amended-same (Some X) = refl
amended-same None = refl

no_difference : (bip ours : Option Letters) → bip ≡ ours → AgreeButFor same bip ours
no_difference bip ours e = record { agree = e ∙ amended-same ours; differ = λ k. absurd (k refl) }

is_e : Difference → Bool
is_e same = false
is_e e-of-thresh = true
is_e z-of-c = false

same≢e : same ≡ e-of-thresh → ⊥
unfolding is_e
same≢e h = false≢true (ap is_e h)

-- with r what is required, S all s, E all e, m what else m asks
not-m : (r S E l m : Bool) → only_if (r && S && not E) e-of-thresh ≡ e-of-thresh → (E && l && m) ≡ false
not-m r S false l m h = refl
not-m true true true l m h = absurd (same≢e h)
not-m true false true l m h = absurd (same≢e h)
not-m false S true l m h = absurd (same≢e h)

pub no-m : NoM
no-m k Xs h =
    let malls = map (λ X. X.mall) Xs in
    not-m (first_bdu (map (λ X. X.corr) Xs)) (all_s malls) (all_e malls) (leb (not_s malls) k) (all_m malls) h

pub agreement : Agreement
agreement ctx (leaf F) h = no_difference _ _ (leaves-agree F)
agreement ctx (andor x y z) h = no_difference _ _ (andor-agrees ctx x y z)
agreement ctx (pair F x y) h = no_difference _ _ (pairs-agree F x y)
agreement ctx (thresh k xs) h = thresh-agrees ctx k xs (and_l (k_of_n k (length xs)) _ h)
agreement ctx (wrap F x) h = wrappers-agree ctx F x h

pub d-agrees : DAgrees
d-agrees ctx x h = (agreement ctx (wrap d: x) h).agree ∙ sym (amended-same (in_letters (port ctx (wrap d: x))))
