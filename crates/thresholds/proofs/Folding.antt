-- The loop of `worst`. Assumes nothing.
use Rattle.std.specs.Prelude.{Option, None, Some}
use mathlib.Core.Path.{◌≡◌, ◌∙◌, ap}
use mathlib.Core.Bool.{Bool, true, false, cond}
use mathlib.Core.List.{List, [], ◌∷◌, reverse, reverse-append}
use Prim.Native.Nat.{ℕ, suc, ◌+◌, ◌*◌, ◌-◌, ◌<◌, ◌≤◌}
use native.Mathlib.Omega.{arith}
use lib.Dec.{leb, ltb}
use lib.ListN.{length, get_or, take}
use lib.Seq.{take-suc, get_or-take, length-take-le, take-take}
use Rattle.figures.specs.declared.SatData.{SatData}
use Rattle.figures.specs.declared.ExtData.{ExtData}
use Rattle.figures.specs.Bounds.{WithinData, WithinSat, Within}
use Rattle.figures.specs.Rules.{num}
use Rattle.figures.proofs.Few.{max-le, num-le}
use Rattle.thresholds.specs.declared.Figure.{Figure}
use Rattle.thresholds.specs.declared.Figure.TheVariants.{WitnessCount, WitnessSize, ScriptSigSize, ExecStack, ExecOps}
use Rattle.thresholds.specs.Threshold.{proj, add, chosen, add_sat, add_child, try_fold, worst, Child, Children, Upto}
use Rattle.thresholds.proofs.Insertion.{blank, children-get}

-- how many times the bytes of a script a figure may be
abbrev pub times : Figure → ℕ
times WitnessCount = 1
times WitnessSize = 5
times ScriptSigSize = 5
times ExecStack = 1
times ExecOps = 1

pub proj-within : (f : Figure) (n : ℕ) (d : SatData) → WithinData n d → proj f d ≤ times f * n
proj-within WitnessCount n d w = omega arith
proj-within WitnessSize n d w = omega arith
proj-within ScriptSigSize n d w = omega arith
proj-within ExecStack n d w = omega arith
proj-within ExecOps n d w = omega arith

pub times-le : (f : Figure) (n : ℕ) → times f * n ≤ 5 * n
times-le WitnessCount n = omega arith
times-le WitnessSize n = omega arith
times-le ScriptSigSize n = omega arith
times-le ExecStack n = omega arith
times-le ExecOps n = omega arith

pub add-le : (f : Figure) (acc x : ℕ) → add f acc x ≤ acc + x + 1
add-le WitnessCount acc x = omega arith
add-le WitnessSize acc x = omega arith
add-le ScriptSigSize acc x = omega arith
add-le ExecStack acc x =
    max-le acc (x + num (ltb 0 acc)) {n = acc + x + 1} (omega arith) (omega (arith, num-le (ltb 0 acc)))
add-le ExecOps acc x = omega arith

cond-within : (b : Bool) (n : ℕ) (x y : Option SatData) → WithinSat n x → WithinSat n y → WithinSat n (cond b x y)
cond-within true n x y p q = p
cond-within false n x y p q = q

add-sat-upto : (f : Figure) (acc n : ℕ) (s : Option SatData) → WithinSat n s → {bound : ℕ} → acc ≤ bound → Upto (bound + times f * n + 1) (add_sat f acc s)
add-sat-upto f acc n None w le = tt
add-sat-upto f acc n (Some d) w {bound} le =
    omega (arith, add-le f acc (proj f d), proj-within f n d w)

-- one more child adds at most its share, and 1
pub add-child-upto : (f : Figure) (k i : ℕ) (c : Option ℕ) (x : ExtData) → Within x → (bound : ℕ) → Upto bound c
    → Upto (bound + times f * x.pk_cost + 1) (add_child f k i c x)
add-child-upto f k i None x w bound u = tt
add-child-upto f k i (Some acc) x w bound u =
    add-sat-upto f acc x.pk_cost (chosen k i x)
    (cond-within (leb i k) x.pk_cost x.sat_data x.dissat_data w.sat w.dissat) u

pub upto-more : (c : Option ℕ) (m n : ℕ) → m ≤ n → Upto m c → Upto n c
upto-more None m n le u = tt
upto-more (Some a) m n le u = omega arith

-- the last of so many children is the first of the reverse
last-first : (l : List ExtData) (m : ℕ) → m < length l → reverse (take (suc m) l) ≡ get_or l m blank ∷ reverse (take m l)
last-first l m lt = rw (take-suc l m blank lt) (reverse-append (take m l) (get_or l m blank ∷ []))

-- the loop: j children are still to come, from the last of them
pub record WorstInv (f : Figure) (k n : ℕ) (subs : List ExtData) (c : Option ℕ) (j : ℕ) : Type 0 where
  pub within : j ≤ n
  pub few : n ≤ 16
  pub long : length subs ≡ 16
  pub all : Children (take n subs)
  pub upto : Upto (20000001 * (n - j)) c
  pub rest : try_fold f k (n - j) c (reverse (take j (take n subs))) ≡ worst f k (take n subs)

pub worst-start : (f : Figure) (k n : ℕ) (subs : List ExtData) → length subs ≡ 16 → (n ≤ 16) × Children (take n subs)
    → WorstInv f k n subs (Some 0) n
unfolding worst
worst-start f k n subs long p =
    let z : n - n ≡ 0 = omega arith in
    record {
      within = omega arith;
      few = p.0;
      long = long;
      all = p.1;
      upto = omega arith;
      rest = rw (z, take-take n n subs (omega arith));
    }

module _ {f : Figure} {k n : ℕ} {subs : List ExtData} {c : Option ℕ} {j : ℕ} (v : WorstInv f k n subs c j) where
  pub worst-small : Upto 0xffff_ffff c
  worst-small = upto-more c (20000001 * (n - j)) 0xffff_ffff (omega (arith, v.few)) v.upto

  module _ (pos : 0 < j) where
    pub worst-child : Child (get_or subs (j - 1) blank)
    worst-child =
        let l : length (take n subs) ≡ n = length-take-le n subs (omega (arith, v.few, v.long)) in
        let h : j - 1 < n = omega (arith, v.within) in
        rw (← get_or-take n subs (j - 1) blank h) (children-get (take n subs) (j - 1) blank v.all (omega arith))

    pub worst-on : (r : Option ℕ) → r ≡ add_child f k (n - j) c (get_or subs (j - 1) blank) → WorstInv f k n subs r (j - 1)
    unfolding try_fold
    worst-on r e =
        let l : length (take n subs) ≡ n = length-take-le n subs (omega (arith, v.few, v.long)) in
        let h : j - 1 < n = omega (arith, v.within) in
        let g : get_or (take n subs) (j - 1) blank ≡ get_or subs (j - 1) blank = get_or-take n subs (j - 1) blank h in
        let back : j ≡ suc (j - 1) = omega arith in
        let next : n - (j - 1) ≡ suc (n - j) = omega (arith, v.within) in
        let x : ExtData = get_or subs (j - 1) blank in
        let first : reverse (take j (take n subs)) ≡ x ∷ reverse (take (j - 1) (take n subs)) =
        ap (λ m. reverse (take m (take n subs))) back ∙ rw g at (last-first (take n subs) (j - 1) (omega arith)) in
        record {
          within = omega (arith, v.within);
          few = v.few;
          long = v.long;
          all = v.all;
          upto =
              rw e
              (upto-more (add_child f k (n - j) c x) (20000001 * (n - j) + times f * x.pk_cost + 1) (20000001 * (n - (j - 1)))
              (omega (arith, next, times-le f x.pk_cost, worst-child.cost))
              (add-child-upto f k (n - j) c x worst-child.within (20000001 * (n - j)) v.upto));
          rest = rw (next, e) (rw first at v.rest);
        }

  pub worst-end : j ≤ 0 → c ≡ worst f k (take n subs)
  unfolding try_fold
  worst-end le = let z : j ≡ 0 = omega arith in rw z at v.rest
