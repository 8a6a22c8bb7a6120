-- What `thresh` makes of at most 16 children that have entered is a candidate. Assumes nothing.
use Rattle.figures.specs.declared.SatData.{SatData}
use Rattle.std.specs.Prelude.{Option, None, Some}
use mathlib.Core.Path.{◌≡◌, refl, ◌∙◌, ap}
use mathlib.Core.Bool.{Bool, true, false, cond}
use mathlib.Core.List.{List, [], ◌∷◌, ◌++◌, reverse, reverse-cons}
use Prim.Native.Nat.{ℕ, suc, ◌+◌, ◌*◌, ◌-◌, ◌<◌, ◌≤◌}
use native.Mathlib.Nat.{mul-add}
use native.Mathlib.Omega.{arith}
use lib.ListN.{length, get_or}
use Rattle.figures.specs.declared.ExtData.{ExtData}
use Rattle.figures.specs.Bounds.{Entered, Candidate, Within, WithinSat}
use Rattle.figures.specs.Rules.{max, sat_data, sat_concat, script_num_size}
use Rattle.figures.specs.Validity.{MAX-BLOCK-WEIGHT}
use Rattle.figures.proofs.Few.{max-le, num-size-le}
use Rattle.figures.proofs.Within.{more, concat-within}
use Rattle.figures.proofs.Entering.{entered-higher}
use Rattle.thresholds.specs.declared.Figure.{Figure}
use Rattle.thresholds.specs.declared.Figure.TheVariants.{WitnessCount, WitnessSize, ScriptSigSize, ExecStack, ExecOps}
use Rattle.thresholds.specs.Threshold.{key, below, insert_by, sort_by, add_child, try_fold, worst, together, satisfied}
use Rattle.thresholds.specs.Threshold.{costs, statics, heights, dissats, threshold, AllEntered, Children, Upto}
use Rattle.thresholds.proofs.Insertion.{blank}
use Rattle.thresholds.proofs.Folding.{times, add-child-upto, upto-more}

pub entered-children : (h : ℕ) (l : List ExtData) → h ≤ 0xffff_ffff → AllEntered h l → Children l
entered-children h [] le e = tt
entered-children h (x ∷ xs) le e = (entered-higher le e.0, entered-children h xs le e.1)

-- by what is known of each child
pub all-entered : (h : ℕ) (l : List ExtData) → ((i : ℕ) → i < length l → Entered h (get_or l i blank)) → AllEntered h l
all-entered h [] e = tt
all-entered h (x ∷ xs) e = (e 0 (omega arith), all-entered h xs (λ i lt. e (suc i) (omega arith)))

-- every child keeps what the rules keep
AllWithin : List ExtData → Type 0
AllWithin [] = Unit
AllWithin (x ∷ xs) = Within x × AllWithin xs

-- the bytes of the children
bytes : List ExtData → ℕ
bytes [] = 0
bytes (x ∷ xs) = x.pk_cost + bytes xs

-- a list with the same children, in whatever order, by what the bounds need of it
record Same (l r : List ExtData) : Type 0 where
  size : bytes l ≡ bytes r
  count : length l ≡ length r
  keeps : AllWithin r → AllWithin l

same_self : (l : List ExtData) → Same l l
same_self l = record { size = refl; count = refl; keeps = λ w. w }

same_then : {l m r : List ExtData} → Same l m → Same m r → Same l r
same_then p q = record { size = p.size ∙ q.size; count = p.count ∙ q.count; keeps = λ w. p.keeps (q.keeps w) }

same-cons : (x : ExtData) {l r : List ExtData} → Same l r → Same (x ∷ l) (x ∷ r)
unfolding bytes AllWithin
same-cons x p = record { size = ap (λ n. x.pk_cost + n) p.size; count = ap suc p.count; keeps = λ w. (w.0, p.keeps w.1) }

same-swap : (x y : ExtData) (l : List ExtData) → Same (y ∷ x ∷ l) (x ∷ y ∷ l)
unfolding bytes AllWithin
same-swap x y l = record { size = omega arith; count = refl; keeps = λ w. (w.1.0, (w.0, w.1.1)) }

same_cond : (b : Bool) {l m r : List ExtData} → Same l r → Same m r → Same (cond b l m) r
same_cond true p q = p
same_cond false p q = q

same-insert : (f : Figure) (x : ExtData) (l : List ExtData) → Same (insert_by f x l) (x ∷ l)
unfolding insert_by
same-insert f x [] = same_self (x ∷ [])
same-insert f x (y ∷ ys) =
    same_cond (below (key f y) (key f x)) (same_then (same-cons y (same-insert f x ys)) (same-swap x y ys)) (same_self (x ∷ y ∷ ys))

same-sort : (f : Figure) (l : List ExtData) → Same (sort_by f l) l
unfolding sort_by
same-sort f [] = same_self []
same-sort f (x ∷ xs) = same_then (same-insert f x (sort_by f xs)) (same-cons x (same-sort f xs))

same-last : (l : List ExtData) (x : ExtData) → Same (l ++ (x ∷ [])) (x ∷ l)
same-last [] x = same_self (x ∷ [])
same-last (y ∷ ys) x = same_then (same-cons y (same-last ys x)) (same-swap x y ys)

same-reverse : (l : List ExtData) → Same (reverse l) l
same-reverse [] = same_self []
same-reverse (x ∷ xs) = rw (reverse-cons x xs) (same_then (same-last (reverse xs) x) (same-cons x (same-reverse xs)))

-- the worst case of a figure

fold-upto : (f : Figure) (k i : ℕ) (c : Option ℕ) (l : List ExtData) (bound : ℕ) → AllWithin l → Upto bound c
    → Upto (bound + times f * bytes l + length l) (try_fold f k i c l)
unfolding try_fold bytes AllWithin
fold-upto f k i c [] bound w u = upto-more c bound (bound + times f * 0 + 0) (omega arith) u
fold-upto f k i c (x ∷ xs) bound w u =
    let n : ℕ = x.pk_cost in
    let d : Option ℕ = add_child f k i c x in
    upto-more (try_fold f k (suc i) d xs) (bound + times f * n + 1 + times f * bytes xs + length xs)
    (bound + times f * (n + bytes xs) + suc (length xs)) (omega (arith, mul-add (times f) n (bytes xs)))
    (fold-upto f k (suc i) d xs (bound + times f * n + 1) w.1 (add-child-upto f k i c x w.0 bound u))

worst-upto : (f : Figure) (k : ℕ) (s l : List ExtData) → Same s l → AllWithin l → Upto (times f * bytes l + length l) (worst f k s)
unfolding worst
worst-upto f k s l p w =
    let q : Same (reverse s) l = same_then (same-reverse s) p in
    upto-more (try_fold f k 0 (Some 0) (reverse s)) (0 + times f * bytes l + length l) (times f * bytes l + length l) (omega arith)
    (rw (q.size, q.count) at (fold-upto f k 0 (Some 0) (reverse s) 0 (q.keeps w) (omega arith)))

together-within : (a b c d e : Option ℕ) (n : ℕ) → Upto (5 * n) a → Upto n b → Upto (5 * n) c → Upto n d → Upto n e
    → WithinSat n (together a b c d e)
unfolding together
together-within None b c d e n p q r s t = tt
together-within (Some a) None c d e n p q r s t = tt
together-within (Some a) (Some b) None d e n p q r s t = tt
together-within (Some a) (Some b) (Some c) None e n p q r s t = tt
together-within (Some a) (Some b) (Some c) (Some d) None n p q r s t = tt
together-within (Some a) (Some b) (Some c) (Some d) (Some e) n p q r s t =
    record { size = p; count = q; sig = r; stack = s; ops = t }

satisfied-within : (k : ℕ) (l : List ExtData) (n : ℕ) → AllWithin l → bytes l + length l ≤ n → WithinSat n (satisfied k l)
unfolding satisfied
satisfied-within k l n w le =
    let l₁ : List ExtData = sort_by WitnessCount l in
    let l₂ : List ExtData = sort_by WitnessSize l₁ in
    let l₃ : List ExtData = sort_by ScriptSigSize l₂ in
    let l₄ : List ExtData = sort_by ExecStack l₃ in
    let l₅ : List ExtData = sort_by ExecOps l₄ in
    let p₁ : Same l₁ l = same-sort WitnessCount l in
    let p₂ : Same l₂ l = same_then (same-sort WitnessSize l₁) p₁ in
    let p₃ : Same l₃ l = same_then (same-sort ScriptSigSize l₂) p₂ in
    let p₄ : Same l₄ l = same_then (same-sort ExecStack l₃) p₃ in
    let p₅ : Same l₅ l = same_then (same-sort ExecOps l₄) p₄ in
    let few : (f : Figure) (s : List ExtData) → Same s l → (m : ℕ) → times f * bytes l + length l ≤ m → Upto m (worst f k s) =
    λ f s p m h. upto-more (worst f k s) (times f * bytes l + length l) m h (worst-upto f k s l p w) in
    together-within (worst WitnessSize k l₂) (worst WitnessCount k l₁) (worst ScriptSigSize k l₃) (worst ExecStack k l₄)
    (worst ExecOps k l₅) n (few WitnessSize l₂ p₂ (5 * n) (omega arith)) (few WitnessCount l₁ p₁ n (omega arith))
    (few ScriptSigSize l₃ p₃ (5 * n) (omega arith)) (few ExecStack l₄ p₄ n (omega arith)) (few ExecOps l₅ p₅ n (omega arith))

-- the sums

costs-bytes : (l : List ExtData) (acc : ℕ) → costs acc l ≡ acc + bytes l
unfolding bytes
costs-bytes [] acc = omega arith
costs-bytes (x ∷ xs) acc = omega (arith, costs-bytes xs (acc + x.pk_cost))

bytes_le : (h : ℕ) (l : List ExtData) → AllEntered h l → bytes l ≤ MAX-BLOCK-WEIGHT * length l
unfolding bytes
bytes_le h [] e = omega arith
bytes_le h (x ∷ xs) e = omega (arith, bytes_le h xs e.1, e.0.cost)

all-within : (h : ℕ) (l : List ExtData) → AllEntered h l → AllWithin l
unfolding AllWithin
all-within h [] e = tt
all-within h (x ∷ xs) e = (e.0.within, all-within h xs e.1)

statics-within : (l : List ExtData) (acc : ℕ) → AllWithin l → statics acc l ≤ acc + bytes l
unfolding bytes AllWithin
statics-within [] acc w = omega arith
statics-within (x ∷ xs) acc w = omega (arith, statics-within xs (acc + x.static_ops) w.1, w.0.static)

dissats-within : (l : List ExtData) (s : Option SatData) (n : ℕ) → AllWithin l → WithinSat n s → WithinSat (n + bytes l) (dissats s l)
unfolding bytes AllWithin
dissats-within [] s n w v = more s n (n + 0) (omega arith) v
dissats-within (x ∷ xs) s n w v =
    let m : ℕ = x.pk_cost in
    let t : Option SatData = sat_concat 0 s x.dissat_data in
    more (dissats t xs) (n + m + 0 + bytes xs) (n + (m + bytes xs)) (omega arith)
    (dissats-within xs t (n + m + 0) w.1 (concat-within 0 s x.dissat_data n m v w.0.dissat))

heights-low : (h : ℕ) (l : List ExtData) (acc : ℕ) → acc ≤ h → AllEntered h l → heights acc l ≤ h
heights-low h [] acc le e = le
heights-low h (x ∷ xs) acc le e =
    heights-low h xs (max acc x.tree_height) (max-le acc x.tree_height le e.0.low) e.1

pub threshold-candidate : (h k : ℕ) (l : List ExtData) → 1 ≤ length l → length l ≤ 16 → AllEntered h l → Candidate (h + 1) (threshold k l)
unfolding threshold
threshold-candidate h k l one few e =
    let w : AllWithin l = all-within h l e in
    let c : costs (1 + script_num_size k) l ≡ 1 + script_num_size k + bytes l = costs-bytes l (1 + script_num_size k) in
    let n : ℕ = costs (1 + script_num_size k) l + length l - 1 in
    let d : Option SatData = dissats (Some (sat_data 0 0 0 0 0)) l in
    record {
      within =
          record {
            static = omega (arith, statics-within l 0 w);
            sat = satisfied-within k l n w (omega arith);
            dissat = more d (0 + bytes l) n (omega arith) (dissats-within l (Some (sat_data 0 0 0 0 0)) 0 w (omega arith));
          };
      cost = omega (arith, bytes_le h l e, num-size-le k);
      low = omega (arith, heights-low h l 0 (omega arith) e);
    }
