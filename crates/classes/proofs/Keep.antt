-- Finding a class, and storing it: a store at a number's place leaves what every number stands for. Assumes nothing.
use mathlib.Core.Path.{◌≡◌, refl, sym, ◌∙◌, ap, subst}
use mathlib.Core.Bool.{Bool, true, false, cond}
use mathlib.Core.List.{List}
use Prim.Native.Nat.{ℕ, zero, suc, ◌+◌, ◌*◌, ◌-◌, ◌<◌, ◌≤◌}
use native.Mathlib.Omega.{arith}
use borrow.Author.Tests.{lt-ltb, ltb-true, ltb-false, eqb-true, eqb-false}
use lib.Dec.{ltb, eqb}
use lib.ListN.{length, get_or, set, length-set, get_or-eq_default}
use lib.Seq.{get_or-set_same, get_or-set_other}
use Rattle.policies.specs.Policy.{Unsatisfiable}
use Rattle.policies.specs.Array.{child_at, count_at, policies, record_policy, and_policy, policy_at, of_record, place}
use Rattle.policies.specs.Array.{Good, Named, stored, folds}
use Rattle.policies.proofs.Views.{length-policies}
use Rattle.policies.proofs.Slots.{record_same}
use Rattle.classes.specs.Classes.{Decides, Stands, Least, class_place, class_at, Kept, ClassPut, Classified}
use Rattle.classes.proofs.Equal.{decides-no}
use Rattle.classes.proofs.Places.{named-below}

-- ---- finding a class

pub not_named : (m : List ℕ) (r c : ℕ) {t : Bool} → Decides t (Named m c) → t ≡ false → Decides false (Stands m r c)
not_named m r c d z = decides-no (λ s. d.no z s.named)

pub stands : (m : List ℕ) (r c : ℕ) {b : Bool} → Named m c → Decides b (policy_at m c ≡ policy_at m r) → Decides b (Stands m r c)
stands m r c named d = record { yes = λ e. record { named = named; same = d.yes e }; no = λ e s. d.no e s.same }

-- no number before c stands for the policy that r stands for
pub record FindInv (m : List ℕ) (r c : ℕ) : Type 0 where
  pub within : c ≤ r
  pub none : (x : ℕ) → x < c → Stands m r x → ⊥

pub find-starts : (m : List ℕ) (r : ℕ) → FindInv m r 0
find-starts m r = record { within = omega arith; none = λ x l s. omega arith }

module _ (m : List ℕ) (r c : ℕ) (inv : FindInv m r c) where
  module _ {b : Bool} (d : Decides b (Stands m r c)) where
    pub find-found : b ≡ true → Least m r c
    find-found e = record { stands = d.yes e; least = inv.none }

    pub find-more : c < r → b ≡ false → FindInv m r (c + 1)
    find-more l e = record { within = omega arith; none = λ x u s. next x u s (eqb x c) refl }
      where
        next : (x : ℕ) → x < c + 1 → Stands m r x → (t : Bool) → eqb x c ≡ t → ⊥
        next x u s true q = d.no e (subst (Stands m r) (eqb-true x c q) s)
        next x u s false q =
            let ne = eqb-false x c q in
            inv.none x (omega arith) s

  pub find-own : r ≤ c → Named m r → Least m r r
  find-own l named = record { stands = record { named = named; same = refl }; least = λ x u s. inv.none x (omega arith) s }

-- ---- places

pub class-inside : (r : ℕ) → r < 1088 → class_place r < 2560
class-inside r h = by-test (ltb r 64) refl
  where
    by-test : (t : Bool) → ltb r 64 ≡ t → cond t (40 * r + 23) (40 * of_record r + (24 + place r)) < 2560
    by-test true e = let l = ltb-true r 64 e in omega arith
    by-test false e = let l = ltb-false r 64 e in omega arith

class-apart : (x f r : ℕ) → f < 23 → 40 * x + f ≡ class_place r → ⊥
class-apart x f r h = by-test (ltb r 64)
  where
    by-test : (t : Bool) → 40 * x + f ≡ cond t (40 * r + 23) (40 * of_record r + (24 + place r)) → ⊥
    by-test true e = omega arith
    by-test false e = omega arith

places-apart : (x r : ℕ) → class_place x ≡ class_place r → x ≡ r
places-apart x r = by_tests (ltb x 64) (ltb r 64) refl refl
  where
    by_tests : (s t : Bool) → ltb x 64 ≡ s → ltb r 64 ≡ t
        → cond s (40 * x + 23) (40 * of_record x + (24 + place x)) ≡ cond t (40 * r + 23) (40 * of_record r + (24 + place r)) → x ≡ r
    by_tests true true p q e = omega arith
    by_tests true false p q e = absurd (omega arith)
    by_tests false true p q e = absurd (omega arith)
    by_tests false false p q e =
        let a = ltb-false x 64 p in
        let b = ltb-false r 64 q in
        let o : of_record x ≡ of_record r = omega arith in
        let l : place x ≡ place r = omega arith in
        omega arith

-- ---- arrays whose rows are kept

module _ (m₀ m : List ℕ) (g : Good m₀) (kept : Kept m₀ m) where
  record-kept : (c : ℕ) → record_policy m c ≡ record_policy m₀ c
  record-kept c = by-test (ltb c 64) refl
    where
      by-test : (t : Bool) → ltb c 64 ≡ t → record_policy m c ≡ record_policy m₀ c
      by-test true e =
          record_same m₀ m 64 c (omega arith) (λ x f _ u. kept.rows x f (omega arith)) g.rows.few (ltb-true c 64 e)
      by-test false e =
          let l = ltb-false c 64 e in
          let n : length (policies m 64) ≡ 64 = length-policies m 64 in
          let n₀ : length (policies m₀ 64) ≡ 64 = length-policies m₀ 64 in
          get_or-eq_default (policies m 64) Unsatisfiable {n = c} (omega arith)
          ∙ sym (get_or-eq_default (policies m₀ 64) Unsatisfiable {n = c} (omega arith))

  child-kept : (i j : ℕ) → j ≤ 16 → record_policy m (child_at m i j) ≡ record_policy m₀ (child_at m₀ i j)
  child-kept i j h = ap (record_policy m) (kept.rows i (6 + j) (omega arith)) ∙ record-kept (child_at m₀ i j)

  and_kept : (i t : ℕ) → t < 16 → and_policy m i t ≡ and_policy m₀ i t
  unfolding and_policy
  and_kept i zero h = rw (child-kept i 0 (omega arith), child-kept i 1 (omega arith))
  and_kept i (suc t) h = rw (and_kept i t (omega arith), child-kept i (suc (suc t)) (omega arith))

  pub policy-kept : (r : ℕ) → policy_at m r ≡ policy_at m₀ r
  unfolding policy_at
  policy-kept r = by-test (ltb r 64)
    where
      by-test : (t : Bool)
          → cond t (record_policy m r) (and_policy m (of_record r) (place r)) ≡ cond t (record_policy m₀ r) (and_policy m₀ (of_record r) (place r))
      by-test true = record-kept r
      by-test false = and_kept (of_record r) (place r) (omega arith)

  count_kept : (i : ℕ) → count_at m i ≡ count_at m₀ i
  count_kept i = rw (kept.rows i 0 (omega arith), kept.rows i 3 (omega arith))

  pub good-kept : Good m
  good-kept =
      record {
        rows = record { long = kept.long ∙ g.rows.long; few = λ i l. rw (count_kept i) (g.rows.few i l) };
        below = λ i j l u. below i j l (rw (count_kept i) at u);
        some_of = λ i l k.
            rw (kept.rows i 2 (omega arith), kept.rows i 3 (omega arith)) (g.some_of i l (sym (kept.rows i 0 (omega arith)) ∙ k));
      }
    where
      below : (i j : ℕ) → i < 64 → j < count_at m₀ i → child_at m i j < i
      below i j l u =
          let few : count_at m₀ i ≤ 16 = g.rows.few i l in
          rw (kept.rows i (6 + j) (omega arith)) (g.below i j l u)

  pub named-kept : (r : ℕ) → Named m r → Named m₀ r
  named-kept r (stored h) = stored h
  named-kept r (folds i t e h u) = folds i t e h (rw (count_kept i) at u)

  named_back : (r : ℕ) → Named m₀ r → Named m r
  named_back r (stored h) = stored h
  named_back r (folds i t e h u) = folds i t e h (rw (count_kept i) u)

  stands-kept : (r c : ℕ) → Stands m r c → Stands m₀ r c
  stands-kept r c s = record { named = named-kept c s.named; same = sym (policy-kept c) ∙ s.same ∙ policy-kept r }

  stands-back : (r c : ℕ) → Stands m₀ r c → Stands m r c
  stands-back r c s = record { named = named_back c s.named; same = policy-kept c ∙ s.same ∙ sym (policy-kept r) }

  least_kept : (r c : ℕ) → Least m r c → Least m₀ r c
  least_kept r c l = record { stands = stands-kept r c l.stands; least = λ x u s. l.least x u (stands-back r x s) }

  least-back : (r c : ℕ) → Least m₀ r c → Least m r c
  least-back r c l = record { stands = stands-back r c l.stands; least = λ x u s. l.least x u (stands-kept r x s) }

-- ---- storing a class

pub unput : (m : List ℕ) (r : ℕ) {t : Bool} → Decides t (Named m r) → t ≡ false → ClassPut m m r
unput m r d z = record { kept = record { long = refl; rows = λ x f l. refl }; own = λ n. absurd (d.no z n); other = λ x ne. refl }

pub put : (m : List ℕ) (r : ℕ) → Good m → r < 1088 → {at c : ℕ} → at ≡ class_place r → Least m r c → ClassPut m (set m at c) r
unfolding class_at
put m r g h {at} {c} e least =
    rw e
    (record {
      kept =
          record {
            long = length-set m (class_place r) c;
            rows = λ x f l. get_or-set_other m (class_place r) (40 * x + f) c 0 (class-apart x f r l);
          };
      own = λ named. rw (lt-ltb r 1088 h) (subst (Least m r) (sym stored-class) least);
      other = λ x ne. ap (cond' x) (get_or-set_other m (class_place r) (class_place x) c 0 (λ same. ne (places-apart x r same)));
    })
  where
    stored-class : get_or (set m (class_place r) c) (class_place r) 0 ≡ c
    stored-class =
        let inside = class-inside r h in
        let long : length m ≡ 2560 = g.rows.long in
        get_or-set_same m (class_place r) c 0 (omega arith)

    cond' : ℕ → ℕ → ℕ
    cond' x w = cond (ltb x 1088) w 0

-- ---- the loop over the numbers

pub record ClassInv (m₀ m : List ℕ) (r : ℕ) : Type 0 where
  pub within : r ≤ 1088
  pub kept : Kept m₀ m
  pub classes : (x : ℕ) → x < r → Named m₀ x → Least m₀ x (class_at m x)

pub class-starts : (m : List ℕ) → ClassInv m m 0
class-starts m =
    record { within = omega arith; kept = record { long = refl; rows = λ x f l. refl }; classes = λ x l n. absurd (omega arith) }

module _ (m₀ m : List ℕ) (r : ℕ) (g : Good m₀) (inv : ClassInv m₀ m r) where
  pub class-good : Good m
  class-good = good-kept m₀ m g inv.kept

  pub class-more : {m₂ : List ℕ} → r < 1088 → ClassPut m m₂ r → ClassInv m₀ m₂ (r + 1)
  class-more {m₂} h p =
      record {
        within = omega arith;
        kept =
            record {
              long = p.kept.long ∙ inv.kept.long;
              rows = λ x f l. p.kept.rows x f l ∙ inv.kept.rows x f l;
            };
        classes = λ x l n. next x l n (eqb x r) refl;
      }
    where
      next : (x : ℕ) → x < r + 1 → Named m₀ x → (t : Bool) → eqb x r ≡ t → Least m₀ x (class_at m₂ x)
      next x l n true q =
          let same : x ≡ r = eqb-true x r q in
          subst (λ (y : ℕ). Least m₀ y (class_at m₂ y)) (sym same)
          (least_kept m₀ m g inv.kept r (class_at m₂ r) (p.own (named_back m₀ m g inv.kept r (subst (Named m₀) same n))))
      next x l n false q =
          let ne : x ≡ r → ⊥ = eqb-false x r q in
          subst (Least m₀ x) (sym (p.other x ne)) (inv.classes x (omega (arith, ne)) n)

  pub class-ends : 1088 ≤ r → Classified m₀ m
  class-ends h =
      record {
        good = class-good;
        kept = policy-kept m₀ m g inv.kept;
        class = λ x n. least-back m₀ m g inv.kept x (class_at m x) (its-class x n);
      }
    where
      its-class : (x : ℕ) → Named m x → Least m₀ x (class_at m x)
      its-class x n =
          let l : x < 1088 = named-below m x class-good n in
          inv.classes x (omega arith) (named-kept m₀ m g inv.kept x n)
