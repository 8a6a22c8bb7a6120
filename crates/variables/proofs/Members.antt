-- Lists of variables as sets: members, distinct ones, and that so many distinct ones fit into no shorter list. Assumes nothing.
use Prim.Native.Nat.{ℕ, suc, ◌≤◌}
use mathlib.Core.Bool.{Bool, true, false, cond, ◌&&◌, ◌||◌}
use mathlib.Core.List.{List, [], ◌∷◌, ◌++◌, map}
use mathlib.Core.Path.{◌≡◌, refl, sym, ap, subst, ◌∙◌}
use native.Mathlib.Omega.{arith}
use borrow.Author.Tests.{eqb-true, eq-eqb}
use lib.Dec.{eqb}
use lib.ListN.{length}
use Rattle.contexts.specs.Leaves.{After, Older, Sha256, Hash256, Ripemd160, Hash160}
use Rattle.meaning.specs.Meaning.{Variable, key, lock, hash}
use Rattle.variables.specs.Variables.{class_of, number_of, same, member}
use Rattle.variables.specs.Gathering.{code_of, has_code, Distinct, none, more}

-- ---- bools

pub or_assoc : (a b c : Bool) → (a || b) || c ≡ a || (b || c)
or_assoc true b c = refl
or_assoc false b c = refl

pub or_comm : (a b : Bool) → a || b ≡ b || a
or_comm true true = refl
or_comm true false = refl
or_comm false true = refl
or_comm false false = refl

pub or-false : (a : Bool) → a || false ≡ a
or-false true = refl
or-false false = refl

pub or_left : (a b : Bool) → a ≡ true → a || b ≡ true
or_left a b e = rw e

pub or_right : (a b : Bool) → b ≡ true → a || b ≡ true
or_right true b e = refl
or_right false b e = e

both_true : (a b : Bool) → a && b ≡ true → (a ≡ true) × (b ≡ true)
both_true true b h = (refl, h)
both_true false b h = (h, cc)

no_way : {P : Type 0} → ◌≡◌ {A = Bool} true false → P
no_way e = absurd (let z : ◌≡◌ {A = ℕ} 0 1 = cc in omega arith)

-- ---- the same variable

-- the variable of a class and a number
variable_of : (class number : ℕ) → Variable
variable_of class n =
    cond (eqb class 0) (key n)
    (cond (eqb class 1) (lock After n)
    (cond (eqb class 2) (lock Older n)
    (cond (eqb class 3) (hash Sha256 n)
    (cond (eqb class 4) (hash Hash256 n) (cond (eqb class 5) (hash Ripemd160 n) (hash Hash160 n))))))

its_own : (v : Variable) → variable_of (class_of v) (number_of v) ≡ v
unfolding variable_of
its_own (key n) = refl
its_own (lock After n) = refl
its_own (lock Older n) = refl
its_own (hash Sha256 n) = refl
its_own (hash Hash256 n) = refl
its_own (hash Ripemd160 n) = refl
its_own (hash Hash160 n) = refl

pub same-is : (v w : Variable) → same v w ≡ true → v ≡ w
same-is v w e =
    let both = both_true (eqb (class_of v) (class_of w)) (eqb (number_of v) (number_of w)) e in
    let a = eqb-true (class_of v) (class_of w) both.0 in
    let b = eqb-true (number_of v) (number_of w) both.1 in
    sym (its_own v) ∙ ap (λ (x : ℕ). variable_of x (number_of v)) a ∙ ap (variable_of (class_of w)) b ∙ its_own w

pub same_self : (v : Variable) → same v v ≡ true
same_self v = rw (eq-eqb (class_of v) (class_of v) refl, eq-eqb (number_of v) (number_of v) refl)

pub same-sym : (v w : Variable) → same v w ≡ same w v
same-sym v w = by_tests (same v w) (same w v) refl refl
  where
    by_tests : (a b : Bool) → same v w ≡ a → same w v ≡ b → a ≡ b
    by_tests true true p q = refl
    by_tests false false p q = refl
    by_tests true false p q =
        let e = same-is v w p in
        no_way (sym (same_self w) ∙ subst (λ (x : Variable). same w x ≡ false) e q)
    by_tests false true p q =
        let e = same-is w v q in
        no_way (sym (same_self v) ∙ subst (λ (x : Variable). same v x ≡ false) e p)

-- ---- members

pub member-append : (v : Variable) (xs ys : List Variable) → member v (xs ++ ys) ≡ member v xs || member v ys
unfolding member
member-append v [] ys = refl
member-append v (x ∷ xs) ys = ap (λ (b : Bool). same v x || b) (member-append v xs ys) ∙ sym (or_assoc (same v x) (member v xs) (member v ys))

pub member-one : (v w : Variable) → member v (w ∷ []) ≡ same v w
unfolding member
member-one v w = or-false (same v w)

-- a variable that is there already adds nothing
pub member-again : (v w : Variable) (l : List Variable) → member v l ≡ true → member w (l ++ (v ∷ [])) ≡ member w l
member-again v w l h = member-append w l (v ∷ []) ∙ ap (λ (b : Bool). member w l || b) (member-one w v) ∙ by-test (same w v) refl
  where
    by-test : (b : Bool) → same w v ≡ b → member w l || b ≡ member w l
    by-test true e =
        let there : member w l ≡ true = subst (λ (x : Variable). member x l ≡ true) (sym (same-is w v e)) h in
        rw there
    by-test false e = or-false (member w l)

pub has-member : (v : Variable) (vs : List Variable) → has_code (code_of v) (map code_of vs) ≡ member v vs
unfolding has_code member
has-member v [] = refl
has-member v (w ∷ ws) = ap (λ (b : Bool). same v w || b) (has-member v ws)

-- ---- distinct ones

pub distinct_snoc : (vs : List Variable) (v : Variable) → Distinct vs → member v vs ≡ false → Distinct (vs ++ (v ∷ []))
unfolding member
distinct_snoc [] v none h = more refl none
distinct_snoc (w ∷ ws) v (more n d) h = by-test (same v w) refl (distinct_snoc ws v d)
  where
    by-test : (b : Bool) → same v w ≡ b → (member v ws ≡ false → Distinct (ws ++ (v ∷ []))) → Distinct (w ∷ (ws ++ (v ∷ [])))
    by-test true e rest = no_way (sym (or_left (same v w) (member v ws) e) ∙ h)
    by-test false e rest =
        let others : member v ws ≡ false = rw e at h in
        let not_own : same w v ≡ false = same-sym w v ∙ e in
        let new : member w (ws ++ (v ∷ [])) ≡ false =
        member-append w ws (v ∷ []) ∙ ap (λ (b : Bool). member w ws || b) (member-one w v) ∙ ap (λ (b : Bool). b || same w v) n ∙ not_own in
        more new (rest others)

-- a list without the first place where a variable stands
without : Variable → List Variable → List Variable
without v [] = []
without v (w ∷ ws) = cond (same v w) ws (w ∷ without v ws)

shorter : (v : Variable) (ys : List Variable) → member v ys ≡ true → length ys ≡ suc (length (without v ys))
unfolding member without
shorter v [] h = no_way (sym h)
shorter v (y ∷ ys) h = by-test (same v y) refl (shorter v ys)
  where
    by-test : (b : Bool) → same v y ≡ b → (member v ys ≡ true → length ys ≡ suc (length (without v ys)))
        → suc (length ys) ≡ suc (length (cond (same v y) ys (y ∷ without v ys)))
    by-test true e rest = rw e
    by-test false e rest =
        let there : member v ys ≡ true = rw e at h in
        rw e (ap suc (rest there))

still : (v w : Variable) (ys : List Variable) → same w v ≡ false → member w ys ≡ true → member w (without v ys) ≡ true
unfolding member without
still v w [] d h = h
still v w (y ∷ ys) d h = by_tests (same v y) (same w y) refl refl (still v w ys d)
  where
    by_tests : (a b : Bool) → same v y ≡ a → same w y ≡ b → (member w ys ≡ true → member w (without v ys) ≡ true)
        → member w (cond (same v y) ys (y ∷ without v ys)) ≡ true
    by_tests true true p q rest =
        let e : w ≡ v = same-is w y q ∙ sym (same-is v y p) in
        no_way (sym (same_self v) ∙ subst (λ (x : Variable). same x v ≡ false) e d)
    by_tests true false p q rest =
        let there : member w ys ≡ true = rw q at h in
        rw p there
    by_tests false true p q rest = rw (p, q)
    by_tests false false p q rest =
        let there : member w ys ≡ true = rw q at h in
        rw (p, q) (rest there)

-- so many distinct variables need as long a list
pub no-shorter : (xs ys : List Variable) → Distinct xs → ((v : Variable) → member v xs ≡ true → member v ys ≡ true) → length xs ≤ length ys
unfolding member
no-shorter [] ys d h = omega arith
no-shorter (x ∷ xs) ys (more n d) h =
    let there : member x ys ≡ true = h x (or_left (same x x) (member x xs) (same_self x)) in
    let rest = no-shorter xs (without x ys) d (λ v k. still x v ys (other v k) (h v (or_right (same v x) (member v xs) k))) in
    omega (arith, shorter x ys there, rest)
  where
    other : (v : Variable) → member v xs ≡ true → same v x ≡ false
    other v k = by-test (same v x) refl
      where
        by-test : (b : Bool) → same v x ≡ b → b ≡ false
        by-test false e = refl
        by-test true e = no_way (sym k ∙ subst (λ (y : Variable). member y xs ≡ false) (sym (same-is v x e)) n)
