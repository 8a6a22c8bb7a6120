-- Tables that entries leave and enter: what holds of all entries goes on to hold, and a table stays sorted where no key of it is the candidate's.
use mathlib.Core.Bool.{Bool, true, false, cond, true≢false}
use mathlib.Core.List.{List, [], ◌∷◌, ◌++◌}
use mathlib.Core.Path.{◌≡◌, refl, subst, ap}
use Prim.Native.Nat.{ℕ, suc, ◌≤◌, ◌<◌}
use native.Mathlib.Omega.{arith}
use lib.ListN.{length}
use Rattle.definition.specs.Candidates.{Candidate}
use Rattle.definition.specs.Tables.{Table, free_verify, key_before, enter}
use Rattle.definition.specs.Insertion.{any, filter}
use Rattle.definition_laws.specs.Laws.{All, nobody, ◌and◌, Sorted, empty, first}
use Rattle.definition_laws.proofs.Keys.{key_number, before, not-before, is-before, before-trans}

-- ---- of all entries

pub all_map : {A : Type 0} {P Q : A → Type 0} {xs : List A} → ((x : A) → P x → Q x) → All P xs → All Q xs
all_map f nobody = nobody
all_map f (◌and◌ {x} p ps) = f x p and all_map f ps

pub all_both : {A : Type 0} {P Q : A → Type 0} {xs : List A} → All P xs → All Q xs → All (λ x. P x × Q x) xs
all_both nobody nobody = nobody
all_both (p and ps) (q and qs) = (p, q) and all_both ps qs

pub all_filter : {P : Candidate → Type 0} (q : Candidate → Bool) {t : Table} → All P t → All P (filter q t)
unfolding filter
all_filter q nobody = nobody
all_filter {P} q (◌and◌ {x} {xs} h hs) = by-test (q x) (all_filter q hs)
  where
    by-test : (b : Bool) → All P (filter q xs) → All P (cond b (x ∷ filter q xs) (filter q xs))
    by-test true r = h and r
    by-test false r = r

pub filter-holds : (q : Candidate → Bool) (t : Table) → All (λ x. q x ≡ true) (filter q t)
unfolding filter
filter-holds q [] = nobody
filter-holds q (x ∷ xs) = by-test (q x) refl (filter-holds q xs)
  where
    by-test : (b : Bool) → q x ≡ b → All (λ y. q y ≡ true) (filter q xs) → All (λ y. q y ≡ true) (cond b (x ∷ filter q xs) (filter q xs))
    by-test true e r = e and r
    by-test false e r = r

pub none-does : (q : Candidate → Bool) (t : Table) → any q t ≡ false → All (λ x. q x ≡ false) t
unfolding any
none-does q [] h = nobody
none-does q (x ∷ xs) h = by-test (q x) refl h (none-does q xs)
  where
    by-test : (b : Bool) → q x ≡ b → cond b true (any q xs) ≡ false → (any q xs ≡ false → All (λ y. q y ≡ false) xs)
        → All (λ y. q y ≡ false) (x ∷ xs)
    by-test true e h r = absurd (true≢false h)
    by-test false e h r = e and r h

pub all-enter : {P : Candidate → Type 0} (x : Candidate) {t : Table} → P x → All P t → All P (enter x t)
unfolding enter
all-enter x h nobody = h and nobody
all-enter {P} x h (◌and◌ {x = e} {xs = es} g gs) = by-test (key_before e x) (all-enter x h gs)
  where
    by-test : (b : Bool) → All P (enter x es) → All P (cond b (e ∷ enter x es) (x ∷ e ∷ es))
    by-test true r = g and r
    by-test false r = h and g and gs

-- ---- how long

pub filter-length : (q : Candidate → Bool) (t : Table) → length (filter q t) ≤ length t
unfolding filter
filter-length q [] = omega arith
filter-length q (x ∷ xs) = by-test (q x) (filter-length q xs)
  where
    by-test : (b : Bool) → length (filter q xs) ≤ length xs → length (cond b (x ∷ filter q xs) (filter q xs)) ≤ suc (length xs)
    by-test true r = omega arith
    by-test false r = omega arith

pub enter-length : (x : Candidate) (t : Table) → length (enter x t) ≡ suc (length t)
unfolding enter
enter-length x [] = refl
enter-length x (e ∷ es) = by-test (key_before e x) (enter-length x es)
  where
    by-test : (b : Bool) → length (enter x es) ≡ suc (length es) → length (cond b (e ∷ enter x es) (x ∷ e ∷ es)) ≡ suc (suc (length es))
    by-test true r = ap suc r
    by-test false r = refl

-- ---- sorted

pub filter-sorted : (q : Candidate → Bool) {t : Table} → Sorted t → Sorted (filter q t)
unfolding filter
filter-sorted q empty = empty
filter-sorted q (first {x} {xs} h s) = by-test (q x) (filter-sorted q s)
  where
    by-test : (b : Bool) → Sorted (filter q xs) → Sorted (cond b (x ∷ filter q xs) (filter q xs))
    by-test true r = first (all_filter q h) r
    by-test false r = r

-- an entry whose key is not the candidate's
abbrev pub OtherKey : Candidate → Candidate → Type 0
OtherKey x e = key_number e ≡ key_number x → ⊥

pub enter-sorted : (x : Candidate) {t : Table} → Sorted t → All (OtherKey x) t → Sorted (enter x t)
unfolding enter
enter-sorted x empty nobody = first nobody empty
enter-sorted x (first {x = e} {xs = es} h s) (o and os) = by-test (key_before e x) refl (enter-sorted x s os)
  where
    by-test : (b : Bool) → key_before e x ≡ b → Sorted (enter x es) → Sorted (cond b (e ∷ enter x es) (x ∷ e ∷ es))
    by-test true t r = first (all-enter x t h) r
    by-test false t r =
        let k : key_before x e ≡ true = is-before x e (strict _ _ (not-before e x t) o) in
        first (k and all_map (λ y l. before-trans x e y k l) h) (first h s)
      where
        strict : (a b : ℕ) → a ≤ b → (b ≡ a → ⊥) → a < b
        strict a b h n = omega arith

-- a table is sorted where each of its keys comes before its neighbour's
pub first-before : {x y : Candidate} {ys : Table} → key_before x y ≡ true → Sorted (y ∷ ys) → Sorted (x ∷ y ∷ ys)
first-before {x} {y} k (first h s) = first (k and all_map (λ z l. before-trans x y z k l) h) (first h s)

-- two keys of which one comes before the other are not the same
pub before-differs : (x y : Candidate) → key_before x y ≡ true → x.ty ≡ y.ty → free_verify x ≡ free_verify y → ⊥
before-differs x y h p q = less-self (key_number y) (subst (λ n. n < key_number y) (one_number p q) (before x y h))
  where
    one_number : x.ty ≡ y.ty → free_verify x ≡ free_verify y → key_number x ≡ key_number y
    one_number p q = rw (p, q)

    less-self : (n : ℕ) → n < n → ⊥
    less-self n h = omega arith

-- so a sorted table holds no two entries of one key, wherever they stand
pub one-of-a-key : (xs : Table) (x : Candidate) (ys : Table) → Sorted (xs ++ x ∷ ys) →
    All (λ e. e.ty ≡ x.ty → free_verify e ≡ free_verify x → ⊥) xs
one-of-a-key [] x ys s = nobody
one-of-a-key (e ∷ xs) x ys (first h s) = before-differs e x (at xs h) and one-of-a-key xs x ys s
  where
    at : {P : Candidate → Type 0} (xs : Table) → All P (xs ++ x ∷ ys) → P x
    at [] (p and ps) = p
    at (z ∷ zs) (p and ps) = at zs ps
