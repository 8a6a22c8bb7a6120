-- The row of variables met so far, as one more is met. Assumes nothing.
use Prim.Native.Nat.{ℕ, ◌+◌}
use mathlib.Core.Bool.{Bool, true, false, ◌&&◌, ◌||◌}
use mathlib.Core.List.{List, [], ◌∷◌, ◌++◌, map}
use mathlib.Core.Path.{◌≡◌, refl, sym, ap, ◌∙◌}
use native.Mathlib.Omega.{arith}
use native.Mathlib.Numerals.{add-one}
use borrow.Author.Tests.{eqb-true, eqb-false, eq-eqb, ne_eqb}
use lib.Dec.{eqb}
use lib.ListN.{length, take, set, length-append, length-map, length-set}
use lib.Seq.{take-suc-set, length-take-le}
use Rattle.std.specs.List.{list_any}
use Rattle.policies.specs.Policy.{Policy}
use Rattle.trees.specs.Fragment.{Fragment}
use Rattle.meaning.specs.Meaning.{Variable}
use Rattle.variables.specs.declared.Var.{Var}
use Rattle.variables.specs.declared.Vars.{Vars}
use Rattle.variables.specs.Variables.{member, policy_variables, tree_variables, FewVariables}
use Rattle.variables.specs.Gathering.{code_of, has_code, row_of, Roomy, add_code, none, Gathered, within, beyond, Found}
use Rattle.variables.proofs.Members.{or_left, member-append, member-again, has-member, distinct_snoc, no-shorter}

map_snoc : (vs : List Variable) (v : Variable) → map code_of (vs ++ (v ∷ [])) ≡ map code_of vs ++ (code_of v ∷ [])
map_snoc [] v = refl
map_snoc (w ∷ ws) v = ap (λ (l : List Var). code_of w ∷ l) (map_snoc ws v)

-- nothing is met yet
pub gathered_none : {t : Vars} → t.over ≡ false → t.len ≡ 0 → Gathered t []
unfolding member
gathered_none {t} o z = within o [] (rw z) none (λ v. refl)

-- the same variables in another order, or some of them again
pub gathered-same : {t : Vars} {l k : List Variable} → ((v : Variable) → member v l ≡ member v k) → Gathered t l → Gathered t k
gathered-same e (within o vs row d m) = within o vs row d (λ v. m v ∙ e v)
gathered-same e (beyond o vs big d m) = beyond o vs big d (λ v h. sym (e v) ∙ m v h)

module _ (t : Vars) (v : Variable) (l : List Variable) (room : Roomy t) where
  pub gathered-add : Gathered t l → Gathered (add_code t (code_of v)) (l ++ (v ∷ []))
  gathered-add (beyond o vs big d m) =
      let stays : add_code t (code_of v) ≡ t = rw o in
      rw stays (beyond o vs big d (λ w h. member-append w l (v ∷ []) ∙ or_left (member w l) (member w (v ∷ [])) (m w h)))
  gathered-add (within o vs row d m) = by_tests (has_code (code_of v) (row_of t)) (eqb t.len 12) refl refl
    where
      met : (b : Bool) → has_code (code_of v) (row_of t) ≡ b → member v vs ≡ b
      met b e = sym (has-member v vs) ∙ ap (has_code (code_of v)) (sym row) ∙ e

      many : length vs ≡ t.len
      many = sym (length-map vs code_of) ∙ ap length (sym row) ∙ length-take-le t.len t.list (omega (arith, room.few, room.long))

      more-members : (w : Variable) → member w (vs ++ (v ∷ [])) ≡ member w (l ++ (v ∷ []))
      more-members w = member-append w vs (v ∷ []) ∙ ap (λ (b : Bool). b || member w (v ∷ [])) (m w) ∙ sym (member-append w l (v ∷ []))

      by_tests : (a b : Bool) → has_code (code_of v) (row_of t) ≡ a → eqb t.len 12 ≡ b → Gathered (add_code t (code_of v)) (l ++ (v ∷ []))
      by_tests true b p q =
          let stays : add_code t (code_of v) ≡ t = rw (o, p) in
          let known : member v l ≡ true = sym (m v) ∙ met true p in
          rw stays (within o vs row d (λ w. m w ∙ sym (member-again v w l known)))
      by_tests false true p q =
          let full : add_code t (code_of v) ≡ record { list = t.list; len = t.len; over = true } = rw (o, p, q) in
          let size : length (vs ++ (v ∷ [])) ≡ length vs + 1 = length-append vs (v ∷ []) in
          rw full (beyond refl (vs ++ (v ∷ [])) (omega (arith, size, many, eqb-true t.len 12 q)) (distinct_snoc vs v d (met false p))
          (λ w h. sym (more-members w) ∙ h))
      by_tests false false p q =
          let grown : add_code t (code_of v) ≡ record { list = set t.list t.len (code_of v); len = t.len + 1; over = false } = rw (o, p, q) in
          let next : take (t.len + 1) (set t.list t.len (code_of v)) ≡ map code_of (vs ++ (v ∷ [])) =
          ap (λ (n : ℕ). take n (set t.list t.len (code_of v))) (add-one t.len)
          ∙ take-suc-set t.list t.len (code_of v) (omega (arith, eqb-false t.len 12 q, room.few, room.long))
          ∙ ap (λ (k : List Var). k ++ (code_of v ∷ [])) row
          ∙ sym (map_snoc vs v) in
          rw grown (within refl (vs ++ (v ∷ [])) next (distinct_snoc vs v d (met false p)) more-members)

-- ---- what the row says of both together

-- more than twelve are not among twelve
pub not-few : {t : Vars} {p : Policy} {f : Fragment} → Gathered t (policy_variables p ++ tree_variables f) → t.over ≡ true → FewVariables p f → ⊥
not-few (within o vs row d m) e few = absurd (let z : ◌≡◌ {A = ℕ} 0 1 = cc in omega arith)
not-few (beyond o vs big d m) e few = omega (arith, big, no-shorter vs few.those d (λ v h. few.all v (m v h)), few.few)

pub found : {t : Vars} {p : Policy} {f : Fragment} → Gathered t (policy_variables p ++ tree_variables f) → t.over ≡ false → Found t p f
found (within o vs row d m) e = record { those = vs; row = row; all = m }
found (beyond o vs big d m) e = absurd (let z : ◌≡◌ {A = ℕ} 0 1 = cc in omega arith)

pub few-found : {t : Vars} {p : Policy} {f : Fragment} → Roomy t → Found t p f → FewVariables p f
few-found {t} room x =
    let many : length x.those ≡ t.len =
    sym (length-map x.those code_of) ∙ ap length (sym x.row) ∙ length-take-le t.len t.list (omega (arith, room.few, room.long)) in
    record { those = x.those; few = omega (arith, many, room.few); all = λ v h. x.all v ∙ h }

-- ---- the code: whether a variable was met

eqb-swap : (a b : ℕ) → eqb a b ≡ eqb b a
eqb-swap a b = by-test (eqb b a) refl
  where
    by-test : (t : Bool) → eqb b a ≡ t → eqb a b ≡ t
    by-test true e = eq-eqb a b (sym (eqb-true b a e))
    by-test false e = ne_eqb a b (λ s. eqb-false b a e (sym s))

pub any-has : (x : Var) (ys : List Var) → list_any (λ (y : Var). eqb y.class x.class && eqb y.number x.number) ys ≡ has_code x ys
unfolding has_code
any-has x [] = refl
any-has x (y ∷ ys) = rw (eqb-swap y.class x.class, eqb-swap y.number x.number, any-has x ys)

-- ---- the code: one more

module _ (t : Vars) (x : Var) where
  pub new-roomy : Roomy t → (t.len ≡ 12 → ⊥) → Roomy (record { list = set t.list t.len x; len = t.len + 1; over = false })
  new-roomy room n = record { few = omega (arith, room.few, n); long = length-set t.list t.len x ∙ room.long }

  pub full-roomy : Roomy t → Roomy (record { list = t.list; len = t.len; over = true })
  full-roomy room = record { few = room.few; long = room.long }

  pub add-over : t.over ≡ true → t ≡ add_code t x
  add-over o = rw o

  module _ (o : t.over ≡ false) {b : Bool} (e : b ≡ has_code x (row_of t)) where
    pub add-met : b ≡ true → t ≡ add_code t x
    add-met h =
        let met : has_code x (row_of t) ≡ true = sym e ∙ h in
        rw (o, met)

    module _ (h : b ≡ false) where
      new : has_code x (row_of t) ≡ false
      new = sym e ∙ h

      pub add-full : t.len ≡ 12 → record { list = t.list; len = t.len; over = true } ≡ add_code t x
      add-full n = rw (o, new, eq-eqb t.len 12 n)

      pub add-new : (t.len ≡ 12 → ⊥) → record { list = set t.list t.len x; len = t.len + 1; over = false } ≡ add_code t x
      add-new n = rw (o, new, ne_eqb t.len 12 n)
