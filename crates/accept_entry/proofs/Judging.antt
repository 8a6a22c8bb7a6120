-- Each part of the answer, from what the parts below it say. Assumes nothing.
use Rattle.refusals.specs.declared.Refusal.{Refusal}
use Rattle.refusals.specs.Numbers.{number_of}
use Prim.Native.Nat.{ℕ, ◌<◌}
use mathlib.Core.Bool.{Bool, true, false}
use mathlib.Core.List.{List, [], ◌++◌}
use Rattle.std.specs.Prelude.{Some, Result, Ok, Err}
use mathlib.Core.Path.{◌≡◌, refl, sym, ap, subst, ◌∙◌}
use native.Mathlib.Omega.{arith}
use lib.ListN.{length, take, drop, length-append, length-drop}
use lib.Seq.{length-take-le}
use Rattle.contexts.specs.declared.Context.{Context}
use Rattle.types.specs.declared.«Type».{«Type»}
use Rattle.policies.specs.Policy.{Policy}
use Rattle.policies.specs.Array.{policy_at, Good}
use Rattle.policies.specs.Reading as policies
use Rattle.policies.specs.Reading.{read_policy}
use Rattle.policies.proofs.Roots.{refusal-is}
use Rattle.policies.specs.Answers.{policy_answer, PolicyGood, Read, PolicyRead, reads, bad-array}
use Rattle.trees.specs.Checked.{type_only}
use Rattle.trees.specs.Fragment.{Fragment}
use Rattle.trees.specs.Reading.{refused, done, max_records}
use Rattle.trees.specs.TreeCheck.{Typed, context_of, check_of}
use Rattle.claspwillow.proofs.CheckLaws.{passed-as, refused-by}
use Rattle.walk.specs.TreeRecords.{TreeRecords, Written}
use Rattle.walk.proofs.Laws.{rows}
use Rattle.tree_figures.specs.LocallyValid.{all_valid}
use Rattle.meaning.specs.Meaning.{Variable}
use Rattle.variables.specs.declared.Vars.{Vars}
use Rattle.variables.specs.Variables.{policy_variables, tree_variables}
use Rattle.variables.specs.Gathering.{Gathered, Roomy, Found}
use Rattle.variables.proofs.Rows.{not-few, found, few-found}
use Rattle.truth.specs.Alike.{Says}
use Rattle.accept_entry.specs.Accept.{is_b, passing, tree_passing, read_both, Verdict, too_many, differs, accepts, Results, refuses, judges}
use Rattle.accept_entry.specs.Verdicts.{demanded, TypedResults}

-- ---- the variables and the meaning

module _ {all : Vars} {p : Policy} {tree : List ℕ} (g : (f : Fragment) → TreeRecords tree f → Gathered all (policy_variables p ++ tree_variables f))
    (room : Roomy all) where
  pub too_many_lem : all.over ≡ true → (f : Fragment) → TreeRecords tree f → Verdict p f 21
  too_many_lem o f r = too_many (not-few (g f r) o)

  module _ (o : all.over ≡ false) where
    pub its-row : (f : Fragment) → TreeRecords tree f → Found all p f
    its-row f r = found (g f r) o

    pub alike : {b : Bool} → ((f : Fragment) → TreeRecords tree f → Found all p f → Says b p f) → b ≡ true → (f : Fragment) → TreeRecords tree f → Verdict p f 0
    alike s e f r = accepts (few-found room (its-row f r)) ((s f r (its-row f r)).yes e)

    pub not_alike : {b : Bool} → ((f : Fragment) → TreeRecords tree f → Found all p f → Says b p f) → b ≡ false → (f : Fragment) → TreeRecords tree f → Verdict p f 26
    not_alike s e f r = differs (few-found room (its-row f r)) ((s f r (its-row f r)).no e)

-- the row after both
pub gathered-both : {first second all : Vars} (p : Policy) {tree : List ℕ} → Gathered first []
    → ((l : List Variable) → Gathered first l → Gathered second (l ++ policy_variables p))
    → ((f : Fragment) → TreeRecords tree f → (l : List Variable) → Gathered second l → Gathered all (l ++ tree_variables f))
    → (f : Fragment) → TreeRecords tree f → Gathered all (policy_variables p ++ tree_variables f)
gathered-both p z a b f r = b f r (policy_variables p) (a [] z)

-- ---- the type, and local validity

record Meets (t : «Type») : Type 0 where
  b : is_b t.corr.base ≡ true
  s : t.mall.safe ≡ true
  m : t.mall.non_malleable ≡ true

module _ (c : Context) (p : Policy) (tree : List ℕ) (t : «Type») where
  pub type-refused : {r : Refusal} → Err r ≡ demanded t → TypedResults c p tree t (number_of r)
  type-refused {r} e f rows = by_tests (is_b t.corr.base) t.mall.safe t.mall.non_malleable refl refl refl
    where
      by_tests : (a b d : Bool) → is_b t.corr.base ≡ a → t.mall.safe ≡ b → t.mall.non_malleable ≡ d
          → Results (passing c p (record { tree = f; type = t })) (number_of r)
      by_tests false b d x y w =
          let is : r ≡ Refusal.NotB = cc in
          rw (x, is) (refuses 22)
      by_tests true false d x y w =
          let is : r ≡ Refusal.NotSafe = cc in
          rw (x, y, is) (refuses 23)
      by_tests true true false x y w =
          let is : r ≡ Refusal.Malleable = cc in
          rw (x, y, w, is) (refuses 24)
      by_tests true true true x y w = absurd (let z : ◌≡◌ {A = ℕ} 0 1 = cc in omega arith)

  meets : {u : Unit {0}} → Ok u ≡ demanded t → Meets t
  meets {u} e = by_tests (is_b t.corr.base) t.mall.safe t.mall.non_malleable refl refl refl
    where
      by_tests : (a b d : Bool) → is_b t.corr.base ≡ a → t.mall.safe ≡ b → t.mall.non_malleable ≡ d → Meets t
      by_tests true true true x y w = record { b = x; s = y; m = w }
      by_tests false b d x y w = absurd (let z : ◌≡◌ {A = ℕ} 0 1 = cc in omega arith)
      by_tests true false d x y w = absurd (let z : ◌≡◌ {A = ℕ} 0 1 = cc in omega arith)
      by_tests true true false x y w = absurd (let z : ◌≡◌ {A = ℕ} 0 1 = cc in omega arith)

  module _ {u : Unit {0}} (e : Ok u ≡ demanded t) {b : Bool} (v : (f : Fragment) → TreeRecords tree f → b ≡ all_valid c f) where
    pub not_valid : b ≡ false → TypedResults c p tree t 25
    not_valid h f r =
        let k = meets e in
        let x = k.b in
        let y = k.s in
        let w = k.m in
        let no : all_valid c f ≡ false = sym (v f r) ∙ h in
        rw (x, y, w, no) (refuses 25)

    pub then-judged : b ≡ true → {m : ℕ} → ((f : Fragment) → TreeRecords tree f → Verdict p f m) → TypedResults c p tree t m
    then-judged h {m} j f r =
        let k = meets e in
        let x = k.b in
        let y = k.s in
        let w = k.m in
        let yes : all_valid c f ≡ true = sym (v f r) ∙ h in
        rw (x, y, w, yes) (judges (j f r))

-- ---- the tree check

module _ (context : ℕ) (tree work : List ℕ) (room : length work ≡ max_records) where
  pub tree-refused : (r : Refusal) → refused (number_of r) ≡ type_only (check_of context tree (length work)) → (p : Policy) (c : Context)
      → Results (tree_passing c context p tree) (number_of r)
  tree-refused r a p c =
      let e : check_of context tree max_records ≡ refused (number_of r) = sym (ap (check_of context tree) room) ∙ refused-by context tree work a in
      rw e (refuses (number_of r))

  module _ {t : «Type»} (a : done t ≡ type_only (check_of context tree (length work))) where
    its-typed : Typed
    its-typed = (passed-as context tree work a).typed

    its-check : check_of context tree max_records ≡ done its-typed
    unfolding its-typed
    its-check = sym (ap (check_of context tree) room) ∙ (passed-as context tree work a).passes

    its-type : t ≡ its-typed.type
    unfolding its-typed
    its-type =
        let is : done t ≡ done its-typed.type = a ∙ ap type_only (passed-as context tree work a).passes in
        cc (is)

    pub tree-written : Written tree
    tree-written = record { root = its-typed.tree; rows = rows context tree max_records its-typed its-check }

    pub tree-judged : {c₀ : Context} → ((x : Context) → context_of context ≡ Some x → c₀ ≡ x) → (p : Policy) {m : ℕ}
        → TypedResults c₀ p tree t m → (c : Context) → context_of context ≡ Some c → Results (tree_passing c context p tree) m
    tree-judged {c₀} is p {m} j c q =
        let its = j its-typed.tree (rows context tree max_records its-typed its-check) in
        let of-type : Results (passing c₀ p its-typed) m =
        subst (λ (s : «Type»). Results (passing c₀ p (record { tree = its-typed.tree; type = s })) m) its-type its in
        let of-context : Results (passing c p its-typed) m = subst (λ (d : Context). Results (passing d p its-typed) m) (is c q) of-type in
        rw its-check of-context

-- work memory, of which the check takes a part

pub first-long : (w : List ℕ) → length w ≡ 65536 → length (take 4096 w) ≡ 4096
first-long w l = length-take-le 4096 w (omega (arith, l))

pub joined-long : (w p : List ℕ) → length w ≡ 65536 → length p ≡ 4096 → length (p ++ drop 4096 w) ≡ 65536
joined-long w p l k = length-append p (drop 4096 w) ∙ omega (arith, l, k, length-drop 4096 w)

-- ---- the policy

module _ (policy m₀ m : List ℕ) (long : length m₀ ≡ 2560) {r : Result ℕ Refusal} (read : PolicyRead policy m₀ r m) where
  its-read : Read (read_policy policy) r m
  its-read = of read
    where
      of : PolicyRead policy m₀ r m → Read (read_policy policy) r m
      of (reads l x) = x
      of (bad-array n e) = absurd (n long)

  module _ (c : Context) (context : ℕ) (tree : List ℕ) where
    pub policy-refused : {e : Refusal} → r ≡ Err e → Results (read_both c context policy tree) (number_of e)
    policy-refused {e} x =
        let is = refusal-is (subst (λ (k : Result ℕ Refusal). Read (read_policy policy) k m) x its-read) in
        rw is (refuses (number_of e))

    pub policy-read : {root : ℕ} → r ≡ Ok root → {n : ℕ} → Results (tree_passing c context (policy_at m root) tree) n
        → Results (read_both c context policy tree) n
    policy-read {root} e {n} j =
        let says = its-read.says in
        let some_is : policy_answer r m ≡ Some (policies.done (policy_at m root)) = rw e in
        let is : read_policy policy ≡ policies.done (policy_at m root) = cc (says, some_is) in
        rw is j

  pub policy-good : {root : ℕ} → r ≡ Ok root → Good m × (root < 64)
  policy-good {root} e = subst (λ (x : Result ℕ Refusal). PolicyGood x m) e its-read.good
