-- What compile writes is locally valid but for False: the tree that it chooses is an entry of the root's table, and is read back from its bytes.
-- Of such a tree every fragment is valid exactly where False may stand in it. Assumes nothing.
use mathlib.Core.Bool.{Bool, true, false, cond, not, ◌&&◌, ◌||◌, false≢true}
use mathlib.Core.List.{List, [], ◌∷◌}
use mathlib.Core.Path.{◌≡◌, refl, sym, ap, subst, ◌∙◌}
use Prim.Native.Nat.{ℕ, ◌+◌}
use borrow.Author.Tests.{leb-true}
use native.Mathlib.Omega.{arith}
use lib.Dec.{leb}
use lib.ListN.{length}
use Rattle.costs.specs.declared.Price.{Price}
use Rattle.contexts.specs.declared.Context.{Context}
use Rattle.contexts.specs.declared.Context.TheVariants.{Segwitv0, Tap}
use Rattle.figures.specs.Rules as ext
use Rattle.figures.specs.Validity.{check_local_validity}
use Rattle.policies.specs.Policy.{Policy}
use Rattle.policies.specs.Reading as Reading
use Rattle.policies.specs.Reading.{read_policy}
use Rattle.contexts.specs.Leaves.{After, Older, Sha256, Hash256, Ripemd160, Hash160}
use Rattle.trees.specs.Fragment.{Fragment, False, True, PkK, PkH, Lock, Hash}
use Rattle.trees.specs.Fragment.{Alt, Swap, Check, DupIf, Verify, NonZero, ZeroNotEqual}
use Rattle.trees.specs.Fragment.{AndB, AndV, OrB, OrD, OrC, OrI, AndOr, Thresh, Multi, MultiA}
use Rattle.trees.specs.Tree.{tree_of}
use Rattle.walk.specs.Heads.{head_of, children_in}
use Rattle.walk.specs.Folds.{Each, none, both, every}
use Rattle.walk.proofs.FoldLaws.{by-children}
use Rattle.writing.specs.WellFormed.{WellFormed}
use Rattle.writing.specs.Writing.{size, bytes_of_tree}
use Rattle.writing.proofs.ReadBack.{read_back}
use Rattle.definition.specs.Candidates.{Candidate}
use Rattle.definition.specs.Tables.{cost_at}
use Rattle.definition.specs.Refusals.{State, state, Res, done, refused, OutputTooSmall, BadWork}
use Rattle.definition.specs.Compile.{max_records, root_probs, best_compilation, compiled, refused_with, outcome, compile_policy}
use Rattle.definition.specs.Compile.{compile_read, compile_in, compile}
use Rattle.definition_laws.specs.FormedPolicy.{FormedPolicy}
use Rattle.definition_laws.specs.Laws as laws
use Rattle.definition_laws.specs.Laws.{figures_of}
use Rattle.definition_laws.proofs.Reading.{reads-formed}
use Rattle.definition_laws.proofs.Compiling.{RootWell, best_compilation-keeps, start-proper}
use Rattle.tree_figures.specs.LocallyValid.{everywhere, valid, all_valid}
use Rattle.tree_figures.proofs.Everywhere.{splits}
use Rattle.valid_laws.specs.CompiledValid.{is_false, valid_or_false, WritesValid, CompileValid, false_allowed, falses_allowed}
use Rattle.valid_laws.proofs.Searching.{Gives, gives, root-keeps, start}
use Rattle.valid_laws.proofs.Making.{Offer, Entry, validity-closed}

-- ---- what is written

both_true : (a b : Bool) → a && b ≡ true → (a ≡ true) × (b ≡ true)
both_true true b h = (refl, h)
both_true false b h = absurd (false≢true h)

never : {A : Type 0} {bytes : List ℕ} {cost : Price} {nodes e : ℕ} → refused_with e ≡ compiled bytes cost nodes → A
never h = let z : ◌≡◌ {A = ℕ} 0 1 = cc in absurd (omega arith)

module _ (c : Context) (room : ℕ) (bytes : List ℕ) (cost : Price) (nodes : ℕ) where
  fitted : (x : Candidate) (price : Price) (n : ℕ) → WellFormed x.tree → Entry c x → (b : Bool) →
      (leb (size x.tree) max_records && leb (length (bytes_of_tree x.tree)) room) ≡ b →
      cond b (compiled (bytes_of_tree x.tree) price n) (refused_with OutputTooSmall) ≡ compiled bytes cost nodes → WritesValid c bytes
  fitted x price n w v false t h = never h
  fitted x price n w v true t h =
      let same_bytes : bytes_of_tree x.tree ≡ bytes = cc in
      let few = (both_true (leb (size x.tree) max_records) (leb (length (bytes_of_tree x.tree)) room) t).0 in
      record { tree = x.tree; read = ap tree_of (sym same_bytes) ∙ read_back x.tree w (leb-true _ _ few); each = v.whole }

  entry_of : {x : Candidate} {s : State} → Gives c (Offer c) (Entry c) (validity-closed c) (Entry c) (done x s) → Entry c x
  entry_of (gives h g) = h

  by_answer : (r : Res Candidate) → laws.Gives c (RootWell c) (state 0 []) r → Gives c (Offer c) (Entry c) (validity-closed c) (Entry c) r →
      outcome room r ≡ compiled bytes cost nodes → WritesValid c bytes
  by_answer (refused e) k m h = never h
  by_answer (done x s) (laws.gives r g l) m h = fitted x (cost_at root_probs x) (s.accepted + 2) r.entry.good.formed (entry_of m) _ refl h

  of-policy : (q : Policy) → FormedPolicy q → compile_policy c room q ≡ compiled bytes cost nodes → WritesValid c bytes
  unfolding compile_policy
  of-policy q formed h =
      by_answer (best_compilation c q (state 0 [])) ((best_compilation-keeps c q formed).from (state 0 []) (start-proper c))
      ((root-keeps c (Offer c) (Entry c) (validity-closed c) q).from (state 0 []) (start c (Offer c) (Entry c) (validity-closed c))) h

pub compile-valid : CompileValid
unfolding compile
compile-valid context c work_fits policy room bytes cost nodes k below h =
    by-work work_fits (sym (ap (compile_in context work_fits room policy) k) ∙ h)
  where
    by-reading : (r : Reading.Answer Policy) → read_policy policy ≡ r → compile_read c room r ≡ compiled bytes cost nodes → WritesValid c bytes
    by-reading (Reading.refused n) e h = never h
    by-reading (Reading.done q) e h = of-policy c room bytes cost nodes q (reads-formed policy below q e) h

    by-work : (b : Bool) → cond b (compile_read c room (read_policy policy)) (refused_with BadWork) ≡ compiled bytes cost nodes → WritesValid c bytes
    by-work true h = by-reading (read_policy policy) refl h
    by-work false h = never h

-- ---- what holds everywhere in a tree

module _ (p q r : Fragment → Bool) (own : (f : Fragment) → p f ≡ true → q f ≡ true → r f ≡ true) where
  abbrev Both : Fragment → Type 0
  Both f = everywhere p f ≡ true → everywhere q f ≡ true → everywhere r f ≡ true

  in_all : (xs : List Fragment) → Each Both xs → every ◌&&◌ true (everywhere p) xs ≡ true → every ◌&&◌ true (everywhere q) xs ≡ true
      → every ◌&&◌ true (everywhere r) xs ≡ true
  unfolding every
  in_all [] none h k = refl
  in_all (x ∷ xs) (both b bs) h k =
      let hs = both_true (everywhere p x) (every ◌&&◌ true (everywhere p) xs) h in
      let ks = both_true (everywhere q x) (every ◌&&◌ true (everywhere q) xs) k in
      rw (b hs.0 ks.0, in_all xs bs hs.1 ks.1)

  pub everywhere_both : (f : Fragment) → everywhere p f ≡ true → everywhere q f ≡ true → everywhere r f ≡ true
  everywhere_both = by-children Both step
    where
      step : (f : Fragment) → Each Both (children_in f) → Both f
      step f bs h k =
          let hs = both_true (p f) (every ◌&&◌ true (everywhere p) (children_in f)) (sym (splits p f) ∙ h) in
          let ks = both_true (q f) (every ◌&&◌ true (everywhere q) (children_in f)) (sym (splits q f) ∙ k) in
          splits r f ∙ rw (own f hs.0 ks.0, in_all (children_in f) bs hs.1 ks.1)

-- ---- False, the exception: in context 0 it is not valid, in context 1 it is

is_false_lem : (f : Fragment) → is_false f ≡ true → f ≡ False
unfolding head_of
is_false_lem False h = refl
is_false_lem True h = absurd (false≢true h)
is_false_lem (PkK n) h = absurd (false≢true h)
is_false_lem (PkH n) h = absurd (false≢true h)
is_false_lem (Lock After n) h = absurd (false≢true h)
is_false_lem (Lock Older n) h = absurd (false≢true h)
is_false_lem (Hash Sha256 n) h = absurd (false≢true h)
is_false_lem (Hash Hash256 n) h = absurd (false≢true h)
is_false_lem (Hash Ripemd160 n) h = absurd (false≢true h)
is_false_lem (Hash Hash160 n) h = absurd (false≢true h)
is_false_lem (Alt x) h = absurd (false≢true h)
is_false_lem (Swap x) h = absurd (false≢true h)
is_false_lem (Check x) h = absurd (false≢true h)
is_false_lem (DupIf x) h = absurd (false≢true h)
is_false_lem (Verify x) h = absurd (false≢true h)
is_false_lem (NonZero x) h = absurd (false≢true h)
is_false_lem (ZeroNotEqual x) h = absurd (false≢true h)
is_false_lem (AndB x y) h = absurd (false≢true h)
is_false_lem (AndV x y) h = absurd (false≢true h)
is_false_lem (OrB x y) h = absurd (false≢true h)
is_false_lem (OrD x y) h = absurd (false≢true h)
is_false_lem (OrC x y) h = absurd (false≢true h)
is_false_lem (OrI x y) h = absurd (false≢true h)
is_false_lem (AndOr x y z) h = absurd (false≢true h)
is_false_lem (Thresh k xs) h = absurd (false≢true h)
is_false_lem (Multi k keys) h = absurd (false≢true h)
is_false_lem (MultiA k keys) h = absurd (false≢true h)

false-invalid : valid Segwitv0 False ≡ false
unfolding head_of figures_of check_local_validity ext.false_ext
false-invalid = refl

false-valid : valid Tap False ≡ true
unfolding head_of figures_of check_local_validity ext.false_ext
false-valid = refl

-- what is valid or False is valid, where it is not False or False is valid
without : (c : Context) (f : Fragment) → valid_or_false c f ≡ true → false_allowed c f ≡ true → valid c f ≡ true
unfolding head_of
without c f h k = by-test (is_false f) refl h
  where
    allowed : (c : Context) → false_allowed c False ≡ true → valid c False ≡ true
    allowed Segwitv0 k = absurd (false≢true k)
    allowed Tap k = false-valid

    by-test : (b : Bool) → is_false f ≡ b → b || valid c f ≡ true → valid c f ≡ true
    by-test true e h =
        let same = is_false_lem f e in
        subst (λ (x : Fragment). false_allowed c x ≡ true → valid c x ≡ true) (sym same) (allowed c) k
    by-test false e h = h

-- what is valid is not False, or False is allowed
not-false : (c : Context) (f : Fragment) → valid c f ≡ true → false_allowed c f ≡ true
not-false Tap f v = refl
not-false Segwitv0 f v = by-test (is_false f) refl
  where
    by-test : (b : Bool) → is_false f ≡ b → not b ≡ true
    by-test true e =
        let same = is_false_lem f e in
        absurd (false≢true (sym false-invalid ∙ subst (λ (x : Fragment). valid Segwitv0 x ≡ true) same v))
    by-test false e = refl

-- of a tree whose fragments are valid or False all are valid exactly where each False is allowed
pub valid-exactly : (c : Context) (f : Fragment) → everywhere (valid_or_false c) f ≡ true → all_valid c f ≡ falses_allowed c f
unfolding all_valid
valid-exactly c f each = by_tests (everywhere (valid c) f) (everywhere (false_allowed c) f) refl refl
  where
    there : everywhere (false_allowed c) f ≡ true → everywhere (valid c) f ≡ true
    there h = everywhere_both (valid_or_false c) (false_allowed c) (valid c) (without c) f each h

    back : everywhere (valid c) f ≡ true → everywhere (false_allowed c) f ≡ true
    back h = everywhere_both (valid c) (valid c) (false_allowed c) (λ x v w. not-false c x v) f h h

    by_tests : (a b : Bool) → everywhere (valid c) f ≡ a → everywhere (false_allowed c) f ≡ b → a ≡ b
    by_tests true true s t = refl
    by_tests false false s t = refl
    by_tests true false s t = sym (back s) ∙ t
    by_tests false true s t = sym s ∙ there t
