-- Local validity is a property of entries (Searching.antt): a candidate has the figures of its tree, and once its own have passed the test every
-- fragment of it is valid or False. Assumes nothing.
use Rattle.types.specs.declared.«Type».{«Type»}
use Rattle.correctness.specs.declared.TypeError.{TypeError}
use Rattle.std.specs.Prelude.{Option, None, Some, Result, Ok, Err}
use mathlib.Core.Bool.{Bool, true, false, ◌&&◌, ◌||◌, false≢true}
use mathlib.Core.List.{List, ◌∷◌, map}
use mathlib.Core.Path.{◌≡◌, refl, sym, ap, ◌∙◌}
use Prim.Native.Nat.{ℕ}
use lib.Dec.{leb, eqb}
use lib.ListN.{length}
use Rattle.contexts.specs.declared.Context.{Context}
use Rattle.contexts.specs.declared.Context.TheVariants.{Segwitv0, Tap}
use Rattle.contexts.specs.Leaves.{LockKind, After, Older, HashKind, Sha256, Hash256, Ripemd160, Hash160}
use Rattle.types.specs.TypeRules as type
use Rattle.figures.specs.declared.ExtData.{ExtData}
use Rattle.figures.specs.Rules as ext
use Rattle.figures.specs.Validity.{check_local_validity, from_ast}
use Rattle.thresholds.specs.Threshold.{threshold}
use Rattle.costs.specs.declared.Cost.{Cost}
use Rattle.costs.specs.Rules as cost
use Rattle.trees.specs.Fragment.{Fragment, False, True, PkK, PkH, Lock, Hash}
use Rattle.trees.specs.Fragment.{Alt, Swap, Check, DupIf, Verify, NonZero, ZeroNotEqual}
use Rattle.trees.specs.Fragment.{AndB, AndV, OrB, OrD, OrC, OrI, AndOr, Thresh, Multi, MultiA}
use Rattle.trees.specs.Height.{max_height}
use Rattle.walk.specs.Heads.{head_of}
use Rattle.definition.specs.Candidates.{Candidate, kind_of, typed_as, Made, made_as, if_valid, fragments, thresh_of}
use Rattle.definition.specs.Candidates.{false', true', pk_k, pk_h, lock, hash, multi, all_casts}
use Rattle.definition.specs.Insertion.{worthwhile, height}
use Rattle.definition_laws.specs.Laws.{figures_of, figures_of_all, All, nobody, ◌and◌, IfSome, none_is, some_is, IfMade, passed_is, missing_is, made_is}
use Rattle.tree_figures.specs.LocallyValid.{everywhere, everywhere_in, valid}
use Rattle.valid_laws.specs.CompiledValid.{is_false, valid_or_false}
use Rattle.valid_laws.proofs.Searching.{Closed}

-- ---- both, and either

and_intro : {a b : Bool} → a ≡ true → b ≡ true → a && b ≡ true
and_intro h k = rw (h, k)

and_first : (a b : Bool) → a && b ≡ true → a ≡ true
and_first true b h = refl
and_first false b h = absurd (false≢true h)

and_second : (a b : Bool) → a && b ≡ true → b ≡ true
and_second true b h = h
and_second false b h = absurd (false≢true h)

or-second : (a b : Bool) → b ≡ true → a || b ≡ true
or-second true b h = refl
or-second false b h = h

-- ---- the test asks of a kind only whether it is a Multi or a MultiA, which is all that the definition of compile tells it

same_test : (c : Context) (j k : ℕ) (x : ExtData) → eqb j 57 ≡ eqb k 57 → eqb j 58 ≡ eqb k 58
    → check_local_validity c j x ≡ check_local_validity c k x
unfolding check_local_validity
same_test Segwitv0 j k x p q = rw q
same_test Tap j k x p q = rw p

abbrev SameTests : Fragment → Type 0
SameTests f = (eqb (kind_of f) 57 ≡ eqb (head_of f).kind 57) × (eqb (kind_of f) 58 ≡ eqb (head_of f).kind 58)

same-kinds : (f : Fragment) → SameTests f
unfolding head_of
same-kinds False = (refl, refl)
same-kinds True = (refl, refl)
same-kinds (PkK n) = (refl, refl)
same-kinds (PkH n) = (refl, refl)
same-kinds (Lock After n) = (refl, refl)
same-kinds (Lock Older n) = (refl, refl)
same-kinds (Hash Sha256 h) = (refl, refl)
same-kinds (Hash Hash256 h) = (refl, refl)
same-kinds (Hash Ripemd160 h) = (refl, refl)
same-kinds (Hash Hash160 h) = (refl, refl)
same-kinds (Alt x) = (refl, refl)
same-kinds (Swap x) = (refl, refl)
same-kinds (Check x) = (refl, refl)
same-kinds (DupIf x) = (refl, refl)
same-kinds (Verify x) = (refl, refl)
same-kinds (NonZero x) = (refl, refl)
same-kinds (ZeroNotEqual x) = (refl, refl)
same-kinds (AndB x y) = (refl, refl)
same-kinds (AndV x y) = (refl, refl)
same-kinds (OrB x y) = (refl, refl)
same-kinds (OrD x y) = (refl, refl)
same-kinds (OrC x y) = (refl, refl)
same-kinds (OrI x y) = (refl, refl)
same-kinds (AndOr x y z) = (refl, refl)
same-kinds (Thresh k xs) = (refl, refl)
same-kinds (Multi k keys) = (refl, refl)
same-kinds (MultiA k keys) = (refl, refl)

module _ (c : Context) where
  -- what is tested of a candidate with the figures of its tree is the tree's own validity
  tested : (x : Candidate) → x.ext ≡ figures_of c x.tree → worthwhile c x ≡ true → valid c x.tree ≡ true
  tested x e w =
      let test = check_local_validity c (kind_of x.tree) x.ext in
      let passed : test ≡ true =
      and_second x.ty.mall.non_malleable test (and_first (x.ty.mall.non_malleable && test) (leb (height x) max_height) w) in
      let k = same-kinds x.tree in
      sym (same_test c (kind_of x.tree) (head_of x.tree).kind (figures_of c x.tree) k.0 k.1)
      ∙ ap (check_local_validity c (kind_of x.tree)) (sym e) ∙ passed

  -- ---- before the test and after it

  abbrev Whole : Fragment → Type 0
  Whole f = everywhere (valid_or_false c) f ≡ true

  pub record Offer (x : Candidate) : Type 0 where
    pub figured : x.ext ≡ figures_of c x.tree
    pub whole : valid c x.tree ≡ true → Whole x.tree

  pub record Entry (x : Candidate) : Type 0 where
    pub figured : x.ext ≡ figures_of c x.tree
    pub whole : Whole x.tree

  own : (f : Fragment) → valid c f ≡ true → valid_or_false c f ≡ true
  own f v = or-second (is_false f) (valid c f) v

  typed-as : (r : Result «Type» TypeError) (f : Fragment) (e : ExtData) (k : Cost) → e ≡ figures_of c f → (valid c f ≡ true → Whole f)
      → IfSome Offer (typed_as r f e k)
  typed-as (Ok t) f e k p q = some_is (record { figured = p; whole = q })
  typed-as (Err TypeError.IllTyped) f e k p q = none_is

  made-as : (r : Result «Type» TypeError) (f : Fragment) (e : ExtData) (k : Option Cost) → e ≡ figures_of c f → (valid c f ≡ true → Whole f)
      → IfMade Offer (made_as r f e k)
  made-as (Ok t) f e (Some k) p q = made_is (record { figured = p; whole = q })
  made-as (Ok t) f e None p q = missing_is
  made-as (Err TypeError.IllTyped) f e k p q = passed_is

  figures₂ : {d e d' e' : ExtData} (rule : ExtData → ExtData → ExtData) → d ≡ d' → e ≡ e' → rule d e ≡ rule d' e'
  figures₂ rule p q = cc

  figures₃ : {d e f d' e' f' : ExtData} (rule : ExtData → ExtData → ExtData → ExtData) → d ≡ d' → e ≡ e' → f ≡ f' → rule d e f ≡ rule d' e' f'
  figures₃ rule p q r = cc

  -- ---- leaves

  false-whole : Whole False
  unfolding everywhere head_of
  false-whole = refl

  true-whole : Whole True
  unfolding everywhere head_of figures_of check_local_validity ext.true_ext
  true-whole = by-context c
    where
      by-context : (c : Context) → everywhere (valid_or_false c) True ≡ true
      by-context Segwitv0 = refl
      by-context Tap = refl

  a-false : Offer false'
  unfolding figures_of
  a-false = record { figured = refl; whole = λ v. false-whole }

  a-true : Offer true'
  unfolding figures_of
  a-true = record { figured = refl; whole = λ v. true-whole }

  a-pk-k : (n : ℕ) → Offer (pk_k c n)
  unfolding figures_of everywhere
  a-pk-k n = record { figured = refl; whole = λ v. own (PkK n) v }

  a-pk-h : (n : ℕ) → Offer (pk_h c n)
  unfolding figures_of everywhere
  a-pk-h n = record { figured = refl; whole = λ v. own (PkH n) v }

  a-lock : (kind : LockKind) (n : ℕ) → Offer (lock kind n)
  unfolding figures_of everywhere
  a-lock kind n = record { figured = refl; whole = λ v. own (Lock kind n) v }

  a-hash : (kind : HashKind) (n : ℕ) → Offer (hash kind n)
  unfolding figures_of everywhere
  a-hash kind n = record { figured = refl; whole = λ v. own (Hash kind n) v }

  -- ---- wrappers, pairs and triples

  module _ (x : Candidate) (g : Entry x) where
    in_one : (f : Fragment) → valid c f ≡ true → valid_or_false c f && everywhere (valid_or_false c) x.tree ≡ true
    in_one f v = and_intro (own f v) g.whole

    likely : IfSome Offer (typed_as (type.cast_likely x.ty) (OrI False x.tree) (ext.cast_likely x.ext) (cost.cast_likely x.cost))
    unfolding figures_of everywhere ext.cast_likely
    likely =
        typed-as (type.cast_likely x.ty) (OrI False x.tree) (ext.cast_likely x.ext) (cost.cast_likely x.cost)
        (ap (λ e. ext.or_i ext.false_ext e) g.figured) (λ v. and_intro (own (OrI False x.tree) v) (and_intro false-whole g.whole))

    unlikely : IfSome Offer (typed_as (type.cast_unlikely x.ty) (OrI x.tree False) (ext.cast_unlikely x.ext) (cost.cast_unlikely x.cost))
    unfolding figures_of everywhere ext.cast_unlikely
    unlikely =
        typed-as (type.cast_unlikely x.ty) (OrI x.tree False) (ext.cast_unlikely x.ext) (cost.cast_unlikely x.cost)
        (ap (λ e. ext.or_i e ext.false_ext) g.figured) (λ v. and_intro (own (OrI x.tree False) v) (and_intro g.whole false-whole))

    with-true : IfSome Offer (typed_as (type.cast_true x.ty) (AndV x.tree True) (ext.cast_true x.ext) (cost.cast_true x.cost))
    unfolding figures_of everywhere ext.cast_true
    with-true =
        typed-as (type.cast_true x.ty) (AndV x.tree True) (ext.cast_true x.ext) (cost.cast_true x.cost)
        (ap (λ e. ext.and_v e ext.true_ext) g.figured) (λ v. and_intro (own (AndV x.tree True) v) (and_intro g.whole true-whole))

  casts : All (λ f. (x : Candidate) → Entry x → IfSome Offer (f x)) (all_casts c)
  unfolding figures_of everywhere
  casts =
      (λ x g. typed-as (type.cast_check x.ty) (Check x.tree) _ _ (ap ext.cast_check g.figured) (in_one x g (Check x.tree)))
      and (λ x g. typed-as (type.cast_dupif c x.ty) (DupIf x.tree) _ _ (ap ext.cast_dupif g.figured) (in_one x g (DupIf x.tree)))
      and likely
      and unlikely
      and (λ x g. typed-as (type.cast_verify x.ty) (Verify x.tree) _ _ (ap ext.cast_verify g.figured) (in_one x g (Verify x.tree)))
      and (λ x g. typed-as (type.cast_nonzero x.ty) (NonZero x.tree) _ _ (ap ext.cast_nonzero g.figured) (in_one x g (NonZero x.tree)))
      and with-true
      and (λ x g. typed-as (type.cast_swap x.ty) (Swap x.tree) _ _ (ap ext.cast_swap g.figured) (in_one x g (Swap x.tree)))
      and (λ x g. typed-as (type.cast_alt x.ty) (Alt x.tree) _ _ (ap ext.cast_alt g.figured) (in_one x g (Alt x.tree)))
      and (λ x g. typed-as (type.cast_zeronotequal x.ty) (ZeroNotEqual x.tree) _ _ (ap ext.cast_zeronotequal g.figured) (in_one x g (ZeroNotEqual x.tree)))
      and nobody

  module _ (l r : Candidate) (g : Entry l) (h : Entry r) where
    pair_of : (t : Result «Type» TypeError) (f : Fragment) (rule : ExtData → ExtData → ExtData) (k : Option Cost)
        → figures_of c f ≡ rule (figures_of c l.tree) (figures_of c r.tree)
        → everywhere (valid_or_false c) f ≡ valid_or_false c f && (everywhere (valid_or_false c) l.tree && everywhere (valid_or_false c) r.tree)
        → IfMade Offer (made_as t f (rule l.ext r.ext) k)
    pair_of t f rule k e w =
        made-as t f (rule l.ext r.ext) k (figures₂ rule g.figured h.figured ∙ sym e)
        (λ v. w ∙ and_intro (own f v) (and_intro g.whole h.whole))

  triple-of : (x y z : Candidate) → Entry x → Entry y → Entry z → (t : Result «Type» TypeError) (k : Option Cost)
      → IfMade Offer (made_as t (AndOr x.tree y.tree z.tree) (ext.and_or x.ext y.ext z.ext) k)
  unfolding figures_of everywhere
  triple-of x y z g h i t k =
      made-as t (AndOr x.tree y.tree z.tree) (ext.and_or x.ext y.ext z.ext) k (figures₃ ext.and_or g.figured h.figured i.figured)
      (λ v. and_intro (own (AndOr x.tree y.tree z.tree) v) (and_intro g.whole (and_intro h.whole i.whole)))

  -- ---- thresholds

  figures-of : {xs : List Candidate} → All Entry xs → map (λ x. x.ext) xs ≡ figures_of_all c (fragments xs)
  unfolding figures_of fragments
  figures-of nobody = refl
  figures-of (g and gs) = both g.figured (figures-of gs)
    where
      both : {e d : ExtData} {es ds : List ExtData} → e ≡ d → es ≡ ds → e ∷ es ≡ d ∷ ds
      both p q = cc

  wholes-of : {xs : List Candidate} → All Entry xs → everywhere_in (valid_or_false c) (fragments xs) ≡ true
  unfolding everywhere fragments
  wholes-of nobody = refl
  wholes-of (g and gs) = and_intro g.whole (wholes-of gs)

  if-valid : {P : Candidate → Type 0} {m : Made} (b : Bool) → IfMade P m → IfMade P (if_valid b m)
  if-valid true h = h
  if-valid false h = passed_is

  thresh : (k : ℕ) {xs : List Candidate} → All Entry xs → IfMade Offer (thresh_of c k xs)
  unfolding thresh_of figures_of everywhere
  thresh k {xs} gs =
      if-valid (from_ast c 0 (threshold k (map (λ x. x.ext) xs)))
      (made-as (type.threshold k (map (λ x. x.ty) xs)) (Thresh k (fragments xs)) (threshold k (map (λ x. x.ext) xs))
      (cost.threshold k (length xs) (map (λ x. x.cost) xs))
      (ap (threshold k) (figures-of gs)) (λ v. and_intro (own (Thresh k (fragments xs)) v) (wholes-of gs)))

  a-multi : (k : ℕ) (keys : List ℕ) → Offer (multi c k keys)
  unfolding figures_of everywhere
  a-multi k keys = by-context c
    where
      by-context : (d : Context) → Offer (multi d k keys)
      by-context Segwitv0 = record { figured = refl; whole = λ v. own (Multi k keys) v }
      by-context Tap = record { figured = refl; whole = λ v. own (MultiA k keys) v }

  -- ---- so it is one

  pub validity-closed : Closed c Offer Entry
  unfolding figures_of everywhere
  validity-closed =
      record {
        enters = λ x o w. record { figured = o.figured; whole = o.whole (tested x o.figured w) };
        casts = casts;
        and-b = λ p q l r g h. pair_of l r g h (type.and_b l.ty r.ty) (AndB l.tree r.tree) ext.and_b _ refl refl;
        and-v = λ p q l r g h. pair_of l r g h (type.and_v l.ty r.ty) (AndV l.tree r.tree) ext.and_v _ refl refl;
        or-b = λ p q l r g h. pair_of l r g h (type.or_b l.ty r.ty) (OrB l.tree r.tree) ext.or_b _ refl refl;
        or-d = λ p q l r g h. pair_of l r g h (type.or_d l.ty r.ty) (OrD l.tree r.tree) ext.or_d _ refl refl;
        or-c = λ p q l r g h. pair_of l r g h (type.or_c l.ty r.ty) (OrC l.tree r.tree) ext.or_c _ refl refl;
        or-i = λ p q l r g h. pair_of l r g h (type.or_i l.ty r.ty) (OrI l.tree r.tree) ext.or_i _ refl refl;
        and-or = λ p q x y z g h i. triple-of x y z g h i (type.and_or x.ty y.ty z.ty) (cost.and_or x.cost y.cost z.cost p q);
        thresh = thresh;
        a-false = a-false;
        a-true = a-true;
        a-pk-k = a-pk-k;
        a-pk-h = a-pk-h;
        a-lock = a-lock;
        a-hash = a-hash;
        a-multi = a-multi;
        no_third = record { figured = refl; whole = false-whole };
      }
