-- What is made of candidates means what is made of their meanings: leaves, casts, pairs, triples and thresholds.
use Rattle.types.specs.declared.«Type».{«Type»}
use Rattle.correctness.specs.declared.TypeError.TheVariants as TypeError
use Rattle.correctness.specs.declared.TypeError.{TypeError}
use mathlib.Core.Bool.{Bool, true, false, cond, ◌&&◌, ◌||◌}
use mathlib.Core.List.{List, [], ◌∷◌, map}
use Rattle.std.specs.Prelude.{Option, None, Some, Result, Ok, Err}
use mathlib.Core.Path.{◌≡◌, refl, sym, ap, ◌∙◌}
use Prim.Native.Nat.{ℕ, zero, suc, ◌+◌, ◌<◌}
use native.Mathlib.Omega.{arith}
use borrow.Author.Tests.{eqb-true, eq-eqb, ne_eqb}
use lib.Dec.{leb, eqb}
use lib.ListN.{length}
use lib.Ieee.{Float}
use Rattle.contexts.specs.declared.Context.{Context}
use Rattle.contexts.specs.declared.Context.TheVariants.{Segwitv0, Tap}
use Rattle.contexts.specs.Lists.{one}
use Rattle.figures.specs.declared.ExtData.{ExtData}
use Rattle.figures.specs.Validity.{from_ast}
use Rattle.thresholds.specs.Threshold.{threshold}
use Rattle.costs.specs.declared.Cost.{Cost}
use Rattle.costs.specs.Rules as cost
use Rattle.types.specs.TypeRules as type
use Rattle.trees.specs.Fragment.{Fragment, False, True, Alt, Swap, Check, DupIf, Verify, NonZero, ZeroNotEqual}
use Rattle.trees.specs.Fragment.{AndB, AndV, OrB, OrD, OrC, OrI, AndOr, Thresh}
use Rattle.definition.specs.Candidates.{Candidate, Cast, all_casts, typed_as, Made, made_as, if_valid, Pair}
use Rattle.definition.specs.Candidates.{and_b, and_v, or_b, or_d, or_c, or_i, and_or, fragments, thresh_of, multi}
use Rattle.definition.specs.Search.{Best, nth, others_as_w, arranged}
use Rattle.definition_laws.specs.Laws as laws
use Rattle.definition_laws.specs.Laws.{All, ◌and◌, IfSome, none_is, some_is, IfMade, passed_is, missing_is, made_is}
use Rattle.meaning.specs.Meaning.{Assignment, tree_means, trees_mean, keys_mean, count_true, at_least}
use Rattle.meaning.proofs.Counts.{and-true, or-false}
use Rattle.meaning.proofs.Keeping.{Means}

module _ (a : Assignment) where
  -- ---- casts

  typed-means : {v : Bool} (r : Result «Type» TypeError) (f : Fragment) (e : ExtData) (c : Cost) → tree_means a f ≡ v → IfSome (Means a v) (typed_as r f e c)
  typed-means (Ok t) f e c h = some_is (record { means = h })
  typed-means (Err TypeError.IllTyped) f e c h = none_is

  -- a cast means what it casts
  abbrev pub CastsMeaning : Cast → Type 0
  CastsMeaning f = (v : Bool) (x : Candidate) → Means a v x → IfSome (Means a v) (f x)

  pub casts-mean : (c : Context) → All CastsMeaning (all_casts c)
  unfolding tree_means
  casts-mean c =
      (λ v x h. typed-means (type.cast_check x.ty) (Check x.tree) _ _ h.means)
      and (λ v x h. typed-means (type.cast_dupif c x.ty) (DupIf x.tree) _ _ h.means)
      and (λ v x h. typed-means (type.cast_likely x.ty) (OrI False x.tree) _ _ h.means)
      and (λ v x h. typed-means (type.cast_unlikely x.ty) (OrI x.tree False) _ _ (or-false (tree_means a x.tree) ∙ h.means))
      and (λ v x h. typed-means (type.cast_verify x.ty) (Verify x.tree) _ _ h.means)
      and (λ v x h. typed-means (type.cast_nonzero x.ty) (NonZero x.tree) _ _ h.means)
      and (λ v x h. typed-means (type.cast_true x.ty) (AndV x.tree True) _ _ (and-true (tree_means a x.tree) ∙ h.means))
      and (λ v x h. typed-means (type.cast_swap x.ty) (Swap x.tree) _ _ h.means)
      and (λ v x h. typed-means (type.cast_alt x.ty) (Alt x.tree) _ _ h.means)
      and (λ v x h. typed-means (type.cast_zeronotequal x.ty) (ZeroNotEqual x.tree) _ _ h.means)
      and laws.nobody

  -- ---- pairs and triples

  made-means : {v : Bool} (r : Result «Type» TypeError) (f : Fragment) (e : ExtData) (c : Option Cost) → tree_means a f ≡ v → IfMade (Means a v) (made_as r f e c)
  made-means (Ok t) f e (Some c) h = made_is (record { means = h })
  made-means (Ok t) f e None h = missing_is
  made-means (Err TypeError.IllTyped) f e c h = passed_is

  -- a pair means its two sides, joined
  abbrev pub PairsMeaning : (Bool → Bool → Bool) → Pair → Type 0
  PairsMeaning join f =
      (p q : Float) (l r : Candidate) (u v : Bool) → Means a u l → Means a v r → IfMade (Means a (join u v)) (f p q l r)

  module _ (p q : Float) (l r : Candidate) (u v : Bool) (h : Means a u l) (k : Means a v r) where
    pub and_b-means : IfMade (Means a (u && v)) (and_b p q l r)
    unfolding tree_means
    and_b-means = made-means (type.and_b l.ty r.ty) (AndB l.tree r.tree) _ _ (rw (h.means, k.means))

    pub and_v-means : IfMade (Means a (u && v)) (and_v p q l r)
    unfolding tree_means
    and_v-means = made-means (type.and_v l.ty r.ty) (AndV l.tree r.tree) _ _ (rw (h.means, k.means))

    pub or_b-means : IfMade (Means a (u || v)) (or_b p q l r)
    unfolding tree_means
    or_b-means = made-means (type.or_b l.ty r.ty) (OrB l.tree r.tree) _ _ (rw (h.means, k.means))

    pub or_d-means : IfMade (Means a (u || v)) (or_d p q l r)
    unfolding tree_means
    or_d-means = made-means (type.or_d l.ty r.ty) (OrD l.tree r.tree) _ _ (rw (h.means, k.means))

    pub or_c-means : IfMade (Means a (u || v)) (or_c p q l r)
    unfolding tree_means
    or_c-means = made-means (type.or_c l.ty r.ty) (OrC l.tree r.tree) _ _ (rw (h.means, k.means))

    pub or_i-means : IfMade (Means a (u || v)) (or_i p q l r)
    unfolding tree_means
    or_i-means = made-means (type.or_i l.ty r.ty) (OrI l.tree r.tree) _ _ (rw (h.means, k.means))

  pub and_or-means : (p q : Float) (x y z : Candidate) (u v w : Bool) → Means a u x → Means a v y → Means a w z →
      IfMade (Means a ((u && v) || w)) (and_or p q x y z)
  unfolding tree_means
  and_or-means p q x y z u v w h k l =
      made-means (type.and_or x.ty y.ty z.ty) (AndOr x.tree y.tree z.tree) _ _ (rw (h.means, k.means, l.means))

  -- ---- thresholds

  -- the best expressions of a child mean it; those of some children mean a row of values, each its own
  pub record BestMeans (v : Bool) (b : Best) : Type 0 where
    pub e : Means a v b.e
    pub w : Means a v b.w

  pub data BestsMean : List Bool → List Best → Type 0 where
    nobody : BestsMean [] []
    next : {v : Bool} {b : Best} {vs : List Bool} {bs : List Best} → BestMeans v b → BestsMean vs bs → BestsMean (v ∷ vs) (b ∷ bs)

  -- how many of some candidates hold
  abbrev counted : List Candidate → ℕ
  counted xs = count_true (trees_mean a (fragments xs))

  -- the others as W, where the E was none of them
  others-past : {v₀ : Bool} {b : Best} (m place : ℕ) {vs : List Bool} {bs : List Best} → m < place → BestMeans v₀ b → BestsMean vs bs →
      counted (others_as_w b m place bs) ≡ count_true vs
  unfolding others_as_w fragments trees_mean count_true
  others-past m place l h nobody = refl
  others-past {b} m place l h (next {v} {b = x} {vs} {bs} k ks) =
      let off : eqb place m ≡ false = ne_eqb place m (omega (arith, l)) in
      rw (off, k.w.means, others-past m (suc place) (omega (arith, l)) h ks)

  -- the one that became the E, and the others as W, the first of all in its place: as many hold as of all
  others-and : {v₀ : Bool} {b : Best} (j m place : ℕ) {vs : List Bool} {bs : List Best} → m ≡ place + j → BestMeans v₀ b → BestsMean vs bs →
      one (tree_means a (nth j b bs).e.tree) + counted (others_as_w b m place bs) ≡ one v₀ + count_true vs
  unfolding others_as_w fragments trees_mean count_true
  others-and j m place l h nobody = rw h.e.means
  others-and {v₀} {b} zero m place l h (next {v} {b = x} {vs} {bs} k ks) =
      let on : eqb place m ≡ true = eq-eqb place m (omega (arith, l)) in
      let rest = others-past m (suc place) (omega (arith, l)) h ks in
      rw (on, h.w.means, k.e.means, rest) (swapped (one v) (one v₀) (count_true vs))
    where
      swapped : (x y z : ℕ) → x + (y + z) ≡ y + (x + z)
      swapped x y z = omega arith
  others-and {v₀} {b} (suc j) m place l h (next {v} {b = x} {vs} {bs} k ks) =
      let off : eqb place m ≡ false = ne_eqb place m (omega (arith, l)) in
      let rest = others-and j m (suc place) (omega (arith, l)) h ks in
      rw (off, k.w.means)
      (moved (one (tree_means a (nth j b bs).e.tree)) (one v) (counted (others_as_w b m (suc place) bs)) (one v₀) (count_true vs) rest)
    where
      moved : (x y z u w : ℕ) → x + z ≡ u + w → x + (y + z) ≡ u + (y + w)
      moved x y z u w h = omega (arith, h)

  pub arranged-counts : (m : ℕ) {vs : List Bool} {bs : List Best} → BestsMean vs bs → counted (arranged m bs) ≡ count_true vs
  unfolding arranged fragments trees_mean count_true
  arranged-counts m nobody = refl
  arranged-counts zero (next {v} {b} {vs} {bs} h hs) = rw (h.e.means, others-past 0 1 (omega arith) h hs)
  arranged-counts (suc m) (next {v} {b} {vs} {bs} h hs) = others-and m (suc m) 1 (omega arith) h hs

  if-valid : {P : Candidate → Type 0} {m : Made} (b : Bool) → IfMade P m → IfMade P (if_valid b m)
  if-valid true h = h
  if-valid false h = passed_is

  -- a Thresh over some children means at least k of them
  pub thresh-means : (c : Context) (k m : ℕ) {vs : List Bool} {bs : List Best} → BestsMean vs bs →
      IfMade (Means a (at_least k vs)) (thresh_of c k (arranged m bs))
  unfolding thresh_of tree_means
  thresh-means c k m {vs} {bs} h =
      if-valid (from_ast c 0 (threshold k (map (λ x. x.ext) (arranged m bs))))
      (made-means (type.threshold k (map (λ x. x.ty) (arranged m bs))) (Thresh k (fragments (arranged m bs)))
      (threshold k (map (λ x. x.ext) (arranged m bs))) (cost.threshold k (length (arranged m bs)) (map (λ x. x.cost) (arranged m bs)))
      (ap (leb k) (arranged-counts m h)))

  -- so does a Multi or a MultiA over its keys
  pub multi-means : (c : Context) (k : ℕ) (keys : List ℕ) → Means a (at_least k (keys_mean a keys)) (multi c k keys)
  unfolding tree_means
  multi-means Segwitv0 k keys = record { means = refl }
  multi-means Tap k keys = record { means = refl }
