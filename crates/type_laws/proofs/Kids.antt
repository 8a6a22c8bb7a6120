-- A type seen without its input but for z: what the pair and triple rules keep can be computed over these few. Assumes nothing.
use mathlib.Core.Path.{◌≡◌, refl, ap}
use mathlib.Core.Bool.{Bool, true, cond, not, ◌&&◌}
use Rattle.correctness.specs.declared.Base.{Base}
use Rattle.correctness.specs.declared.Base.TheVariants.{B, K, «V», W}
use Rattle.correctness.specs.declared.Input.{Input}
use Rattle.malleability.specs.declared.Dissat.{Dissat}
use Rattle.malleability.specs.declared.Malleability.{Malleability}
use Rattle.types.specs.declared.«Type».{«Type»}
use Rattle.correctness.specs.Letters.{is_k, is_v, is_w, is_zero, is_any}
use Rattle.malleability.specs.Letters.{is_none, is_unique}
use Rattle.contexts.specs.Bools.{implies}
use Rattle.correctness.specs.CorrectnessRules.{correctness}
use Rattle.types.specs.Sanity.{sane_corr, sane, arises}
use Rattle.contexts.proofs.Bools.{and_l, and_r, and_i, modus}
use Rattle.types.proofs.Finite.{Finite, bools, inputs, dissats}

-- every pair of values, and laws of one, two and three values

abbrev pub pairs : {A C : Type 0} → Finite A → Finite C → Finite (A × C)
pairs {A} {C} f g =
    record {
      every = λ p. f.every (λ a. g.every (λ c. p (a, c)));
      at = λ p h x. g.at (λ c. p (x.0, c)) (f.at (λ a. g.every (λ c. p (a, c))) h x.0) x.1;
    }

pub law-1 : {A : Type 0} (f : Finite A) (p r : A → Bool) → f.every (λ a. implies (p a) (r a)) ≡ true → (a : A) → p a ≡ true → r a ≡ true
law-1 f p r h a k = modus (p a) (r a) (f.at (λ a. implies (p a) (r a)) h a) k

pub law-2 : {A C : Type 0} (f : Finite A) (g : Finite C) (p : A → Bool) (q r : A → C → Bool)
    → f.every (λ a. implies (p a) (g.every (λ c. implies (q a c) (r a c)))) ≡ true
    → (a : A) (c : C) → p a ≡ true → q a c ≡ true → r a c ≡ true
law-2 f g p q r h a c k = law-1 g (q a) (r a) (law-1 f p (λ a. g.every (λ c. implies (q a c) (r a c))) h a k) c

pub law-3 : {A C D : Type 0} (f : Finite A) (g : Finite C) (e : Finite D) (p : A → Bool) (q : A → C → Bool) (s r : A → C → D → Bool)
    → f.every (λ a. implies (p a) (g.every (λ c. implies (q a c) (e.every (λ d. implies (s a c d) (r a c d)))))) ≡ true
    → (a : A) (c : C) (d : D) → p a ≡ true → q a c ≡ true → s a c d ≡ true → r a c d ≡ true
law-3 f g e p q s r h a c d k l = law-1 e (s a c) (r a c) (law-2 f g p q (λ a c. e.every (λ d. implies (s a c d) (r a c d))) h a c k l) d

-- whether z, then d, u, the dissat, s and m
abbrev pub Kid : Type 0
Kid = Bool × (Bool × (Bool × (Dissat × (Bool × Bool))))

abbrev pub kids : Finite Kid
kids = pairs bools (pairs bools (pairs bools (pairs dissats (pairs bools bools))))

abbrev pub whole : Bool → Bool → Bool → Malleability → Kid
whole z d u m = (z, (d, (u, (m.dissat, (m.safe, m.non_malleable)))))

abbrev pub kid : «Type» → Kid
kid t = whole (is_zero t.corr.input) t.corr.dissatisfiable t.corr.unit t.mall

abbrev pub mall_of : Kid → Malleability
mall_of k = record { dissat = k.1.1.1.0; safe = k.1.1.1.1.0; non_malleable = k.1.1.1.1.1 }

-- what `arises` says of a type of base b: the checks of a W are replaced by one of its z
abbrev ok_of : Base → Bool → Bool → Bool → Malleability → Bool
ok_of b z d u m =
    ((implies (is_k b) u && (implies (is_v b) (not u && not d) && true))
    && (implies d (not (is_none m.dissat))
    && (implies (is_v b) (is_none m.dissat) && (implies (is_k b) m.safe && implies z m.non_malleable))))
    && (implies (z && d) (is_unique m.dissat && m.safe) && (implies (is_k b) (not z) && implies (is_w b) (not z)))

abbrev pub ok : Base → Kid → Bool
ok b k = ok_of b k.0 k.1.0 k.1.1.0 (mall_of k)

no-z : (i : Input) → is_any i ≡ true → not (is_zero i) ≡ true
no-z = law-1 inputs is_any (λ i. not (is_zero i)) refl

-- the same type with another base
abbrev based : Base → «Type» → «Type»
based b t =
    record {
      corr = record { base = b; input = t.corr.input; dissatisfiable = t.corr.dissatisfiable; unit = t.corr.unit };
      mall = t.mall;
    }

pub up : (t : «Type») → arises t ≡ true → ok t.corr.base (kid t) ≡ true
up t h = go t.corr.base h
  where
    go : (b : Base) → arises (based b t) ≡ true → ok b (kid t) ≡ true
    go B h = h
    go K h = h
    go «V» h = h
    go W h =
        let first = and_l (sane (based W t)) _ h in
        let second = and_r (sane (based W t)) _ h in
        let zero-d = implies (is_zero t.corr.input && t.corr.dissatisfiable) (is_unique t.mall.dissat && t.mall.safe) in
        and_i _ _ (and_r (sane_corr (based W t).corr) _ first)
        (and_i zero-d _ (and_l zero-d _ second) (no-z t.corr.input (and_r zero-d _ second)))

pub down : (b : Base) (i : Input) (d u : Bool) (m : Malleability) → not (is_w b) ≡ true → ok b (whole (is_zero i) d u m) ≡ true
    → arises (record { corr = correctness b i d u; mall = m }) ≡ true
down B i d u m n h = h
down K i d u m n h = h
down «V» i d u m n h = h
down W i d u m n h = ap (λ (x : Bool). cond x true (arises (record { corr = correctness W i d u; mall = m }))) n
