-- Being a subtype is reflexive, transitive and antisymmetric, over every type. Assumes nothing.
use mathlib.Core.Path.{◌≡◌, refl, sym, ap, ◌∙◌}
use mathlib.Core.Bool.{Bool, true, ◌&&◌}
use Prim.Native.Nat.{ℕ}
use lib.Dec.{eqb}
use borrow.Author.Tests.{eqb-true}
use Rattle.correctness.specs.declared.Correctness.{Correctness}
use Rattle.malleability.specs.declared.Malleability.{Malleability}
use Rattle.types.specs.declared.«Type».{«Type»}
use Rattle.correctness.specs.Letters.{base_eq}
use Rattle.contexts.specs.Bools.{implies, bool_rank, bool_of}
use Rattle.correctness.specs.Subtype.{input_sub, corr_sub}
use Rattle.malleability.specs.Subtype.{dissat_sub, mall_sub}
use Rattle.types.specs.Subtype.{type_sub}
use Rattle.correctness.specs.Digits.{base_rank, input_rank, base_of, input_of}
use Rattle.malleability.specs.Digits.{dissat_rank, dissat_of}
use Rattle.contexts.proofs.Bools.{and_l, and_r, and_i, modus}
use Rattle.types.proofs.Finite.{Finite, bools, bases, inputs, dissats}
use Rattle.correctness.proofs.Digits.{base-of, input-of}
use Rattle.malleability.proofs.Digits.{dissat-of}
use Rattle.contexts.proofs.Bools.{bool-of}

-- the three laws of a relation, computed over all values

abbrev Reflexive : {A : Type 0} → (A → A → Bool) → Type 0
Reflexive {A} r = (a : A) → r a a ≡ true

abbrev Transitive : {A : Type 0} → (A → A → Bool) → Type 0
Transitive {A} r = (a b c : A) → r a b ≡ true → r b c ≡ true → r a c ≡ true

abbrev Antisymmetric : {A : Type 0} → (A → A → Bool) → Type 0
Antisymmetric {A} r = (a b : A) → r a b ≡ true → r b a ≡ true → a ≡ b

transitive : {A : Type 0} (f : Finite A) (r : A → A → Bool)
    → f.every (λ a. f.every (λ b. f.every (λ c. implies (r a b && r b c) (r a c)))) ≡ true → Transitive r
transitive f r h a b c k l =
    modus (r a b && r b c) (r a c)
    (f.at (λ c. implies (r a b && r b c) (r a c))
    (f.at (λ b. f.every (λ c. implies (r a b && r b c) (r a c)))
    (f.at (λ a. f.every (λ b. f.every (λ c. implies (r a b && r b c) (r a c)))) h a) b) c)
    (and_i (r a b) (r b c) k l)

antisymmetric : {A : Type 0} (f : Finite A) (r : A → A → Bool) (rank : A → ℕ) (of : ℕ → A) → ((a : A) → of (rank a) ≡ a)
    → f.every (λ a. f.every (λ b. implies (r a b && r b a) (eqb (rank a) (rank b)))) ≡ true → Antisymmetric r
antisymmetric f r rank of back h a b k l =
    sym (back a)
    ∙ ap of
    (eqb-true (rank a) (rank b)
    (modus (r a b && r b a) (eqb (rank a) (rank b))
    (f.at (λ b. implies (r a b && r b a) (eqb (rank a) (rank b)))
    (f.at (λ a. f.every (λ b. implies (r a b && r b a) (eqb (rank a) (rank b)))) h a) b)
    (and_i (r a b) (r b a) k l)))
    ∙ back b

-- a property of y is one of x
abbrev has : Bool → Bool → Bool
has x y = implies y x

base-trans : Transitive base_eq
base-trans = transitive bases base_eq refl

input-trans : Transitive input_sub
input-trans = transitive inputs input_sub refl

dissat-trans : Transitive dissat_sub
dissat-trans = transitive dissats dissat_sub refl

has-trans : Transitive has
has-trans = transitive bools has refl

base-antisym : Antisymmetric base_eq
base-antisym = antisymmetric bases base_eq base_rank base_of base-of refl

input-antisym : Antisymmetric input_sub
input-antisym = antisymmetric inputs input_sub input_rank input_of input-of refl

dissat-antisym : Antisymmetric dissat_sub
dissat-antisym = antisymmetric dissats dissat_sub dissat_rank dissat_of dissat-of refl

has-antisym : Antisymmetric has
has-antisym = antisymmetric bools has bool_rank bool_of bool-of refl

base-refl : Reflexive base_eq
base-refl = bases.at (λ a. base_eq a a) refl

input-refl : Reflexive input_sub
input-refl = inputs.at (λ a. input_sub a a) refl

dissat-refl : Reflexive dissat_sub
dissat-refl = dissats.at (λ a. dissat_sub a a) refl

has-refl : Reflexive has
has-refl = bools.at (λ a. has a a) refl

-- the laws of two relations that hold together, each read off a field

both_refl : {A B C : Type 0} (r : A → A → Bool) (s : B → B → Bool) (f : C → A) (g : C → B)
    → Reflexive r → Reflexive s → Reflexive (λ (x y : C). r (f x) (f y) && s (g x) (g y))
both_refl r s f g h k a = and_i (r (f a) (f a)) (s (g a) (g a)) (h (f a)) (k (g a))

both-trans : {A B C : Type 0} (r : A → A → Bool) (s : B → B → Bool) (f : C → A) (g : C → B)
    → Transitive r → Transitive s → Transitive (λ (x y : C). r (f x) (f y) && s (g x) (g y))
both-trans r s f g h k a b c p q =
    and_i (r (f a) (f c)) (s (g a) (g c))
    (h (f a) (f b) (f c) (and_l (r (f a) (f b)) (s (g a) (g b)) p) (and_l (r (f b) (f c)) (s (g b) (g c)) q))
    (k (g a) (g b) (g c) (and_r (r (f a) (f b)) (s (g a) (g b)) p) (and_r (r (f b) (f c)) (s (g b) (g c)) q))

abbrev same : {A : Type 0} → A → A
same a = a

abbrev stands : Correctness → Correctness → Bool
stands x y = base_eq x.base y.base && input_sub x.input y.input

abbrev has_du : Correctness → Correctness → Bool
has_du x y = has x.dissatisfiable y.dissatisfiable && has x.unit y.unit

abbrev has_sm : Malleability → Malleability → Bool
has_sm x y = has x.safe y.safe && has x.non_malleable y.non_malleable

corr-refl : Reflexive corr_sub
corr-refl =
    both_refl stands has_du same same
    (both_refl base_eq input_sub (λ (c : Correctness). c.base) (λ c. c.input) base-refl input-refl)
    (both_refl has has (λ (c : Correctness). c.dissatisfiable) (λ c. c.unit) has-refl has-refl)

mall-refl : Reflexive mall_sub
mall-refl =
    both_refl dissat_sub has_sm (λ (m : Malleability). m.dissat) same dissat-refl
    (both_refl has has (λ (m : Malleability). m.safe) (λ m. m.non_malleable) has-refl has-refl)

corr-trans : Transitive corr_sub
corr-trans =
    both-trans stands has_du same same
    (both-trans base_eq input_sub (λ (c : Correctness). c.base) (λ c. c.input) base-trans input-trans)
    (both-trans has has (λ (c : Correctness). c.dissatisfiable) (λ c. c.unit) has-trans has-trans)

mall-trans : Transitive mall_sub
mall-trans =
    both-trans dissat_sub has_sm (λ (m : Malleability). m.dissat) same dissat-trans
    (both-trans has has (λ (m : Malleability). m.safe) (λ m. m.non_malleable) has-trans has-trans)

corr-antisym : Antisymmetric corr_sub
corr-antisym x y h k =
    let h1 = and_l (stands x y) (has_du x y) h in
    let k1 = and_l (stands y x) (has_du y x) k in
    let h2 = and_r (stands x y) (has_du x y) h in
    let k2 = and_r (stands y x) (has_du y x) k in
    let base : x.base ≡ y.base =
    base-antisym x.base y.base (and_l _ (input_sub x.input y.input) h1) (and_l _ (input_sub y.input x.input) k1) in
    let input : x.input ≡ y.input =
    input-antisym x.input y.input (and_r (base_eq x.base y.base) _ h1) (and_r (base_eq y.base x.base) _ k1) in
    let dis : x.dissatisfiable ≡ y.dissatisfiable =
    has-antisym x.dissatisfiable y.dissatisfiable (and_l _ (has x.unit y.unit) h2) (and_l _ (has y.unit x.unit) k2) in
    let unit : x.unit ≡ y.unit =
    has-antisym x.unit y.unit (and_r (has x.dissatisfiable y.dissatisfiable) _ h2)
    (and_r (has y.dissatisfiable x.dissatisfiable) _ k2) in
    corr-equal x y base input dis unit
  where
    corr-equal : (x y : Correctness) → x.base ≡ y.base → x.input ≡ y.input → x.dissatisfiable ≡ y.dissatisfiable → x.unit ≡ y.unit
        → x ≡ y
    corr-equal x y b i d u =
        ap (λ b. record { base = b; input = x.input; dissatisfiable = x.dissatisfiable; unit = x.unit }) b
        ∙ ap (λ i. record { base = y.base; input = i; dissatisfiable = x.dissatisfiable; unit = x.unit }) i
        ∙ ap (λ d. record { base = y.base; input = y.input; dissatisfiable = d; unit = x.unit }) d
        ∙ ap (λ u. record { base = y.base; input = y.input; dissatisfiable = y.dissatisfiable; unit = u }) u

mall-antisym : Antisymmetric mall_sub
mall-antisym x y h k =
    let h2 = and_r (dissat_sub x.dissat y.dissat) (has_sm x y) h in
    let k2 = and_r (dissat_sub y.dissat x.dissat) (has_sm y x) k in
    let dissat : x.dissat ≡ y.dissat =
    dissat-antisym x.dissat y.dissat (and_l _ (has_sm x y) h) (and_l _ (has_sm y x) k) in
    let safe : x.safe ≡ y.safe =
    has-antisym x.safe y.safe (and_l _ (has x.non_malleable y.non_malleable) h2)
    (and_l _ (has y.non_malleable x.non_malleable) k2) in
    let nm : x.non_malleable ≡ y.non_malleable =
    has-antisym x.non_malleable y.non_malleable (and_r (has x.safe y.safe) _ h2) (and_r (has y.safe x.safe) _ k2) in
    mall-equal x y dissat safe nm
  where
    mall-equal : (x y : Malleability) → x.dissat ≡ y.dissat → x.safe ≡ y.safe → x.non_malleable ≡ y.non_malleable → x ≡ y
    mall-equal x y d s m =
        ap (λ d. record { dissat = d; safe = x.safe; non_malleable = x.non_malleable }) d
        ∙ ap (λ s. record { dissat = y.dissat; safe = s; non_malleable = x.non_malleable }) s
        ∙ ap (λ m. record { dissat = y.dissat; safe = y.safe; non_malleable = m }) m

-- the laws of types

pub sub_refl : (x : «Type») → type_sub x x ≡ true
sub_refl = both_refl corr_sub mall_sub (λ (t : «Type»). t.corr) (λ t. t.mall) corr-refl mall-refl

pub sub_trans : (x y z : «Type») → type_sub x y ≡ true → type_sub y z ≡ true → type_sub x z ≡ true
sub_trans = both-trans corr_sub mall_sub (λ (t : «Type»). t.corr) (λ t. t.mall) corr-trans mall-trans

pub sub-antisym : (x y : «Type») → type_sub x y ≡ true → type_sub y x ≡ true → x ≡ y
sub-antisym x y h k =
    ap (λ c. record { corr = c; mall = x.mall })
    (corr-antisym x.corr y.corr (and_l _ (mall_sub x.mall y.mall) h) (and_l _ (mall_sub y.mall x.mall) k))
    ∙ ap (λ m. record { corr = y.corr; mall = m })
    (mall-antisym x.mall y.mall (and_r (corr_sub x.corr y.corr) _ h) (and_r (corr_sub y.corr x.corr) _ k))
