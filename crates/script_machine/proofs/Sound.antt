-- What the type of a fragment says about its meaning, for each base.
use Rattle.types.specs.declared.«Type».{«Type»}
use Rattle.correctness.specs.declared.TypeError.TheVariants as TypeError
use Rattle.correctness.specs.declared.TypeError.{TypeError}
use Rattle.std.specs.Prelude.{Result, Ok, Err}
use mathlib.Core.Bool.{Bool, true, false, not, false≢true}
use mathlib.Core.List.{[], ◌∷◌, ◌++◌}
use mathlib.Core.Logic.{◌⊎◌, inl, inr}
use mathlib.Core.Path.{◌≡◌, refl}
use lib.ListN.{length}
use Rattle.correctness.specs.declared.Base.{Base}
use Rattle.correctness.specs.declared.Base.TheVariants.{B, K, «V», W}
use Rattle.correctness.specs.declared.Input.{Input}
use Rattle.correctness.specs.declared.Correctness.{Correctness}
use Rattle.malleability.specs.declared.Malleability.{Malleability}
use Rattle.correctness.specs.Letters.{is_w, base_eq}
use Rattle.correctness.specs.CorrectnessRules.{ok_if}
use Rattle.types.specs.TypeRules.{typed}
use Rattle.script_machine.specs.Numbers.{Bytes, Stack, element}
use Rattle.script_machine.specs.Machine.{Outcomes, abort, Action, ◌then◌}
use Rattle.script_machine.specs.OtherBases.{IsKey}
use Rattle.script_machine.proofs.Outcome.{Out, seq}
use Rattle.script_machine.proofs.Sizes.{Size, ones}

-- the pushed element, under u
abbrev pub Unit? : Bool → Bytes → Type 0
Unit? u y = u ≡ true → (y ≡ []) ⊎ (y ≡ 1 ∷ [])

pub any : {y : Bytes} → Unit? false y
any e = absurd (false≢true e)

pub element-unit : (b u : Bool) → Unit? u (element b)
unfolding element
element-unit true u e = inr refl
element-unit false u e = inl refl

-- x is the element that W keeps, in either order
pub data Kept (x : Bytes) (u : Bool) : Stack → Type 0 where
  above : (y : Bytes) → Unit? u y → Kept x u (x ∷ y ∷ [])
  below : (y : Bytes) → Unit? u y → Kept x u (y ∷ x ∷ [])

pub record PostW (x : Bytes) (i : Input) (u : Bool) (xs ys : Stack) : Type 0 where
  pub size : Size 1 i (length xs)
  pub kept : Kept x u ys

pub post-W : {x : Bytes} {i : Input} {u : Bool} {xs ys : Stack} → Size 1 i (length xs) → Kept x u ys → PostW x i u xs ys
post-W l t = record { size = l; kept = t }

module _ (o : Outcomes) where
  -- what B, V and K leave
  pub data Top (u : Bool) : Base → Stack → Type 0 where
    t_b : (y : Bytes) → Unit? u y → Top u B (y ∷ [])
    t_v : Top u «V» []
    t_k : (y : Bytes) → IsKey o y → Top u K (y ∷ [])

  pub record Post (b : Base) (i : Input) (u : Bool) (xs ys : Stack) : Type 0 where
    pub size : Size (ones b) i (length xs)
    pub top : Top u b ys

  abbrev pub Runs : Base → Input → Bool → Action → Type 0
  Runs b i u g = (s : Stack) → Out g (Post b i u) s

  abbrev pub SoundAt : Base → Input → Bool → Action → Type 0
  SoundAt B i u g = Runs B i u g
  SoundAt «V» i u g = Runs «V» i u g
  SoundAt K i u g = Runs K i u g
  SoundAt W i u g = ((a : Stack) → g [] a ≡ abort) × ((x : Bytes) (s : Stack) → Out (λ s a. g (x ∷ s) a) (PostW x i u) s)

  abbrev pub Sound : Correctness → Action → Type 0
  Sound c g = SoundAt c.base c.input c.unit g

  -- of a tree that is ill-typed, nothing
  abbrev pub Good : Result «Type» TypeError → Action → Type 0
  Good (Ok t) g = Sound t.corr g
  Good (Err TypeError.IllTyped) g = Unit {0}

module _ {o : Outcomes} where
  pub post : {b : Base} {i : Input} {u : Bool} {xs ys : Stack} → Size (ones b) i (length xs) → Top o u b ys → Post o b i u xs ys
  post l t = record { size = l; top = t }

  -- a test's element
  pub tested : {i : Input} {u : Bool} {xs : Stack} (b : Bool) → Size 1 i (length xs) → Post o B i u xs (element b ∷ [])
  tested {i} {u} b l = post l (t_b (element b) (element-unit b u))

-- the base that a rule asks for
pub base-is : (a b : Base) → base_eq a b ≡ true → a ≡ b
base-is B B e = refl
base-is B K e = absurd (false≢true e)
base-is B «V» e = absurd (false≢true e)
base-is B W e = absurd (false≢true e)
base-is K B e = absurd (false≢true e)
base-is K K e = refl
base-is K «V» e = absurd (false≢true e)
base-is K W e = absurd (false≢true e)
base-is «V» B e = absurd (false≢true e)
base-is «V» K e = absurd (false≢true e)
base-is «V» «V» e = refl
base-is «V» W e = absurd (false≢true e)
base-is W B e = absurd (false≢true e)
base-is W K e = absurd (false≢true e)
base-is W «V» e = absurd (false≢true e)
base-is W W e = refl

module _ (o : Outcomes) where
  -- a rule that answers where q holds
  pub ok_if-good : (q : Bool) (c : Correctness) (m : Malleability) (g : Action) → (q ≡ true → Sound o c g) → Good o (typed (ok_if q c) m) g
  ok_if-good true c m g h = h refl
  ok_if-good false c m g h = tt

  pub at_base : (b : Base) (c : Correctness) (g : Action) → base_eq c.base b ≡ true → Sound o c g → SoundAt o b c.input c.unit g
  at_base b c g e h = rw (base-is c.base b e) at h

  -- the same base as another
  pub same_base : (b : Base) (c : Correctness) (g : Action) → base_eq b c.base ≡ true → Sound o c g → SoundAt o b c.input c.unit g
  same_base b c g e h = rw (← base-is b c.base e) at h

  -- any base but W
  pub runs-at : (b : Base) {i : Input} {u : Bool} (g : Action) → not (is_w b) ≡ true → SoundAt o b i u g → Runs o b i u g
  runs-at B g e h = h
  runs-at K g e h = h
  runs-at «V» g e h = h
  runs-at W g e h = absurd (false≢true e)

  pub sound-at : (b : Base) {i : Input} {u : Bool} (g : Action) → not (is_w b) ≡ true → Runs o b i u g → SoundAt o b i u g
  sound-at B g e h = h
  sound-at K g e h = h
  sound-at «V» g e h = h
  sound-at W g e h = absurd (false≢true e)

-- an action after one of a base
module _ {o : Outcomes} {g : Action} {Q : Stack → Stack → Type 0} {i : Input} (h : Action) where
  pub seq-B : {u : Bool} {s : Stack} → Out g (Post o B i u) s
      → ((xs : Stack) (y : Bytes) → Size 1 i (length xs) → Unit? u y → (r : Stack) → Out (λ r a. h (y ∷ r) a) (λ zs ws. Q (xs ++ zs) ws) r)
      → Out (g then h) Q s
  seq-B {u} p k = seq h p λ xs ys q. go xs ys q.size q.top
    where
      go : (xs ys : Stack) → Size 1 i (length xs) → Top o u B ys → (r : Stack) → Out (λ r a. h (ys ++ r) a) (λ zs ws. Q (xs ++ zs) ws) r
      go xs ys l (t_b y v) r = k xs y l v r

  pub seq-K : {u : Bool} {s : Stack} → Out g (Post o K i u) s
      → ((xs : Stack) (y : Bytes) → Size 0 i (length xs) → (r : Stack) → Out (λ r a. h (y ∷ r) a) (λ zs ws. Q (xs ++ zs) ws) r)
      → Out (g then h) Q s
  seq-K {u} p k = seq h p λ xs ys q. go xs ys q.size q.top
    where
      go : (xs ys : Stack) → Size 0 i (length xs) → Top o u K ys → (r : Stack) → Out (λ r a. h (ys ++ r) a) (λ zs ws. Q (xs ++ zs) ws) r
      go xs ys l (t_k y v) r = k xs y l r

  pub seq-V : {u : Bool} {s : Stack} → Out g (Post o «V» i u) s
      → ((xs : Stack) → Size 1 i (length xs) → (r : Stack) → Out h (λ zs ws. Q (xs ++ zs) ws) r)
      → Out (g then h) Q s
  seq-V {u} p k = seq h p λ xs ys q. go xs ys q.size q.top
    where
      go : (xs ys : Stack) → Size 1 i (length xs) → Top o u «V» ys → (r : Stack) → Out (λ r a. h (ys ++ r) a) (λ zs ws. Q (xs ++ zs) ws) r
      go xs ys l t_v r = k xs l r

-- after W: h is given for both orders
pub seq-W : {g : Action} {Q : Stack → Stack → Type 0} {i : Input} (h : Action) {x : Bytes} {u : Bool} {s : Stack} → Out g (PostW x i u) s
    → ((xs : Stack) (y : Bytes) → Size 1 i (length xs) → (r : Stack) → Out (λ r a. h (x ∷ y ∷ r) a) (λ zs ws. Q (xs ++ zs) ws) r)
    → ((xs : Stack) (y : Bytes) → Size 1 i (length xs) → (r : Stack) → Out (λ r a. h (y ∷ x ∷ r) a) (λ zs ws. Q (xs ++ zs) ws) r)
    → Out (g then h) Q s
seq-W {g} {Q} {i} h {x} {u} p k l = seq h p λ xs ys q. go xs ys q.size q.kept
  where
    go : (xs ys : Stack) → Size 1 i (length xs) → Kept x u ys → (r : Stack) → Out (λ r a. h (ys ++ r) a) (λ zs ws. Q (xs ++ zs) ws) r
    go xs ys n (above y v) r = k xs y n r
    go xs ys n (below y v) r = l xs y n r
