-- A record's fragment is one higher than the tallest of its children, whatever its kind. Assumes nothing.
use Prim.Native.Nat.{ℕ, suc, max, ◌<◌}
use mathlib.Core.Bool.{Bool, true, false, cond}
use mathlib.Core.List.{List, [], ◌∷◌}
use Rattle.std.specs.Prelude.{Option, None, Some}
use mathlib.Core.Path.{◌≡◌, refl, ap}
use native.Mathlib.Omega.{arith}
use lib.Dec.{eqb}
use Rattle.records.specs.Payloads.{Payload}
use Rattle.contexts.specs.Leaves.{After, Older, Sha256, Hash256, Ripemd160, Hash160}
use Rattle.trees.specs.Fragment.{Fragment, False, True, PkK, PkH, Lock, Hash, Alt, Swap, Check, DupIf, Verify, NonZero, ZeroNotEqual, AndB, AndV, OrB, OrD, OrC, OrI, AndOr, Thresh, Multi, MultiA}
use Rattle.trees.specs.Height.{max_height, height_of, tallest_of}
use Rattle.trees.specs.Tree.{Line, find, Maker, plain, with_number, one, two, three, fragments, of_children, of_keys, makers, made_by, fragment_of}
use Rattle.trees.proofs.Slots.{All, empty, both, Any, here, there, IfSome}

unfoldable pub tallest_tree : List Fragment → ℕ
tallest_tree [] = 0
tallest_tree (x ∷ xs) = max (height_of x) (tallest_tree xs)

-- of children of which one is too tall, the tallest is
pub any-tall : {xs : List Fragment} → Any (λ x. max_height < height_of x) xs → max_height < tallest_tree xs
unfolding tallest_tree
any-tall (here h) = omega arith
any-tall (there h) = omega (arith, any-tall h)

-- ---- each form of a record

abbrev Rises : Maker → Type 0
Rises maker = (p : Payload) (xs : List Fragment) → IfSome (λ f. height_of f ≡ suc (tallest_tree xs)) (maker p xs)

plain-rises : (f : Fragment) → height_of f ≡ 1 → Rises (plain f)
unfolding tallest_tree
plain-rises f h p [] = h
plain-rises f h p (x ∷ xs) = tt

number-rises : (f : ℕ → Fragment) → ((n : ℕ) → height_of (f n) ≡ 1) → Rises (with_number f)
unfolding tallest_tree
number-rises f h p [] = h _
number-rises f h p (x ∷ xs) = tt

keys-rises : (f : ℕ → List ℕ → Fragment) → ((k : ℕ) (ks : List ℕ) → height_of (f k ks) ≡ 1) → Rises (of_keys f)
unfolding tallest_tree
keys-rises f h p [] = h _ _
keys-rises f h p (x ∷ xs) = tt

one-rises : (f : Fragment → Fragment) → ((x : Fragment) → height_of (f x) ≡ suc (height_of x)) → Rises (one f)
unfolding tallest_tree
one-rises f h p [] = tt
one-rises f h p (x ∷ []) = omega (arith, h x)
one-rises f h p (x ∷ y ∷ xs) = tt

two-rises : (f : Fragment → Fragment → Fragment) → ((x y : Fragment) → height_of (f x y) ≡ suc (max (height_of x) (height_of y))) → Rises (two f)
unfolding tallest_tree
two-rises f h p [] = tt
two-rises f h p (x ∷ []) = tt
two-rises f h p (x ∷ y ∷ []) = omega (arith, h x y)
two-rises f h p (x ∷ y ∷ z ∷ xs) = tt

three-rises : (f : Fragment → Fragment → Fragment → Fragment)
    → ((x y z : Fragment) → height_of (f x y z) ≡ suc (max (height_of x) (max (height_of y) (height_of z)))) → Rises (three f)
unfolding tallest_tree
three-rises f h p [] = tt
three-rises f h p (x ∷ []) = tt
three-rises f h p (x ∷ y ∷ []) = tt
three-rises f h p (x ∷ y ∷ z ∷ []) = omega (arith, h x y z)
three-rises f h p (x ∷ y ∷ z ∷ w ∷ xs) = tt

all-children : (xs : List Fragment) → tallest_of (fragments xs) ≡ tallest_tree xs
unfolding fragments tallest_of tallest_tree
all-children [] = refl
all-children (x ∷ xs) = ap (max (height_of x)) (all-children xs)

thresh-rises : Rises (of_children Thresh)
unfolding height_of
thresh-rises p xs = ap suc (all-children xs)

-- ---- all kinds

all-rise : All (λ (line : Line Maker). Rises line.this) makers
unfolding height_of
all-rise =
    both (plain-rises False refl) (both (plain-rises True refl)
    (both (number-rises PkK λ n. refl) (both (number-rises PkH λ n. refl)
    (both (number-rises (Lock After) λ n. refl) (both (number-rises (Lock Older) λ n. refl)
    (both (number-rises (Hash Sha256) λ n. refl) (both (number-rises (Hash Hash256) λ n. refl) (both (number-rises (Hash Ripemd160) λ n. refl) (both (number-rises (Hash Hash160) λ n. refl)
    (both (one-rises Alt λ x. refl) (both (one-rises Swap λ x. refl) (both (one-rises Check λ x. refl) (both (one-rises DupIf λ x. refl)
    (both (one-rises Verify λ x. refl) (both (one-rises NonZero λ x. refl) (both (one-rises ZeroNotEqual λ x. refl)
    (both (two-rises AndB λ x y. refl) (both (two-rises AndV λ x y. refl) (both (two-rises OrB λ x y. refl)
    (both (two-rises OrD λ x y. refl) (both (two-rises OrC λ x y. refl) (both (two-rises OrI λ x y. refl)
    (both (three-rises AndOr λ x y z. refl) (both thresh-rises
    (both (keys-rises Multi λ k ks. refl) (both (keys-rises MultiA λ k ks. refl) empty))))))))))))))))))))))))))

found-rises : {lines : List (Line Maker)} (kind : ℕ) → All (λ (line : Line Maker). Rises line.this) lines → IfSome Rises (find kind lines)
unfolding find
found-rises kind empty = tt
found-rises kind (both {x = line} {xs = lines} h hs) = by-test (eqb kind line.kind) (found-rises kind hs)
  where
    by-test : (b : Bool) → IfSome Rises (find kind lines) → IfSome Rises (cond b (Some line.this) (find kind lines))
    by-test true r = h
    by-test false r = r

pub rises : (kind : ℕ) (p : Payload) (xs : List Fragment) → IfSome (λ f. height_of f ≡ suc (tallest_tree xs)) (fragment_of kind p xs)
rises kind p xs = by-line (find kind makers) (found-rises kind all-rise)
  where
    by-line : (m : Option Maker) → IfSome Rises m → IfSome (λ f. height_of f ≡ suc (tallest_tree xs)) (made_by m p xs)
    by-line (Some m) h = h p xs
    by-line None h = tt
