-- What document 01 says of V, K and W is proved.
use Prim.Native.Nat.{ℕ}
use mathlib.Core.List.{[], ◌∷◌, ◌++◌}
use mathlib.Core.Logic.{◌⊎◌, inl, inr}
use mathlib.Core.Path.{◌≡◌}
use lib.ListN.{length}
use Rattle.correctness.specs.declared.Base.TheVariants.{K, «V», W}
use Rattle.types.specs.declared.«Type».{«Type»}
use Rattle.contexts.specs.declared.Context.{Context}
use Rattle.trees.specs.Fragment.{Fragment}
use Rattle.script_machine.specs.Numbers.{Bytes, Stack}
use Rattle.script_machine.specs.Machine.{Outcomes, abort, done}
use Rattle.script_machine.specs.Demand3.{Aborts}
use Rattle.script_machine.specs.OtherBases.{Leaves, IsKey, Keeps, BaseV, BaseK, BaseW}
use Rattle.script_machine.proofs.Meaning.{meaning}
use Rattle.script_machine.proofs.Outcome.{Out, dead, does}
use Rattle.script_machine.proofs.Sizes.{Size, zero-size, one_size}
use Rattle.script_machine.proofs.Sound.{Unit?, Post, Top, t_v, t_k, PostW, Kept, above, below}
use Rattle.script_machine.proofs.Demand3.{run-means, sound-base}

module _ (c : Context) (o : Outcomes) (f : Fragment) (t : «Type») where
  leaves : (ones : ℕ) (held m xs ys r : Stack) → m ≡ xs ++ r → Size ones t.corr.input (length xs)
      → ((r a : Stack) → meaning c o f (held ++ (xs ++ r)) a ≡ done (ys ++ r) a) → Leaves c o f t ones held m ys
  leaves ones held m xs ys r s l k =
      record {
        removed = xs;
        remainder = r;
        starts = s;
        runs = λ r a. rw (run-means c o f (held ++ (xs ++ r)) a, k r a);
        under-z = λ z. (zero-size ones t.corr.input (length xs) z l).0;
        under-o = λ z. one_size ones t.corr.input (length xs) z l;
      }

  aborts : (m : Stack) → ((a : Stack) → meaning c o f m a ≡ abort) → Aborts c o f m
  aborts m k a = rw (run-means c o f m a, k a)

pub base-V : BaseV
base-V c o f t e d m = go (sound-base c o f t «V» e d m)
  where
    by : (xs ys r : Stack) → m ≡ xs ++ r → Size 1 t.corr.input (length xs) → Top o t.corr.unit «V» ys
        → ((r a : Stack) → meaning c o f (xs ++ r) a ≡ done (ys ++ r) a) → Leaves c o f t 1 [] m []
    by xs ys r s l t_v k = leaves c o f t 1 [] m xs [] r s l k

    go : Out (meaning c o f) (Post o «V» t.corr.input t.corr.unit) m → Aborts c o f m ⊎ Leaves c o f t 1 [] m []
    go (dead k) = inl (aborts c o f t m k)
    go (does xs ys r s q k) = inr (by xs ys r s q.size q.top k)

pub base-K : BaseK
base-K c o f t e d m = go (sound-base c o f t K e d m)
  where
    by : (xs ys r : Stack) → m ≡ xs ++ r → Size 0 t.corr.input (length xs) → Top o t.corr.unit K ys
        → ((r a : Stack) → meaning c o f (xs ++ r) a ≡ done (ys ++ r) a) → (y : Bytes) × IsKey o y × Leaves c o f t 0 [] m (y ∷ [])
    by xs ys r s l (t_k y n) k = (y, n, leaves c o f t 0 [] m xs (y ∷ []) r s l k)

    go : Out (meaning c o f) (Post o K t.corr.input t.corr.unit) m
        → Aborts c o f m ⊎ ((y : Bytes) × IsKey o y × Leaves c o f t 0 [] m (y ∷ []))
    go (dead k) = inl (aborts c o f t m k)
    go (does xs ys r s q k) = inr (by xs ys r s q.size q.top k)

pub base-W : BaseW
base-W c o f t e d = (aborts c o f t [] (sound-base c o f t W e d).0, λ x m. go x m ((sound-base c o f t W e d).1 x m))
  where
    by : (x : Bytes) (m xs ys r : Stack) → m ≡ xs ++ r → Size 1 t.corr.input (length xs) → Kept x t.corr.unit ys
        → ((r a : Stack) → meaning c o f (x ∷ (xs ++ r)) a ≡ done (ys ++ r) a) → (y : Bytes) × Keeps c o f t x y m × Unit? t.corr.unit y
    by x m xs ys r s l (above y u) k = (y, inl (leaves c o f t 1 (x ∷ []) m xs (x ∷ y ∷ []) r s l k), u)
    by x m xs ys r s l (below y u) k = (y, inr (leaves c o f t 1 (x ∷ []) m xs (y ∷ x ∷ []) r s l k), u)

    go : (x : Bytes) (m : Stack) → Out (λ s a. meaning c o f (x ∷ s) a) (PostW x t.corr.input t.corr.unit) m
        → Aborts c o f (x ∷ m) ⊎ ((y : Bytes) × Keeps c o f t x y m × Unit? t.corr.unit y)
    go x m (dead k) = inl (aborts c o f t (x ∷ m) k)
    go x m (does xs ys r s q k) = inr (by x m xs ys r s q.size q.kept k)
