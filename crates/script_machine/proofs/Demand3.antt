-- Demand 3 is proved.
use Rattle.std.specs.Prelude.{Ok}
use mathlib.Core.List.{[], ◌++◌}
use mathlib.Core.Logic.{◌⊎◌, inl, inr}
use mathlib.Core.Path.{◌≡◌, refl}
use lib.ListN.{length}
use Rattle.correctness.specs.declared.Base.{Base}
use Rattle.correctness.specs.declared.Base.TheVariants.{B}
use Rattle.types.specs.declared.«Type».{«Type»}
use Rattle.contexts.specs.declared.Context.{Context}
use Rattle.trees.specs.Fragment.{Fragment}
use Rattle.trees.specs.Typing.{type_of}
use Rattle.trees.proofs.Theorem.{passes-well-typed-trees}
use Rattle.script_machine.specs.Numbers.{Stack}
use Rattle.script_machine.specs.Machine.{Outcomes, done, state, run, under}
use Rattle.script_machine.specs.Translation.{script}
use Rattle.script_machine.specs.Demand3.{Aborts, Pushes, OfTrees, Demand3}
use Rattle.script_machine.proofs.Meaning.{meaning, means}
use Rattle.script_machine.proofs.Outcome.{Out, dead, does}
use Rattle.script_machine.proofs.Sizes.{zero-size, one_size}
use Rattle.script_machine.proofs.Sound.{Post, Top, t_b, SoundAt}
use Rattle.script_machine.proofs.Every.{sound}

module _ (c : Context) (o : Outcomes) (f : Fragment) where
  -- a run of the script is what it means
  pub run-means : (m a : Stack) → run c o (script f) (state m a []) ≡ under [] (meaning c o f m a)
  unfolding script
  run-means m a = (means c o f).live m a [] refl

  -- a well-typed tree does what its base says
  pub sound-base : (t : «Type») (b : Base) → type_of c f ≡ Ok t → t.corr.base ≡ b → SoundAt o b t.corr.input t.corr.unit (meaning c o f)
  sound-base t b e d = rw d at (of e)
    where
      of : type_of c f ≡ Ok t → SoundAt o t.corr.base t.corr.input t.corr.unit (meaning c o f)
      of e = rw e at (sound c o f)

pub of-trees : OfTrees
of-trees c o f t e d m = go (sound-base c o f t B e d m)
  where
    by : (xs ys r : Stack) → m ≡ xs ++ r → Post o B t.corr.input t.corr.unit xs ys → Top o t.corr.unit B ys
        → ((r a : Stack) → meaning c o f (xs ++ r) a ≡ done (ys ++ r) a) → Pushes c o f t m
    by xs ys r s q (t_b y u) k =
        record {
          removed = xs;
          remainder = r;
          pushed = y;
          starts = s;
          runs = λ r a. rw (run-means c o f (xs ++ r) a, k r a);
          under-z = λ z. (zero-size 1 t.corr.input (length xs) z q.size).0;
          under-o = λ z. one_size 1 t.corr.input (length xs) z q.size;
          under-u = u;
        }

    go : Out (meaning c o f) (Post o B t.corr.input t.corr.unit) m → Aborts c o f m ⊎ Pushes c o f t m
    go (dead k) = inl λ a. rw (run-means c o f m a, k a)
    go (does xs ys r s q k) = inr (by xs ys r s q q.top k)

pub demand3 : Demand3
demand3 context c bytes x known passes base o m =
    of-trees c o x.tree x.type ((passes-well-typed-trees context c bytes x known).0 passes).1 base m
