-- Fragment trees, written from document 01, "Records": each of its 27 fragment kinds is here under its own name.
use Rattle.std.specs.Prelude.{ℕ, List, [], ◌∷◌}
use Rattle.contexts.specs.Leaves.{LockKind, HashKind}

infixr 50 ◌▹◌
mutual
  -- Keys, hashes and locks are numbers; a threshold is a number and its children or keys.
  pub data Fragment : Type 0 where
    False True : Fragment
    PkK PkH : ℕ → Fragment
    Lock : LockKind → ℕ → Fragment
    Hash : HashKind → ℕ → Fragment
    Alt Swap Check DupIf Verify NonZero ZeroNotEqual : Fragment → Fragment
    AndB AndV OrB OrD OrC OrI : Fragment → Fragment → Fragment
    AndOr : Fragment → Fragment → Fragment → Fragment
    Thresh : ℕ → Fragments → Fragment
    Multi MultiA : ℕ → List ℕ → Fragment

  -- The children of a Thresh, in order: `x ▹ y ▹ end` has two.
  pub data Fragments : Type 0 where
    end : Fragments
    ◌▹◌ : Fragment → Fragments → Fragments

-- The children as a list.
unfoldable pub to_list : Fragments → List Fragment
to_list end = []
to_list (x ▹ xs) = x ∷ to_list xs
