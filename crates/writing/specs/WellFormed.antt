-- When a fragment tree can be written as records, from document 01, "Records", and document 02, R-3: keys are u64, hashes u32, locks hold 1
-- to 2,147,483,647, and 1 ≤ k ≤ n ≤ 16 for the n children or keys of a threshold.
use Rattle.std.specs.Prelude.{List, [], ◌∷◌, ℕ, ◌^◌, ◌<◌, ◌≤◌, length}
use Rattle.records.specs.Numbers.{max_lock, max_count}
use Rattle.trees.specs.Fragment.{Fragment, Fragments, end, ◌▹◌, to_list, False, True, PkK, PkH, Lock, Hash}
use Rattle.trees.specs.Fragment.{Alt, Swap, Check, DupIf, Verify, NonZero, ZeroNotEqual}
use Rattle.trees.specs.Fragment.{AndB, AndV, OrB, OrD, OrC, OrI, AndOr, Thresh, Multi, MultiA}

abbrev pub IsU32 : ℕ → Type 0
IsU32 n = n < 2 ^ 32

abbrev pub IsU64 : ℕ → Type 0
IsU64 n = n < 2 ^ 64

-- each of some numbers is below a bound
unfoldable pub AllBelow : (bound : ℕ) → List ℕ → Type 0
AllBelow bound [] = Unit
AllBelow bound (n ∷ ns) = (n < bound) × AllBelow bound ns

abbrev pub IsLock : ℕ → Type 0
IsLock n = (1 ≤ n) × (n ≤ max_lock)

abbrev pub IsThreshold : (k n : ℕ) → Type 0
IsThreshold k n = (1 ≤ k) × (k ≤ n) × (n ≤ max_count)

unfoldable mutual
  pub WellFormed : Fragment → Type 0
  WellFormed False = Unit
  WellFormed True = Unit
  WellFormed (PkK key) = IsU64 key
  WellFormed (PkH key) = IsU64 key
  WellFormed (Lock kind n) = IsLock n
  WellFormed (Hash kind h) = IsU32 h
  WellFormed (Alt x) = WellFormed x
  WellFormed (Swap x) = WellFormed x
  WellFormed (Check x) = WellFormed x
  WellFormed (DupIf x) = WellFormed x
  WellFormed (Verify x) = WellFormed x
  WellFormed (NonZero x) = WellFormed x
  WellFormed (ZeroNotEqual x) = WellFormed x
  WellFormed (AndB x y) = WellFormed x × WellFormed y
  WellFormed (AndV x y) = WellFormed x × WellFormed y
  WellFormed (OrB x y) = WellFormed x × WellFormed y
  WellFormed (OrD x y) = WellFormed x × WellFormed y
  WellFormed (OrC x y) = WellFormed x × WellFormed y
  WellFormed (OrI x y) = WellFormed x × WellFormed y
  WellFormed (AndOr x y z) = WellFormed x × WellFormed y × WellFormed z
  WellFormed (Thresh k xs) = IsThreshold k (length (to_list xs)) × AllWellFormed xs
  WellFormed (Multi k keys) = IsThreshold k (length keys) × AllBelow (2 ^ 64) keys
  WellFormed (MultiA k keys) = IsThreshold k (length keys) × AllBelow (2 ^ 64) keys

  pub AllWellFormed : Fragments → Type 0
  AllWellFormed end = Unit
  AllWellFormed (x ▹ xs) = WellFormed x × AllWellFormed xs
