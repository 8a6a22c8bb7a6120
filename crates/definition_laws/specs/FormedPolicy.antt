-- When a policy can be written as records, from document 01, "Records": keys and hashes are u32, locks hold 1 to 2,147,483,647, and
-- 1 ≤ k ≤ n ≤ 16 for the n children of a Thresh; weights are u32, and that none is 0 is not asked here.
use Rattle.std.specs.Prelude.{length}
use Rattle.policies.specs.Policy.{Policy, Policies, end, ◌▹◌, to_list, Unsatisfiable, Trivial, Key, Lock, Hash, And, Or, Thresh}
use Rattle.writing.specs.WellFormed.{IsU32, IsU64, IsLock, IsThreshold}

unfoldable mutual
  pub FormedPolicy : Policy → Type 0
  FormedPolicy Unsatisfiable = Unit
  FormedPolicy Trivial = Unit
  FormedPolicy (Key n) = IsU64 n
  FormedPolicy (Lock kind n) = IsLock n
  FormedPolicy (Hash kind h) = IsU32 h
  FormedPolicy (And l r) = FormedPolicy l × FormedPolicy r
  FormedPolicy (Or l r lw rw) = FormedPolicy l × FormedPolicy r × (IsU32 lw × IsU32 rw)
  FormedPolicy (Thresh k xs) = IsThreshold k (length (to_list xs)) × AllFormed xs

  pub AllFormed : Policies → Type 0
  AllFormed end = Unit
  AllFormed (x ▹ xs) = FormedPolicy x × AllFormed xs
