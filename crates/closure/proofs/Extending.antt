-- What a memory that extends another keeps of it. Assumes nothing.
use mathlib.Core.Path.{◌≡◌, sym, ◌∙◌}
use mathlib.Core.List.{List}
use Prim.Native.Nat.{ℕ, ◌<◌}
use native.Mathlib.Omega.{arith}
use lib.ListN.{length}
use Rattle.memory.specs.Layout.{node_count}
use Rattle.nodes.specs.Answers.{Holds}
use Rattle.table.specs.Inserted.{Extends}

pub still-long : {m₀ m : List ℕ} → Holds m₀ → Extends m₀ m → length m ≡ length m₀
still-long holds x = x.holds.long ∙ sym holds.long

pub still-below : {m₀ m : List ℕ} {e : ℕ} → Extends m₀ m → e < node_count m₀ → e < node_count m
still-below x l = omega (arith, x.grows.more)
