-- Each rank is a digit, and stands for its variant. Assumes nothing.
use mathlib.Core.Path.{◌≡◌, refl}
use Prim.Native.Nat.{◌<◌}
use native.Mathlib.Omega.{arith}
use Rattle.malleability.specs.Names.{Dissat, None, Unique, Unknown}
use Rattle.malleability.specs.Digits.{dissat_rank, dissat_of}

pub dissat-lt : (x : Dissat) → dissat_rank x < 3
dissat-lt None = omega arith
dissat-lt Unique = omega arith
dissat-lt Unknown = omega arith

pub dissat-of : (x : Dissat) → dissat_of (dissat_rank x) ≡ x
dissat-of None = refl
dissat-of Unique = refl
dissat-of Unknown = refl
