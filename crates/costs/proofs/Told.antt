-- What the tests of a float tell of the answer that it is. Assumes nothing.
use Rattle.std.proofs.Common.{◌≡◌, true, false, sym, refl}
use mathlib.Core.Bool.{false≢true}
use lib.Ieee.{Float, nan, inf, fin, lt}
use Rattle.words.specs.Floats.{is_cost}
use Rattle.costs.specs.Names.{Finite, Never}
use Rattle.costs.specs.Price.{price_of}

pub price-finite : (x : Float) → is_cost x ≡ true → lt x (inf false) ≡ true → Finite x ≡ price_of x
unfolding lt
price-finite nan h k = absurd (false≢true h)
price-finite (inf true) h k = absurd (false≢true h)
price-finite (inf false) h k = absurd (false≢true k)
price-finite (fin true m e) h k = absurd (false≢true h)
price-finite (fin false m e) h k = refl

pub price-never : (x : Float) → is_cost x ≡ true → lt x (inf false) ≡ false → Never ≡ price_of x
unfolding lt
price-never nan h k = absurd (false≢true h)
price-never (inf true) h k = absurd (false≢true h)
price-never (inf false) h k = refl
price-never (fin true m e) h k = absurd (false≢true h)
price-never (fin false m e) h k = absurd (false≢true (sym k))
