-- The number that a caller is told of each refusal: document 01, "Numbers the console shows", and document 02. A broken log has the
-- number of a broken tree. Assumes nothing.
use Rattle.std.specs.Prelude.{ℕ}
use Rattle.refusals.specs.declared.Refusal.{Refusal}

abbrev pub number_of : Refusal → ℕ
number_of Refusal.BadContext = 1
number_of Refusal.BadWork = 2
number_of Refusal.BadPolicy = 3
number_of Refusal.ZeroWeight = 4
number_of Refusal.PolicyTooLarge = 5
number_of Refusal.NodesFull = 6
number_of Refusal.TableFull = 7
number_of Refusal.CacheFull = 8
number_of Refusal.FuelSpent = 9
number_of Refusal.NotACost = 10
number_of Refusal.LimitsExceeded = 11
number_of Refusal.TopLevelNonSafe = 12
number_of Refusal.OutputTooSmall = 13
number_of Refusal.BadTree = 14
number_of Refusal.IllTyped = 15
number_of Refusal.TreeTooLarge = 16
number_of Refusal.NoEntry = 17
number_of Refusal.KeyTooLarge = 18
number_of Refusal.TreeTooTall = 19
number_of Refusal.NotItsIndex = 20
number_of Refusal.TooManyVariables = 21
number_of Refusal.NotB = 22
number_of Refusal.NotSafe = 23
number_of Refusal.Malleable = 24
number_of Refusal.LocallyInvalid = 25
number_of Refusal.OtherMeaning = 26
