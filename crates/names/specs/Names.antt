-- The names of fragments and of answers, under their numbers: document 01, "Records" and "Numbers the console shows"; those from 17 on are
-- document 02's: R-1 has 17, R-3 18, R-8 19, R-11 20, and R-14 21 to 26. Assumes nothing.
use Rattle.std.specs.Prelude.{cond, List, [], ◌∷◌, ℕ, eqb}
use Prim.Native.String.{String}

pub data Row : Type 0 where
  ◌named◌ : ℕ → String → Row

infix 70 ◌named◌
-- the kinds of a fragment's record
abbrev pub kinds : List Row
kinds =
    32 named "False"
    ∷ 33 named "True"
    ∷ 34 named "PkK"
    ∷ 35 named "PkH"
    ∷ 36 named "After"
    ∷ 37 named "Older"
    ∷ 38 named "Sha256"
    ∷ 39 named "Hash256"
    ∷ 40 named "Ripemd160"
    ∷ 41 named "Hash160"
    ∷ 42 named "Alt"
    ∷ 43 named "Swap"
    ∷ 44 named "Check"
    ∷ 45 named "DupIf"
    ∷ 46 named "Verify"
    ∷ 47 named "NonZero"
    ∷ 48 named "ZeroNotEqual"
    ∷ 49 named "AndB"
    ∷ 50 named "AndV"
    ∷ 51 named "OrB"
    ∷ 52 named "OrD"
    ∷ 53 named "OrC"
    ∷ 54 named "OrI"
    ∷ 55 named "AndOr"
    ∷ 56 named "Thresh"
    ∷ 57 named "Multi"
    ∷ 58 named "MultiA"
    ∷ []

-- the numbers that a call returns
abbrev pub answers : List Row
answers =
    0 named "done"
    ∷ 1 named "BadContext"
    ∷ 2 named "BadWork"
    ∷ 3 named "BadPolicy"
    ∷ 4 named "ZeroWeight"
    ∷ 5 named "PolicyTooLarge"
    ∷ 6 named "NodesFull"
    ∷ 7 named "TableFull"
    ∷ 8 named "CacheFull"
    ∷ 9 named "FuelSpent"
    ∷ 10 named "NotACost"
    ∷ 11 named "LimitsExceeded"
    ∷ 12 named "TopLevelNonSafe"
    ∷ 13 named "OutputTooSmall"
    ∷ 14 named "BadTree"
    ∷ 15 named "IllTyped"
    ∷ 16 named "TreeTooLarge"
    ∷ 17 named "NoEntry"
    ∷ 18 named "KeyTooLarge"
    ∷ 19 named "TreeTooTall"
    ∷ 20 named "OtherIndex"
    ∷ 21 named "TooManyVariables"
    ∷ 22 named "NotBaseB"
    ∷ 23 named "Unsafe"
    ∷ 24 named "Malleable"
    ∷ 25 named "LocallyInvalid"
    ∷ 26 named "OtherMeaning"
    ∷ []

-- the name of a number, none where the table has no such number
unfoldable pub name_in : List Row → ℕ → String
name_in [] n = ""
name_in ((m named name) ∷ rows) n = cond (eqb n m) name (name_in rows n)
