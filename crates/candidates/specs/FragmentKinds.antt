-- The numbers of the fragment kinds, from document 01, "Records", and of the two nodes that are fixed, from "Forms that must change".
use Rattle.std.specs.Prelude.{ℕ}

abbrev pub False : ℕ
False = 32

abbrev pub True : ℕ
True = 33

abbrev pub PkK : ℕ
PkK = 34

abbrev pub PkH : ℕ
PkH = 35

abbrev pub After : ℕ
After = 36

abbrev pub Older : ℕ
Older = 37

abbrev pub Sha256 : ℕ
Sha256 = 38

abbrev pub Hash256 : ℕ
Hash256 = 39

abbrev pub Ripemd160 : ℕ
Ripemd160 = 40

abbrev pub Hash160 : ℕ
Hash160 = 41

abbrev pub Alt : ℕ
Alt = 42

abbrev pub Swap : ℕ
Swap = 43

abbrev pub Check : ℕ
Check = 44

abbrev pub DupIf : ℕ
DupIf = 45

abbrev pub Verify : ℕ
Verify = 46

abbrev pub NonZero : ℕ
NonZero = 47

abbrev pub ZeroNotEqual : ℕ
ZeroNotEqual = 48

abbrev pub AndB : ℕ
AndB = 49

abbrev pub AndV : ℕ
AndV = 50

abbrev pub OrB : ℕ
OrB = 51

abbrev pub OrD : ℕ
OrD = 52

abbrev pub OrC : ℕ
OrC = 53

abbrev pub OrI : ℕ
OrI = 54

abbrev pub AndOr : ℕ
AndOr = 55

abbrev pub Multi : ℕ
Multi = 57

abbrev pub MultiA : ℕ
MultiA = 58

-- the node of False
abbrev pub false_node : ℕ
false_node = 0

-- the node of True
abbrev pub true_node : ℕ
true_node = 1

-- what stands in the place of a child that a kind does not have
abbrev pub no_child : ℕ
no_child = 0
