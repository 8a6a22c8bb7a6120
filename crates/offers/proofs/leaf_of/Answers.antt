-- `offers::leaf_of` meets its contract: each kind makes its leaf. Assumes nothing.
use Rattle.contexts.specs.Leaves.{After, Older, Sha256, Hash256, Ripemd160, Hash160}
use Rattle.offers.proofs.Leaves.{true-leaf, lock-leaf, hash-leaf, false-leaf}
use Rattle.offers.proofs.leaf_of.Goals as goal

pub returns-in-2 : goal.returns-in-2
returns-in-2 c = true-leaf c.in-2.is c.of_true.ensures

pub returns-in-4 : goal.returns-in-4
returns-in-4 c = lock-leaf After c.in-4.is c.after.ensures

pub returns-in-5 : goal.returns-in-5
returns-in-5 c = lock-leaf Older c.in-5.is c.older.ensures

pub returns-in-6 : goal.returns-in-6
returns-in-6 c = hash-leaf Sha256 c.in-6.is c.sha256.ensures

pub returns-in-7 : goal.returns-in-7
returns-in-7 c = hash-leaf Hash256 c.in-7.is c.hash256.ensures

pub returns-in-8 : goal.returns-in-8
returns-in-8 c = hash-leaf Ripemd160 c.in-8.is c.ripemd160.ensures

pub returns-in-9 : goal.returns-in-9
returns-in-9 c = hash-leaf Hash160 c.in-9.is c.hash160.ensures

pub returns-in_default : goal.returns-in_default
returns-in_default c = false-leaf c.in_default.in_default-own.rest c.of_false.ensures
