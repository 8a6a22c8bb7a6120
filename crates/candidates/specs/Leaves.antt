-- The candidates of leaves, from Terminal's leaves in policy/compiler.rs, in document 01's order ("Records"). What a leaf holds stands in
-- the place of its first child: a number that the caller chooses.
use Rattle.std.specs.Prelude.{ℕ}
use Rattle.contexts.specs.declared.Context.{Context}
use Rattle.contexts.specs.declared.Context.TheVariants.{Segwitv0, Tap}
use Rattle.types.specs.declared.«Type».{«Type»}
use Rattle.types.specs.TypeRules as type
use Rattle.figures.specs.declared.ExtData.{ExtData}
use Rattle.figures.specs.Rules as ext
use Rattle.costs.specs.declared.SigType.{SigType}
use Rattle.costs.specs.declared.SigType.TheVariants.{Ecdsa, Schnorr}
use Rattle.costs.specs.declared.Cost.{Cost}
use Rattle.costs.specs.Rules as cost
use Rattle.candidates.specs.FragmentKinds.{False, True, PkK, PkH, After, Older, Sha256, Hash256, Ripemd160, Hash160, Multi, MultiA}
use Rattle.candidates.specs.FragmentKinds.{no_child}
use Rattle.candidates.specs.declared.Candidate.{Candidate}
use Rattle.candidates.specs.Candidates.{candidate}

-- the kind of signature that a context checks
abbrev pub sig_type : Context → SigType
sig_type Segwitv0 = Ecdsa
sig_type Tap = Schnorr

-- kind, what it holds, type, figures, cost
abbrev pub leaf : ℕ → ℕ → «Type» → ExtData → Cost → Candidate
leaf kind held t e c = candidate kind held no_child no_child t e c

abbrev pub false_candidate : Candidate
false_candidate = leaf False no_child type.FALSE ext.false_ext cost.FALSE

abbrev pub true_candidate : Candidate
true_candidate = leaf True no_child type.TRUE ext.true_ext cost.TRUE

abbrev pub pk_k : Context → ℕ → Candidate
pk_k c held = leaf PkK held type.pk_k (ext.pk_k c) (cost.pk_k (sig_type c))

abbrev pub pk_h : Context → ℕ → Candidate
pk_h c held = leaf PkH held type.pk_h (ext.pk_h c) (cost.pk_h (sig_type c))

abbrev pub after : ℕ → ℕ → Candidate
after t held = leaf After held type.time (ext.after t) cost.time

abbrev pub older : ℕ → ℕ → Candidate
older t held = leaf Older held type.time (ext.older t) cost.time

abbrev pub sha256 : ℕ → Candidate
sha256 held = leaf Sha256 held type.hash ext.sha256 cost.hash

abbrev pub hash256 : ℕ → Candidate
hash256 held = leaf Hash256 held type.hash ext.hash256 cost.hash

abbrev pub ripemd160 : ℕ → Candidate
ripemd160 held = leaf Ripemd160 held type.hash ext.ripemd160 cost.hash

abbrev pub hash160 : ℕ → Candidate
hash160 held = leaf Hash160 held type.hash ext.hash160 cost.hash

-- k of n keys
abbrev pub multi : ℕ → ℕ → ℕ → Candidate
multi k n held = leaf Multi held type.multi (ext.multi k n) (cost.multi k n)

abbrev pub multi_a : ℕ → ℕ → ℕ → Candidate
multi_a k n held = leaf MultiA held type.multi_a (ext.multi_a k n) (cost.multi_a k n)
