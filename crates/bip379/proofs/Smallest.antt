-- The smallest fragments at which the difference of specs/Agreement.antt that can arise is met: thresh(1,j:multi(1,A)) in P2WSH, and
-- thresh(1,l:0) in Tapscript, which has no multi. Before them d:v:1, whose u is Tapscript's alone, as the BIP has it. Assumes nothing.
use Rattle.std.specs.Prelude.{Bool, true, false, [], ◌∷◌, ◌≡◌, refl, Ok}
use Rattle.correctness.specs.CorrectnessRules.{correctness}
use Rattle.malleability.specs.MalleabilityRules.{malleability}
use Rattle.bip379.specs.Rust.{B, «V», Zero, One, OneNonZero, AnyNonZero, None, Unique, Unknown, «Type»}
use Rattle.bip379.specs.Correctness.{p2wsh, tapscript}
use Rattle.bip379.specs.Bip379.{just-0, just-1, multi, d:, v:, j:, l:, thresh, wrap}
use Rattle.bip379.specs.Agreement.{letters, leaf_rule, port, difference, e-of-thresh}

-- v:1 is Vzfm
abbrev v-1 : «Type»
v-1 = record { corr = correctness «V» Zero false false; mall = malleability None false true }

pub v-1-typed : port tapscript (wrap v: (leaf_rule just-1)) ≡ Ok v-1
v-1-typed = refl

-- d:v:1 is Bondem in P2WSH and Bonduem in Tapscript
abbrev d-v-1 : Bool → «Type»
d-v-1 u = record { corr = correctness B OneNonZero true u; mall = malleability Unique false true }

pub d-v-1-p2wsh : port p2wsh (wrap d: v-1) ≡ Ok (d-v-1 false)
d-v-1-p2wsh = refl

pub d-v-1-tapscript : port tapscript (wrap d: v-1) ≡ Ok (d-v-1 true)
d-v-1-tapscript = refl

-- j:multi(1,A) is Bndusm
abbrev j-multi : «Type»
j-multi = record { corr = correctness B AnyNonZero true true; mall = malleability Unknown true true }

pub j-multi-typed : port p2wsh (wrap j: (leaf_rule multi)) ≡ Ok j-multi
j-multi-typed = refl

pub thresh-j-multi-differs : difference (thresh 1 (letters j-multi ∷ [])) ≡ e-of-thresh
thresh-j-multi-differs = refl

-- l:0 is Bodusm
abbrev l-0 : «Type»
l-0 = record { corr = correctness B One true true; mall = malleability Unknown true true }

pub l-0-typed : port tapscript (wrap l: (leaf_rule just-0)) ≡ Ok l-0
l-0-typed = refl

pub thresh-l-0-differs : difference (thresh 1 (letters l-0 ∷ [])) ≡ e-of-thresh
thresh-l-0-differs = refl
