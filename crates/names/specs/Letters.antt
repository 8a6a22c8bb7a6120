-- A type as letters: its base B K V W, then those of z o n d u that hold; a space; then those of e f s m that hold. Each has its place, which
-- holds a space where the property does not hold. The letters are BIP 379's, the fields those of types/mod.rs. Assumes nothing.
use Rattle.std.specs.Prelude.{Bool, cond, List, [], ◌∷◌, ℕ}
use Prim.Native.Char.{Char, code}
use Rattle.correctness.specs.Letters.{is_zero, is_one, is_non_zero}
use Rattle.malleability.specs.Letters.{is_none, is_unique}
use Rattle.correctness.specs.declared.Base.{Base}
use Rattle.correctness.specs.declared.Base.TheVariants.{B, K, «V», W}
use Rattle.correctness.specs.declared.Correctness.{Correctness}
use Rattle.malleability.specs.declared.Malleability.{Malleability}
use Rattle.names.specs.Text.{space}

abbrev pub base_letter : Base → ℕ
base_letter B = code "B"
base_letter K = code "K"
base_letter «V» = code "V"
base_letter W = code "W"

abbrev pub place : Bool → Char → ℕ
place holds letter = cond holds (code letter) space

abbrev pub correctness_places : Correctness → List ℕ
correctness_places c =
    base_letter c.base
    ∷ place (is_zero c.input) "z"
    ∷ place (is_one c.input) "o"
    ∷ place (is_non_zero c.input) "n"
    ∷ place c.dissatisfiable "d"
    ∷ place c.unit "u"
    ∷ []

abbrev pub malleability_places : Malleability → List ℕ
malleability_places m =
    place (is_unique m.dissat) "e"
    ∷ place (is_none m.dissat) "f"
    ∷ place m.safe "s"
    ∷ place m.non_malleable "m"
    ∷ []
