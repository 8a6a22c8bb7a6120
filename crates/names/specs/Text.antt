-- Texts as the bytes that stand for them, and the rows of places that the program fills before it writes. Assumes nothing.
use Rattle.std.specs.Prelude.{cond, List, [], ◌∷◌, ◌++◌, ℕ, ◌-◌, eqb, length, replicate}
use Prim.Native.Char.{code}
use Prim.Native.String.{String}
use Prim.Native.String.{[] as empty, ◌∷◌ as ◌then◌}

abbrev pub space : ℕ
space = 32

-- the bytes of a text in ASCII
abbrev pub bytes : String → List ℕ
bytes empty = []
bytes (c then s) = code c ∷ bytes s

-- a text in so many places, then spaces
abbrev pub in_places : ℕ → String → List ℕ
in_places n s = bytes s ++ replicate (n - length (bytes s)) space

-- what stands in the places that are no spaces
unfoldable pub without_spaces : List ℕ → List ℕ
without_spaces [] = []
without_spaces (b ∷ bs) = cond (eqb b space) (without_spaces bs) (b ∷ without_spaces bs)
