-- How tall candidates are: document 02, R-8. What the test of their height changes is told by crate `search_before`.
use Rattle.std.specs.Prelude.{◌≡◌}
use Rattle.contexts.specs.declared.Context.{Context}
use Rattle.trees.specs.Height.{height_of}
use Rattle.definition.specs.Candidates.{Candidate}
use Rattle.definition.specs.Insertion.{height}
use Rattle.definition_laws.specs.Laws.{Good}

-- a candidate whose figures are those of its tree is as tall as its tree
abbrev pub HeightOfTree : Type 0
HeightOfTree = (c : Context) (x : Candidate) → Good c x → height x ≡ height_of x.tree
