use Rattle.stages.proofs.and_pairings.Goals as goal

pub returns : goal.returns
returns c = simp (c.triple-2.ensures, c.triple.ensures, c.pair-3.ensures, c.pair-2.ensures, c.pair.ensures, c.pair-pairings.ensures)
