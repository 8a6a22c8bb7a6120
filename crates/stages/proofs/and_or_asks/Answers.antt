use Rattle.stages.proofs.and_or_asks.Goals as goal

pub returns : goal.returns
returns c = simp (c.one_ask-4.ensures, c.one_ask-3.ensures, c.one_ask-2.ensures, c.one_ask.ensures, c.one_ask-asks.ensures, c.or_dissat-both.ensures)
