use Rattle.stages.proofs.or_asks.Goals as goal

pub returns : goal.returns
returns c = simp (c.one_ask-8.ensures, c.one_ask-7.ensures, c.one_ask-6.ensures, c.one_ask-5.ensures, c.one_ask-4.ensures, c.or_dissat-2.ensures, c.one_ask-3.ensures, c.one_ask-2.ensures, c.one_ask.ensures, c.or_dissat.ensures)
