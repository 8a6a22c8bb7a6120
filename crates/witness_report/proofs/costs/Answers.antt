-- `witness_report::costs` meets its contract: the outcome is what the entry gives. Assumes nothing.
use Rattle.witness_report.proofs.Outcomes.{refuses, no_way, spends}
use Rattle.witness_report.proofs.costs.Goals as goal

pub returns-then-number-ne0 : goal.returns-then-number-ne0
returns-then-number-ne0 c = refuses (c.requires) c.claspwillow_witness-number.ensures c.if-number-ne0.true

pub returns-then-found-eq0 : goal.returns-then-found-eq0
returns-then-found-eq0 c = no_way (c.requires) c.claspwillow_witness-number.ensures c.if-number-ne0.false c.if-found-eq0.true

pub returns : goal.returns
returns c = spends (c.requires) c.claspwillow_witness-number.ensures c.if-number-ne0.false c.if-found-eq0.false
