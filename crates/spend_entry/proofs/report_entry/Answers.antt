-- `spend_entry::report_entry` meets its contract: the entry that stands there is judged and reported. Assumes nothing.
use mathlib.Core.Path.{◌∙◌}
use Rattle.walk.specs.TreeRecords.{fragment_at}
use Rattle.spend_log.specs.Places.{tables_in}
use Rattle.spend_entry.proofs.Judged.{its-parts-lie, reported}
use Rattle.spend_entry.proofs.report_entry.Goals as goal

pub verdict_on-verdict-requires : goal.verdict_on-verdict-requires
verdict_on-verdict-requires c = (c.requires.0, its-parts-lie c.args.log.now c.args.at c.requires.1 c.entry_at-e.ensures, c.requires.2)

pub returns : goal.returns
returns c = record {
  reported = reported c.args.log.now c.args.at c.requires.1 c.args.context (tables_in c.args.log.now c.args.head)
      (fragment_at c.args.tree.now c.args.root) c.args.i c.args.out.now c.entry_at-e.ensures (c.number.ensures ∙ c.verdict_on-verdict.ensures.value) c.put_report.ensures;
  keeps = c.verdict_on-verdict.ensures.keeps;
}
