-- `spend_entry::replay_whole` meets its contract: work memory has its one length, or it is refused. Assumes nothing.
use mathlib.Core.Path.{refl}
use Rattle.spend_entry.proofs.Promised.{wrong-work}
use Rattle.spend_entry.proofs.replay_whole.Goals as goal

pub replay_checked-requires : goal.replay_checked-requires
replay_checked-requires c = (c.requires, c.if-work-eq-WORDS.true)

pub returns-then-work-eq-WORDS : goal.returns-then-work-eq-WORDS
returns-then-work-eq-WORDS c = c.replay_checked.ensures

pub returns : goal.returns
returns c = record {
  gives = wrong-work c.args.log.now c.args.head c.args.count (c.requires) c.args.out.now c.args.work.now c.if-work-eq-WORDS.false c.wrong_length.ensures;
  work_len_unchanged = refl;
}
