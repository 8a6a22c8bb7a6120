-- `spend_entry::replay` meets its contract: the log is broken, or it is replayed. Assumes nothing.
use mathlib.Core.Path.{refl}
use Rattle.spend_log.proofs.Heads.{head-told, head-told-broken, entries-told-broken}
use Rattle.spend_entry.proofs.Promised.{broken-log, whole}
use Rattle.spend_entry.proofs.replay.Goals as goal

pub returns-in_default : goal.returns-in_default
returns-in_default c = record {
  gives = broken-log c.args.log.now c.args.out.now c.args.work.now (head-told-broken c.args.log.now c.head_of.ensures c.in_default.is);
  work_len_unchanged = refl;
}

pub count_entries-requires : goal.count_entries-requires
count_entries-requires c = (head-told c.args.log.now c.head_of.ensures c.in-Some.is).within

pub returns-in_default-count_entries : goal.returns-in_default-count_entries
returns-in_default-count_entries c = let lies = head-told c.args.log.now c.head_of.ensures c.in-Some.is in
    record {
      gives = broken-log c.args.log.now c.args.out.now c.args.work.now (entries-told-broken c.args.log.now _ lies c.count_entries.ensures c.in_default-count_entries.is);
      work_len_unchanged = refl;
    }

pub replay_whole-requires : goal.replay_whole-requires
replay_whole-requires c = whole c.args.log.now _ (head-told c.args.log.now c.head_of.ensures c.in-Some.is) c.count_entries.ensures c.in-Some-count_entries.is

pub returns : goal.returns
returns c = c.replay_whole.ensures
