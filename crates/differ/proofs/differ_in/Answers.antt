-- `differ::differ_in` meets its contract: the starts of either tree stand in a half of work memory. Assumes nothing.
use mathlib.Core.Path.{ap}
use mathlib.Core.List.{List}
use lib.ListN.{length}
use Rattle.differ.specs.Differences.{Difference}
use Rattle.differ.specs.Differ.{fitting}
use Rattle.differ.proofs.Halves.{left-room, right-room, stored-long, roots-walk, some_left, some_right}
use Rattle.differ.proofs.Promised.{gives_as, of-roots}
use mathlib.Core.Path.{sym}
use Rattle.differ.proofs.differ_in.Goals as goal

pub scan-n-requires : goal.scan-n-requires
scan-n-requires c = (c.requires.0, left-room c.requires.0.rows c.requires.1.rows c.args.work.now c.requires.2)

pub scan-m-requires : goal.scan-m-requires
scan-m-requires c = (c.requires.1, right-room c.requires.0.rows c.requires.1.rows c.args.work.now c.requires.2 c.scan-n.ensures)

pub overflow_sub-n : goal.overflow_sub-n
overflow_sub-n c = some_left c.requires.0.rows c.requires.1.rows c.args.work.now c.requires.2 c.scan-n.ensures c.scan-m.ensures

pub overflow_sub-m : goal.overflow_sub-m
overflow_sub-m c = some_right c.requires.0.rows c.requires.1.rows c.args.work.now c.requires.2 c.scan-n.ensures c.scan-m.ensures

pub differ_roots-requires : goal.differ_roots-requires
differ_roots-requires c = roots-walk c.requires.0.rows c.requires.1.rows c.args.work.now c.requires.2 c.scan-n.ensures c.scan-m.ensures

pub shape_of-work : goal.shape_of-work
shape_of-work c = stored-long c.requires.0.rows c.requires.1.rows c.args.work.now c.requires.2 c.scan-n.ensures c.scan-m.ensures

pub returns : goal.returns
returns c = record {
  gives = gives_as (ap (λ (ds : List Difference). fitting (length c.args.out.now) ds) (sym (of-roots c.requires.0.rows c.requires.1.rows
      (c.scan-n.ensures.counts c.requires.0.root c.requires.0.rows) (c.scan-m.ensures.counts c.requires.1.root c.requires.1.rows)))) c.differ_roots.ensures;
  work_len_unchanged = stored-long c.requires.0.rows c.requires.1.rows c.args.work.now c.requires.2 c.scan-n.ensures c.scan-m.ensures;
}
