-- `trees::take_children` meets its contract: those still to come, with those taken before them, are all. Assumes nothing.
use native.Mathlib.Omega.{arith}
use mathlib.Core.Path.{◌≡◌, sym, ◌∙◌}
use lib.ListN.{length, length-set}
use Rattle.trees.specs.WorkMemory.{slots_in}
use Rattle.trees.proofs.InMemory.{children-more, children-stop, children-end}
use Rattle.trees.proofs.take_children.Goals as goal

pub returns-in_err-subtrees : goal.returns-in_err-subtrees
returns-in_err-subtrees c = let len : length c.args.children ≡ 16 = c.loop-i.invariant.4 in
    let stop = children-stop c.args.children c.args.n _ c.loop-i.subtrees c.loop-i.i (slots_in c.loop-i.work c.args.read) c.loop-i-test.true (omega arith)
    (sym c.in_err-subtrees.ensures.value) c.loop-i.invariant.0 in
    record {
      read_value = rw c.from_residual.ensures stop;
      work_len_unchanged = c.take_child.ensures.work_len_unchanged ∙ c.loop-i.invariant.3;
    }

pub loop-i-preserved : goal.loop-i-preserved
loop-i-preserved c = let len : length c.args.children ≡ 16 = c.loop-i.invariant.4 in (
  children-more c.args.children c.args.n _ c.loop-i.subtrees c.loop-i.i (slots_in c.loop-i.work c.args.read) _ _ c.loop-i-test.true
      (omega arith) (omega (arith, c.loop-i.invariant.2))
      (sym c.in_ok-subtrees.ensures.value)
      c.take_child.ensures.read_after c.loop-i.invariant.0,
  omega arith,
  length-set c.loop-i.subtrees c.loop-i.i _ ∙ c.loop-i.invariant.2,
  c.take_child.ensures.work_len_unchanged ∙ c.loop-i.invariant.3,
  len,
)

pub returns : goal.returns
returns c = record {
  read_value = children-end c.args.children c.args.n _ c.loop-i.subtrees c.loop-i.i (slots_in c.loop-i.work c.args.read) (omega (arith, c.loop-i.invariant.1)) c.loop-i.invariant.0;
  work_len_unchanged = c.loop-i.invariant.3;
}
