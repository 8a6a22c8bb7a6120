-- `trees::check_records` meets its contract: the bytes behind the records read decide, and the count of free slots is kept. Assumes nothing.
use native.Mathlib.Omega.{arith}
use mathlib.Core.Path.{refl, sym, ap, ◌∙◌}
use lib.ListN.{length}
use Rattle.std.proofs.lemmas.Result.{err_from_is_err_and}
use Rattle.records.proofs.Laws.{whole_length, broken-length}
use Rattle.trees.proofs.LoopLaws.{Turn, progress_start, free-few, progress-large, progress-broken, end-within, end_later}
use Rattle.trees.proofs.LoopLaws.{same-room, progress-refused, progress-free, progress-next}
use Rattle.trees.proofs.LoopLaws.{progress-unused, progress-root, some_read}
use Rattle.trees.proofs.check_records.Goals as goal

pub loop-at-init : goal.loop-at-init
loop-at-init c = progress_start c.args.context c.args.tree.now c.args.work.now c.requires

pub shape_of-work-then-read-eq-MAX_RECORDS : goal.shape_of-work-then-read-eq-MAX_RECORDS
shape_of-work-then-read-eq-MAX_RECORDS c = c.loop-at.invariant.room ∙ sym c.requires

pub returns-then-read-eq-MAX_RECORDS : goal.returns-then-read-eq-MAX_RECORDS
returns-then-read-eq-MAX_RECORDS c = record {
  result_value = progress-large c.loop-at.invariant c.loop-at-test.true c.if-read-eq-MAX_RECORDS.true;
  work_len_unchanged = c.loop-at.invariant.room ∙ sym c.requires;
}

pub shape_of-work-in_default : goal.shape_of-work-in_default
shape_of-work-in_default c = c.loop-at.invariant.room ∙ sym c.requires

pub returns-in_default : goal.returns-in_default
returns-in_default c = let broken = broken-length c.args.tree.now c.loop-at.at c.length_at.ensures c.in_default.is in
    record {
      result_value = progress-broken c.loop-at.invariant c.loop-at-test.true (omega (arith, c.if-read-eq-MAX_RECORDS.false, c.loop-at.invariant.few)) broken;
      work_len_unchanged = c.loop-at.invariant.room ∙ sym c.requires;
    }

pub overflow_add-end : goal.overflow_add-end
overflow_add-end c = let turn : Turn c.args.context c.args.tree.now c.loop-at.work c.loop-at.at c.loop-at.read c.loop-at.free c.in-Some.len
    = record {
      so_far = c.loop-at.invariant;
      inside = c.loop-at-test.true;
      more = omega (arith, c.if-read-eq-MAX_RECORDS.false, c.loop-at.invariant.few);
      whole = whole_length c.args.tree.now c.loop-at.at c.length_at.ensures c.in-Some.is;
    } in
    omega (arith, end-within turn)

pub overflow_add-free : goal.overflow_add-free
overflow_add-free c = omega (arith, free-few c.loop-at.invariant)

pub overflow_sub-free : goal.overflow_sub-free
overflow_sub-free c = let turn : Turn c.args.context c.args.tree.now c.loop-at.work c.loop-at.at c.loop-at.read c.loop-at.free c.in-Some.len
    = record {
      so_far = c.loop-at.invariant;
      inside = c.loop-at-test.true;
      more = omega (arith, c.if-read-eq-MAX_RECORDS.false, c.loop-at.invariant.few);
      whole = whole_length c.args.tree.now c.loop-at.at c.length_at.ensures c.in-Some.is;
    } in
    omega (arith, progress-free turn c.in_ok-children.ensures refl)

pub returns-in_err-children : goal.returns-in_err-children
returns-in_err-children c = let turn : Turn c.args.context c.args.tree.now c.loop-at.work c.loop-at.at c.loop-at.read c.loop-at.free c.in-Some.len
    = record {
      so_far = c.loop-at.invariant;
      inside = c.loop-at-test.true;
      more = omega (arith, c.if-read-eq-MAX_RECORDS.false, c.loop-at.invariant.few);
      whole = whole_length c.args.tree.now c.loop-at.at c.length_at.ensures c.in-Some.is;
    } in
    let p = err_from_is_err_and c.from_residual.result c.from_residual.ensures.1 in
    record {
      result_value = rw (p.1, p.2) (progress-refused turn c.in_err-children.ensures refl);
      work_len_unchanged = same-room turn c.check_record.ensures c.requires;
    }

pub loop-at-smaller : goal.loop-at-smaller
loop-at-smaller c = let turn : Turn c.args.context c.args.tree.now c.loop-at.work c.loop-at.at c.loop-at.read c.loop-at.free c.in-Some.len
    = record {
      so_far = c.loop-at.invariant;
      inside = c.loop-at-test.true;
      more = omega (arith, c.if-read-eq-MAX_RECORDS.false, c.loop-at.invariant.few);
      whole = whole_length c.args.tree.now c.loop-at.at c.length_at.ensures c.in-Some.is;
    } in
    omega (arith, end_later turn, c.loop-at-test.true)

pub loop-at-preserved : goal.loop-at-preserved
loop-at-preserved c = let turn : Turn c.args.context c.args.tree.now c.loop-at.work c.loop-at.at c.loop-at.read c.loop-at.free c.in-Some.len
    = record {
      so_far = c.loop-at.invariant;
      inside = c.loop-at-test.true;
      more = omega (arith, c.if-read-eq-MAX_RECORDS.false, c.loop-at.invariant.few);
      whole = whole_length c.args.tree.now c.loop-at.at c.length_at.ensures c.in-Some.is;
    } in
    progress-next turn c.in_ok-children.ensures refl

pub root_type-requires : goal.root_type-requires
root_type-requires c = (some_read c.loop-at.invariant c.if-free-eq1.true, omega (arith, c.loop-at.invariant.few, c.loop-at.invariant.room))

pub shape_of-work-then-free-eq1 : goal.shape_of-work-then-free-eq1
shape_of-work-then-free-eq1 c = ap length c.root_type.ensures.work_unchanged ∙ c.loop-at.invariant.room ∙ sym c.requires

pub returns-then-free-eq1 : goal.returns-then-free-eq1
returns-then-free-eq1 c = record {
  result_value = c.root_type.ensures.result_value ∙ progress-root c.loop-at.invariant c.loop-at-test.false c.if-free-eq1.true;
  work_len_unchanged = ap length c.root_type.ensures.work_unchanged ∙ c.loop-at.invariant.room ∙ sym c.requires;
}

pub shape_of-work : goal.shape_of-work
shape_of-work c = c.loop-at.invariant.room ∙ sym c.requires

pub returns : goal.returns
returns c = record {
  result_value = progress-unused c.loop-at.invariant c.loop-at-test.false c.if-free-eq1.false;
  work_len_unchanged = c.loop-at.invariant.room ∙ sym c.requires;
}
