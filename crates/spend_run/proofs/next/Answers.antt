-- `spend_run::next` meets its contract, by the child's number. Assumes nothing.
use Prim.Native.Nat.{◌+◌}
use native.Mathlib.Omega.{arith}
use Rattle.spend_run.proofs.Turning.{turns_as, stays_at, word_at, behind-first, later-thresh, later-other}
use Rattle.spend_run.proofs.next.Goals as goal

pub next_first-requires : goal.next_first-requires
next_first-requires c = (c.requires.0, omega (arith, c.requires.1))

pub returns-then-j-eq0 : goal.returns-then-j-eq0
returns-then-j-eq0 c = record {
  turns = λ t alt. turns_as (λ y s. behind-first c.args.context t c.args.kind c.args.n y s c.args.j c.if-j-eq0.true) (c.next_first.ensures.turns t alt);
  j_lt_place = omega (
    arith,
    c.next_first.ensures.place_nonzero,
    c.if-j-eq0.true,
  );
}

pub two_numbers-a-requires : goal.two_numbers-a-requires
two_numbers-a-requires c = c.requires.0

pub overflow_add-result : goal.overflow_add-result
overflow_add-result c = omega (arith, c.requires.1)

pub shape_of-main-then-kind-eq56 : goal.shape_of-main-then-kind-eq56
shape_of-main-then-kind-eq56 c = c.two_numbers-a.ensures.same

pub returns-then-kind-eq56 : goal.returns-then-kind-eq56
returns-then-kind-eq56 c = record {
  turns = λ t alt. turns_as (λ y s. later-thresh c.args.context t c.args.kind c.args.n y s c.args.j c.if-j-eq0.false c.if-kind-eq56.true) (word_at c.args.context t alt
      (c.args.j + 1) c.two_numbers-a.ensures);
  j_lt_place = omega arith;
}

pub returns : goal.returns
returns c = record {
  turns = λ t alt. turns_as (λ y s. later-other c.args.context t c.args.kind c.args.n y s c.args.j c.if-j-eq0.false c.if-kind-eq56.false) (stays_at alt
      c.args.n c.requires.0);
  j_lt_place = c.requires.1;
}
