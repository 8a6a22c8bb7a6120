-- `spend_run::next_first` meets its contract, kind by kind. Assumes nothing.
use native.Mathlib.Omega.{arith}
use Rattle.spend_run.proofs.Turning.{turns_as, stays_at, word-turn, first-and-b, first-and-v, first-or-b, first-or-d, first-or-c, first-and-or, first-thresh, first-other}
use Rattle.spend_run.proofs.next_first.Goals as goal

pub if_dup-a-requires : goal.if_dup-a-requires
if_dup-a-requires c = c.requires.0

pub branch-context-requires : goal.branch-context-requires
branch-context-requires c = c.if_dup-a.ensures.fits

pub branch-context-requires-in-53 : goal.branch-context-requires-in-53
branch-context-requires-in-53 c = c.requires.0

pub branch-context-requires-in-55 : goal.branch-context-requires-in-55
branch-context-requires-in-55 c = c.requires.0

pub returns-in-49 : goal.returns-in-49
returns-in-49 c = record {
  turns = λ t alt. turns_as (λ y s. first-and-b c.args.context t c.args.kind c.args.n y s c.in-49.is) (stays_at alt 1 c.requires.0);
  place_nonzero = omega arith;
}

pub returns-in-50 : goal.returns-in-50
returns-in-50 c = record {
  turns = λ t alt. turns_as (λ y s. first-and-v c.args.context t c.args.kind c.args.n y s c.in-50.is) (stays_at alt 1 c.requires.0);
  place_nonzero = omega arith;
}

pub returns-in-51 : goal.returns-in-51
returns-in-51 c = record {
  turns = λ t alt. turns_as (λ y s. first-or-b c.args.context t c.args.kind c.args.n y s c.in-51.is) (stays_at alt 1 c.requires.0);
  place_nonzero = omega arith;
}

pub shape_of-main-in-52 : goal.shape_of-main-in-52
shape_of-main-in-52 c = c.if_dup-a.ensures.same

pub returns-in-52 : goal.returns-in-52
returns-in-52 c = record {
  turns = λ t alt. turns_as (λ y s. first-or-d c.args.context t c.args.kind c.args.n y s c.in-52.is) (word-turn c.args.context t c.if_dup-a.ensures
      (c.branch-context.ensures.turns t alt));
  place_nonzero = c.branch-context.ensures.by_index 0 c.requires.1 (omega arith);
}

pub returns-in-53 : goal.returns-in-53
returns-in-53 c = record {
  turns = λ t alt. turns_as (λ y s. first-or-c c.args.context t c.args.kind c.args.n y s c.in-53.is) (c.branch-context-in-53.ensures.turns t alt);
  place_nonzero = c.branch-context-in-53.ensures.by_index 0
      c.requires.1 (omega arith);
}

pub returns-in-55 : goal.returns-in-55
returns-in-55 c = record {
  turns = λ t alt. turns_as (λ y s. first-and-or c.args.context t c.args.kind c.args.n y s c.in-55.is) (c.branch-context-in-55.ensures.turns t alt);
  place_nonzero = c.branch-context-in-55.ensures.by_index 0 (omega arith) (omega arith);
}

pub returns-in-56 : goal.returns-in-56
returns-in-56 c = record {
  turns = λ t alt. turns_as (λ y s. first-thresh c.args.context t c.args.kind c.args.n y s c.in-56.is) (stays_at alt 1 c.requires.0);
  place_nonzero = omega arith;
}

pub returns-in_default : goal.returns-in_default
returns-in_default c = record {
  turns = λ t alt. turns_as (λ y s. first-other c.args.context t c.args.kind c.args.n y s c.in_default.in_default-own.rest.0.0.0.0.0.0.1
      c.in_default.in_default-own.rest.0.0.0.0.0.1 c.in_default.in_default-own.rest.0.0.0.0.1 c.in_default.in_default-own.rest.0.0.0.1 c.in_default.in_default-own.rest.0.0.1 c.in_default.in_default-own.rest.0.1
      c.in_default.in_default-own.rest.1) (stays_at alt c.args.n c.requires.0);
  place_nonzero = c.requires.1;
}
