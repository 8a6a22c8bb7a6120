use Rattle.variables.proofs.Rows.{add-over, add-met, add-full, add-new, new-roomy, full-roomy}
use Rattle.variables.proofs.add.Goals as goal

pub returns-then-t : goal.returns-then-t
returns-then-t c = record {
  value = add-over c.args.t c.args.x c.if-t.true;
  roomy = c.requires;
}

pub returns-then-has : goal.returns-then-has
returns-then-has c = record {
  value = add-met c.args.t c.args.x c.if-t.false c.has.ensures c.if-has.true;
  roomy = c.requires;
}

pub returns-then-n-eq-MAX_VARIABLES : goal.returns-then-n-eq-MAX_VARIABLES
returns-then-n-eq-MAX_VARIABLES c = record {
  value = add-full c.args.t c.args.x c.if-t.false c.has.ensures c.if-has.false c.if-n-eq-MAX_VARIABLES.true;
  roomy = full-roomy c.args.t c.args.x c.requires;
}

pub returns : goal.returns
returns c = record {
  value = add-new c.args.t c.args.x c.if-t.false c.has.ensures c.if-has.false c.if-n-eq-MAX_VARIABLES.false;
  roomy = new-roomy c.args.t c.args.x c.requires c.if-n-eq-MAX_VARIABLES.false;
}
