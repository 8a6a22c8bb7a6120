-- `moving::put_moved` meets its contract. Assumes nothing.
use mathlib.Core.Path.{sym, ap, ◌∙◌}
use native.Mathlib.Omega.{arith}
use lib.Seq.{sets}
use Rattle.moving.specs.Moving.{key_record}
use Rattle.moving.proofs.Keys.{moved-key, moved_other, key-long, other-long}
use Rattle.moving.proofs.put_moved.Goals as goal

pub put_key-requires : goal.put_key-requires
put_key-requires c = omega (arith, c.requires, key-long c.args.form c.args.whole.now (sym c.moves.ensures ∙ c.if-moves.true))

pub overflow_add-result : goal.overflow_add-result
overflow_add-result c = omega (arith, c.requires, c.key_length.ensures, key-long c.args.form c.args.whole.now (sym c.moves.ensures ∙ c.if-moves.true))

pub returns-then-moves : goal.returns-then-moves
returns-then-moves c = let is = sym c.moves.ensures ∙ c.if-moves.true in record {
  value = omega (arith, c.key_length.ensures, key-long c.args.form c.args.whole.now is);
  out_after = c.put_key.ensures
      ∙ ap (λ n. sets c.args.out.now c.args.at (key_record c.args.form n)) c.number_of.ensures.value
      ∙ ap (sets c.args.out.now c.args.at) (sym (moved-key c.args.form c.args.whole.now is));
}

pub put_bytes-requires : goal.put_bytes-requires
put_bytes-requires c = omega (arith, c.requires, other-long c.args.form c.args.whole.now (sym c.moves.ensures ∙ c.if-moves.false))

pub overflow_add-result-2 : goal.overflow_add-result-2
overflow_add-result-2 c = omega (arith, c.requires, other-long c.args.form c.args.whole.now (sym c.moves.ensures ∙ c.if-moves.false))

pub returns : goal.returns
returns c = let is = sym c.moves.ensures ∙ c.if-moves.false in record {
  value = omega (arith, other-long c.args.form c.args.whole.now is);
  out_after = c.put_bytes.ensures ∙ ap (sets c.args.out.now c.args.at) (sym (moved_other c.args.form c.args.whole.now is));
}
