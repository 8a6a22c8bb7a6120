-- `records::number_at` meets its contract: eight bytes or four, by the written kind. Assumes nothing.
use Rattle.std.proofs.Common.{rules}
use mathlib.Core.Path.{sym, ap, ◌∙◌}
use native.Mathlib.Omega.{arith}
use Rattle.records.specs.Shapes.{is_long}
use Rattle.records.proofs.Widths.{width-long, width-short}
use Rattle.records.proofs.number_at.Goals as goal

pub returns-then-is_long : goal.returns-then-is_long
returns-then-is_long c = let long = sym (c.is_long.ensures ∙ ap is_long c.written_kind.ensures) ∙ c.if-is_long.true in
    let wide = width-long c.args.bytes.now long in
    record {
      value = rw wide c.u64_or_zero.ensures;
      upper_bound = λ e. absurd (omega (arith, sym wide ∙ e));
    }

pub returns : goal.returns
returns c = let short = sym (c.is_long.ensures ∙ ap is_long c.written_kind.ensures) ∙ c.if-is_long.false in
    record {
      value = rw (width-short c.args.bytes.now short) c.u32_or_zero.ensures;
      upper_bound = λ e. search rules;
    }
