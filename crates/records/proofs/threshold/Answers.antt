-- `records::threshold` meets its contract: the children follow k and n. Assumes nothing.
use mathlib.Core.Path.{sym, ◌∙◌}
use native.Mathlib.Omega.{arith}
use Rattle.records.specs.Payloads.{payload_of}
use Rattle.records.proofs.Numbers.{length-u16s}
use Rattle.records.proofs.Forms.{fits-bounds}
use Rattle.records.proofs.threshold.Goals as goal

pub children_at-children-requires : goal.children_at-children-requires
children_at-children-requires c = let fits = sym c.threshold_fits.ensures ∙ c.if-threshold_fits.true in
    let bounds = fits-bounds 2 c.args.bytes.now fits in
    omega (arith, c.u16_or_zero-count.ensures)

pub returns-then-threshold_fits : goal.returns-then-threshold_fits
unfolding payload_of
returns-then-threshold_fits c = simp (
  sym c.threshold_fits.ensures ∙ c.if-threshold_fits.true,
  c.u16_or_zero-count.ensures,
  c.children_at-children.ensures,
  c.fitting-parts.ensures,
  c.u16_or_zero.ensures,
  length-u16s,
)

pub returns : goal.returns
unfolding payload_of
returns c = simp (sym c.threshold_fits.ensures ∙ c.if-threshold_fits.false, c.unfit.ensures)
