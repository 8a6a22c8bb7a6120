-- `records::keys` meets its contract: the keys are counted and not read. Assumes nothing.
use mathlib.Core.Path.{sym, ap, ◌∙◌}
use Rattle.records.specs.Payloads.{threshold_fits, payload_of}
use Rattle.records.proofs.Numbers.{length-numbers}
use Rattle.records.proofs.Widths.{width_few}
use Rattle.records.proofs.keys.Goals as goal

pub threshold_fits-requires : goal.threshold_fits-requires
threshold_fits-requires c = rw c.width_of.ensures (width_few c.args.bytes.now)

pub returns-then-threshold_fits : goal.returns-then-threshold_fits
unfolding payload_of
returns-then-threshold_fits c = simp (sym (c.threshold_fits.ensures ∙ ap (λ w. threshold_fits w c.args.bytes.now) c.width_of.ensures) ∙ c.if-threshold_fits.true, c.fitting-parts.ensures, c.u16_or_zero.ensures, c.u16_or_zero-then-threshold_fits.ensures, length-numbers)

pub returns : goal.returns
unfolding payload_of
returns c = simp (sym (c.threshold_fits.ensures ∙ ap (λ w. threshold_fits w c.args.bytes.now) c.width_of.ensures) ∙ c.if-threshold_fits.false, c.unfit.ensures)
