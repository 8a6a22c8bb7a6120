-- `pairing::fits` meets its contract. Assumes nothing.
use Rattle.pairing.specs.Fits.{fits_from}
use Rattle.pairing.proofs.Fitting.{fits-above, fits_below}
use Rattle.pairing.proofs.fits.Goals as goal

pub returns-in-49 : goal.returns-in-49
unfolding fits_from
returns-in-49 c = simp (c.in-49.is, c.and_b.ensures, c.is_ok.ensures.value)

pub returns-in-50 : goal.returns-in-50
unfolding fits_from
returns-in-50 c = simp (c.in-50.is, c.and_v.ensures, c.is_ok-in-50.ensures.value)

pub returns-in-51 : goal.returns-in-51
unfolding fits_from
returns-in-51 c = simp (c.in-51.is, c.or_b.ensures, c.is_ok-in-51.ensures.value)

pub returns-in-52 : goal.returns-in-52
unfolding fits_from
returns-in-52 c = simp (c.in-52.is, c.or_d.ensures, c.is_ok-in-52.ensures.value)

pub returns-in-53 : goal.returns-in-53
unfolding fits_from
returns-in-53 c = simp (c.in-53.is, c.or_c.ensures, c.is_ok-in-53.ensures.value)

pub returns-in-54 : goal.returns-in-54
unfolding fits_from
returns-in-54 c = simp (c.in-54.is, c.or_i.ensures, c.is_ok-in-54.ensures.value)

pub returns-in-0-to-48 : goal.returns-in-0-to-48
returns-in-0-to-48 c = fits_below c.args.kind c.args.l c.args.r c.in-0-to-48.if-kind-lt49-own.true

pub returns-in-55-to-65535 : goal.returns-in-55-to-65535
returns-in-55-to-65535 c = fits-above c.args.kind c.args.l c.args.r c.in-55-to-65535.in_default-own.rest
