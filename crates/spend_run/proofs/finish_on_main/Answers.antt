-- `spend_run::finish_on_main` meets its contract, kind by kind. Assumes nothing.
use mathlib.Core.Path.{◌∙◌}
use Rattle.spend_run.proofs.Turning.{moves-as, word-moves, two-move, no_move, end-check, end-verify, end-zero-not-equal, end-and-b, end-or-b, end-thresh, end-other}
use Rattle.spend_run.proofs.finish_on_main.Goals as goal

pub check_sig-requires : goal.check_sig-requires
check_sig-requires c = c.requires.0

pub verify-requires : goal.verify-requires
verify-requires c = c.requires.0

pub zero_not_equal-requires : goal.zero_not_equal-requires
zero_not_equal-requires c = c.requires.0

pub two_numbers-requires : goal.two_numbers-requires
two_numbers-requires c = c.requires.0

pub two_numbers-requires-in-51 : goal.two_numbers-requires-in-51
two_numbers-requires-in-51 c = c.requires.0

pub push_number-a-requires : goal.push_number-a-requires
push_number-a-requires c = c.requires.0

pub equal-requires : goal.equal-requires
equal-requires c = c.push_number-a.ensures.fits

pub shape_of-main-in-44 : goal.shape_of-main-in-44
shape_of-main-in-44 c = c.check_sig.ensures.same

pub returns-in-44 : goal.returns-in-44
returns-in-44 c = λ z t alt. moves-as (λ s. end-check z t c.args.kind c.args.k s c.in-44.is) (word-moves z t alt c.check_sig.ensures)

pub shape_of-main-in-46 : goal.shape_of-main-in-46
shape_of-main-in-46 c = c.verify.ensures.same

pub returns-in-46 : goal.returns-in-46
returns-in-46 c = λ z t alt. moves-as (λ s. end-verify z t c.args.kind c.args.k s c.in-46.is) (word-moves z t alt c.verify.ensures)

pub shape_of-main-in-48 : goal.shape_of-main-in-48
shape_of-main-in-48 c = c.zero_not_equal.ensures.same

pub returns-in-48 : goal.returns-in-48
returns-in-48 c = λ z t alt. moves-as (λ s. end-zero-not-equal z t c.args.kind c.args.k s c.in-48.is) (word-moves z t alt c.zero_not_equal.ensures)

pub shape_of-main-in-49 : goal.shape_of-main-in-49
shape_of-main-in-49 c = c.two_numbers.ensures.same

pub returns-in-49 : goal.returns-in-49
returns-in-49 c = λ z t alt. moves-as (λ s. end-and-b z t c.args.kind c.args.k s c.in-49.is) (word-moves z t alt c.two_numbers.ensures)

pub shape_of-main-in-51 : goal.shape_of-main-in-51
shape_of-main-in-51 c = c.two_numbers-in-51.ensures.same

pub returns-in-51 : goal.returns-in-51
returns-in-51 c = λ z t alt. moves-as (λ s. end-or-b z t c.args.kind c.args.k s c.in-51.is) (word-moves z t alt c.two_numbers-in-51.ensures)

pub shape_of-main-in-56 : goal.shape_of-main-in-56
shape_of-main-in-56 c = c.equal.ensures.same ∙ c.push_number-a.ensures.same

pub returns-in-56 : goal.returns-in-56
returns-in-56 c = λ z t alt. moves-as (λ s. end-thresh z t c.args.kind c.args.k s c.in-56.is) (two-move z t alt c.push_number-a.ensures c.equal.ensures)

pub returns-in_default : goal.returns-in_default
returns-in_default c = λ z t alt. moves-as (λ s. end-other z t c.args.kind c.args.k s c.requires.1 c.in_default.in_default-own.rest.0.0.0.0.0.1
    c.in_default.in_default-own.rest.0.0.0.0.1 c.in_default.in_default-own.rest.0.0.0.1 c.in_default.in_default-own.rest.0.0.1 c.in_default.in_default-own.rest.0.1 c.in_default.in_default-own.rest.1) (no_move
    alt c.requires.0)
