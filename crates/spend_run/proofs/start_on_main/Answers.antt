-- `spend_run::start_on_main` meets its contract, kind by kind. Assumes nothing.
use mathlib.Core.Path.{◌∙◌}
use Rattle.spend_run.proofs.Turning.{turns_as, stays_at, word-turn, word_at, start-swap, start-dup-if, start-non-zero, start-or-i, start-other}
use Rattle.spend_run.proofs.start_on_main.Goals as goal

pub swap-a-requires : goal.swap-a-requires
swap-a-requires c = c.requires.0

pub dup-a-requires : goal.dup-a-requires
dup-a-requires c = c.requires.0

pub branch-context-requires : goal.branch-context-requires
branch-context-requires c = c.dup-a.ensures.fits

pub size-a-requires : goal.size-a-requires
size-a-requires c = c.requires.0

pub zero_not_equal-b-requires : goal.zero_not_equal-b-requires
zero_not_equal-b-requires c = c.size-a.ensures.fits

pub branch-context-requires-in-47 : goal.branch-context-requires-in-47
branch-context-requires-in-47 c = c.zero_not_equal-b.ensures.fits

pub branch-context-requires-in-54 : goal.branch-context-requires-in-54
branch-context-requires-in-54 c = c.requires.0

pub shape_of-main-in-43 : goal.shape_of-main-in-43
shape_of-main-in-43 c = c.swap-a.ensures.same

pub returns-in-43 : goal.returns-in-43
returns-in-43 c = λ t alt. turns_as (λ y s. start-swap c.args.context t c.args.kind c.args.n y s c.in-43.is) (word_at c.args.context t alt 0 c.swap-a.ensures)

pub shape_of-main-in-45 : goal.shape_of-main-in-45
shape_of-main-in-45 c = c.dup-a.ensures.same

pub returns-in-45 : goal.returns-in-45
returns-in-45 c = λ t alt. turns_as (λ y s. start-dup-if c.args.context t c.args.kind c.args.n y s c.in-45.is) (word-turn c.args.context t c.dup-a.ensures
    (c.branch-context.ensures.turns t alt))

pub shape_of-main-in-47 : goal.shape_of-main-in-47
shape_of-main-in-47 c = c.zero_not_equal-b.ensures.same ∙ c.size-a.ensures.same

pub returns-in-47 : goal.returns-in-47
returns-in-47 c = λ t alt. turns_as (λ y s. start-non-zero c.args.context t c.args.kind c.args.n y s c.in-47.is) (word-turn c.args.context t c.size-a.ensures (word-turn
    c.args.context t c.zero_not_equal-b.ensures (c.branch-context-in-47.ensures.turns t alt)))

pub returns-in-54 : goal.returns-in-54
returns-in-54 c = λ t alt. turns_as (λ y s. start-or-i c.args.context t c.args.kind c.args.n y s c.in-54.is) (c.branch-context-in-54.ensures.turns t alt)

pub returns-in_default : goal.returns-in_default
returns-in_default c = λ t alt. turns_as (λ y s. start-other c.args.context t c.args.kind c.args.n y s c.requires.1 c.in_default.in_default-own.rest.0.0.0.1
    c.in_default.in_default-own.rest.0.0.1 c.in_default.in_default-own.rest.0.1 c.in_default.in_default-own.rest.1) (stays_at alt 0 c.requires.0)
