-- `moving::put_number` meets its contract: four bytes hold the low 32 bits. Assumes nothing.
use mathlib.Core.Path.{sym, ap, ◌∙◌}
use native.Mathlib.Omega.{arith}
use lib.Seq.{sets}
use Rattle.words.specs.Bytes.{bytes_of}
use Rattle.moving.specs.Moving.{key_width}
use Rattle.moving.proofs.Keys.{low-four, put_is}
use Rattle.moving.proofs.put_number.Goals as goal

pub returns-in-Old : goal.returns-in-Old
returns-in-Old c = let four = ap key_width c.in-Old.is in
    c.put_u32.ensures.s_after
    ∙ put_is 4 c.args.out.now c.args.at _ (omega (arith, four, c.requires))
    ∙ ap (sets c.args.out.now c.args.at) (low-four c.args.number)
    ∙ ap (λ w. sets c.args.out.now c.args.at (bytes_of w c.args.number)) (sym four)

pub returns-in-New : goal.returns-in-New
returns-in-New c = let eight = ap key_width c.in-New.is in
    c.put_u64.ensures.s_after
    ∙ put_is 8 c.args.out.now c.args.at _ (omega (arith, eight, c.requires))
    ∙ ap (λ w. sets c.args.out.now c.args.at (bytes_of w c.args.number)) (sym eight)
