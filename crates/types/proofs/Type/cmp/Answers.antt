use mathlib.Core.Path.{sym}
use Rattle.types.proofs.PackLaws.{cmp-pack}
use Rattle.types.proofs.Type.cmp.Goals as goal

pub returns : goal.returns
returns c = simp (c.cmp_rank.ensures, c.pack-2.ensures, c.pack.ensures)
    (sym (cmp-pack c.args.self c.args.other))
