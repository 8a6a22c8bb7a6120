use Rattle.tree_figures.proofs.Words.{six}
use Rattle.figures.specs.Rules.{num}
use Rattle.tree_figures.proofs.words_of.Goals as goal

pub returns : goal.returns
returns c = rw (c.sat_words-s.ensures, c.sat_words-d.ensures, c.from.ensures) (six c.args.x.sat_data c.args.x.dissat_data c.args.x.pk_cost (num c.args.x.has_free_verify) c.args.x.static_ops c.args.x.tree_height)
