use Rattle.tree_figures.proofs.Loading.{part-long}
use Rattle.tree_figures.proofs.Filling.{make-small, rooms, valid-is, made-is, put_is}
use Rattle.std.proofs.Common.{rules}
use mathlib.Core.Path.{◌≡◌, sym, ◌∙◌}
use lib.ListN.{length}
use Rattle.tree_figures.proofs.valid_here.Goals as goal

pub copy_from_slice-requires : goal.copy_from_slice-requires
copy_from_slice-requires c =
    let long : length c.words_of-words.result ≡ 16 = search rules in
    part-long c.args.work.now c.args.i (rooms c.requires) ∙ sym long

pub check_local_validity-requires : goal.check_local_validity-requires
check_local_validity-requires c = make-small c.requires c.figures_here-ext.ensures.candidate

pub returns : goal.returns
returns c = record {
  value = valid-is c.args.context c.args.bytes.now c.args.work.now c.figures_here-ext.ensures.value c.check_local_validity.ensures c.kind_of.ensures;
  candidate = made-is c.args.context c.args.bytes.now c.args.work.now c.figures_here-ext.ensures.value c.args.i c.figures_here-ext.ensures.candidate;
  work_after = put_is c.args.context c.args.bytes.now c.args.work.now c.figures_here-ext.ensures.value c.args.i c.words_of-words.ensures c.copy_from_slice.ensures.after;
}
