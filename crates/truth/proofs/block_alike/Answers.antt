use Rattle.std.proofs.Common.{rules}
use Prim.Native.Nat.{◌<◌}
use Rattle.truth.proofs.Deciding.{block-says, same-words}
use Rattle.truth.proofs.block_alike.Goals as goal

pub policy_word-left-requires : goal.policy_word-left-requires
policy_word-left-requires c = (c.requires.0.0, (c.requires.0.1, c.requires.1.1.1))

pub tree_word-right-requires : goal.tree_word-right-requires
tree_word-right-requires c = (c.requires.1.0, (c.requires.1.1.0, c.requires.1.1.1))

pub returns : goal.returns
returns c = let a : c.policy_word-left.result < 18446744073709551616 = search rules in let b : c.tree_word-right.result < 18446744073709551616 = search rules in record {
  block_says = same-words c.block_words-words.ensures (block-says a b c.policy_word-left.ensures c.tree_word-right.ensures.j_value);
  work_len_unchanged = c.tree_word-right.ensures.work_len_unchanged;
}
