-- `counterexample::in_block` meets its contract: the words of the truth tables differ in the bit that is found. Assumes nothing.
use Rattle.policies.specs.Array.{policy_at}
use Rattle.variables.specs.Gathering.{row_of}
use Rattle.counterexample.proofs.Showing.{shown-in}
use Rattle.counterexample.proofs.in_block.Goals as goal

pub policy_word-left-requires : goal.policy_word-left-requires
policy_word-left-requires c = (c.requires.0.0, (c.requires.0.1, c.requires.1.1.1))

pub tree_word-right-requires : goal.tree_word-right-requires
tree_word-right-requires c = (c.requires.1.0, (c.requires.1.1.0, c.requires.1.1.1))

pub returns-in_err-apart : goal.returns-in_err-apart
returns-in_err-apart c = rw c.from_residual.ensures (record {
  shows = λ f r. tt;
  work_len_unchanged = c.tree_word-right.ensures.work_len_unchanged;
})

pub returns : goal.returns
returns c = record {
  shows = shown-in (policy_at c.args.pol.now c.args.root) (row_of c.args.t) c.args.block c.policy_word-left.result c.tree_word-right.result
      c.block_words-words.ensures c.in_ok-apart.ensures c.policy_word-left.ensures c.tree_word-right.ensures.j_value;
  work_len_unchanged = c.tree_word-right.ensures.work_len_unchanged;
}
