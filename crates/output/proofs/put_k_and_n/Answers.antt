-- `output::put_k_and_n` meets its contract. Assumes nothing.
use Rattle.output.proofs.Placing.{k-and-n}
use Rattle.output.proofs.put_k_and_n.Goals as goal

pub returns : goal.returns
returns c = k-and-n c.args.out.now _ _ c.args.at c.args.k c.args.n c.put_2.ensures c.put_2-2.ensures
