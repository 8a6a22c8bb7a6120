-- `cache::put_key` meets its contract. Assumes nothing.
use Rattle.std.proofs.Common.{rules}
use mathlib.Core.Path.{◌≡◌}
use Prim.Native.Nat.{suc, ◌+◌, ◌*◌}
use Rattle.words.proofs.Floats.{float-again}
use native.Mathlib.Omega.{arith}
use Rattle.cache.proofs.put_key.Goals as goal

pub returns : goal.returns
returns c = let at = 540680 + 3 * c.args.s in
    let e₁ : at + 1 ≡ suc at = omega arith in
    let e₂ : at + 2 ≡ suc (suc at) = omega arith in
    record {
      is = rw (c.key_start-start.ensures, c.word_of_float-sat_word.ensures, c.dissat_word-word.ensures.is, e₁, e₂);
      small = omega arith;
      sat_again = float-again c.args.sat (search rules);
      dissat_again = c.dissat_word-word.ensures.again;
    }
