-- `chosen::zero_from` meets its contract: every word from one on is tested. Assumes nothing.
use Rattle.std.proofs.Common.{rules, arith, ℕ, ◌≡◌, ◌+◌, ◌-◌, ◌<◌, drop, take, length, get_or}
use Rattle.std.proofs.lemmas.List.{take_rest, get_or-drop}
use Rattle.std.specs.Prelude.{IsTrue, ◌↔◌, EachIndex}
use Rattle.chosen.proofs.Zeros.{words-tested}
use Rattle.chosen.proofs.zero_from.Goals as goal

pub returns : goal.returns
returns c =
    let s : IsTrue c.all.result ↔ EachIndex (take (length c.args.work.now - c.args.from) (drop c.args.from c.args.work.now))
    (λ k. get_or (take (length c.args.work.now - c.args.from) (drop c.args.from c.args.work.now)) k 0 ≡ 0) = search rules in
    words-tested (drop c.args.from c.args.work.now) c.all.result (simp take_rest at s)
    (λ k. rw (get_or-drop c.args.from c.args.work.now k 0) (omega (arith, c.type_inv.work (c.args.from + k))))
