use Prim.Native.Nat.{ℕ}
use mathlib.Core.Path.{ap, ◌∙◌}
use lib.ListN.{replicate}
use Rattle.accept_entry.proofs.claspwillow_accept.Goals as goal

pub returns-in-Ok : goal.returns-in-Ok
returns-in-Ok c = record {
  gives = c.in-Ok.ensures.results;
  clears = c.clear.ensures ∙ ap (λ (n : ℕ). replicate n 0) c.accept-r.ensures.work_len_unchanged;
}

pub returns-in-Err : goal.returns-in-Err
returns-in-Err c = record {
  gives = rw c.number.ensures c.in-Err.ensures.results;
  clears = c.clear.ensures ∙ ap (λ (n : ℕ). replicate n 0) c.accept-r.ensures.work_len_unchanged;
}
