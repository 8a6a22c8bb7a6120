-- Entries counted one by one, up to the log's end. Assumes nothing.
use Prim.Native.Nat.{ℕ, suc, ◌+◌, ◌≤◌, ◌<◌}
use mathlib.Core.List.{List, [], ◌∷◌}
use Rattle.std.specs.Prelude.{Option, None, Some}
use mathlib.Core.Path.{◌≡◌, refl, sym, ap, ◌∙◌}
use native.Mathlib.Omega.{arith}
use lib.ListN.{length, drop, length-drop}
use Rattle.spend_log.specs.Readers.{Read, give, onward, to_end}
use Rattle.spend_machine.specs.Entries.{Entry}
use Rattle.spend_log.specs.Logs.{entry}
use Rattle.spend_log.specs.Places.{count_answer}
use Rattle.spend_log.proofs.Passing.{Passes, to_end-next, to_end-broken, to_end-done, takes-less}
use Rattle.spend_log.proofs.Parts.{takes-entry}

-- so many entries, and then these
pub more : ℕ → Option ℕ → Option ℕ
more n (Some m) = Some (n + m)
more n None = None

-- what is counted once so many entries stand before a place
pub counting : List ℕ → (to count : ℕ) → Option ℕ
counting log to count = more count (count_answer (to_end entry (drop to log)))

pub counting-none : (log : List ℕ) (at : ℕ) → counting log at 0 ≡ count_answer (to_end entry (drop at log))
unfolding counting more
counting-none log at = by_answer (count_answer (to_end entry (drop at log)))
  where
    by_answer : (a : Option ℕ) → more 0 a ≡ a
    by_answer (Some n) = ap Some (omega arith)
    by_answer None = refl

module _ (log : List ℕ) (to count : ℕ) where
  pub counting-next : {next : ℕ} → Passes 13 entry log to next → counting log to count ≡ counting log next (count + 1)
  unfolding counting more
  counting-next {next} p =
      ap (λ o. more count (count_answer o)) (to_end-next entry (takes-less (omega arith) takes-entry) (drop to log) _ p.reads)
      ∙ by-rest (to_end entry (drop next log))
    where
      by-rest : (o : Option (Read (List Entry)))
          → more count (count_answer (onward o (λ es. give (p.value ∷ es)))) ≡ more (count + 1) (count_answer o)
      by-rest None = refl
      by-rest (Some g) = ap Some (omega arith)

  pub counting-broken : to < length log → entry (drop to log) ≡ None → counting log to count ≡ None
  unfolding counting more
  counting-broken h e =
      let l = length-drop to log in
      rw (to_end-broken entry (takes-less (omega arith) takes-entry) (drop to log) (omega arith) e)

  pub counting-done : length log ≤ to → counting log to count ≡ Some count
  unfolding counting more
  counting-done h =
      let l = length-drop to log in
      rw (to_end-done entry (drop to log) (omega arith)) (ap Some (omega arith))
