-- The promise determines its outcome. Assumes nothing.
use Prim.Native.Nat.{ℕ}
use mathlib.Core.Path.{◌≡◌, refl, sym, ◌∙◌}
use Rattle.policies.specs.Policy.{Policy}
use Rattle.trees.specs.Fragment.{Fragment}
use Rattle.trees.specs.Reading.{Answer}
use Rattle.accept_entry.specs.Accept.{Pair, Verdict, too_many, differs, accepts, Results, refuses, judges, AcceptDetermined}

verdict-once : {p : Policy} {f : Fragment} {n m : ℕ} → Verdict p f n → Verdict p f m → n ≡ m
verdict-once (too_many a) (too_many b) = refl
verdict-once (too_many a) (differs b c) = absurd (a b)
verdict-once (too_many a) (accepts b c) = absurd (a b)
verdict-once (differs a b) (too_many c) = absurd (c a)
verdict-once (differs a b) (differs c d) = refl
verdict-once (differs a b) (accepts c d) = absurd (b d)
verdict-once (accepts a b) (too_many c) = absurd (c a)
verdict-once (accepts a b) (differs c d) = absurd (d b)
verdict-once (accepts a b) (accepts c d) = refl

results-once : {x : Answer Pair} {n m : ℕ} → Results x n → Results x m → n ≡ m
results-once (refuses n) (refuses m) = refl
results-once (judges v) (judges w) = verdict-once v w

pub accept-determined : AcceptDetermined
accept-determined context policy tree work number number' after after' p q = (results-once p.gives q.gives, p.clears ∙ sym q.clears)
