-- The promise determines its outcome. Assumes nothing.
use Prim.Native.Nat.{ℕ}
use mathlib.Core.Path.{◌≡◌, refl, sym, subst, ◌∙◌}
use Rattle.contexts.specs.declared.Context.{Context}
use Rattle.trees.specs.Reading.{Answer}
use Rattle.trees.specs.TreeCheck.{Typed}
use Rattle.witness_ways.specs.Spends.{Spends}
use Rattle.witness_ways.proofs.Theorem.{spends-once}
use Rattle.witness_entry.specs.Witness.{Results, refuses, spends, WitnessDetermined}

results-once : {context : ℕ} {t : Answer Typed} {n n' a a' b b' d d' : ℕ} → Results context t n a b d → Results context t n' a' b' d'
    → (n ≡ n') × (a ≡ a') × (b ≡ b') × (d ≡ d')
results-once (refuses n) (refuses m) = (refl, refl, refl, refl)
results-once (spends {c} {x} {found = a} {smallest = b} {largest = d} e p) (spends {c = c'} e' q) =
    let same : c ≡ c' = cc (e, e') in
    let one = spends-once c' x.tree (subst (λ (c : Context). Spends c x.tree a b d) same p) q in
    (refl, one.0, one.1, one.2)

pub witness-determined : WitnessDetermined
witness-determined context tree work number number' found found' smallest smallest' largest largest' after after' p q =
    let same = results-once p.gives q.gives in
    (same.0, same.1, same.2, same.3, p.clears ∙ sym q.clears)
