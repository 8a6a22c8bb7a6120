-- What moving answers, by what its parts told. Assumes nothing.
use Rattle.refusals.specs.declared.Refusal.{Refusal}
use Rattle.refusals.specs.Numbers.{number_of}
use mathlib.Core.Path.{◌≡◌, refl, ap, ◌∙◌}
use mathlib.Core.Bool.{Bool, true, false}
use mathlib.Core.List.{List, ◌++◌}
use Rattle.std.specs.Prelude.{Some, Result, Ok, Err}
use Prim.Native.Nat.{ℕ, ◌+◌, ◌<◌, ◌≤◌}
use native.Mathlib.Omega.{arith}
use borrow.Author.Tests.{lt-ltb, le-ltb}
use lib.Dec.{ltb}
use lib.ListN.{length, drop}
use lib.Seq.{sets, sets-eq}
use Rattle.policies.specs.Reading.{refused, done, ◌>>=◌, refuse_if, read_policy}
use Rattle.policies.specs.Array.{policy_at}
use Rattle.policies.specs.Answers.{policy_answer, Read, PolicyRead, reads, bad-array}
use Rattle.policies.proofs.Roots.{refusal-is}
use Rattle.moving.specs.declared.Form.{Form}
use Rattle.moving.specs.Moving.{too_large, records_of, any, moved_policy, move}
use Rattle.moving.specs.Answers.{result_answer, extent_of, fitted, Moves}

-- ---- a policy that is read

module _ (form : Form) (policy out : List ℕ) where
  pub refused-large : {r : Refusal} → result_answer (Err r) ≡ extent_of form policy → Moves (fitted form policy (length out)) out (Err r) out
  unfolding extent_of fitted
  refused-large {r} e = by-test (any (too_large form) (records_of policy)) e
    where
      by-test : (t : Bool) → refused (number_of r) ≡ refuse_if 18 t (length (moved_policy form policy))
          → Moves (refuse_if 18 t (moved_policy form policy) >>= λ to. refuse_if 13 (ltb (length out) (length to)) to) out (Err r) out
      by-test true e = record { counts = e; writes = refl }
      by-test false e = absurd (let z : ◌≡◌ {A = ℕ} 0 1 = cc in omega arith)

  module _ {bytes : ℕ} (told : result_answer (Ok bytes) ≡ extent_of form policy) where
    extent-is : (bytes ≡ length (moved_policy form policy)) × (any (too_large form) (records_of policy) ≡ false)
    unfolding extent_of
    extent-is = by-test (any (too_large form) (records_of policy)) refl told
      where
        by-test : (t : Bool) → any (too_large form) (records_of policy) ≡ t → done bytes ≡ refuse_if 18 t (length (moved_policy form policy))
            → (bytes ≡ length (moved_policy form policy)) × (any (too_large form) (records_of policy) ≡ false)
        by-test true q e = absurd (let z : ◌≡◌ {A = ℕ} 0 1 = cc in omega arith)
        by-test false q e = (cc, q)

    pub refused-small : length out < bytes → Moves (fitted form policy (length out)) out (Err Refusal.OutputTooSmall) out
    unfolding fitted
    refused-small l =
        let over : length out < length (moved_policy form policy) = omega (arith, extent-is.0) in
        rw (extent-is.1, lt-ltb (length out) (length (moved_policy form policy)) over) (record { counts = refl; writes = refl })

    pub has_room : bytes ≤ length out → length (moved_policy form policy) ≤ length out
    has_room l = omega (arith, extent-is.0)

    pub is-moved : bytes ≤ length out → {left : List ℕ} → left ≡ sets out 0 (moved_policy form policy)
        → Moves (fitted form policy (length out)) out (Ok bytes) left
    unfolding fitted
    is-moved l {left} e =
        let room = has_room l in
        let whole : 0 + length (moved_policy form policy) ≡ length (moved_policy form policy) = omega arith in
        let placed : sets out 0 (moved_policy form policy) ≡ moved_policy form policy ++ drop (length (moved_policy form policy)) out =
        sets-eq (moved_policy form policy) out 0 (omega arith)
        ∙ ap (λ (n : ℕ). moved_policy form policy ++ drop n out) whole in
        rw (extent-is.1, le-ltb (length out) (length (moved_policy form policy)) room)
        (record { counts = ap done extent-is.0; writes = e ∙ placed })

-- ---- the policy

module _ (form : Form) (policy out m₀ m : List ℕ) (long : length m₀ ≡ 2560) {r : Result ℕ Refusal} (read : PolicyRead policy m₀ r m) where
  its-read : Read (read_policy policy) r m
  its-read = of read
    where
      of : PolicyRead policy m₀ r m → Read (read_policy policy) r m
      of (reads l x) = x
      of (bad-array n e) = absurd (n long)

  pub policy-refused : {e : Refusal} → r ≡ Err e → Moves (move form policy (length out)) out (Err e) out
  unfolding move
  policy-refused {e} q =
      let is : read_policy policy ≡ refused (number_of e) = refusal-is (rw q at its-read) in
      rw is (record { counts = refl; writes = refl })

  pub policy-read : {root : ℕ} → r ≡ Ok root → {given : Result ℕ Refusal} {left : List ℕ} → Moves (fitted form policy (length out)) out given left
      → Moves (move form policy (length out)) out given left
  unfolding move fitted
  policy-read {root} e moves =
      let says = its-read.says in
      let some_is : policy_answer r m ≡ Some (done (policy_at m root)) = rw e in
      let is : read_policy policy ≡ done (policy_at m root) = cc (says, some_is) in
      rw is moves
