-- What a policy's payload has by the kind of its record. Assumes nothing.
use mathlib.Core.Path.{◌≡◌, refl, sym, ◌∙◌, ap}
use mathlib.Core.List.{List}
use Rattle.std.specs.Prelude.{Some}
use Prim.Native.Nat.{ℕ, ◌≤◌}
use native.Mathlib.Omega.{arith}
use borrow.Author.Tests.{leb-true, ne_eqb}
use lib.Dec.{leb}
use lib.ListN.{length}
use Rattle.records.specs.Shapes.{shape_of}
use Rattle.records.specs.Payloads.{Payload, nothing, number, payload_of, k_of, children_of, count_of}
use Rattle.records.specs.RecordForm.{kind_of, policy_payload}
use Rattle.records.specs.declared.Shape.{Shape}
use Rattle.records.proofs.Forms.{and_left, and_right}
use Rattle.records.proofs.KindRanges.{shapes-in}
use Rattle.records.proofs.Laws.{policy-record, of-policy, is-nothing, is_number, is-lock, is-two-children, is-weighted, is-threshold}
use Rattle.records.proofs.Laws.{threshold-bounds}
use Rattle.policies.specs.Array.{arity}
use Rattle.policies.proofs.Ranges.{each}

-- it has as many children as its kind says and no keys, at most sixteen, and of a Thresh 1 ≤ k ≤ n
pub record Fit (kind : ℕ) (p : Payload) : Type 0 where
  pub count : arity kind (count_of p) ≡ length (children_of p)
  pub keyless : count_of p ≡ length (children_of p)
  pub few : length (children_of p) ≤ 16
  pub some_of : kind ≡ 12 → (1 ≤ k_of p) × (k_of p ≤ count_of p)

leaf-fit : (kind n : ℕ) → kind ≤ 9 → Fit kind (number n)
leaf-fit kind n h =
    record {
      count = rw (ne_eqb kind 10 (λ e. omega arith), ne_eqb kind 11 (λ e. omega arith), ne_eqb kind 12 (λ e. omega arith));
      keyless = refl;
      few = omega arith;
      some_of = λ e. absurd (omega arith);
    }

nothing-fit : (kind : ℕ) → kind ≤ 9 → Fit kind nothing
nothing-fit kind h =
    record {
      count = rw (ne_eqb kind 10 (λ e. omega arith), ne_eqb kind 11 (λ e. omega arith), ne_eqb kind 12 (λ e. omega arith));
      keyless = refl;
      few = omega arith;
      some_of = λ e. absurd (omega arith);
    }

module _ (s : List ℕ) (p : Payload) (e : policy_payload s ≡ Some p) where
  shaped : (low high : ℕ) {shape : Shape} → ((kind : ℕ) → low ≤ kind → kind ≤ high → shape_of kind ≡ Some shape)
      → low ≤ kind_of s → kind_of s ≤ high → payload_of shape s ≡ Some p
  shaped low high {shape} shapes l u = sym (of-policy s (policy-record s e).0 (shapes (kind_of s) l u)) ∙ e

  none-kind : (kind : ℕ) → kind_of s ≡ kind → 1 ≤ kind → kind ≤ 2 → Fit kind p
  none-kind kind k l u = rw (is-nothing s (shaped 1 2 (shapes-in 1 2 refl) (omega arith) (omega arith))) (nothing-fit kind (omega arith))

  key-kind : (kind : ℕ) → kind_of s ≡ kind → kind ≡ 3 → Fit kind p
  key-kind kind k q = rw (is_number s (shaped 3 3 (shapes-in 3 3 refl) (omega arith) (omega arith))) (leaf-fit kind _ (omega arith))

  lock-kind : (kind : ℕ) → kind_of s ≡ kind → 4 ≤ kind → kind ≤ 5 → Fit kind p
  lock-kind kind k l u = rw (is-lock s (shaped 4 5 (shapes-in 4 5 refl) (omega arith) (omega arith))) (leaf-fit kind _ (omega arith))

  hash-kind : (kind : ℕ) → kind_of s ≡ kind → 6 ≤ kind → kind ≤ 9 → Fit kind p
  hash-kind kind k l u = rw (is_number s (shaped 6 9 (shapes-in 6 9 refl) (omega arith) (omega arith))) (leaf-fit kind _ (omega arith))

  and-kind : kind_of s ≡ 10 → Fit 10 p
  and-kind k =
      rw (is-two-children s (shaped 10 10 (shapes-in 10 10 refl) (omega arith) (omega arith)))
      (record { count = refl; keyless = refl; few = omega arith; some_of = λ q. absurd (omega arith) })

  or-kind : kind_of s ≡ 11 → Fit 11 p
  or-kind k =
      rw (is-weighted s (shaped 11 11 (shapes-in 11 11 refl) (omega arith) (omega arith)))
      (record { count = refl; keyless = refl; few = omega arith; some_of = λ q. absurd (omega arith) })

  thresh-kind : kind_of s ≡ 12 → Fit 12 p
  thresh-kind k =
      let payload = shaped 12 12 (shapes-in 12 12 refl) (omega arith) (omega arith) in
      let is = is-threshold s payload in
      let bounds = threshold-bounds s (payload ∙ ap Some is) in
      rw is
      (record {
        count = omega arith;
        keyless = omega arith;
        few = bounds.2;
        some_of = λ q. (bounds.0, omega (arith, bounds.1));
      })

  pub fit : Fit (kind_of s) p
  fit =
      let inside = (policy-record s e).0 in
      let low : 1 ≤ kind_of s = leb-true 1 (kind_of s) (and_left (leb 1 (kind_of s)) (leb (kind_of s) 12) inside) in
      let high : kind_of s ≤ 12 = leb-true (kind_of s) 12 (and_right (leb 1 (kind_of s)) (leb (kind_of s) 12) inside) in
      each (λ (kind : ℕ). kind_of s ≡ kind → Fit kind p) 1 12 (
        λ k. none-kind 1 k (omega arith) (omega arith),
        (
          λ k. none-kind 2 k (omega arith) (omega arith),
          (
            λ k. key-kind 3 k refl,
            (
              λ k. lock-kind 4 k (omega arith) (omega arith),
              (
                λ k. lock-kind 5 k (omega arith) (omega arith),
                (
                  λ k. hash-kind 6 k (omega arith) (omega arith),
                  (
                    λ k. hash-kind 7 k (omega arith) (omega arith),
                    (
                      λ k. hash-kind 8 k (omega arith) (omega arith),
                      (
                        λ k. hash-kind 9 k (omega arith) (omega arith),
                        (
                          λ k. and-kind k,
                          (
                            λ k. or-kind k,
                            (
                              λ k. thresh-kind k,
                              tt,
                            ),
                          ),
                        ),
                      ),
                    ),
                  ),
                ),
              ),
            ),
          ),
        ),
      ) (kind_of s) low (omega arith) refl
