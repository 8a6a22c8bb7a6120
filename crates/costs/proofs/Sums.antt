-- The sum over the children of a threshold, one child at a time. Assumes nothing.
use Rattle.std.proofs.Common.{◌≡◌, ℕ, suc, ◌+◌, ◌-◌, ◌<◌, ◌≤◌, min, List, length, get_or, take, drop, sym, ◌∙◌, add-one, arith, take_all, drop-cons}
use native.Mathlib.Omega.{min_cases}
use Rattle.costs.specs.Names.{Cost}
use Rattle.costs.specs.Rules.{plus, plus_all, nothing}

-- a list of 16 costs holds no more
pub take-16 : (n : ℕ) (xs : List Cost) → length xs ≡ 16 → take (min n 16) xs ≡ take n xs
take-16 n xs l =
    min_cases n 16 (take (min n 16) xs ≡ take n xs) (λ h e. rw e)
    (λ h e. rw e (take_all 16 xs (omega arith) ∙ sym (take_all n xs (omega arith))))

-- The loop after i children: what is still to come makes the sum of the first n.
pub record Going (n count i : ℕ) (sum : Cost) (subs : List Cost) : Type 0 where
  pub within : i ≤ count
  pub room : count ≤ 16
  pub to-come : plus_all sum (take (count - i) (drop i subs)) ≡ plus_all nothing (take n subs)

pub starts : (n count : ℕ) (subs : List Cost) → count ≡ min n 16 → length subs ≡ 16 → Going n count 0 nothing subs
starts n count subs e l =
    let whole : count - 0 ≡ count = omega arith in
    record {
      within = omega arith;
      room = omega arith;
      to-come = rw (whole, e, take-16 n subs);
    }

-- one child later
pub goes_on : {n count i : ℕ} {sum : Cost} {subs : List Cost} (sum' d : Cost) → Going n count i sum subs → i < count → i < length subs
    → sum' ≡ plus sum (get_or subs i d) → Going n count (i + 1) sum' subs
unfolding plus_all
goes_on {count = count} {i = i} {subs = subs} sum' d g h l e =
    let one_more : count - i ≡ suc (count - (i + 1)) = omega arith in
    let left = g.to-come in
    record {
      within = omega arith;
      room = g.room;
      to-come = rw (e, add-one) (rw (drop-cons subs i d, one_more, add-one) at left);
    }

-- no child is left
pub ends : {n count i : ℕ} {sum : Cost} {subs : List Cost} → Going n count i sum subs → count ≤ i → sum ≡ plus_all nothing (take n subs)
unfolding plus_all
ends {count = count} {i = i} g h =
    let none_left : count - i ≡ 0 = omega arith in
    rw none_left at g.to-come
