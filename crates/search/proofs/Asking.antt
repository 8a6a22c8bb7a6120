-- What a search asks for weighs less than its policy, and can be written as records too; and the places of the pairings. Assumes nothing.
use Rattle.std.specs.Prelude.{Option, None, Some}
use mathlib.Core.Path.{◌≡◌, refl, sym, ap, ◌∙◌, subst}
use mathlib.Core.List.{List, [], ◌∷◌}
use Prim.Native.Nat.{ℕ, zero, suc, ◌<◌, ◌≤◌}
use native.Mathlib.Omega.{arith}
use lib.Ieee.{Float}
use lib.ListN.{length, get_or}
use Rattle.costs.specs.Arithmetic.{1·}
use Rattle.policies.specs.Policy.{Policy, Policies, Unsatisfiable, Trivial, Key, Lock, Hash, And, Or, Thresh, end, ◌▹◌}
use Rattle.policies.specs.Policy.{weight, to_list, from_list, fold_and, folded}
use Rattle.policies.specs.Forms.{kind_of, k_of, children_of, nth}
use Rattle.policies.specs.Array.{policy_at, and_policy, count_at, Good, Named, stored, folds, child_number, fold_number}
use Rattle.policies.proofs.Forms.{is-thresh, to-from}
use Rattle.policies.proofs.Views.{and_is, child-is, child-falls, fold_is, fold-falls}
use Rattle.definition_laws.specs.FormedPolicy.{FormedPolicy, AllFormed}
use Rattle.search_state.specs.State.{flag_of, load, Ready, Paid}
use Rattle.search_state.proofs.Chains.{room-kept, room-below}
use Rattle.stages.specs.declared.Ask.{Ask}
use Rattle.stages.specs.declared.Pairing.{Pairing}
use Rattle.stages.specs.Stages.{ask, and_asks, and_pairings, and_or_asks, and_or_pairings, or_asks, or_pairings, False}
use Rattle.search.specs.Searching.{Going, Lighter, AllLighter, Under, PlacesIn, AllPlaced}

-- ---- policies that can be written

nth-formed : (xs : Policies) (j : ℕ) → j < length (to_list xs) → AllFormed xs → FormedPolicy (nth (to_list xs) j)
unfolding to_list FormedPolicy
nth-formed end j l h = absurd (omega arith)
nth-formed (x ▹ xs) zero l h = h.0
nth-formed (x ▹ xs) (suc j) l h = nth-formed xs j (omega arith) h.1

pair-formed : (l r : Policy) (j : ℕ) → j < 2 → FormedPolicy l → FormedPolicy r → FormedPolicy (nth (l ∷ r ∷ []) j)
pair-formed l r zero h x y = x
pair-formed l r (suc zero) h x y = y
pair-formed l r (suc (suc j)) h x y = absurd (omega arith)

pub child-formed : (q : Policy) (j : ℕ) → j < length (children_of q) → FormedPolicy q → FormedPolicy (nth (children_of q) j)
unfolding children_of FormedPolicy
child-formed Unsatisfiable j l h = absurd (omega arith)
child-formed Trivial j l h = absurd (omega arith)
child-formed (Key n) j l h = absurd (omega arith)
child-formed (Lock kind n) j l h = absurd (omega arith)
child-formed (Hash kind n) j l h = absurd (omega arith)
child-formed (And x y) j l h = pair-formed x y j l h.0 h.1
child-formed (Or x y m n) j l h = pair-formed x y j l h.0 h.1
child-formed (Thresh k xs) j l h = nth-formed xs j l h.1

fold_and-formed : (acc : Policy) (xs : Policies) → FormedPolicy acc → AllFormed xs → FormedPolicy (fold_and acc xs)
unfolding FormedPolicy fold_and
fold_and-formed acc end a h = a
fold_and-formed acc (x ▹ xs) a h = fold_and-formed (And acc x) xs (a, h.0) h.1

pub folded-formed : (xs : Policies) → AllFormed xs → FormedPolicy (folded xs)
unfolding FormedPolicy folded
folded-formed end h = tt
folded-formed (x ▹ xs) h = fold_and-formed x xs h.0 h.1

-- ---- the load falls

flag-few : (d : Option Float) → flag_of d ≤ 1
flag-few (Some x) = omega arith
flag-few None = omega arith

-- with the weight, whatever the probabilities of dissatisfaction
pub load-falls : (q q' : Policy) (d d' : Option Float) → weight q' < weight q → load q' d' < load q d
load-falls q q' d d' h =
    let few = flag-few d' in
    omega arith

-- and from a policy to itself with no dissatisfaction
pub again-falls : (q : Policy) (d : Option Float) → flag_of d ≡ 1 → load q None < load q d
again-falls q d h = omega arith

-- ---- what is under a number

module _ {pol : List ℕ} {r a : ℕ} (u : Under pol r a) where
  under-falls : weight (policy_at pol a) < weight (policy_at pol r)
  under-falls = omega (arith, u.falls)

  -- may be asked for, at any probabilities
  pub under-lighter : (dissat : Option Float) (s : Float) (d : Option Float) → Lighter pol r dissat (ask a s d)
  under-lighter dissat s d =
      record {
        named = u.named;
        formed = u.formed;
        falls = load-falls (policy_at pol r) (policy_at pol a) dissat d under-falls;
      }

module _ {pol : List ℕ} (g : Good pol) {r : ℕ} (named : Named pol r) (formed : FormedPolicy (policy_at pol r)) where
  pub under-child : (j : ℕ) → j < length (children_of (policy_at pol r)) → Under pol r (child_number pol r j)
  under-child j l =
      record {
        named = (child-is pol g r j named l).named;
        formed = subst FormedPolicy (sym (child-is pol g r j named l).is) (child-formed (policy_at pol r) j l formed);
        falls =
            load-falls (policy_at pol r) (policy_at pol (child_number pol r j)) None (Some 1·) (child-falls pol g r j named l);
      }

pub under-under : {pol : List ℕ} {r a b : ℕ} → Under pol r a → Under pol a b → Under pol r b
under-under {pol} {r} {a} {b} u w =
    record { named = w.named; formed = w.formed; falls = omega (arith, u.falls, w.falls) }

-- ---- what is asked for

-- of two policies
pub and-lighter-of : {pol : List ℕ} {r x y : ℕ} (sat : Float) (dissat : Option Float) → Under pol r x → Under pol r y
    → AllLighter pol r dissat (and_asks x y sat dissat)
unfolding AllLighter
and-lighter-of sat dissat u w = (
  under-lighter u dissat sat dissat,
  (
    under-lighter w dissat sat dissat,
    (
      under-lighter w dissat sat None,
      (under-lighter u dissat sat None, tt),
    ),
  ),
)

pub or-lighter-of : {pol : List ℕ} {r x y : ℕ} (sat : Float) (dissat : Option Float) (left right : Float) → Under pol r x → Under pol r y
    → AllLighter pol r dissat (or_asks x y sat dissat left right)
unfolding AllLighter
or-lighter-of sat dissat left right u w = (
  under-lighter u dissat _ _,
  (
    under-lighter u dissat _ _,
    (
      under-lighter u dissat _ _,
      (
        under-lighter u dissat _ _,
        (
          under-lighter w dissat _ _,
          (
            under-lighter w dissat _ _,
            (
              under-lighter w dissat _ _,
              (under-lighter w dissat _ _, tt),
            ),
          ),
        ),
      ),
    ),
  ),
)

pub and-or-lighter-of : {pol : List ℕ} {r x y other : ℕ} (sat : Float) (dissat : Option Float) (w v : Float) → Under pol r x → Under pol r y
    → Under pol r other → AllLighter pol r dissat (and_or_asks x y other sat dissat w v)
unfolding AllLighter
and-or-lighter-of sat dissat w v x y o = (
  under-lighter x dissat _ _,
  (
    under-lighter x dissat _ _,
    (
      under-lighter y dissat _ _,
      (
        under-lighter y dissat _ _,
        (under-lighter o dissat _ _, tt),
      ),
    ),
  ),
)

-- one of those that are asked for
pub lighter-at : {pol : List ℕ} {r : ℕ} {dissat : Option Float} (as' : List Ask) → AllLighter pol r dissat as' → (j : ℕ) (d : Ask)
    → j < length as' → Lighter pol r dissat (get_or as' j d)
unfolding AllLighter
lighter-at [] h j d l = absurd (omega arith)
lighter-at (a ∷ as') h zero d l = h.0
lighter-at (a ∷ as') h (suc j) d l = lighter-at as' h.1 j d (omega arith)

-- ---- the places of pairings

placed : {n : ℕ} (a : Pairing) → (a.first < n) → (a.second < n) → ((a.third ≡ False → ⊥) → a.third < n) → PlacesIn n a
placed a f s t = record { first = λ h. f; second = λ h. s; third = t }

pub and-placed : AllPlaced 4 and_pairings
unfolding AllPlaced
and-placed = (
  placed _ (omega arith) (omega arith) (λ h. omega arith),
  (
    placed _ (omega arith) (omega arith) (λ h. omega arith),
    (
      placed _ (omega arith) (omega arith) (λ h. omega arith),
      (
        placed _ (omega arith) (omega arith) (λ h. omega arith),
        (
          placed _ (omega arith) (omega arith) (λ h. absurd (h refl)),
          (placed _ (omega arith) (omega arith) (λ h. absurd (h refl)), tt),
        ),
      ),
    ),
  ),
)

pub and-or-placed : (w v : Float) → AllPlaced 5 (and_or_pairings w v)
unfolding AllPlaced
and-or-placed w v = (
  placed _ (omega arith) (omega arith) (λ h. omega arith),
  (placed _ (omega arith) (omega arith) (λ h. omega arith), tt),
)

pub or-placed : (left right : Float) → AllPlaced 8 (or_pairings left right)
unfolding AllPlaced
or-placed left right = (
  placed _ (omega arith) (omega arith) (λ h. omega arith),
  (
    placed _ (omega arith) (omega arith) (λ h. omega arith),
    (
      placed _ (omega arith) (omega arith) (λ h. omega arith),
      (
        placed _ (omega arith) (omega arith) (λ h. omega arith),
        (
          placed _ (omega arith) (omega arith) (λ h. omega arith),
          (
            placed _ (omega arith) (omega arith) (λ h. omega arith),
            (
              placed _ (omega arith) (omega arith) (λ h. omega arith),
              (
                placed _ (omega arith) (omega arith) (λ h. omega arith),
                (
                  placed _ (omega arith) (omega arith) (λ h. omega arith),
                  (placed _ (omega arith) (omega arith) (λ h. omega arith), tt),
                ),
              ),
            ),
          ),
        ),
      ),
    ),
  ),
)

-- ---- a search of what is asked for may begin

pub going_more : {pol : List ℕ} {r : ℕ} {dissat : Option Float} {m : List ℕ} → Going 0 pol r dissat m → Going 1 pol r dissat m
going_more g = record { classed = g.classed; named = g.named; formed = g.formed; ready = g.ready; room = omega (arith, g.room) }

module _ {pol : List ℕ} {r : ℕ} {dissat : Option Float} {m : List ℕ} (g : Going 1 pol r dissat m) where
  pub going-lighter : {a : Ask} → Lighter pol r dissat a → Going 0 pol a.r a.dissat m
  going-lighter {a} l =
      record {
        classed = g.classed;
        named = l.named;
        formed = l.formed;
        ready = g.ready;
        room = room-below (policy_at pol r) (policy_at pol a.r) dissat a.dissat m l.falls g.room;
      }

  pub going-under : {a : ℕ} (d : Option Float) → Under pol r a → Going 0 pol a d m
  going-under d u = going-lighter (under-lighter u dissat 1· d)

  -- the same policy with no dissatisfaction
  pub going-again : flag_of dissat ≡ 1 → Going 0 pol r None m
  going-again e =
      record {
        classed = g.classed;
        named = g.named;
        formed = g.formed;
        ready = g.ready;
        room = room-below (policy_at pol r) (policy_at pol r) dissat None m (again-falls (policy_at pol r) dissat e) g.room;
      }

-- later, where no more rows than tables were added
pub going_on : {extra : ℕ} {pol : List ℕ} {r : ℕ} {dissat : Option Float} {m₀ m : List ℕ} → Going extra pol r dissat m₀ → Ready pol m → Paid 0 m₀ m
    → Going extra pol r dissat m
going_on {extra} {pol} {r} {dissat} {m₀} {m} g ready paid =
    record {
      classed = g.classed;
      named = g.named;
      formed = g.formed;
      ready = ready;
      room = room-kept extra (policy_at pol r) dissat m₀ m g.room paid;
    }

-- ---- a Thresh

and-kind : (m : List ℕ) (i t : ℕ) → kind_of (and_policy m i t) ≡ 10
unfolding and_policy kind_of
and-kind m i zero = refl
and-kind m i (suc t) = refl

module _ {pol : List ℕ} (g : Good pol) {r : ℕ} (named : Named pol r) (kind : kind_of (policy_at pol r) ≡ 12) where
  of-named : Named pol r → r < 64
  of-named (stored h) = h
  of-named (folds i t e h u) =
      let few : count_at pol i ≤ 16 = g.rows.few i h in
      let is : kind_of (policy_at pol r) ≡ 10 = ap (λ (n : ℕ). kind_of (policy_at pol n)) e ∙ ap kind_of (and_is pol i t (omega arith))
      ∙ and-kind pol i t in
      absurd (omega arith)

  -- is a record
  pub thresh-stored : r < 64
  thresh-stored = of-named named

  thresh-is : policy_at pol r ≡ Thresh (k_of (policy_at pol r)) (from_list (children_of (policy_at pol r)))
  thresh-is = is-thresh (policy_at pol r) kind

  as_many : length (to_list (from_list (children_of (policy_at pol r)))) ≡ length (children_of (policy_at pol r))
  as_many = ap length (to-from (children_of (policy_at pol r)))

  -- 1 ≤ k ≤ n ≤ 16
  pub thresh-bounds : {k n : ℕ} → k_of (policy_at pol r) ≡ k → length (children_of (policy_at pol r)) ≡ n → FormedPolicy (policy_at pol r)
      → (1 ≤ k) × (k ≤ n) × (n ≤ 16)
  unfolding FormedPolicy
  thresh-bounds {k} {n} is-k is-n formed =
      let f : FormedPolicy (Thresh (k_of (policy_at pol r)) (from_list (children_of (policy_at pol r)))) = subst FormedPolicy thresh-is formed in
      let some = f.0 in
      let many = as_many in
      (omega (arith, some.0), omega (arith, some.1), omega (arith, some.2))

  module _ {n : ℕ} (count : length (children_of (policy_at pol r)) ≡ n) (some : 1 ≤ n) where
    fold-number : fold_number pol r n ≡ fold_number pol r (length (to_list (from_list (children_of (policy_at pol r)))))
    fold-number = ap (fold_number pol r) (sym (as_many ∙ count))

    some-children : 1 ≤ length (to_list (from_list (children_of (policy_at pol r))))
    some-children = omega (arith, as_many)

    -- the number of its fold stands for the Ands that it folds to
    pub fold-policy : policy_at pol (fold_number pol r n) ≡ folded (from_list (children_of (policy_at pol r)))
    fold-policy =
        ap (policy_at pol) fold-number
        ∙ (fold_is pol g r (k_of (policy_at pol r)) (from_list (children_of (policy_at pol r))) thresh-stored thresh-is some-children).0

    -- which may be asked for
    pub under-fold : FormedPolicy (policy_at pol r) → Under pol r (fold_number pol r n)
    unfolding FormedPolicy
    under-fold formed =
        let xs : Policies = from_list (children_of (policy_at pol r)) in
        let f : FormedPolicy (Thresh (k_of (policy_at pol r)) xs) = subst FormedPolicy thresh-is formed in
        record {
          named = subst (Named pol) (sym fold-number) (fold_is pol g r (k_of (policy_at pol r)) xs thresh-stored thresh-is some-children).1;
          formed = subst FormedPolicy (sym fold-policy) (folded-formed xs f.1);
          falls =
              load-falls (policy_at pol r) (policy_at pol (fold_number pol r n)) None (Some 1·)
              (subst (λ (x : ℕ). weight (policy_at pol x) < weight (policy_at pol r)) (sym fold-number)
              (fold-falls pol g r (k_of (policy_at pol r)) xs thresh-stored thresh-is some-children));
        }
