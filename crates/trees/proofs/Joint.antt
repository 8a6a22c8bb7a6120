-- Two readings of the same bytes, side by side: how their answers stand to each other follows from how what they make of one record does.
-- Assumes nothing.
use Prim.Native.Nat.{ℕ, zero, suc}
use mathlib.Core.List.{List, [], ◌∷◌, ◌++◌}
use mathlib.Core.Logic.{⊎_elim}
use Rattle.std.specs.Prelude.{Option, None, Some}
use lib.ListN.{take, drop}
use Rattle.records.specs.Payloads.{Payload, children_of}
use Rattle.records.specs.RecordForm.{record_length, kind_of, fragment_payload}
use Rattle.trees.specs.Reading.{Answer, refused, done, ◌>>=◌, or_refuse, bad_tree, tree_too_large, max_records}
use Rattle.trees.specs.Reading.{Slots, Taken, take_all, root_of, add_made, add_payload, add_record, read_from, read_tree}
use Rattle.trees.proofs.Slots.{Any, here, there, Pairs, empty, IfSome, Free, Alike, any-more, any_last, AnyTaken, take-any, root-any}
use Rattle.trees.proofs.Slots.{PairsTaken, pairs-more, take-pairs, root-pairs}

-- what holds if the answer is no refusal
pub data IfDone {A : Type 0} (P : A → Type 0) : Answer A → Type 0 where
  refuses : {n : ℕ} → IfDone P (refused n)
  holds : {x : A} → P x → IfDone P (done x)

-- Both refuse, with numbers that N allows; or both are done, with results that R allows; or only the first is done, with one that S allows.
pub data Joint {A B : Type 0} (N : ℕ → ℕ → Type 0) (R : A → B → Type 0) (S : A → Type 0) : Answer A → Answer B → Type 0 where
  neither : {m n : ℕ} → N m n → Joint N R S (refused m) (refused n)
  first : {x : A} {n : ℕ} → S x → Joint N R S (done x) (refused n)
  both : {x : A} {y : B} → R x y → Joint N R S (done x) (done y)

or-done : {A : Type 0} (P : A → Type 0) (n : ℕ) (o : Option A) → IfSome P o → IfDone P (or_refuse n o)
or-done P n None p = refuses
or-done P n (Some x) p = holds p

-- one reading: what holds of some free slot holds of the root
module _ {A : Type 0} (S : A → Type 0) (make : ℕ → Payload → List A → Answer A)
    (kept : (kind : ℕ) (p : Payload) (xs : List A) → Any S xs → IfDone S (make kind p xs)) where
  made-any : (l : Slots A) (a : Answer A) → IfDone S a → IfDone (Any (Free S)) (a >>= λ x. done (l ++ (Some x ∷ [])))
  made-any l (refused n) h = refuses
  made-any l (done x) (holds p) = holds (any_last (Free S) l p)

  left-any : (l : Slots A) (a : Answer A) → Any (Free S) l → IfDone (Any (Free S)) (a >>= λ x. done (l ++ (Some x ∷ [])))
  left-any l (refused n) h = refuses
  left-any l (done x) h = holds (any-more (Free S) (Some x) h)

  taken-any : (kind : ℕ) (p : Payload) (o : Option (Taken A)) → IfSome (AnyTaken S) o
      → IfDone (Any (Free S)) (or_refuse bad_tree o >>= λ t. add_made make kind p t)
  taken-any kind p None h = refuses
  taken-any kind p (Some t) h =
      ⊎_elim (λ a. made-any t.left (make kind p t.those) (kept kind p t.those a))
      (λ a. left-any t.left (make kind p t.those) a)
      h

  record-any : (slots : Slots A) (bytes : List ℕ) → Any (Free S) slots → IfDone (Any (Free S)) (add_record make slots bytes)
  unfolding add_record
  record-any slots bytes h = by-payload (fragment_payload bytes)
    where
      by-payload : (o : Option Payload) → IfDone (Any (Free S)) (or_refuse bad_tree o >>= λ p. add_payload make slots (kind_of bytes) p)
      by-payload None = refuses
      by-payload (Some p) = taken-any (kind_of bytes) p (take_all (children_of p) slots) (take-any S (children_of p) slots h)

  pub read-any : (more : ℕ) (slots : Slots A) (bytes : List ℕ) → Any (Free S) slots → IfDone S (read_from make more slots bytes)
  unfolding read_from
  read-any zero slots [] h = or-done S bad_tree (root_of slots) (root-any S slots h)
  read-any zero slots (b ∷ bs) h = refuses
  read-any (suc more) slots [] h = or-done S bad_tree (root_of slots) (root-any S slots h)
  read-any (suc more) slots (b ∷ bs) h = by_length (record_length (b ∷ bs)) (λ slots bytes h. read-any more slots bytes h)
    where
      Rest : Type 0
      Rest = (slots : Slots A) (bytes : List ℕ) → Any (Free S) slots → IfDone S (read_from make more slots bytes)

      by_slots : (len : ℕ) (a : Answer (Slots A)) → IfDone (Any (Free S)) a → Rest
          → IfDone S (a >>= λ slots'. read_from make more slots' (drop len (b ∷ bs)))
      by_slots len (refused n) h rest = refuses
      by_slots len (done slots') (holds h) rest = rest slots' (drop len (b ∷ bs)) h

      by_length : (o : Option ℕ) → Rest
          → IfDone S (or_refuse bad_tree o >>= λ len. add_record make slots (take len (b ∷ bs))
          >>= λ slots'. read_from make more slots' (drop len (b ∷ bs)))
      by_length None rest = refuses
      by_length (Some len) rest =
          by_slots len (add_record make slots (take len (b ∷ bs))) (record-any slots (take len (b ∷ bs)) h) rest

-- two readings
module _ {A B : Type 0} (N : ℕ → ℕ → Type 0) (R : A → B → Type 0) (S : A → Type 0)
    (make : ℕ → Payload → List A → Answer A) (make' : ℕ → Payload → List B → Answer B)
    (same : (n : ℕ) → N n n)
    (still : (x : A) → S x → (m n : ℕ) → N m n)
    (kept : (kind : ℕ) (p : Payload) (xs : List A) → Any S xs → IfDone S (make kind p xs))
    (makes : (kind : ℕ) (p : Payload) (xs : List A) (ys : List B) → Pairs R xs ys → Joint N R S (make kind p xs) (make' kind p ys)) where
  abbrev JointSlots : Answer (Slots A) → Answer (Slots B) → Type 0
  JointSlots a b = Joint N (Pairs (Alike R)) (Any (Free S)) a b

  some-free : (l : Slots A) → Any (Free S) l → (m n : ℕ) → N m n
  some-free [] x' = elim x' [ ]
  some-free (None ∷ l) (here p) = absurd p
  some-free (Some x ∷ l) (here p) = still x p
  some-free (None ∷ l) (there h) = some-free l h
  some-free (Some x ∷ l) (there h) = some-free l h

  alone : (a : Answer A) (n : ℕ) → ((m : ℕ) → N m n) → IfDone S a → Joint N R S a (refused n)
  alone (refused m) n f h = neither (f m)
  alone (done x) n f (holds h) = first h

  joint-own : (l : Slots A) (l' : Slots B) (a : Answer A) (b : Answer B) → Pairs (Alike R) l l' → Joint N R S a b
      → JointSlots (a >>= λ x. done (l ++ (Some x ∷ []))) (b >>= λ y. done (l' ++ (Some y ∷ [])))
  joint-own l l' a b ps (neither h) = neither h
  joint-own l l' a b ps (first h) = first (any_last (Free S) l h)
  joint-own l l' a b ps (both h) = both (pairs-more (Alike R) ps h)

  joint-taken : (kind : ℕ) (p : Payload) (o : Option (Taken A)) (o' : Option (Taken B)) → Alike (PairsTaken R) o o'
      → JointSlots (or_refuse bad_tree o >>= λ t. add_made make kind p t) (or_refuse bad_tree o' >>= λ t. add_made make' kind p t)
  joint-taken kind p None None h = neither (same bad_tree)
  joint-taken kind p None (Some t) h = absurd h
  joint-taken kind p (Some s) None h = absurd h
  joint-taken kind p (Some s) (Some t) h =
      joint-own s.left t.left (make kind p s.those) (make' kind p t.those) h.1 (makes kind p s.those t.those h.0)

  joint-record : (s : Slots A) (t : Slots B) (bytes : List ℕ) → Pairs (Alike R) s t
      → JointSlots (add_record make s bytes) (add_record make' t bytes)
  unfolding add_record
  joint-record s t bytes h = by-payload (fragment_payload bytes)
    where
      by-payload : (o : Option Payload)
          → JointSlots (or_refuse bad_tree o >>= λ p. add_payload make s (kind_of bytes) p)
          (or_refuse bad_tree o >>= λ p. add_payload make' t (kind_of bytes) p)
      by-payload None = neither (same bad_tree)
      by-payload (Some p) =
          joint-taken (kind_of bytes) p (take_all (children_of p) s) (take_all (children_of p) t) (take-pairs R (children_of p) s t h)

  joint-root : (o : Option A) (o' : Option B) → Alike R o o' → Joint N R S (or_refuse bad_tree o) (or_refuse bad_tree o')
  joint-root None None h = neither (same bad_tree)
  joint-root None (Some y) h = absurd h
  joint-root (Some x) None h = absurd h
  joint-root (Some x) (Some y) h = both h

  joint-from : (more : ℕ) (s : Slots A) (t : Slots B) (bytes : List ℕ) → Pairs (Alike R) s t
      → Joint N R S (read_from make more s bytes) (read_from make' more t bytes)
  unfolding read_from
  joint-from zero s t [] h = joint-root (root_of s) (root_of t) (root-pairs R s t h)
  joint-from zero s t (b ∷ bs) h = neither (same tree_too_large)
  joint-from (suc more) s t [] h = joint-root (root_of s) (root_of t) (root-pairs R s t h)
  joint-from (suc more) s t (b ∷ bs) h = by_length (record_length (b ∷ bs)) (λ s t bytes h. joint-from more s t bytes h)
    where
      Rest : Type 0
      Rest = (s : Slots A) (t : Slots B) (bytes : List ℕ) → Pairs (Alike R) s t
          → Joint N R S (read_from make more s bytes) (read_from make' more t bytes)

      by_slots : (len : ℕ) (a : Answer (Slots A)) (a' : Answer (Slots B)) → JointSlots a a' → Rest
          → Joint N R S (a >>= λ s'. read_from make more s' (drop len (b ∷ bs))) (a' >>= λ t'. read_from make' more t' (drop len (b ∷ bs)))
      by_slots len a a' (neither h) rest = neither h
      by_slots len a a' (first {x = s'} {n} h) rest =
          alone (read_from make more s' (drop len (b ∷ bs))) n (λ m. some-free s' h m n)
          (read-any S make kept more s' (drop len (b ∷ bs)) h)
      by_slots len a a' (both {x = s'} {y = t'} h) rest = rest s' t' (drop len (b ∷ bs)) h

      by_length : (o : Option ℕ) → Rest
          → Joint N R S (or_refuse bad_tree o >>= λ len. add_record make s (take len (b ∷ bs))
          >>= λ s'. read_from make more s' (drop len (b ∷ bs)))
          (or_refuse bad_tree o >>= λ len. add_record make' t (take len (b ∷ bs))
          >>= λ t'. read_from make' more t' (drop len (b ∷ bs)))
      by_length None rest = neither (same bad_tree)
      by_length (Some len) rest =
          by_slots len (add_record make s (take len (b ∷ bs))) (add_record make' t (take len (b ∷ bs)))
          (joint-record s t (take len (b ∷ bs)) h) rest

  pub joint : (bytes : List ℕ) → Joint N R S (read_tree make bytes) (read_tree make' bytes)
  unfolding read_tree
  joint bytes = joint-from max_records [] [] bytes empty
