-- The loop over a tree's records: how far it is, and what each of its turns and its end come to. Assumes nothing.
use Rattle.refusals.specs.declared.Refusal.{Refusal}
use Rattle.refusals.specs.Numbers.{number_of}
use Prim.Native.Nat.{ℕ, suc, ◌+◌, ◌-◌, ◌≤◌, ◌<◌}
use mathlib.Core.Bool.{true, false}
use mathlib.Core.List.{List, [], ◌∷◌, ◌++◌}
use Rattle.std.specs.Prelude.{Option, None, Some, Result, Ok, Err}
use mathlib.Core.Path.{◌≡◌, refl, sym, ap, subst, ◌∙◌}
use native.Mathlib.Omega.{arith}
use borrow.Author.Tests.{eq-eqb, ne_eqb}
use lib.Dec.{eqb}
use lib.ListN.{length, get_or, take, drop, length-drop}
use lib.Seq.{drop-drop}
use Rattle.records.specs.Payloads.{Payload, children_of}
use Rattle.records.specs.RecordForm.{record_length, kind_of, fragment_payload}
use Rattle.records.proofs.Laws.{length-bounds}
use Rattle.contexts.specs.declared.Context.{Context}
use Rattle.trees.specs.declared.Subtree.{Subtree}
use Rattle.trees.specs.Reading.{Answer, refused, done, ◌>>=◌, or_refuse, bad_tree, tree_too_large, max_records}
use Rattle.trees.specs.Reading.{Slots, Taken, take_all, root_of, add_made, add_payload, add_record, read_from, read_tree}
use Rattle.trees.specs.Rules.{make_subtree}
use Rattle.trees.specs.WorkMemory.{slots_in, free_in, type_in, step_answer, FreeAfter, Stepped}
use Rattle.trees.proofs.Joint.{IfDone, refuses, holds}
use Rattle.trees.proofs.Counting.{last_of, RootByCount, count_none, count-more, free-le}
use Rattle.trees.proofs.InMemory.{slots_length}
use Rattle.trees.proofs.RecordLaws.{read-end, read-large, read-broken, read_next}

-- ---- after a record, counting decides the root

module _ {A : Type 0} (make : ℕ → Payload → List A → Answer A) where
  counted-made : (left : Slots A) (a : Answer A) → IfDone RootByCount (a >>= λ x. done (left ++ (Some x ∷ [])))
  counted-made left (refused n) = refuses
  counted-made left (done x) = holds (count-more left x)

  counted-taken : (kind : ℕ) (p : Payload) (o : Option (Taken A)) → IfDone RootByCount (or_refuse bad_tree o >>= λ t. add_made make kind p t)
  counted-taken kind p None = refuses
  counted-taken kind p (Some t) = counted-made t.left (make kind p t.those)

  counted : (slots : Slots A) (s : List ℕ) → IfDone RootByCount (add_record make slots s)
  unfolding add_record
  counted slots s = by-payload (fragment_payload s)
    where
      by-payload : (o : Option Payload) → IfDone RootByCount (or_refuse bad_tree o >>= λ p. add_payload make slots (kind_of s) p)
      by-payload None = refuses
      by-payload (Some p) = counted-taken (kind_of s) p (take_all (children_of p) slots)

  pub counted-after : (slots : Slots A) (s : List ℕ) (after : Slots A) → add_record make slots s ≡ done after → RootByCount after
  counted-after slots s after e = open_done (subst (λ (a : Answer (Slots A)). IfDone RootByCount a) e (counted slots s))
    where
      open_done : {after : Slots A} → IfDone RootByCount (done after) → RootByCount after
      open_done (holds h) = h

-- ---- the loop

-- the first `at` bytes hold `read` records, of which `free` are free, and the bytes behind them decide
pub record Progress (c : Context) (tree work : List ℕ) (at read free : ℕ) : Type 0 where
  pub rest : read_from (make_subtree c) (max_records - read) (slots_in work read) (drop at tree) ≡ read_tree (make_subtree c) tree
  pub within : at ≤ length tree
  pub few : read ≤ max_records
  pub room : length work ≡ max_records
  pub count : free ≡ free_in (slots_in work read)
  pub root : RootByCount (slots_in work read)

pub progress_start : (c : Context) (tree work : List ℕ) → length work ≡ max_records → Progress c tree work 0 0 0
unfolding read_tree free_in
progress_start c tree work e =
    record { rest = refl; within = omega arith; few = omega arith; room = e; count = refl; root = count_none }

-- one turn of the loop: a record may begin, and its length is known
pub record Turn (c : Context) (tree work : List ℕ) (at read free len : ℕ) : Type 0 where
  pub so_far : Progress c tree work at read free
  pub inside : at < length tree
  pub more : read < max_records
  pub whole : record_length (drop at tree) ≡ Some len

some_left : (tree : List ℕ) (at : ℕ) → at < length tree → 0 < length (drop at tree)
some_left tree at h = rw (length-drop at tree) (omega arith)

one_less : (read : ℕ) → read < max_records → max_records - read ≡ suc (max_records - (read + 1))
one_less read h = omega arith

-- ---- before a record is read

module _ {c : Context} {tree work : List ℕ} {at read free : ℕ} (so_far : Progress c tree work at read free) where
  pub free-few : free ≤ max_records
  free-few =
      let l = free-le (slots_in work read) in
      let n = slots_length work read (omega arith) in
      omega arith

  pub progress-large : at < length tree → read ≡ max_records → refused tree_too_large ≡ type_in (read_tree (make_subtree c) tree)
  progress-large h e =
      let z : max_records - read ≡ 0 = omega arith in
      ap type_in (sym (read-large (make_subtree c) (slots_in work read) (drop at tree) (some_left tree at h))
      ∙ ap (λ (n : ℕ). read_from (make_subtree c) n (slots_in work read) (drop at tree)) (sym z)
      ∙ so_far.rest)

  pub progress-broken : at < length tree → read < max_records → record_length (drop at tree) ≡ None
      → refused bad_tree ≡ type_in (read_tree (make_subtree c) tree)
  progress-broken h l e =
      ap type_in (sym (read-broken (make_subtree c) (max_records - (read + 1)) (slots_in work read) (drop at tree) (some_left tree at h) e)
      ∙ ap (λ (n : ℕ). read_from (make_subtree c) n (slots_in work read) (drop at tree)) (sym (one_less read l))
      ∙ so_far.rest)

-- ---- after a record

module _ {c : Context} {tree work : List ℕ} {at read free len : ℕ} (turn : Turn c tree work at read free len) where
  pub end-within : at + len ≤ length tree
  end-within = omega (arith, length-bounds (drop at tree) turn.whole, length-drop at tree)

  pub end_later : at < at + len
  end_later = omega (arith, length-bounds (drop at tree) turn.whole)

  after-record : {a : Answer (Slots Subtree)} → add_record (make_subtree c) (slots_in work read) (take (at + len - at) (drop at tree)) ≡ a
      → (a >>= λ slots. read_from (make_subtree c) (max_records - (read + 1)) slots (drop len (drop at tree))) ≡ read_tree (make_subtree c) tree
  after-record {a} f =
      let same : at + len - at ≡ len = omega arith in
      let f' = subst (λ (n : ℕ). add_record (make_subtree c) (slots_in work read) (take n (drop at tree)) ≡ a) same f in
      sym (read_next (make_subtree c) (max_records - (read + 1)) (slots_in work read) (drop at tree) len (some_left tree at turn.inside)
      turn.whole f')
      ∙ ap (λ (n : ℕ). read_from (make_subtree c) n (slots_in work read) (drop at tree)) (sym (one_less read turn.more))
      ∙ turn.so_far.rest

  module _ {work' : List ℕ} {r : Result ℕ Refusal} (stepped : Stepped c (take (at + len - at) (drop at tree)) work work' read r) where
    pub same-room : {n : ℕ} → n ≡ max_records → length work' ≡ n
    same-room e = stepped.same ∙ turn.so_far.room ∙ sym e

    pub progress-refused : {e : Refusal} → r ≡ Err e → refused (number_of e) ≡ type_in (read_tree (make_subtree c) tree)
    progress-refused t = ap type_in (after-record (stepped.says ∙ ap (λ (r : Result ℕ Refusal). step_answer r (slots_in work' (read + 1))) t))

    pub progress-free : {children : ℕ} → r ≡ Ok children → free_in (slots_in work' (read + 1)) + children ≡ free + 1
    progress-free t =
        rw turn.so_far.count
        (subst (λ (r : Result ℕ Refusal). FreeAfter r (slots_in work read) (slots_in work' (read + 1))) t stepped.free)

    pub progress-next : {children : ℕ} → r ≡ Ok children → Progress c tree work' (at + len) (read + 1) (free + 1 - children)
    progress-next t =
        let says = stepped.says ∙ ap (λ (r : Result ℕ Refusal). step_answer r (slots_in work' (read + 1))) t in
        record {
          rest =
              ap (λ (s : List ℕ). read_from (make_subtree c) (max_records - (read + 1)) (slots_in work' (read + 1)) s) (sym (drop-drop len at tree))
              ∙ after-record says;
          within = end-within;
          few = omega (arith, turn.more);
          room = stepped.same ∙ turn.so_far.room;
          count = omega (arith, progress-free t);
          root = counted-after (make_subtree c) (slots_in work read) (take (at + len - at) (drop at tree)) (slots_in work' (read + 1)) says;
        }

-- ---- after all records

module _ {c : Context} {tree work : List ℕ} {at read free : ℕ} (so_far : Progress c tree work at read free) where
  at-end : length tree ≤ at → or_refuse bad_tree (root_of (slots_in work read)) ≡ read_tree (make_subtree c) tree
  at-end h =
      sym (read-end (make_subtree c) (max_records - read) (slots_in work read) (drop at tree) (rw (length-drop at tree) (omega arith)))
      ∙ so_far.rest

  pub progress-unused : length tree ≤ at → (free ≡ 1 → ⊥) → refused bad_tree ≡ type_in (read_tree (make_subtree c) tree)
  progress-unused h f =
      let not-one : eqb (free_in (slots_in work read)) 1 ≡ false = ne_eqb (free_in (slots_in work read)) 1 (λ e. f (so_far.count ∙ e)) in
      let none-is-root : root_of (slots_in work read) ≡ None = so_far.root ∙ rw not-one in
      ap type_in (sym (ap (or_refuse bad_tree) none-is-root) ∙ at-end h)

  pub progress-root : length tree ≤ at → free ≡ 1
      → type_in (or_refuse bad_tree (get_or (slots_in work read) (read - 1) None)) ≡ type_in (read_tree (make_subtree c) tree)
  progress-root h f =
      let one : eqb (free_in (slots_in work read)) 1 ≡ true = eq-eqb (free_in (slots_in work read)) 1 (sym so_far.count ∙ f) in
      let last : last_of (slots_in work read) ≡ get_or (slots_in work read) (read - 1) None =
      ap (λ (n : ℕ). get_or (slots_in work read) (n - 1) None) (slots_length work read (omega arith)) in
      let last-is-root : root_of (slots_in work read) ≡ get_or (slots_in work read) (read - 1) None = so_far.root ∙ rw one last in
      ap type_in (sym (ap (or_refuse bad_tree) last-is-root) ∙ at-end h)

  pub some_read : free ≡ 1 → 1 ≤ read
  some_read f =
      let l = free-le (slots_in work read) in
      let n = slots_length work read (omega arith) in
      omega arith
