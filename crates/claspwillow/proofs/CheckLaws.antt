-- What the tree check's number says to an entry that calls it: 0 that the tree has passed, any other that it is refused with it. Assumes nothing.
use Rattle.types.specs.declared.«Type».{«Type»}
use Rattle.correctness.specs.declared.TypeError.{TypeError}
use Prim.Native.Nat.{ℕ, zero, suc, ◌<◌}
use mathlib.Core.Bool.{Bool, true, false, cond}
use mathlib.Core.List.{List, [], ◌∷◌, ◌++◌, map}
use Rattle.std.specs.Prelude.{Option, None, Some, Result, Ok, Err}
use mathlib.Core.Path.{◌≡◌, refl, sym, ap, ◌∙◌}
use native.Mathlib.Omega.{arith}
use borrow.Author.Tests.{eqb-true, ne_eqb}
use lib.Dec.{leb, eqb}
use lib.ListN.{length, take, drop, length-replicate}
use Rattle.words.specs.Memory.{zeroed}
use Rattle.records.specs.Payloads.{Payload, children_of}
use Rattle.records.specs.RecordForm.{record_length, kind_of, fragment_payload}
use Rattle.contexts.specs.declared.Context.{Context}
use Rattle.contexts.specs.declared.Context.TheVariants.{Segwitv0, Tap}
use Rattle.trees.specs.Fragment.{Fragment}
use Rattle.trees.specs.Typing.{type_of}
use Rattle.trees.specs.Height.{max_height, height_of}
use Rattle.trees.specs.Reading.{Answer, refused, done, ◌>>=◌, or_refuse, bad_tree, tree_too_tall, max_records}
use Rattle.trees.specs.Reading.{Slots, take_all, root_of, add_made, add_payload, add_record, read_from, read_tree}
use Rattle.trees.specs.Tree.{fragment_of}
use Rattle.trees.specs.TreeCheck.{bad_context, bad_work, Typed, typed, make_typed, typed_tree_of, context_of, work_of, check_in, check_of}
use Rattle.trees.specs.Checked.{type_only}
use Rattle.claspwillow.specs.Promises.{number_of}

-- ---- no refusal has the number 0

abbrev pub Numbered : {A : Type 0} → Answer A → Type 0
Numbered (refused n) = 0 < n
Numbered (done a) = Unit {0}

numbered-then : {A B : Type 0} (a : Answer A) (next : A → Answer B) → Numbered a → ((x : A) → Numbered (next x)) → Numbered (a >>= next)
numbered-then (refused n) next p q = p
numbered-then (done x) next p q = q x

numbered-or : {A : Type 0} (n : ℕ) (o : Option A) → 0 < n → Numbered (or_refuse n o)
numbered-or n (Some a) h = tt
numbered-or n None h = h

module _ {A : Type 0} (make : ℕ → Payload → List A → Answer A) (makes : (kind : ℕ) (p : Payload) (xs : List A) → Numbered (make kind p xs)) where
  numbered-record : (slots : Slots A) (s : List ℕ) → Numbered (add_record make slots s)
  unfolding add_record
  numbered-record slots s =
      numbered-then (or_refuse bad_tree (fragment_payload s)) (λ p. add_payload make slots (kind_of s) p)
      (numbered-or bad_tree (fragment_payload s) (omega arith))
      (λ p. numbered-then (or_refuse bad_tree (take_all (children_of p) slots)) (λ t. add_made make (kind_of s) p t)
      (numbered-or bad_tree (take_all (children_of p) slots) (omega arith))
      (λ t. numbered-then (make (kind_of s) p t.those) (λ x. done (t.left ++ (Some x ∷ []))) (makes (kind_of s) p t.those) (λ x. tt)))

  numbered-read : (more : ℕ) (slots : Slots A) (bytes : List ℕ) → Numbered (read_from make more slots bytes)
  unfolding read_from
  numbered-read zero slots [] = numbered-or bad_tree (root_of slots) (omega arith)
  numbered-read zero slots (b ∷ bs) = omega arith
  numbered-read (suc more) slots [] = numbered-or bad_tree (root_of slots) (omega arith)
  numbered-read (suc more) slots (b ∷ bs) =
      numbered-then (or_refuse bad_tree (record_length (b ∷ bs)))
      (λ len. add_record make slots (take len (b ∷ bs)) >>= λ slots'. read_from make more slots' (drop len (b ∷ bs)))
      (numbered-or bad_tree (record_length (b ∷ bs)) (omega arith))
      (λ len. numbered-then (add_record make slots (take len (b ∷ bs))) (λ slots'. read_from make more slots' (drop len (b ∷ bs)))
      (numbered-record slots (take len (b ∷ bs)))
      (λ slots'. numbered-read more slots' (drop len (b ∷ bs))))

numbered-type : (f : Fragment) (r : Result «Type» TypeError) → Numbered (typed f r)
numbered-type f (Ok t) = by_height (leb (height_of f) max_height)
  where
    by_height : (b : Bool) → Numbered {A = Typed} (cond b (done (record { tree = f; type = t })) (refused tree_too_tall))
    by_height true = tt
    by_height false = omega arith
numbered-type f (Err TypeError.IllTyped) = omega arith

numbered-made : (c : Context) (kind : ℕ) (p : Payload) (xs : List Typed) → Numbered (make_typed c kind p xs)
numbered-made c kind p xs =
    let o = fragment_of kind p (map (λ x. x.tree) xs) in
    numbered-then (or_refuse bad_tree o) (λ f. typed f (type_of c f)) (numbered-or bad_tree o (omega arith)) (λ f. numbered-type f (type_of c f))

pub numbered-check : (context : ℕ) (tree : List ℕ) (words : ℕ) → Numbered (check_of context tree words)
unfolding check_of typed_tree_of read_tree
numbered-check context tree words =
    numbered-then (or_refuse bad_context (context_of context)) (λ c. check_in c tree words)
    (numbered-or bad_context (context_of context) (omega arith))
    (λ c. numbered-then (or_refuse bad_work (work_of words)) (λ _. typed_tree_of c tree)
    (numbered-or bad_work (work_of words) (omega arith))
    (λ _. numbered-read (make_typed c) (numbered-made c) max_records [] tree))

-- ---- the context by its number

pub segwit : (context : ℕ) → context ≡ 0 → (x : Context) → context_of context ≡ Some x → Segwitv0 ≡ x
segwit context z x e =
    let first : context_of context ≡ Some Segwitv0 = rw z in
    cc

pub tap : (context : ℕ) → (context ≡ 0 → ⊥) → (x : Context) → context_of context ≡ Some x → Tap ≡ x
tap context z x e = by-test (eqb context 1) refl
  where
    by-test : (b : Bool) → eqb context 1 ≡ b → Tap ≡ x
    by-test true t =
        let second : context_of context ≡ Some Tap = rw (ne_eqb context 0 z, t) in
        cc
    by-test false t =
        let no : context_of context ≡ None = rw (ne_eqb context 0 z, t) in
        cc

-- ---- what the check's number says

module _ (context : ℕ) (tree : List ℕ) (work : List ℕ) where
  -- the check passed: the tree, the context and the length of work memory
  pub record Passed : Type 0 where
    pub typed : Typed
    pub passes : check_of context tree (length work) ≡ done typed
    pub its-context : Context
    pub context-is : context_of context ≡ Some its-context
    pub room : length work ≡ max_records

  with-context : (x : Typed) → check_of context tree (length work) ≡ done x → Passed
  unfolding check_of
  with-context x e = by-context (context_of context) refl
    where
      by-work : (c : Context) → context_of context ≡ Some c → (b : Bool) → eqb (length work) max_records ≡ b → Passed
      by-work c k true t = record { typed = x; passes = e; its-context = c; context-is = k; room = eqb-true (length work) max_records t }
      by-work c k false t =
          let no : check_of context tree (length work) ≡ refused bad_work = rw (k, t) in
          absurd (let z : ◌≡◌ {A = ℕ} 0 1 = cc in omega arith)

      by-context : (o : Option Context) → context_of context ≡ o → Passed
      by-context (Some c) k = by-work c k (eqb (length work) max_records) refl
      by-context None k =
          let no : check_of context tree (length work) ≡ refused bad_context = rw k in
          absurd (let z : ◌≡◌ {A = ℕ} 0 1 = cc in omega arith)

  -- the check answered a type, or a refusal
  pub passed-as : {t : «Type»} → done t ≡ type_only (check_of context tree (length work)) → Passed
  passed-as {t} e = by_answer (check_of context tree (length work)) refl e
    where
      by_answer : (a : Answer Typed) → check_of context tree (length work) ≡ a → done t ≡ type_only a → Passed
      by_answer (refused n) k e = absurd (let z : ◌≡◌ {A = ℕ} 0 1 = cc in omega arith)
      by_answer (done x) k e = with-context x k

  pub refused-by : {n : ℕ} → refused n ≡ type_only (check_of context tree (length work)) → check_of context tree (length work) ≡ refused n
  refused-by {n} e = by_answer (check_of context tree (length work)) refl e
    where
      by_answer : (a : Answer Typed) → check_of context tree (length work) ≡ a → refused n ≡ type_only a → check_of context tree (length work) ≡ refused n
      by_answer (refused m) k e =
          let same : n ≡ m = cc in
          k ∙ ap refused (sym same)
      by_answer (done x) k e = absurd (let z : ◌≡◌ {A = ℕ} 0 1 = cc in omega arith)

  module _ {number : ℕ} (told : number ≡ number_of (type_only (check_of context tree (length work)))) where
    pub passed : number ≡ 0 → Passed
    passed z = by_answer (check_of context tree (length work)) refl (numbered-check context tree (length work))
      where
        by_answer : (a : Answer Typed) → check_of context tree (length work) ≡ a → Numbered a → Passed
        by_answer (refused n) e p =
            absurd (let is-n = ap (λ (x : Answer Typed). number_of (type_only x)) e in omega (arith, told, is-n, p, z))
        by_answer (done x) e p = with-context x e

    pub refused_as : (number ≡ 0 → ⊥) → check_of context tree (length work) ≡ refused number
    refused_as z = by_answer (check_of context tree (length work)) refl
      where
        by_answer : (a : Answer Typed) → check_of context tree (length work) ≡ a → check_of context tree (length work) ≡ refused number
        by_answer (refused n) e =
            let is-n : number ≡ n = told ∙ ap (λ (x : Answer Typed). number_of (type_only x)) e in
            rw (e, is-n)
        by_answer (done x) e = absurd (z (told ∙ ap (λ (x : Answer Typed). number_of (type_only x)) e))

-- the check leaves work memory of the same length
pub same-room : (work : List ℕ) {checked : List ℕ} → checked ≡ zeroed work → length checked ≡ length work
same-room work e = ap length e ∙ length-replicate (length work) 0
