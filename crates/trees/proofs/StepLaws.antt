-- Reading one record in work memory, from what the functions that it calls tell. Assumes nothing.
use Rattle.refusals.specs.declared.Refusal.{Refusal}
use Rattle.correctness.specs.declared.TypeError.{TypeError}
use Prim.Native.Nat.{ℕ, suc, ◌+◌}
use mathlib.Core.Bool.{Bool, cond}
use mathlib.Core.List.{List, [], ◌∷◌, ◌++◌}
use Rattle.std.specs.Prelude.{Option, None, Some, Result, Ok, Err}
use mathlib.Core.Path.{◌≡◌, refl, sym, ap, subst, ◌∙◌}
use native.Mathlib.Omega.{arith}
use borrow.Author.Tests.{le-leb, lt-leb}
use lib.ListN.{length, take}
use Rattle.records.specs.declared.Parts.{Parts}
use Rattle.records.specs.Payloads.{k_of, children_of}
use Rattle.records.specs.RecordForm.{fragment_payload}
use Rattle.types.specs.declared.«Type».{«Type»}
use Rattle.contexts.specs.declared.Context.{Context}
use Rattle.trees.specs.declared.Subtree.{Subtree}
use Rattle.trees.specs.Height.{max_height}
use Rattle.trees.specs.Reading.{Answer, refused, done, ◌>>=◌, tree_too_tall, Slots, Taken, take_all, add_record}
use Rattle.trees.specs.Rules.{answered, rule_of, types_of, tallest, make_subtree}
use Rattle.trees.specs.WorkMemory.{slots_in, free_in, children_taken, Placed, placed, too_tall, Stepped}
use Rattle.records.specs.Shapes.{arity}
use Rattle.trees.proofs.Slots.{IfSome}
use Rattle.trees.proofs.Subtrees.{take-types}
use Rattle.trees.proofs.Counting.{free_more, free-taken}
use Rattle.records.proofs.Arities.{Found, own-children, same-children}
use Rattle.trees.proofs.RecordLaws.{added-unfit, added-untaken, own_slot, added}

-- a record whose children have been looked for
pub record Took (s work₀ work : List ℕ) (read : ℕ) (parts : Parts) (kind n : ℕ) (r : Option (List Subtree)) : Type 0 where
  pub found : Found s parts kind n
  pub took : take_all (take n parts.children) (slots_in work₀ read) ≡ children_taken r n (slots_in work read)
  pub same : length work ≡ length work₀

pub stepped-unfit : (c : Context) (s work : List ℕ) (read : ℕ) → fragment_payload s ≡ None → Stepped c s work work read (Err Refusal.BadTree)
stepped-unfit c s work read e = record { says = added-unfit c (slots_in work read) s e; free = tt; same = refl }

module _ (c : Context) {s work₀ work : List ℕ} {read : ℕ} {parts : Parts} {kind n : ℕ} {r : Option (List Subtree)}
    (x : Took s work₀ work read parts kind n r) where
  all-taken : take_all (children_of x.found.payload) (slots_in work₀ read) ≡ children_taken r n (slots_in work read)
  all-taken = subst (λ (js : List ℕ). take_all js (slots_in work₀ read) ≡ children_taken r n (slots_in work read)) (same-children x.found) x.took

  pub stepped-untaken : r ≡ None → Stepped c s work₀ work read (Err Refusal.BadTree)
  stepped-untaken t =
      record {
        says = added-untaken c (slots_in work₀ read) s x.found.payload x.found.fits (all-taken ∙ rw t);
        free = tt;
        same = x.same;
      }

  -- the children, once all are taken
  module _ {xs : List Subtree} (taken : r ≡ Some xs) where
    abbrev those : Taken Subtree
    those = record { those = take n xs; left = slots_in work read }

    taken_is : take_all (children_of x.found.payload) (slots_in work₀ read) ≡ Some those
    taken_is = all-taken ∙ rw taken

    -- the rule of the kind answers, from the types of the children in their sixteen places
    abbrev pub Ruled : List «Type» → Result «Type» TypeError → Type 0
    Ruled types res = rule_of kind c parts.k (take (arity kind parts.count) types) ≡ answered res

    ruled : {types : List «Type»} (res : Result «Type» TypeError) → types ≡ types_of xs → Ruled types res
        → add_record (make_subtree c) (slots_in work₀ read) s ≡ (answered res >>= λ t. own_slot c (slots_in work₀ read) s t those)
    ruled {types} res are h =
        let own-k : parts.k ≡ k_of x.found.payload = ap (λ (y : Parts). y.k) x.found.parts_are in
        added c (slots_in work₀ read) s x.found.payload those res x.found.fits taken_is (
        ap (λ (m : ℕ). rule_of m c (k_of x.found.payload) (types_of (take n xs))) (sym x.found.kind-is)
        ∙ ap (λ (m : ℕ). rule_of kind c m (types_of (take n xs))) (sym own-k)
        ∙ ap (λ (ts : List «Type»). rule_of kind c parts.k ts) (sym (take-types n xs) ∙ ap (take n) (sym are))
        ∙ ap (λ (m : ℕ). rule_of kind c parts.k (take m types)) x.found.n-is
        ∙ h
        )

    pub stepped-ill : {types : List «Type»} {res : Result «Type» TypeError} {e : TypeError} → types ≡ types_of xs → Ruled types res → res ≡ Err e
        → Stepped c s work₀ work read (Err Refusal.IllTyped)
    stepped-ill {e = TypeError.IllTyped} are h told = record { says = ruled (Err TypeError.IllTyped) are (h ∙ ap answered told); free = tt; same = x.same }

    own-free : (y : Subtree) → free_in (slots_in work read ++ (Some y ∷ [])) + n ≡ free_in (slots_in work₀ read) + 1
    own-free y =
        let cs = children_of x.found.payload in
        let all : free_in (slots_in work read) + length cs ≡ free_in (slots_in work₀ read) =
        subst (λ (o : Option (Taken Subtree)). IfSome (λ y. free_in y.left + length cs ≡ free_in (slots_in work₀ read)) o) taken_is
        (free-taken cs (slots_in work₀ read)) in
        omega (arith, free_more (slots_in work read) y, own-children x.found)

    -- a well-typed record has its slot, or is too tall
    pub stepped-placed : {types : List «Type»} {res : Result «Type» TypeError} {t : «Type»} {work' : List ℕ} {step : Result ℕ Refusal}
        → types ≡ types_of xs → Ruled types res → res ≡ Ok t → Placed work work' read t (take n xs) n step
        → Stepped c s work₀ work' read step
    stepped-placed {res} {t} are rule told (placed l same more) =
        record {
          says =
              ruled (Ok t) are (rule ∙ ap answered told)
              ∙ ap (λ (b : Bool). low-is b) (le-leb (suc (tallest (take n xs))) max_height l) ∙ ap done (sym more);
          free = rw more (own-free _);
          same = same ∙ x.same;
        }
      where
        low-is : Bool → Answer (Slots Subtree)
        low-is b =
            cond b (done (record { ty = t; height = suc (tallest (take n xs)) })) (refused tree_too_tall)
            >>= λ y. done (slots_in work read ++ (Some y ∷ []))
    stepped-placed {res} {t} are rule told (too_tall l same) =
        record {
          says =
              ruled (Ok t) are (rule ∙ ap answered told)
              ∙ rw (lt-leb (suc (tallest (take n xs))) max_height l);
          free = tt;
          same = same ∙ x.same;
        }
