-- The records of some bytes, one by one, and what is still to come of measuring and of writing them. Assumes nothing.
use mathlib.Core.Path.{◌≡◌, refl, sym, ap, ◌∙◌}
use mathlib.Core.Bool.{Bool, true, false, ◌||◌}
use mathlib.Core.List.{List, [], ◌∷◌, ◌++◌, map, append_assoc}
use Rattle.refusals.specs.declared.Refusal.TheVariants as Refusal
use Rattle.std.specs.Prelude.{Option, None, Some, Ok, Err}
use Prim.Native.Nat.{ℕ, zero, suc, ◌+◌, ◌-◌, ◌*◌, ◌<◌, ◌≤◌}
use native.Mathlib.Omega.{arith}
use lib.ListN.{length, take, drop, length-append, length-drop}
use lib.Seq.{sets, sets-eq, length-sets, drop-drop, length-take-le}
use Rattle.records.specs.Numbers.{or_zero}
use Rattle.records.specs.RecordForm.{record_length}
use Rattle.records.proofs.Laws.{length-bounds}
use Rattle.walk.specs.TreeRecords.{length_from}
use Rattle.moving.specs.declared.Form.{Form}
use Rattle.moving.specs.Moving.{moved, too_large, records_from, records_of, in_order, any, moved_policy}
use Rattle.moving.specs.Answers.{result_answer, extent_of}
use Rattle.moving.proofs.Keys.{moved-empty, empty-fits, moved-few, then-sets}

-- ---- the records of some bytes

pub next : (most : ℕ) (s : List ℕ) {len : ℕ} → record_length s ≡ Some len → records_from (suc most) s ≡ take len s ∷ records_from most (drop len s)
unfolding records_from
next most s e = rw e

pub no_more : (most : ℕ) (s : List ℕ) → record_length s ≡ None → records_from most s ≡ []
unfolding records_from
no_more zero s e = refl
no_more (suc most) s e = rw e

-- the bytes of a record that begins at a place are there
pub inside : (s : List ℕ) (at : ℕ) → at ≤ length s → at + length_from s at ≤ length s
inside s at h = by_length (record_length (drop at s)) refl
  where
    by_length : (o : Option ℕ) → record_length (drop at s) ≡ o → at + or_zero o ≤ length s
    by_length (Some n) e = omega (arith, (length-bounds (drop at s) e).1, length-drop at s)
    by_length None e = omega arith

-- the part of the bytes up to where it ends
part : (s : List ℕ) (at n : ℕ) → take (at + n - at) (drop at s) ≡ take n (drop at s)
part s at n =
    let e : at + n - at ≡ n = omega arith in
    rw e

-- ---- moved, with those still to come

module _ (form : Form) where
  unfoldable pub rest : (most : ℕ) → List ℕ → List ℕ
  rest most s = in_order (map (moved form) (records_from most s))

  unfoldable pub large : (most : ℕ) → List ℕ → Bool
  large most s = any (too_large form) (records_from most s)

  -- the first record, which is empty where there is none, and the others

  pub rest-next : (most : ℕ) (s : List ℕ) → rest (suc most) s ≡ moved form (take (or_zero (record_length s)) s) ++ rest most (drop (or_zero (record_length s)) s)
  unfolding rest in_order
  rest-next most s = by_length (record_length s) refl
    where
      by_length : (o : Option ℕ) → record_length s ≡ o
          → in_order (map (moved form) (records_from (suc most) s)) ≡ moved form (take (or_zero o) s) ++ in_order (map (moved form) (records_from most (drop (or_zero o) s)))
      by_length (Some n) e = rw (next most s e)
      by_length None e = rw (no_more (suc most) s e, no_more most s e, moved-empty form)

  pub large-next : (most : ℕ) (s : List ℕ)
      → large (suc most) s ≡ too_large form (take (or_zero (record_length s)) s) || large most (drop (or_zero (record_length s)) s)
  unfolding large any
  large-next most s = by_length (record_length s) refl
    where
      by_length : (o : Option ℕ) → record_length s ≡ o
          → any (too_large form) (records_from (suc most) s) ≡ too_large form (take (or_zero o) s) || any (too_large form) (records_from most (drop (or_zero o) s))
      by_length (Some n) e = rw (next most s e)
      by_length None e = rw (no_more (suc most) s e, no_more most s e, empty-fits form)

  rest-none : (s : List ℕ) → rest 0 s ≡ []
  unfolding rest in_order records_from
  rest-none s = refl

  large-none : (s : List ℕ) → large 0 s ≡ false
  unfolding large any records_from
  large-none s = refl

pub or-false : (b : Bool) → b || false ≡ b
or-false true = refl
or-false false = refl

pub or_assoc : (a b c : Bool) → (a || b) || c ≡ a || (b || c)
or_assoc true b c = refl
or_assoc false b c = refl

-- ---- measuring, after i records, which end before `at`

pub record MeasureInv (form : Form) (policy : List ℕ) (bytes at i : ℕ) : Type 0 where
  pub few : i ≤ 64
  pub within : at ≤ length policy
  pub small : bytes ≤ at + 12 * i
  pub come : bytes + length (rest form (64 - i) (drop at policy)) ≡ length (moved_policy form policy)
  pub told : large form (64 - i) (drop at policy) ≡ any (too_large form) (records_of policy)

module _ (form : Form) (policy : List ℕ) where
  pub measure-starts : MeasureInv form policy 0 0 0
  unfolding rest large moved_policy records_of
  measure-starts = record { few = omega arith; within = omega arith; small = omega arith; come = omega arith; told = refl }

  module _ {bytes at i : ℕ} (inv : MeasureInv form policy bytes at i) where
    pub end-inside : (end : ℕ) → end ≡ at + length_from policy at → (at ≤ end) × (end ≤ length policy)
    end-inside end e =
        let h = inside policy at inv.within in
        (omega arith, omega arith)

    -- one record is no more than its bytes and a key
    pub one-few : (end : ℕ) → end ≡ at + length_from policy at → (n : ℕ) → n ≡ length (moved form (take (end - at) (drop at policy))) → n ≤ end - at + 12
    one-few end e n is =
        let h = inside policy at inv.within in
        let long : length (take (end - at) (drop at policy)) ≡ end - at =
        length-take-le (end - at) (drop at policy) (omega (arith, length-drop at policy)) in
        omega (arith, is, moved-few form (take (end - at) (drop at policy)))

    module _ (l : i < 64) (end : ℕ) (e : end ≡ at + length_from policy at) where
      abbrev whole : List ℕ
      whole = take (length_from policy at) (drop at policy)

      same : take (end - at) (drop at policy) ≡ whole
      same = ap (λ (x : ℕ). take (x - at) (drop at policy)) e ∙ part policy at (length_from policy at)

      onward : drop (length_from policy at) (drop at policy) ≡ drop end policy
      onward = drop-drop (length_from policy at) at policy ∙ ap (λ (x : ℕ). drop x policy) (sym e)

      first-large : large form (64 - i) (drop at policy) ≡ too_large form whole || large form (64 - (i + 1)) (drop end policy)
      first-large =
          let k : 64 - i ≡ suc (64 - (i + 1)) = omega arith in
          ap (λ (x : ℕ). large form x (drop at policy)) k ∙ large-next form (64 - (i + 1)) (drop at policy)
          ∙ ap (λ (x : List ℕ). too_large form whole || large form (64 - (i + 1)) x) onward

      module _ {t : Bool} (told : t ≡ too_large form (take (end - at) (drop at policy))) where
        found : any (too_large form) (records_of policy) ≡ t || large form (64 - (i + 1)) (drop end policy)
        found = sym inv.told ∙ first-large ∙ ap (λ (b : Bool). b || large form (64 - (i + 1)) (drop end policy)) (sym (told ∙ ap (too_large form) same))

        pub measure-stops : t ≡ true → result_answer (Err Refusal.KeyTooLarge) ≡ extent_of form policy
        unfolding extent_of
        measure-stops is = rw (found, is)

        pub measure-goes-on : t ≡ false → (n : ℕ) → n ≡ length (moved form (take (end - at) (drop at policy)))
            → MeasureInv form policy (bytes + n) end (i + 1)
        measure-goes-on none n is =
            let few = one-few end e n is in
            let h = inside policy at inv.within in
            let k : 64 - i ≡ suc (64 - (i + 1)) = omega arith in
            let first : rest form (64 - i) (drop at policy) ≡ moved form whole ++ rest form (64 - (i + 1)) (drop end policy) =
            ap (λ (x : ℕ). rest form x (drop at policy)) k ∙ rest-next form (64 - (i + 1)) (drop at policy)
            ∙ ap (λ (x : List ℕ). moved form whole ++ rest form (64 - (i + 1)) x) onward in
            record {
              few = omega arith;
              within = omega arith;
              small = omega (arith, inv.small);
              come = omega (
                arith,
                inv.come,
                ap length first,
                length-append (moved form whole) (rest form (64 - (i + 1)) (drop end policy)),
                is ∙ ap (λ (x : List ℕ). length (moved form x)) same,
              );
              told = sym (rw none at found);
            }

    pub measure-ends : 64 ≤ i → result_answer (Ok bytes) ≡ extent_of form policy
    unfolding extent_of
    measure-ends l =
        let k : 64 - i ≡ 0 = omega (arith, inv.few) in
        let none_left : rest form (64 - i) (drop at policy) ≡ [] = ap (λ (x : ℕ). rest form x (drop at policy)) k ∙ rest-none form (drop at policy) in
        let none-large : any (too_large form) (records_of policy) ≡ false =
        sym inv.told ∙ ap (λ (x : ℕ). large form x (drop at policy)) k ∙ large-none form (drop at policy) in
        let b : bytes ≡ length (moved_policy form policy) = omega (arith, inv.come, ap length none_left) in
        rw (b, none-large)

-- ---- writing, after i records, which end before `from` and are written before `to`

pub record WriteInv (form : Form) (policy out₀ out : List ℕ) (from to i : ℕ) : Type 0 where
  pub few : i ≤ 64
  pub within : from ≤ length policy
  pub long : length out ≡ length out₀
  pub room : to + length (rest form (64 - i) (drop from policy)) ≤ length out₀
  pub come : sets out to (rest form (64 - i) (drop from policy)) ≡ sets out₀ 0 (moved_policy form policy)

module _ (form : Form) (policy out₀ : List ℕ) where
  pub write-starts : length (moved_policy form policy) ≤ length out₀ → WriteInv form policy out₀ out₀ 0 0 0
  unfolding rest moved_policy records_of
  write-starts h = record { few = omega arith; within = omega arith; long = refl; room = omega (arith, h); come = refl }

  module _ {out : List ℕ} {from to i : ℕ} (inv : WriteInv form policy out₀ out from to i) (end : ℕ) (e : end ≡ from + length_from policy from) where
    pub part-inside : (from ≤ end) × (end ≤ length policy)
    part-inside =
        let h = inside policy from inv.within in
        (omega arith, omega arith)

    this : List ℕ
    this = moved form (take (end - from) (drop from policy))

    split : i < 64 → rest form (64 - i) (drop from policy) ≡ moved form (take (end - from) (drop from policy)) ++ rest form (64 - (i + 1)) (drop end policy)
    split l =
        let k : 64 - i ≡ suc (64 - (i + 1)) = omega arith in
        let same : take (end - from) (drop from policy) ≡ take (length_from policy from) (drop from policy) =
        ap (λ (x : ℕ). take (x - from) (drop from policy)) e ∙ part policy from (length_from policy from) in
        let onward : drop (length_from policy from) (drop from policy) ≡ drop end policy = drop-drop (length_from policy from) from policy ∙ ap (λ (x : ℕ). drop x policy) (sym e) in
        ap (λ (x : ℕ). rest form x (drop from policy)) k ∙ rest-next form (64 - (i + 1)) (drop from policy)
        ∙ ap (λ (x : List ℕ). moved form (take (length_from policy from) (drop from policy)) ++ rest form (64 - (i + 1)) x) onward
        ∙ ap (λ (x : List ℕ). moved form x ++ rest form (64 - (i + 1)) (drop end policy)) (sym same)

    pub has_room : i < 64 → to + length (moved form (take (end - from) (drop from policy))) ≤ length out
    has_room l =
        omega (
          arith,
          inv.room,
          inv.long,
          ap length (split l),
          length-append (moved form (take (end - from) (drop from policy))) (rest form (64 - (i + 1)) (drop end policy)),
        )

    pub write-goes-on : i < 64 → (out' : List ℕ) (to' : ℕ) → to' ≡ to + length (moved form (take (end - from) (drop from policy)))
        → out' ≡ sets out to (moved form (take (end - from) (drop from policy))) → WriteInv form policy out₀ out' end to' (i + 1)
    write-goes-on l out' to' p is =
        let r = moved form (take (end - from) (drop from policy)) in
        let others = rest form (64 - (i + 1)) (drop end policy) in
        record {
          few = omega arith;
          within = part-inside.1;
          long = ap length is ∙ length-sets out to r ∙ inv.long;
          room = omega (arith, inv.room, ap length (split l), length-append r others, p);
          come = then-sets out out' (sets out' to' others) r others to to' is refl p ∙ ap (sets out to) (sym (split l)) ∙ inv.come;
        }

  pub write-ends : {out : List ℕ} {from to i : ℕ} → WriteInv form policy out₀ out from to i → 64 ≤ i → out ≡ sets out₀ 0 (moved_policy form policy)
  write-ends {out} {from} {to} {i} inv l =
      let k : 64 - i ≡ 0 = omega (arith, inv.few) in
      let none_left : rest form (64 - i) (drop from policy) ≡ [] = ap (λ (x : ℕ). rest form x (drop from policy)) k ∙ rest-none form (drop from policy) in
      ap (sets out to) (sym none_left) ∙ inv.come

-- ---- some bytes, copied

pub copied-over : (out bytes part : List ℕ) (at k : ℕ) → part ≡ bytes → k ≡ length bytes → at + length bytes ≤ length out
    → take at out ++ (part ++ drop k (drop at out)) ≡ sets out at bytes
copied-over out bytes part at k is n h =
    rw (is, n, drop-drop (length bytes) at out) (sym (append_assoc (take at out) bytes (drop (at + length bytes) out)) ∙ sym (sets-eq bytes out at h))
