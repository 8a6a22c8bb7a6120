-- The parts of a log where they stand in its bytes: numbers, elements, outcomes, entries. Assumes nothing.
use Prim.Native.Nat.{ℕ, zero, suc, ◌+◌, ◌-◌, ◌≤◌, ◌<◌}
use mathlib.Core.Bool.{Bool, true, false, cond}
use mathlib.Core.List.{List, [], ◌∷◌}
use Rattle.std.specs.Prelude.{Option, None, Some}
use mathlib.Core.Path.{◌≡◌, refl, sym, ap, subst, ◌∙◌}
use native.Mathlib.Numerals.{add-one}
use native.Mathlib.Omega.{arith}
use borrow.Author.Tests.{leb-true, leb-false, le-leb, lt-leb, eq-eqb, ne_eqb}
use lib.Dec.{leb, eqb}
use lib.ListN.{length, get_or, take, drop, length-drop}
use lib.Seq.{drop-drop, drop-cons, drop-length}
use mathlib.Core.Logic.{◌≢◌}
use Rattle.records.specs.Numbers.{u32}
use Rattle.words.proofs.Bytes.{read-room}
use Rattle.words.specs.Bytes.{little, has_bytes, when_read, le_at}
use Rattle.spend_machine.specs.Entries.{Outcome, no, yes, digest}
use Rattle.spend_log.specs.Readers.{Read, Reader, give, broken, onward, ◌>>=◌, block, byte, number, several, counted}
use Rattle.spend_log.specs.Logs.{element, elements, outcome_of, outcome, end_of, ending, entry}
use Rattle.spend_log.specs.Places.{place_of, element_at, digest_by, outcome_at}
use Rattle.spend_log.specs.declared.Part.{Part}
use Rattle.spend_log.proofs.Passing.{some_same, Takes, takes-give, takes-broken, takes-block, takes-byte, takes-then, takes-less, takes-any, takes-number, takes-several, takes-counted}
use Rattle.spend_log.proofs.Passing.{Passes, told, told-broken, place-broken, place-passed, place-next, place_none, place-give, place-made}

-- ---- bytes and numbers

module _ (n : ℕ) (log : List ℕ) (at : ℕ) where
  pub block-found : at + n ≤ length log → block n (drop at log) ≡ Some (record { value = take n (drop at log); behind = drop (at + n) log })
  unfolding block
  block-found h = rw (length-drop at log, le-leb n (length log - at) (omega arith), drop-drop n at log)

  pub block-missing : length log < at + n → at ≤ length log → block n (drop at log) ≡ None
  unfolding block
  block-missing h l = rw (length-drop at log, lt-leb n (length log - at) (omega arith))

module _ (log : List ℕ) (at : ℕ) where
  by-reading : (fits : Bool) {v : ℕ} → leb (at + 4) (length log) ≡ fits → when_read fits (little (take 4 (drop at log))) ≡ Some v
      → (at + 4 ≤ length log) × (little (take 4 (drop at log)) ≡ v)
  by-reading true t e = (leb-true (at + 4) (length log) t, cc)
  by-reading false t e = absurd (let z : ◌≡◌ {A = ℕ} 0 1 = cc in omega arith)

  by-missing : (fits : Bool) → leb (at + 4) (length log) ≡ fits → when_read fits (little (take 4 (drop at log))) ≡ None → length log < at + 4
  by-missing true t e = absurd (let z : ◌≡◌ {A = ℕ} 0 1 = cc in omega arith)
  by-missing false t e = leb-false (at + 4) (length log) t

  -- a number that was read
  pub number-found : {v : ℕ} → le_at 4 log at ≡ Some v → number (drop at log) ≡ Some (record { value = v; behind = drop (at + 4) log })
  unfolding le_at number
  number-found {v} e =
      let b = by-reading (leb (at + 4) (length log)) refl e in
      rw (block-found 4 log at b.0, b.1)

  pub number-missing : at ≤ length log → le_at 4 log at ≡ None → number (drop at log) ≡ None
  unfolding le_at number
  number-missing h e = rw (block-missing 4 log at (by-missing (leb (at + 4) (length log)) refl e) h)

  pub number_short : at ≤ length log → length log < at + 4 → number (drop at log) ≡ None
  unfolding number
  number_short h l = rw (block-missing 4 log at l h)

  pub number-there : at + 4 ≤ length log → number (drop at log) ≡ Some (record { value = u32 log at; behind = drop (at + 4) log })
  unfolding number le_at
  number-there h = rw (block-found 4 log at h, le-leb (at + 4) (length log) h)

  pub byte-found : at < length log → byte (drop at log) ≡ Some (record { value = get_or log at 0; behind = drop (at + 1) log })
  unfolding byte
  byte-found h = rw (drop-cons log at 0 h, add-one at)

  pub byte-missing : length log ≤ at → byte (drop at log) ≡ None
  unfolding byte
  byte-missing h = rw (none_left log at h)
    where
      none_left : (s : List ℕ) (n : ℕ) → length s ≤ n → drop n s ≡ []
      none_left [] zero l = refl
      none_left [] (suc n) l = refl
      none_left (b ∷ s) zero l = absurd (omega arith)
      none_left (b ∷ s) (suc n) l = none_left s n (omega arith)

-- ---- how much each part takes

pub takes-element : Takes 4 element
unfolding element
takes-element = takes-then number _ takes-number (λ n. takes-any (takes-block n))

pub takes-elements : Takes 4 elements
unfolding elements
takes-elements = takes-then (counted element) _ (takes-counted element (takes-any takes-element)) (λ xs. takes-give _)

either : {A : Type 0} (t : Bool) (a b : Reader A) → Takes 0 a → Takes 0 b → Takes 0 (cond t a b)
either true a b x y = x
either false a b x y = y

pub takes-outcome : Takes 1 outcome
unfolding outcome outcome_of
takes-outcome = takes-then byte _ takes-byte by-sort
  where
    by-sort : (sort : ℕ) → Takes 0 (outcome_of sort)
    by-sort sort =
        either (eqb sort 0) _ _ (takes-give _)
        (either (eqb sort 1) _ _ (takes-give _)
        (either (eqb sort 2) _ _ (takes-then element _ (takes-any takes-element) (λ x. takes-give _)) (takes-broken 0)))

pub takes-ending : Takes 1 ending
unfolding ending end_of
takes-ending = takes-then byte _ takes-byte by-sort
  where
    by-sort : (sort : ℕ) → Takes 0 (end_of sort)
    by-sort sort =
        either (eqb sort 0) _ _ (takes-give _)
        (either (eqb sort 1) _ _ (takes-then elements _ (takes-any takes-elements) (λ m. takes-give _)) (takes-broken 0))

pub takes-outcomes : Takes 4 (counted outcome)
takes-outcomes = takes-counted outcome (takes-any takes-outcome)

pub takes-entry : Takes 13 entry
unfolding entry
takes-entry =
    takes-then number _ takes-number λ n.
    takes-then elements _ takes-elements λ s.
    takes-then (counted outcome) _ takes-outcomes λ os.
    takes-then ending _ takes-ending λ e.
    takes-give _

-- ---- where each part ends

module _ (log : List ℕ) (at : ℕ) where
  pub element-whole : {v : ℕ} → le_at 4 log at ≡ Some v → at + 4 + v ≤ length log → Some (at + 4 + v) ≡ place_of element log at
  unfolding element
  element-whole {v} e h =
      sym (place-next number _ log at (at + 4) (number-found log at e) ∙ place-passed (block v) log (at + 4) (block-found v log (at + 4) h) h)

  pub element-short : {v : ℕ} → le_at 4 log at ≡ Some v → length log < at + 4 + v → None ≡ place_of element log at
  unfolding element
  element-short {v} e h =
      sym (place-next number _ log at (at + 4) (number-found log at e)
      ∙ place-broken (block v) log (at + 4) (block-missing v log (at + 4) h (read-room 4 log at e)))

  pub element-missing : at ≤ length log → le_at 4 log at ≡ None → None ≡ place_of element log at
  unfolding element
  element-missing h e = sym (place_none number _ log at (number-missing log at h e))

  pub counted-found : {A : Type 0} (r : Reader A) {n : ℕ} → le_at 4 log at ≡ Some n → place_of (counted r) log at ≡ place_of (several r n) log (at + 4)
  unfolding counted
  counted-found r e = place-next number _ log at (at + 4) (number-found log at e)

  pub counted-missing : {A : Type 0} (r : Reader A) → at ≤ length log → le_at 4 log at ≡ None → None ≡ place_of (counted r) log at
  unfolding counted
  counted-missing r h e = sym (place_none number _ log at (number-missing log at h e))

  pub stack-place : place_of elements log at ≡ place_of (counted element) log at
  unfolding elements
  stack-place = place-made (counted element) _ log at

  -- ---- outcomes and recorded ends, by the byte in front

  pub outcome-missing : length log ≤ at → None ≡ place_of outcome log at
  unfolding outcome
  outcome-missing h = sym (place_none byte _ log at (byte-missing log at h))

  pub ending-missing : length log ≤ at → None ≡ place_of ending log at
  unfolding ending
  ending-missing h = sym (place_none byte _ log at (byte-missing log at h))

  module _ (there : at < length log) where
    outcome-by : (sort : ℕ) → get_or log at 0 ≡ sort → place_of outcome log at ≡ place_of (outcome_of sort) log (at + 1)
    unfolding outcome
    outcome-by sort e = place-next byte _ log at (at + 1) (byte-found log at there) ∙ ap (λ x. place_of (outcome_of x) log (at + 1)) e

    pub outcome-no : get_or log at 0 ≡ 0 → Some (at + 1) ≡ place_of outcome log at
    unfolding outcome_of
    outcome-no e = sym (outcome-by 0 e ∙ place-give _ log (at + 1) (omega arith))

    pub outcome-yes : get_or log at 0 ≡ 1 → Some (at + 1) ≡ place_of outcome log at
    unfolding outcome_of
    outcome-yes e = sym (outcome-by 1 e ∙ place-give _ log (at + 1) (omega arith))

    pub outcome-digest : get_or log at 0 ≡ 2 → place_of element log (at + 1) ≡ place_of outcome log at
    unfolding outcome_of
    outcome-digest e = sym (outcome-by 2 e ∙ place-made element _ log (at + 1))

    pub outcome-other : get_or log at 0 ≢ 0 → get_or log at 0 ≢ 1 → get_or log at 0 ≢ 2 → None ≡ place_of outcome log at
    unfolding outcome_of
    outcome-other a b c =
        sym (outcome-by (get_or log at 0) refl ∙ rw (ne_eqb _ _ a, ne_eqb _ _ b, ne_eqb _ _ c) (place-broken broken log (at + 1) refl))

    ending-by : (sort : ℕ) → get_or log at 0 ≡ sort → place_of ending log at ≡ place_of (end_of sort) log (at + 1)
    unfolding ending
    ending-by sort e = place-next byte _ log at (at + 1) (byte-found log at there) ∙ ap (λ x. place_of (end_of x) log (at + 1)) e

    pub ending-abort : get_or log at 0 ≡ 0 → Some (at + 1) ≡ place_of ending log at
    unfolding end_of
    ending-abort e = sym (ending-by 0 e ∙ place-give _ log (at + 1) (omega arith))

    pub ending-stack : get_or log at 0 ≡ 1 → place_of elements log (at + 1) ≡ place_of ending log at
    unfolding end_of
    ending-stack e = sym (ending-by 1 e ∙ place-made elements _ log (at + 1))

    pub ending-other : get_or log at 0 ≢ 0 → get_or log at 0 ≢ 1 → None ≡ place_of ending log at
    unfolding end_of
    ending-other a b =
        sym (ending-by (get_or log at 0) refl ∙ rw (ne_eqb _ _ a, ne_eqb _ _ b) (place-broken broken log (at + 1) refl))

  -- ---- entries

  pub entry-short : at ≤ length log → length log - at < 4 → None ≡ place_of entry log at
  unfolding entry
  entry-short h l = sym (place_none number _ log at (number_short log at h (omega arith)))

  module _ (there : at + 4 ≤ length log) where
    pub entry-starts : elements (drop (at + 4) log) ≡ None → None ≡ place_of entry log at
    unfolding entry
    entry-starts e = sym (place-next number _ log at (at + 4) (number-there log at there) ∙ place_none elements _ log (at + 4) e)

    module _ {a : ℕ} (p : Passes 4 elements log (at + 4) a) where
      pub entry-asks : counted outcome (drop a log) ≡ None → None ≡ place_of entry log at
      unfolding entry
      entry-asks e =
          sym (place-next number _ log at (at + 4) (number-there log at there)
          ∙ place-next elements _ log (at + 4) a p.reads
          ∙ place_none (counted outcome) _ log a e)

      pub entry-ends : {b : ℕ} → Passes 4 (counted outcome) log a b → place_of ending log b ≡ place_of entry log at
      unfolding entry
      entry-ends {b} q =
          sym (place-next number _ log at (at + 4) (number-there log at there)
          ∙ place-next elements _ log (at + 4) a p.reads
          ∙ place-next (counted outcome) _ log a b q.reads
          ∙ place-made ending _ log b)

-- ---- what was read where the log is not broken

-- the bytes that a part of a log has
pub part_of : List ℕ → Part → List ℕ
part_of log p = take p.len (drop p.start log)

-- a value read at a place, and where what follows it begins
pub record Is {A : Type 0} (g : Read A) (log : List ℕ) (x : A) (next : ℕ) : Type 0 where
  pub value : g.value ≡ x
  pub behind : g.behind ≡ drop next log
  pub within : next ≤ length log

-- an element
pub element-known : (log : List ℕ) (at : ℕ) → at ≤ length log → (g : Read (List ℕ)) → element (drop at log) ≡ Some g
    → Is g log (part_of log (element_at log at)) (element_at log at).next
unfolding element part_of
element-known log at h g e = by_number (leb (at + 4) (length log)) refl
  where
    n : ℕ
    n = u32 log at

    by-block : (t : Bool) → leb (at + 4 + n) (length log) ≡ t → at + 4 ≤ length log → block n (drop (at + 4) log) ≡ Some g
        → Is g log (part_of log (element_at log at)) (at + 4 + n)
    by-block true t l b =
        let w = leb-true (at + 4 + n) (length log) t in
        let f = some_same (sym b ∙ block-found n log (at + 4) w) in
        record { value = ap (λ x. x.value) f; behind = ap (λ x. x.behind) f; within = w }
    by-block false t l b =
        let z : None ≡ Some g = sym (block-missing n log (at + 4) (leb-false (at + 4 + n) (length log) t) l) ∙ b in
        absurd (let y : ◌≡◌ {A = ℕ} 0 1 = cc in omega arith)

    by_number : (t : Bool) → leb (at + 4) (length log) ≡ t → Is g log (part_of log (element_at log at)) (at + 4 + n)
    by_number true t =
        let l = leb-true (at + 4) (length log) t in
        by-block (leb (at + 4 + n) (length log)) refl l (sym (ap (λ o. onward o block) (number-there log at l)) ∙ e)
    by_number false t =
        let z : None ≡ Some g = sym (ap (λ o. onward o block) (number_short log at h (leb-false (at + 4) (length log) t))) ∙ e in
        absurd (let y : ◌≡◌ {A = ℕ} 0 1 = cc in omega arith)

-- an outcome, by the byte in front
outcome_by : List ℕ → (at sort : ℕ) → Outcome
outcome_by log at sort = cond (eqb sort 0) no (cond (eqb sort 1) yes (digest (part_of log (digest_by log at sort))))

pub outcome_in : List ℕ → ℕ → Outcome
outcome_in log at = outcome_by log at (get_or log at 0)

by_byte : (log : List ℕ) (at : ℕ) → at + 1 ≤ length log → (g : Read Outcome) (sort : ℕ) → outcome_of sort (drop (at + 1) log) ≡ Some g
    → Is g log (outcome_by log at sort) (digest_by log at sort).next
unfolding outcome_of outcome_by
by_byte log at l g zero e = record { value = cc; behind = sym (ap (λ x. x.behind) (some_same e)); within = l }
by_byte log at l g (suc zero) e = record { value = cc; behind = sym (ap (λ x. x.behind) (some_same e)); within = l }
by_byte log at l g (suc (suc zero)) e = by-element (element (drop (at + 1) log)) refl e
  where
    by-element : (o : Option (Read (List ℕ))) → element (drop (at + 1) log) ≡ o → onward o (λ bytes. give (digest bytes)) ≡ Some g
        → Is g log (digest (part_of log (element_at log (at + 1)))) (element_at log (at + 1)).next
    by-element None o e = absurd (let y : ◌≡◌ {A = ℕ} 0 1 = cc in omega arith)
    by-element (Some d) o e =
        let k = element-known log (at + 1) l d o in
        let f = sym (some_same e) in
        record {
          value = ap (λ x. x.value) f ∙ ap digest k.value;
          behind = ap (λ x. x.behind) f ∙ k.behind;
          within = k.within;
        }
by_byte log at l g (suc (suc (suc n))) e =
    let m = suc (suc (suc n)) in
    let z : None ≡ Some g =
    simp (ne_eqb m 0 (λ q. omega arith), ne_eqb m 1 (λ q. omega arith), ne_eqb m 2 (λ q. omega arith)) at e
    in
    absurd (let y : ◌≡◌ {A = ℕ} 0 1 = cc in omega arith)

pub outcome-known : (log : List ℕ) (at : ℕ) → at ≤ length log → (g : Read Outcome) → outcome (drop at log) ≡ Some g
    → Is g log (outcome_in log at) (outcome_at log at).next × (at < length log)
unfolding outcome outcome_in
outcome-known log at h g e = by_length (leb (at + 1) (length log)) refl
  where
    by_length : (t : Bool) → leb (at + 1) (length log) ≡ t
        → Is g log (outcome_in log at) (outcome_at log at).next × (at < length log)
    by_length true t =
        let l = leb-true (at + 1) (length log) t in
        (by_byte log at l g (get_or log at 0) (sym (ap (λ o. onward o outcome_of) (byte-found log at (omega arith))) ∙ e), omega arith)
    by_length false t =
        let l = leb-false (at + 1) (length log) t in
        let z : None ≡ Some g = sym (ap (λ o. onward o outcome_of) (byte-missing log at (omega arith))) ∙ e in
        absurd (let y : ◌≡◌ {A = ℕ} 0 1 = cc in omega arith)
