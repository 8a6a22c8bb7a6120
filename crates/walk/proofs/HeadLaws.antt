-- The head of a record's fragment (specs/Heads.antt) is the one that its bytes write. Assumes nothing.
use Prim.Native.Nat.{ℕ, ◌≤◌}
use mathlib.Core.List.{List, []}
use Rattle.std.specs.Prelude.{Some}
use mathlib.Core.Path.{◌≡◌, refl, sym, ap, ◌∙◌}
use native.Mathlib.Omega.{arith}
use Rattle.records.specs.Payloads.{Payload, number_of, k_of, count_of, keys_of, first_keys, count_in}
use Rattle.records.specs.RecordForm.{kind_of}
use Rattle.records.specs.declared.Parts.{Parts}
use Rattle.records.proofs.Laws.{length-keys}
use Rattle.trees.specs.Fragment.{Fragment}
use Rattle.walk.specs.TreeRecords.{record_at, fragment_at, TreeRecord, Told}
use Rattle.walk.specs.Heads.{Head, plain, numbered, counted, head_of, head_with, head_in}
use Rattle.walk.proofs.KindLaws.{fragment-kind, no_payload, number-payload, one-payload, two-payload, three-payload, thresh-payload, keys-payload}
use Rattle.walk.proofs.KindLaws.{is_false, is_true, is-pk-k, is-pk-h, is-after, is-older, is-sha256, is-hash256, is-ripemd160, is-hash160}
use Rattle.walk.proofs.KindLaws.{is-alt, is-swap, is-check, is-dup-if, is-verify, is-non-zero, is-zero-not-equal}
use Rattle.walk.proofs.KindLaws.{is-and-b, is-and-v, is-or-b, is-or-d, is-or-c, is-or-i, is-and-or, is-thresh, is-multi, is-multi-a}
use Rattle.walk.proofs.Laws.{or_later, row_told}

-- two heads with the same parts
abbrev head_by : (kind number k : ℕ) → (keys : List ℕ) → Head
head_by kind number k keys = record { kind = kind; number = number; k = k; keys = keys }

same_parts : {kind kind' number number' k k' : ℕ} {keys keys' : List ℕ} → kind ≡ kind' → number ≡ number' → k ≡ k' → keys ≡ keys'
    → head_by kind number k keys ≡ head_by kind' number' k' keys'
same_parts e a b c = rw (e, a, b, c)

module _ {tree : List ℕ} {i : ℕ} {bytes : List ℕ} {kind : ℕ} {parts : Parts} (told : Told tree i bytes kind parts) where
  abbrev payload : Payload
  payload = told.row.payload

  abbrev its-head : Head
  its-head = head_with kind (Some payload)

  number-told : parts.number ≡ number_of payload
  number-told = ap (λ (x : Parts). x.number) told.parts_are

  k-told : parts.k ≡ k_of payload
  k-told = ap (λ (x : Parts). x.k) told.parts_are

  -- ---- the head of a payload that is known

  plain-head : (n : ℕ) → kind ≡ n → number_of payload ≡ 0 → k_of payload ≡ 0 → keys_of payload ≡ [] → plain n ≡ its-head
  plain-head n e a b c = same_parts (sym e) (sym a) (sym b) (sym c)

  no-head : (n : ℕ) → kind ≡ n → kind ≤ 33 → plain n ≡ its-head
  no-head n e h =
      let p = no_payload told h in
      plain-head n e (ap number_of p) (ap k_of p) (ap keys_of p)

  one-head : (n : ℕ) → kind ≡ n → 42 ≤ kind → kind ≤ 48 → plain n ≡ its-head
  one-head n e l h =
      let p = one-payload told l h in
      plain-head n e (ap number_of p) (ap k_of p) (ap keys_of p)

  two-head : (n : ℕ) → kind ≡ n → 49 ≤ kind → kind ≤ 54 → plain n ≡ its-head
  two-head n e l h =
      let p = two-payload told l h in
      plain-head n e (ap number_of p) (ap k_of p) (ap keys_of p)

  three-head : kind ≡ 55 → plain 55 ≡ its-head
  three-head e =
      let p = three-payload told e in
      plain-head 55 e (ap number_of p) (ap k_of p) (ap keys_of p)

  number-head : (n : ℕ) → kind ≡ n → 34 ≤ kind → kind ≤ 41 → numbered n parts.number ≡ its-head
  number-head n e l h =
      let p = number-payload told l h in
      let a : k_of payload ≡ 0 = ap k_of p in
      let b : keys_of payload ≡ [] = ap keys_of p in
      same_parts (sym e) number-told (sym a) (sym b)

  thresh-head : kind ≡ 56 → counted 56 parts.k [] ≡ its-head
  thresh-head e =
      let p = thresh-payload told e in
      let a : number_of payload ≡ 0 = ap number_of p in
      let b : keys_of payload ≡ [] = ap keys_of p in
      same_parts (sym e) (sym a) k-told (sym b)

  keys-head : (n : ℕ) → kind ≡ n → 57 ≤ kind → counted n parts.k (first_keys bytes parts.count) ≡ its-head
  keys-head n e l =
      let p = keys-payload told l in
      let a : number_of payload ≡ 0 = ap number_of p in
      let m : parts.count ≡ count_in bytes = ap (λ (x : Parts). x.count) told.parts_are ∙ ap count_of p ∙ length-keys bytes (count_in bytes) in
      let b : first_keys bytes parts.count ≡ keys_of payload = ap (first_keys bytes) m ∙ sym (ap keys_of p) in
      same_parts (sym e) (sym a) k-told b

  same : {f : Fragment} {h : Head} → fragment_at tree i ≡ f → head_of f ≡ h → h ≡ its-head → head_of (fragment_at tree i) ≡ its-head
  same e a b = ap head_of e ∙ a ∙ b

  -- the kinds of document 01, one by one
  head-told : head_of (fragment_at tree i) ≡ its-head
  unfolding head_of
  head-told =
      or_later 32 (fragment-kind told).0 (λ e. same (is_false told e) refl (no-head 32 e (omega arith))) λ l.
      or_later 33 l (λ e. same (is_true told e) refl (no-head 33 e (omega arith))) λ l.
      or_later 34 l (λ e. same (is-pk-k told e) refl (number-head 34 e (omega arith) (omega arith))) λ l.
      or_later 35 l (λ e. same (is-pk-h told e) refl (number-head 35 e (omega arith) (omega arith))) λ l.
      or_later 36 l (λ e. same (is-after told e) refl (number-head 36 e (omega arith) (omega arith))) λ l.
      or_later 37 l (λ e. same (is-older told e) refl (number-head 37 e (omega arith) (omega arith))) λ l.
      or_later 38 l (λ e. same (is-sha256 told e) refl (number-head 38 e (omega arith) (omega arith))) λ l.
      or_later 39 l (λ e. same (is-hash256 told e) refl (number-head 39 e (omega arith) (omega arith))) λ l.
      or_later 40 l (λ e. same (is-ripemd160 told e) refl (number-head 40 e (omega arith) (omega arith))) λ l.
      or_later 41 l (λ e. same (is-hash160 told e) refl (number-head 41 e (omega arith) (omega arith))) λ l.
      or_later 42 l (λ e. same (is-alt told e) refl (one-head 42 e (omega arith) (omega arith))) λ l.
      or_later 43 l (λ e. same (is-swap told e) refl (one-head 43 e (omega arith) (omega arith))) λ l.
      or_later 44 l (λ e. same (is-check told e) refl (one-head 44 e (omega arith) (omega arith))) λ l.
      or_later 45 l (λ e. same (is-dup-if told e) refl (one-head 45 e (omega arith) (omega arith))) λ l.
      or_later 46 l (λ e. same (is-verify told e) refl (one-head 46 e (omega arith) (omega arith))) λ l.
      or_later 47 l (λ e. same (is-non-zero told e) refl (one-head 47 e (omega arith) (omega arith))) λ l.
      or_later 48 l (λ e. same (is-zero-not-equal told e) refl (one-head 48 e (omega arith) (omega arith))) λ l.
      or_later 49 l (λ e. same (is-and-b told e) refl (two-head 49 e (omega arith) (omega arith))) λ l.
      or_later 50 l (λ e. same (is-and-v told e) refl (two-head 50 e (omega arith) (omega arith))) λ l.
      or_later 51 l (λ e. same (is-or-b told e) refl (two-head 51 e (omega arith) (omega arith))) λ l.
      or_later 52 l (λ e. same (is-or-d told e) refl (two-head 52 e (omega arith) (omega arith))) λ l.
      or_later 53 l (λ e. same (is-or-c told e) refl (two-head 53 e (omega arith) (omega arith))) λ l.
      or_later 54 l (λ e. same (is-or-i told e) refl (two-head 54 e (omega arith) (omega arith))) λ l.
      or_later 55 l (λ e. same (is-and-or told e) refl (three-head e)) λ l.
      or_later 56 l (λ e. same (is-thresh told e) refl (thresh-head e)) λ l.
      or_later 57 l (λ e. same (is-multi told e) refl (keys-head 57 e (omega arith))) λ l.
      or_later 58 l (λ e. same (is-multi-a told e) refl (keys-head 58 e (omega arith))) λ l. absurd (omega (arith, (fragment-kind told).1))

pub head_at : {tree : List ℕ} {i : ℕ} → TreeRecord tree i → head_of (fragment_at tree i) ≡ head_in (record_at tree i)
head_at {tree} {i} row = head-told (row_told row) ∙ ap (head_with (kind_of (record_at tree i))) (sym row.fits)
