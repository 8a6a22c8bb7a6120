-- The fragments without children, put together from their words, and which of them a record is. Assumes nothing.
use Prim.Native.Nat.{ℕ}
use mathlib.Core.Bool.{true}
use mathlib.Core.List.{List}
use mathlib.Core.Logic.{◌≢◌}
use mathlib.Core.Path.{◌≡◌, sym, ap, ◌∙◌}
use Rattle.contexts.specs.declared.Context.{Context}
use Rattle.contexts.specs.Leaves.{LockKind, HashKind, Hash160}
use Rattle.records.specs.Payloads.{number_in, keys_in}
use Rattle.records.specs.RecordForm.{kind_of}
use Rattle.trees.specs.Fragment.{Fragment, False, True, PkK, PkH, Lock, Hash}
use Rattle.script_machine.specs.Numbers.{Bytes}
use Rattle.script_machine.specs.Words.{<n>, <key>, <keyhash>, <h>, DUP, SIZE, HASH, EQUAL, EQUALVERIFY}
use Rattle.script_bytes.specs.Tables.{Tables, key_size, key, key_hash, hash, has_key, has_key_hash, has_hash}
use Rattle.script_bytes.specs.ScriptOf.{has_keys, has_entries}
use Rattle.script_leaves.specs.Leaves.{numbered, leaf_of, multi_of, multi_a_of}
use Rattle.script_leaves.proofs.Leaves.{is-multi, is-multi-a, is-numbered}
use Rattle.spend_machine.specs.Recorded.{Run, recorded_step}
use Rattle.spend_machine.specs.Playing.{time_word, plays}
use Rattle.spend_log.specs.declared.Offsets.{Offsets}
use Rattle.spend_log.specs.Places.{tables_in}
use Rattle.spend_elements.specs.declared.Element.{Element}
use Rattle.spend_elements.specs.Elements.{bytes_in}
use Rattle.spend_stack.specs.declared.Machine.{Machine}
use Rattle.spend_stack.specs.Machines.{Pushes, Does}
use Rattle.spend_leaves.specs.Acting.{Acts, entry_at}
use Rattle.spend_leaves.proofs.Ranges.{key_in}
use Rattle.spend_leaves.proofs.Laws.{◌⨾◌, acts-as, word, pushing, key_pushed, key-hash-pushed, hash-pushed}

module _ (c : Context) (t : Tables) {log : List ℕ} where
  -- a fragment under another name
  pub named : {f g : Fragment} {a b : List ℕ} {m r : Machine} → f ≡ g → Acts (plays c t g) log a b m r → Acts (plays c t f) log a b m r
  named e x = acts-as (λ s. ap (λ (f : Fragment). plays c t f s) (sym e)) x

  pub false-runs : {a b : List ℕ} {m r : Machine} → Does (<n> 0) log a b m r → Acts (plays c t False) log a b m r
  unfolding plays
  false-runs x = word c t x

  pub true-runs : {a b : List ℕ} {m r : Machine} → Does (<n> 1) log a b m r → Acts (plays c t True) log a b m r
  unfolding plays
  true-runs x = word c t x

  pub pk-k-runs : (n : ℕ) {a b : List ℕ} {m r : Machine} → Acts (recorded_step c t (<key> n)) log a b m r → Acts (plays c t (PkK n)) log a b m r
  unfolding plays
  pk-k-runs n x = x

  pub pk-h-runs : (n : ℕ) {z : Element} {a b d e f : List ℕ} {m₀ m₁ m₂ m₃ m₄ : Machine} → bytes_in log z ≡ key_hash t n
      → Does DUP log a b m₀ m₁ → ((kind : HashKind) → Does (HASH kind) log b d m₁ m₂) → Pushes log d e m₂ z m₃ → Does EQUALVERIFY log e f m₃ m₄
      → Acts (plays c t (PkH n)) log a f m₀ m₄
  unfolding plays
  pk-h-runs n z x y p v =
      word c t x ⨾ word c t (y Hash160) ⨾ pushing c t (<keyhash> n) (key_hash t n) (key-hash-pushed c t n) z p ⨾ word c t v

  pub lock-runs : {n : ℕ} {a b d : List ℕ} {m₀ m₁ m₂ : Machine} → Does (<n> n) log a b m₀ m₁
      → ((kind : LockKind) → Does (time_word kind) log b d m₁ m₂) → (kind : LockKind) → Acts (plays c t (Lock kind n)) log a d m₀ m₂
  unfolding plays
  lock-runs x y kind = word c t x ⨾ word c t (y kind)

  pub hash-runs : (n : ℕ) {z : Element} {a b d e f g h : List ℕ} {m₀ m₁ m₂ m₃ m₄ m₅ m₆ : Machine} (kind : HashKind) → bytes_in log z ≡ hash t kind n
      → Does SIZE log a b m₀ m₁ → Does (<n> 32) log b d m₁ m₂ → Does EQUALVERIFY log d e m₂ m₃
      → ((kind : HashKind) → Does (HASH kind) log e f m₃ m₄) → Pushes log f g m₄ z m₅ → Does EQUAL log g h m₅ m₆
      → Acts (plays c t (Hash kind n)) log a h m₀ m₆
  unfolding plays
  hash-runs n kind z x y v w p u =
      word c t x ⨾ word c t y ⨾ word c t v ⨾ word c t (w kind) ⨾ pushing c t (<h> kind n) (hash t kind n) (hash-pushed c t n kind) z p ⨾ word c t u

-- a key
pub key-acts : (c : Context) (log : Bytes) (h : Offsets) (i : ℕ) {size : ℕ} {before after : List ℕ} {m r : Machine}
    → has_key c (tables_in log h) i ≡ true → size ≡ key_size c → Pushes log before after m (entry_at h.keys size i) r
    → Acts (recorded_step c (tables_in log h) (<key> i)) log before after m r
key-acts c log h i all e p =
    let t = tables_in log h in
    pushing c t (<key> i) (key c t i) (key_pushed c t i) (rw e (key_in c log h i all)) p

-- ---- its numbers in the tables

module _ (c : Context) (t : Tables) (n : ℕ) {f : Fragment} (h : has_entries c t f ≡ true) where
  same_entries : {g : Fragment} → f ≡ g → has_entries c t g ≡ true
  same_entries e = sym (ap (has_entries c t) e) ∙ h

  pub pk-k-ready : f ≡ PkK n → has_key c t n ≡ true
  unfolding has_entries
  pk-k-ready e = same_entries e

  pub pk-h-ready : f ≡ PkH n → has_key_hash t n ≡ true
  unfolding has_entries
  pk-h-ready e = same_entries e

  pub hash-ready : (kind : HashKind) → f ≡ Hash kind n → has_hash t kind n ≡ true
  unfolding has_entries
  hash-ready kind e = same_entries e

-- ---- a record

module _ (c : Context) (t : Tables) (bytes : Bytes) where
  pub multi-ready : has_entries c t (leaf_of bytes) ≡ true → kind_of bytes ≡ 57 → has_keys c t (keys_in bytes) ≡ true
  unfolding has_entries
  multi-ready h e = sym (ap (has_entries c t) (is-multi bytes e)) ∙ h

  pub multi-a-ready : has_entries c t (leaf_of bytes) ≡ true → kind_of bytes ≡ 58 → has_keys c t (keys_in bytes) ≡ true
  unfolding has_entries
  multi-a-ready h e = sym (ap (has_entries c t) (is-multi-a bytes e)) ∙ h

  module _ {kind n : ℕ} (first : kind ≡ kind_of bytes) (second : n ≡ number_in bytes) (no-multi : kind ≢ 57) (no-multi-a : kind ≢ 58) where
    pub other-kind : leaf_of bytes ≡ numbered kind n
    other-kind =
        is-numbered bytes (λ e. no-multi (first ∙ e)) (λ e. no-multi-a (first ∙ e))
        ∙ sym (ap (λ (k : ℕ). numbered k n) first ∙ ap (numbered (kind_of bytes)) second)

    pub numbered-ready : has_entries c t (leaf_of bytes) ≡ true → has_entries c t (numbered kind n) ≡ true
    numbered-ready h = sym (ap (has_entries c t) other-kind) ∙ h
