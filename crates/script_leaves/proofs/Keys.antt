-- The keys of a Multi and of a MultiA that are still to come, and tables where keys alone are looked up. Assumes nothing.
use Prim.Native.Nat.{ℕ, ◌+◌, ◌<◌, ◌≤◌}
use mathlib.Core.Bool.{Bool, true, false, ◌&&◌}
use mathlib.Core.List.{List, [], ◌∷◌, ◌++◌, append_assoc}
use mathlib.Core.Path.{◌≡◌, refl, sym, ◌∙◌, ap}
use native.Mathlib.Omega.{arith}
use Rattle.contexts.specs.declared.Context.{Context}
use Rattle.records.specs.Payloads.{key_at, first_keys, keys_from}
use Rattle.records.proofs.Laws.{keys-first, keys-next, keys-end}
use Rattle.script_machine.specs.Numbers.{Bytes}
use Rattle.script_bytes.specs.Tables.{Tables, tables, key, has_key}
use Rattle.script_bytes.specs.Encoding.{push_bytes}
use Rattle.script_bytes.specs.ScriptOf.{has_keys}
use Rattle.script_bytes.specs.Layout.{keys_bytes, sig_adds_bytes, sig_sum_bytes}
use Rattle.script_leaves.specs.Laying.{only_keys}

-- ---- whether they are in the table, and their bytes

and_both : (a b : Bool) → a && b ≡ true → (a ≡ true) × (b ≡ true)
and_both true b e = (refl, e)
and_both false b e = (e, absurd (let z : ◌≡◌ {A = ℕ} 0 1 = cc in omega arith))

module _ (c : Context) (t : Tables) (bytes : Bytes) (count j : ℕ) where
  pub all_there : has_keys c t (first_keys bytes count) ≡ true → has_keys c t (keys_from bytes count 0) ≡ true
  all_there e = ap (has_keys c t) (keys-first bytes count) ∙ e

  -- the next key is there, and so are the others
  there : j < count → has_keys c t (keys_from bytes count j) ≡ true
      → (has_key c t (key_at bytes j) ≡ true) × (has_keys c t (keys_from bytes count (j + 1)) ≡ true)
  unfolding has_keys
  there h e =
      and_both (has_key c t (key_at bytes j)) (has_keys c t (keys_from bytes count (j + 1)))
      (sym (ap (has_keys c t) (keys-next bytes count j h)) ∙ e)

  pub key-there : (i : ℕ) → i ≡ key_at bytes j → j < count → has_keys c t (keys_from bytes count j) ≡ true → has_key c t i ≡ true
  key-there i e h k = rw e (there h k).0

  pub others-there : j < count → has_keys c t (keys_from bytes count j) ≡ true → has_keys c t (keys_from bytes count (j + 1)) ≡ true
  others-there h k = (there h k).1

  pub key-first : keys_bytes c t (keys_from bytes count 0) ≡ keys_bytes c t (first_keys bytes count)
  key-first = ap (keys_bytes c t) (keys-first bytes count)

  pub key-next : (i : ℕ) → i ≡ key_at bytes j → j < count
      → keys_bytes c t (keys_from bytes count j) ≡ push_bytes (key c t i) ++ keys_bytes c t (keys_from bytes count (j + 1))
  unfolding keys_bytes
  key-next i e h = rw e (ap (keys_bytes c t) (keys-next bytes count j h))

  pub key-end : count ≤ j → keys_bytes c t (keys_from bytes count j) ≡ []
  unfolding keys_bytes
  key-end h = ap (keys_bytes c t) (keys-end bytes count j h)

-- the keys of a MultiA, of which the first has this opcode
module _ (c : Context) (t : Tables) where
  abbrev pub sigs_bytes : (opcode : ℕ) → List ℕ → Bytes
  sigs_bytes opcode [] = []
  sigs_bytes opcode (i ∷ is) = push_bytes (key c t i) ++ opcode ∷ sig_adds_bytes c t is

  sigs-sum : (is : List ℕ) → sigs_bytes 0xac is ≡ sig_sum_bytes c t is
  unfolding sig_sum_bytes
  sigs-sum [] = refl
  sigs-sum (i ∷ is) = refl

  pub sig-first : (bytes : Bytes) (count : ℕ) → sigs_bytes 0xac (keys_from bytes count 0) ≡ sig_sum_bytes c t (first_keys bytes count)
  sig-first bytes count = ap (sigs_bytes 0xac) (keys-first bytes count) ∙ sigs-sum (first_keys bytes count)

  sigs-add : (is : List ℕ) → sig_adds_bytes c t is ≡ sigs_bytes 0xba is
  unfolding sig_adds_bytes
  sigs-add [] = refl
  sigs-add (i ∷ is) = refl

  pub sig-next : (bytes : Bytes) (count j opcode : ℕ) (i : ℕ) → i ≡ key_at bytes j → j < count
      → sigs_bytes opcode (keys_from bytes count j)
      ≡ (push_bytes (key c t i) ++ opcode ∷ []) ++ sigs_bytes 0xba (keys_from bytes count (j + 1))
  sig-next bytes count j opcode i e h =
      let others : List ℕ = keys_from bytes count (j + 1) in
      ap (sigs_bytes opcode) (keys-next bytes count j h ∙ ap (λ (k : ℕ). k ∷ others) (sym e))
      ∙ ap (λ (z : Bytes). push_bytes (key c t i) ++ opcode ∷ z) (sigs-add others)
      ∙ sym (append_assoc (push_bytes (key c t i)) (opcode ∷ []) (sigs_bytes 0xba others))

  pub sig-end : (bytes : Bytes) (count j opcode : ℕ) → count ≤ j → sigs_bytes opcode (keys_from bytes count j) ≡ []
  sig-end bytes count j opcode h = ap (sigs_bytes opcode) (keys-end bytes count j h)

-- ---- keys alone

module _ (c : Context) (keys key_hashes hashes32 hashes20 : Bytes) where
  pub only-keys-there : (is : List ℕ) → has_keys c (tables keys key_hashes hashes32 hashes20) is ≡ has_keys c (only_keys keys) is
  unfolding has_keys
  only-keys-there [] = refl
  only-keys-there (i ∷ is) = rw (only-keys-there is)

  pub only-keys : (is : List ℕ) → keys_bytes c (only_keys keys) is ≡ keys_bytes c (tables keys key_hashes hashes32 hashes20) is
  unfolding keys_bytes
  only-keys [] = refl
  only-keys (i ∷ is) = rw (only-keys is)

  only-adds : (is : List ℕ) → sig_adds_bytes c (only_keys keys) is ≡ sig_adds_bytes c (tables keys key_hashes hashes32 hashes20) is
  unfolding sig_adds_bytes
  only-adds [] = refl
  only-adds (i ∷ is) = rw (only-adds is)

  pub only-sums : (is : List ℕ) → sig_sum_bytes c (only_keys keys) is ≡ sig_sum_bytes c (tables keys key_hashes hashes32 hashes20) is
  unfolding sig_sum_bytes
  only-sums [] = refl
  only-sums (i ∷ is) = rw (only-adds is)
