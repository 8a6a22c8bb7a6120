-- The bytes of each fragment by those of its children, with and without a VERIFY after it. Assumes nothing.
use Prim.Native.Nat.{ℕ, suc}
use mathlib.Core.Bool.{Bool, true, false}
use mathlib.Core.List.{List, [], ◌∷◌, ◌++◌, append_assoc, append-nil, map}
use mathlib.Core.Path.{◌≡◌, refl, sym, ◌∙◌, ap}
use lib.ListN.{length}
use Rattle.contexts.specs.declared.Context.{Context}
use Rattle.contexts.specs.Leaves.{LockKind, After, Older, HashKind, Sha256, Hash256, Ripemd160, Hash160}
use Rattle.trees.specs.Fragment.{Fragment, Fragments, end, ◌▹◌, False, True, PkK, PkH, Lock, Hash}
use Rattle.trees.specs.Fragment.{Alt, Swap, Check, DupIf, Verify, NonZero, ZeroNotEqual}
use Rattle.trees.specs.Fragment.{AndB, AndV, OrB, OrD, OrC, OrI, AndOr, Thresh, Multi, MultiA}
use Rattle.script_machine.specs.Numbers.{Bytes, write, signed, digits}
use Rattle.script_machine.specs.Words.{Word, <n>, <key>, DUP, IFDUP, SWAP, SIZE, TOALTSTACK, FROMALTSTACK, VERIFY, HASH}
use Rattle.script_machine.specs.Words.{0NOTEQUAL, BOOLAND, BOOLOR, ADD, IF, NOTIF, ELSE, ENDIF}
use Rattle.script_machine.specs.Words.{EQUAL, NUMEQUAL, CHECKSIG}
use Rattle.script_machine.specs.Translation.{⟦◌⟧, sum, adds, sig_adds, sig_sum}
use Rattle.script_machine.specs.Merged.{Test, equal, num_equal, check_sig, check_multi_sig, plain, combined, Form, other, is_plain, is_combined, form}
use Rattle.script_machine.specs.Merged.{verified, merge_verify, merged}
use Rattle.script_bytes.specs.Tables.{Tables, key, key_hash, hash}
use Rattle.script_bytes.specs.Opcodes.{op, token}
use Rattle.script_bytes.specs.Encoding.{push_bytes, encode, script_bytes}
use Rattle.script_bytes.specs.Layout.{laid, verify_byte, test_byte, lock_opcode, hash_opcode, number_bytes}
use Rattle.script_bytes.specs.Layout.{bytes_of, sum_bytes, adds_bytes, keys_bytes, sig_adds_bytes, sig_sum_bytes}

-- ---- VERIFY after a list of words that is not empty goes into its end

abbrev Some : List Word → Type 0
Some [] = ⊥
Some (w ∷ ws) = Unit {0}

some-append : (us ws : List Word) → Some ws → Some (us ++ ws)
some-append [] ws s = s
some-append (u ∷ us) ws s = tt

some-verified : (w : Word) (f : Form w) → Some (verified w f)
some-verified w other = tt
some-verified w (is_plain t e) = tt
some-verified w (is_combined t e) = tt

some-merge : (ws : List Word) → Some (merge_verify ws)
unfolding merge_verify
some-merge [] = tt
some-merge (w ∷ []) = some-verified w (form w)
some-merge (w ∷ x ∷ ws) = tt

merge-cons : (w : Word) (ws : List Word) → Some ws → merge_verify (w ∷ ws) ≡ w ∷ merge_verify ws
unfolding merge_verify
merge-cons w [] s = absurd s
merge-cons w (x ∷ ws) s = refl

merge-append : (us ws : List Word) → Some ws → merge_verify (us ++ ws) ≡ us ++ merge_verify ws
merge-append [] ws s = refl
merge-append (u ∷ us) ws s = merge-cons u (us ++ ws) (some-append us ws s) ∙ ap (λ (z : List Word). u ∷ z) (merge-append us ws s)

-- a second VERIFY is not merged
merge-combined : (t : Test) → merge_verify (combined t ∷ []) ≡ combined t ∷ VERIFY ∷ []
unfolding merge_verify form
merge-combined equal = refl
merge-combined num_equal = refl
merge-combined check_sig = refl
merge-combined check_multi_sig = refl

merge-verified : (w : Word) (f : Form w) → merge_verify (verified w f) ≡ verified w f ++ VERIFY ∷ []
unfolding merge_verify form
merge-verified w other = refl
merge-verified w (is_plain t e) = merge-combined t
merge-verified w (is_combined t e) = refl

merge-twice : (ws : List Word) → merge_verify (merge_verify ws) ≡ merge_verify ws ++ VERIFY ∷ []
unfolding merge_verify form
merge-twice [] = refl
merge-twice (w ∷ []) = merge-verified w (form w)
merge-twice (w ∷ x ∷ ws) =
    merge-cons w (merge_verify (x ∷ ws)) (some-merge (x ∷ ws)) ∙ ap (λ (z : List Word). w ∷ z) (merge-twice (x ∷ ws))

-- no fragment has an empty script
some-merged : (f : Fragment) → Some (merged f)
unfolding ⟦◌⟧
some-merged False = tt
some-merged True = tt
some-merged (PkK n) = tt
some-merged (PkH n) = tt
some-merged (Lock After n) = tt
some-merged (Lock Older n) = tt
some-merged (Hash kind h) = tt
some-merged (Alt x) = tt
some-merged (Swap x) = tt
some-merged (Check x) = some-append (merged x) (CHECKSIG ∷ []) tt
some-merged (DupIf x) = tt
some-merged (Verify x) = some-merge (merged x)
some-merged (NonZero x) = tt
some-merged (ZeroNotEqual x) = some-append (merged x) (0NOTEQUAL ∷ []) tt
some-merged (AndB x y) = some-append (merged x ++ merged y) (BOOLAND ∷ []) tt
some-merged (AndV x y) = some-append (merged x) (merged y) (some-merged y)
some-merged (OrB x y) = some-append (merged x ++ merged y) (BOOLOR ∷ []) tt
some-merged (OrD x y) = some-append (merged x ++ IFDUP ∷ NOTIF ∷ merged y) (ENDIF ∷ []) tt
some-merged (OrC x y) = some-append (merged x ++ NOTIF ∷ merged y) (ENDIF ∷ []) tt
some-merged (OrI x y) = tt
some-merged (AndOr x y z) = some-append (merged x ++ NOTIF ∷ merged z ++ ELSE ∷ merged y) (ENDIF ∷ []) tt
some-merged (Thresh k xs) = some-append (sum merge_verify xs) (<n> k ∷ EQUAL ∷ []) tt
some-merged (Multi k keys) = tt
some-merged (MultiA k keys) = some-append (sig_sum keys) (<n> k ∷ NUMEQUAL ∷ []) tt

-- ---- the bytes of some words, before a VERIFY or not

record Writes (c : Context) (t : Tables) (v : Bool) (ws : List Word) (bs : Bytes) : Type 0 where
  is : encode c t (laid v ws) ≡ bs

module _ (c : Context) (t : Tables) where
  pub encode-append : (us ws : List Word) → encode c t (us ++ ws) ≡ encode c t us ++ encode c t ws
  unfolding encode
  encode-append [] ws = refl
  encode-append (u ∷ us) ws = rw (encode-append us ws, append_assoc)

  laid-append : (v : Bool) (us ws : List Word) → Some ws → encode c t (laid v (us ++ ws)) ≡ encode c t us ++ encode c t (laid v ws)
  laid-append false us ws s = encode-append us ws
  laid-append true us ws s = ap (encode c t) (merge-append us ws s) ∙ encode-append us (merge_verify ws)

  -- one after the other, where the second is not empty; and where no VERIFY follows
  then : {v : Bool} {us ws : List Word} {xs ys : Bytes} → Some ws → Writes c t false us xs → Writes c t v ws ys
      → Writes c t v (us ++ ws) (xs ++ ys)
  then {v} {us} {ws} s p q = record { is = rw (laid-append v us ws s, p.is, q.is) }

  infixl 30 ◌⧺◌
  ◌⧺◌ : {us ws : List Word} {xs ys : Bytes} → Writes c t false us xs → Writes c t false ws ys → Writes c t false (us ++ ws) (xs ++ ys)
  ◌⧺◌ {us} {ws} p q = record { is = rw (encode-append us ws, p.is, q.is) }

  the : (ws : List Word) → Writes c t false ws (encode c t ws)
  the ws = record { is = refl }

  child : (v : Bool) (x : Fragment) → Writes c t v (merged x) (bytes_of c t v x)
  unfolding bytes_of
  child v x = record { is = refl }

  -- a last word that has no VERIFY form, one that has, and a push
  last : (v : Bool) (w : Word) (n : ℕ) → form w ≡ other → token c t w ≡ op n → Writes c t v (w ∷ []) (n ∷ verify_byte v)
  unfolding encode merge_verify
  last false w n f e = record { is = rw e }
  last true w n f e = record { is = rw (f, e) }

  test : (v : Bool) (s : Test) (n : ℕ) → form (plain s) ≡ is_plain s refl → token c t (plain s) ≡ op n → token c t (combined s) ≡ op (suc n)
      → Writes c t v (plain s ∷ []) (test_byte n v)
  unfolding encode merge_verify
  test false s n f e d = record { is = rw e }
  test true s n f e d = record { is = rw (f, d) }

  -- words that end in one of either kind
  closes : {us : List Word} {xs : Bytes} (v : Bool) (w : Word) (n : ℕ) → form w ≡ other → token c t w ≡ op n → Writes c t false us xs
      → Writes c t v (us ++ w ∷ []) (xs ++ n ∷ verify_byte v)
  closes v w n f e p = then tt p (last v w n f e)

  -- ---- the leaves

  pub bytes-false : (v : Bool) → bytes_of c t v False ≡ 0x00 ∷ verify_byte v
  unfolding ⟦◌⟧ bytes_of encode merge_verify form push_bytes write signed digits
  bytes-false false = refl
  bytes-false true = refl

  pub bytes-true : (v : Bool) → bytes_of c t v True ≡ 0x51 ∷ verify_byte v
  unfolding ⟦◌⟧ bytes_of encode merge_verify form push_bytes write signed digits
  bytes-true false = refl
  bytes-true true = refl

  pub bytes-pk_k : (v : Bool) (i : ℕ) → bytes_of c t v (PkK i) ≡ push_bytes (key c t i) ++ verify_byte v
  unfolding ⟦◌⟧ bytes_of encode merge_verify form
  bytes-pk_k false i = refl
  bytes-pk_k true i = refl

  pub bytes-pk_h : (v : Bool) (i : ℕ) → bytes_of c t v (PkH i) ≡ 0x76 ∷ 0xa9 ∷ push_bytes (key_hash t i) ++ 0x88 ∷ verify_byte v
  unfolding ⟦◌⟧ bytes_of encode merge_verify form
  bytes-pk_h false i = refl
  bytes-pk_h true i = refl

  pub bytes-lock : (v : Bool) (kind : LockKind) (n : ℕ) → bytes_of c t v (Lock kind n) ≡ number_bytes n ++ lock_opcode kind ∷ verify_byte v
  unfolding ⟦◌⟧ bytes_of encode merge_verify form
  bytes-lock false After n = refl
  bytes-lock false Older n = refl
  bytes-lock true After n = refl
  bytes-lock true Older n = refl

  hash-opcode : (kind : HashKind) → token c t (HASH kind) ≡ op (hash_opcode kind)
  hash-opcode Ripemd160 = refl
  hash-opcode Sha256 = refl
  hash-opcode Hash160 = refl
  hash-opcode Hash256 = refl

  pub bytes-hash : (v : Bool) (kind : HashKind) (i : ℕ)
      → bytes_of c t v (Hash kind i) ≡ 0x82 ∷ 0x01 ∷ 0x20 ∷ 0x88 ∷ hash_opcode kind ∷ push_bytes (hash t kind i) ++ test_byte 0x87 v
  unfolding ⟦◌⟧ bytes_of encode merge_verify form push_bytes write signed digits
  bytes-hash false kind i = rw (hash-opcode kind)
  bytes-hash true kind i = rw (hash-opcode kind)

  -- ---- the wrappers

  pub bytes-alt : (v : Bool) (x : Fragment) → bytes_of c t v (Alt x) ≡ 0x6b ∷ bytes_of c t false x ++ 0x6c ∷ verify_byte v
  unfolding ⟦◌⟧ bytes_of form encode
  bytes-alt v x = (closes v FROMALTSTACK 0x6c refl refl (the (TOALTSTACK ∷ []) ⧺ child false x)).is

  pub bytes-swap : (v : Bool) (x : Fragment) → bytes_of c t v (Swap x) ≡ 0x7c ∷ bytes_of c t v x
  unfolding ⟦◌⟧ bytes_of encode
  bytes-swap v x = (then (some-merged x) (the (SWAP ∷ [])) (child v x)).is

  pub bytes-check : (v : Bool) (x : Fragment) → bytes_of c t v (Check x) ≡ bytes_of c t false x ++ test_byte 0xac v
  unfolding ⟦◌⟧ bytes_of form
  bytes-check v x = (then tt (child false x) (test v check_sig 0xac refl refl refl)).is

  pub bytes-dup_if : (v : Bool) (x : Fragment) → bytes_of c t v (DupIf x) ≡ 0x76 ∷ 0x63 ∷ bytes_of c t false x ++ 0x68 ∷ verify_byte v
  unfolding ⟦◌⟧ bytes_of form encode
  bytes-dup_if v x = (closes v ENDIF 0x68 refl refl (the (DUP ∷ IF ∷ []) ⧺ child false x)).is

  pub bytes-verify : (v : Bool) (x : Fragment) → bytes_of c t v (Verify x) ≡ bytes_of c t true x ++ verify_byte v
  unfolding ⟦◌⟧ bytes_of encode
  bytes-verify false x = sym (append-nil (encode c t (merge_verify (merged x))))
  bytes-verify true x = ap (encode c t) (merge-twice (merged x)) ∙ encode-append (merge_verify (merged x)) (VERIFY ∷ [])

  pub bytes-non_zero : (v : Bool) (x : Fragment)
      → bytes_of c t v (NonZero x) ≡ 0x82 ∷ 0x92 ∷ 0x63 ∷ bytes_of c t false x ++ 0x68 ∷ verify_byte v
  unfolding ⟦◌⟧ bytes_of form encode
  bytes-non_zero v x = (closes v ENDIF 0x68 refl refl (the (SIZE ∷ 0NOTEQUAL ∷ IF ∷ []) ⧺ child false x)).is

  pub bytes-zero_not_equal : (v : Bool) (x : Fragment) → bytes_of c t v (ZeroNotEqual x) ≡ bytes_of c t false x ++ 0x92 ∷ verify_byte v
  unfolding ⟦◌⟧ bytes_of form
  bytes-zero_not_equal v x = (closes v 0NOTEQUAL 0x92 refl refl (child false x)).is

  -- ---- two and three children

  pub bytes-and_b : (v : Bool) (x y : Fragment)
      → bytes_of c t v (AndB x y) ≡ bytes_of c t false x ++ bytes_of c t false y ++ 0x9a ∷ verify_byte v
  unfolding ⟦◌⟧ bytes_of form
  bytes-and_b v x y = (closes v BOOLAND 0x9a refl refl (child false x ⧺ child false y)).is

  pub bytes-and_v : (v : Bool) (x y : Fragment) → bytes_of c t v (AndV x y) ≡ bytes_of c t false x ++ bytes_of c t v y
  unfolding ⟦◌⟧ bytes_of
  bytes-and_v v x y = (then (some-merged y) (child false x) (child v y)).is

  pub bytes-or_b : (v : Bool) (x y : Fragment)
      → bytes_of c t v (OrB x y) ≡ bytes_of c t false x ++ bytes_of c t false y ++ 0x9b ∷ verify_byte v
  unfolding ⟦◌⟧ bytes_of form
  bytes-or_b v x y = (closes v BOOLOR 0x9b refl refl (child false x ⧺ child false y)).is

  pub bytes-or_d : (v : Bool) (x y : Fragment)
      → bytes_of c t v (OrD x y) ≡ bytes_of c t false x ++ 0x73 ∷ 0x64 ∷ bytes_of c t false y ++ 0x68 ∷ verify_byte v
  unfolding ⟦◌⟧ bytes_of form encode
  bytes-or_d v x y = (closes v ENDIF 0x68 refl refl (child false x ⧺ (the (IFDUP ∷ NOTIF ∷ []) ⧺ child false y))).is

  pub bytes-or_c : (v : Bool) (x y : Fragment)
      → bytes_of c t v (OrC x y) ≡ bytes_of c t false x ++ 0x64 ∷ bytes_of c t false y ++ 0x68 ∷ verify_byte v
  unfolding ⟦◌⟧ bytes_of form encode
  bytes-or_c v x y = (closes v ENDIF 0x68 refl refl (child false x ⧺ (the (NOTIF ∷ []) ⧺ child false y))).is

  pub bytes-or_i : (v : Bool) (x y : Fragment)
      → bytes_of c t v (OrI x y) ≡ 0x63 ∷ bytes_of c t false x ++ 0x67 ∷ bytes_of c t false y ++ 0x68 ∷ verify_byte v
  unfolding ⟦◌⟧ bytes_of form encode
  bytes-or_i v x y = (closes v ENDIF 0x68 refl refl (the (IF ∷ []) ⧺ child false x ⧺ (the (ELSE ∷ []) ⧺ child false y))).is

  pub bytes-and_or : (v : Bool) (x y z : Fragment)
      → bytes_of c t v (AndOr x y z)
      ≡ bytes_of c t false x ++ 0x64 ∷ bytes_of c t false z ++ 0x67 ∷ bytes_of c t false y ++ 0x68 ∷ verify_byte v
  unfolding ⟦◌⟧ bytes_of form encode
  bytes-and_or v x y z =
      (closes v ENDIF 0x68 refl refl (child false x ⧺ (the (NOTIF ∷ []) ⧺ child false z) ⧺ (the (ELSE ∷ []) ⧺ child false y))).is

  -- ---- Thresh: its children, then k and EQUAL

  pub sum-end : sum_bytes c t end ≡ []
  unfolding sum sum_bytes encode
  sum-end = refl

  pub sum_more : (x : Fragment) (xs : Fragments) → sum_bytes c t (x ▹ xs) ≡ bytes_of c t false x ++ adds_bytes c t xs
  unfolding sum sum_bytes adds_bytes bytes_of
  sum_more x xs = encode-append (merged x) (adds merge_verify xs)

  pub adds-end : adds_bytes c t end ≡ []
  unfolding adds adds_bytes encode
  adds-end = refl

  pub adds-more : (x : Fragment) (xs : Fragments) → adds_bytes c t (x ▹ xs) ≡ bytes_of c t false x ++ 0x93 ∷ adds_bytes c t xs
  unfolding adds adds_bytes bytes_of encode
  adds-more x xs = encode-append (merged x) (ADD ∷ adds merge_verify xs)

  -- a number, and one before a test of it
  number : (k : ℕ) → Writes c t false (<n> k ∷ []) (number_bytes k)
  unfolding encode
  number k = record { is = append-nil (number_bytes k) }

  counted : (v : Bool) (k : ℕ) (s : Test) (n : ℕ) → form (plain s) ≡ is_plain s refl → token c t (plain s) ≡ op n
      → token c t (combined s) ≡ op (suc n) → Writes c t v (<n> k ∷ plain s ∷ []) (number_bytes k ++ test_byte n v)
  unfolding encode merge_verify
  counted false k s n f e d = record { is = rw e }
  counted true k s n f e d = record { is = rw (f, d) }

  pub bytes-thresh : (v : Bool) (k : ℕ) (xs : Fragments)
      → bytes_of c t v (Thresh k xs) ≡ sum_bytes c t xs ++ (number_bytes k ++ test_byte 0x87 v)
  unfolding ⟦◌⟧ bytes_of sum_bytes form
  bytes-thresh v k xs = (then tt (the (sum merge_verify xs)) (counted v k equal 0x87 refl refl refl)).is

  -- ---- the keys of a Multi and of a MultiA

  keys-are : (keys : List ℕ) → encode c t (map <key> keys) ≡ keys_bytes c t keys
  unfolding encode keys_bytes
  keys-are [] = refl
  keys-are (i ∷ is) = rw (keys-are is)

  keys-written : (keys : List ℕ) → Writes c t false (map <key> keys) (keys_bytes c t keys)
  keys-written keys = record { is = keys-are keys }

  sig_adds-are : (keys : List ℕ) → encode c t (sig_adds keys) ≡ sig_adds_bytes c t keys
  unfolding encode sig_adds_bytes
  sig_adds-are [] = refl
  sig_adds-are (i ∷ is) = rw (sig_adds-are is)

  sig_sum-are : (keys : List ℕ) → encode c t (sig_sum keys) ≡ sig_sum_bytes c t keys
  unfolding encode sig_sum_bytes
  sig_sum-are [] = refl
  sig_sum-are (i ∷ is) = rw (sig_adds-are is)

  pub bytes-multi : (v : Bool) (k : ℕ) (keys : List ℕ)
      → bytes_of c t v (Multi k keys) ≡ number_bytes k ++ keys_bytes c t keys ++ (number_bytes (length keys) ++ test_byte 0xae v)
  unfolding ⟦◌⟧ bytes_of form encode
  bytes-multi v k keys =
      (then tt (number k ⧺ keys-written keys) (counted v (length keys) check_multi_sig 0xae refl refl refl)).is

  pub bytes-multi_a : (v : Bool) (k : ℕ) (keys : List ℕ)
      → bytes_of c t v (MultiA k keys) ≡ sig_sum_bytes c t keys ++ (number_bytes k ++ test_byte 0x9c v)
  unfolding ⟦◌⟧ bytes_of form
  bytes-multi_a v k keys = (then tt (record { is = sig_sum-are keys }) (counted v k num_equal 0x9c refl refl refl)).is

-- the script of a tree has the bytes that no VERIFY follows
pub script-bytes : (c : Context) (t : Tables) (f : Fragment) → script_bytes c t f ≡ bytes_of c t false f
unfolding script_bytes bytes_of
script-bytes c t f = refl
