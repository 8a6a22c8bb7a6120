-- What the entry writes is read as the words of document 01's translation. Assumes nothing.
use Prim.Native.Nat.{ℕ, suc, ◌+◌, ◌-◌, ◌≤◌, ◌<◌}
use native.Mathlib.Omega.{arith}
use mathlib.Core.Bool.{Bool, true, false, ◌&&◌, cond}
use mathlib.Core.List.{List, [], ◌∷◌, ◌++◌, append_assoc, map}
use Rattle.std.specs.Prelude.{Some}
use mathlib.Core.Path.{◌≡◌, refl, sym, ◌∙◌, ap, subst}
use borrow.Author.Tests.{eqb-true, leb-true, ltb-true, le-leb, lt-leb, ne_eqb}
use lib.Dec.{leb, ltb, eqb}
use lib.IntN.{pos}
use lib.ListN.{length}
use Rattle.records.specs.Numbers.{max_lock}
use Rattle.contexts.specs.declared.Context.{Context}
use Rattle.contexts.specs.declared.Context.TheVariants.{Segwitv0, Tap}
use Rattle.contexts.specs.Leaves.{LockKind, After, Older, HashKind, Sha256, Hash256, Ripemd160, Hash160}
use Rattle.trees.specs.Fragment.{Fragment, Fragments, end, ◌▹◌, False, True, PkK, PkH, Lock, Hash}
use Rattle.trees.specs.Fragment.{Alt, Swap, Check, DupIf, Verify, NonZero, ZeroNotEqual}
use Rattle.trees.specs.Fragment.{AndB, AndV, OrB, OrD, OrC, OrI, AndOr, Thresh, Multi, MultiA}
use Rattle.writing.specs.WellFormed.{WellFormed, AllWellFormed}
use Rattle.script_machine.specs.Numbers.{Bytes, write}
use Rattle.script_machine.specs.Words.{Word, <n>, <key>, <keyhash>, <h>, DUP, IFDUP, SWAP, SIZE, TOALTSTACK, FROMALTSTACK, VERIFY, HASH}
use Rattle.script_machine.specs.Words.{CHECKLOCKTIMEVERIFY, CHECKSEQUENCEVERIFY, 0NOTEQUAL, BOOLAND, BOOLOR, ADD, IF, NOTIF, ELSE, ENDIF}
use Rattle.script_machine.specs.Words.{EQUAL, NUMEQUAL, CHECKSIG, CHECKMULTISIG, CHECKSIGADD}
use Rattle.script_machine.specs.Words.{EQUALVERIFY, NUMEQUALVERIFY, CHECKSIGVERIFY, CHECKMULTISIGVERIFY}
use Rattle.script_machine.specs.Translation.{⟦◌⟧, sum, adds, sig_adds, sig_sum, script}
use Rattle.script_machine.specs.Merged.{equal, num_equal, check_sig, check_multi_sig, Form, other, is_plain, is_combined, form, parts, split}
use Rattle.script_machine.specs.Merged.{verified, merge_verify, merged}
use Rattle.script_machine.proofs.Merged.{split-alike}
use Rattle.script_bytes.specs.Tables.{Tables, key_size, hash_size, hash_table, has_key, has_key_hash, has_hash}
use Rattle.script_bytes.specs.Opcodes.{Token, push, op, token, tokens}
use Rattle.script_bytes.specs.Encoding.{push_byte, push_bytes, token_bytes, encode, script_bytes}
use Rattle.script_bytes.specs.ScriptOf.{has_keys, has_entries, all_have_entries}
use Rattle.script_bytes.specs.Decoding.{between, inside, ends, goes_to, first, with_token, decode_from, decode}
use Rattle.script_bytes.specs.Decoding.{split_token, split_tokens, ReadAs, DecodesTo}
use Rattle.script_bytes.proofs.Known.{and_both, known}
use Rattle.script_bytes.proofs.Pushes.{entry_length, range, write-length}

-- ---- a token is read back

-- inside a push, the bytes to come are its end
inside-read : (y : ℕ) (ys x rest : Bytes)
    → decode_from (inside (length ys) x) (y ∷ ys ++ rest) ≡ with_token (Some (push (x ++ y ∷ ys))) (decode_from between rest)
unfolding decode_from
inside-read y [] x rest = refl
inside-read y (z ∷ zs) x rest =
    inside-read z zs (x ++ y ∷ []) rest
    ∙ ap (λ (w : Bytes). with_token (Some (push w)) (decode_from between rest)) (append_assoc x (y ∷ []) (z ∷ zs))

-- the first byte of a push of some length, OP_1 to OP_16, and another opcode
first-push : (n : ℕ) → 1 ≤ n → n ≤ 75 → first n ≡ goes_to (inside (n - 1) [])
first-push n l h = rw (ne_eqb n 0 (λ e. omega arith), le-leb n 75 h)

first_small : (b : ℕ) → 1 ≤ b → b ≤ 16 → first (0x50 + b) ≡ ends (push (b ∷ []))
first_small b l h =
    let back : 0x50 + b - 0x50 ≡ b = omega arith in
    rw (
      ne_eqb (0x50 + b) 0 (λ e. omega arith),
      lt-leb (0x50 + b) 75 (omega arith),
      lt-leb (0x50 + b) 0x4e (omega arith),
      ne_eqb (0x50 + b) 0x4f (λ e. omega arith),
      le-leb 0x51 (0x50 + b) (omega arith),
      le-leb (0x50 + b) 0x60 (omega arith),
      back,
    )

first-op : (n : ℕ) → 0x60 < n → first n ≡ ends (op n)
first-op n l =
    rw (
      ne_eqb n 0 (λ e. omega arith),
      lt-leb n 75 (omega arith),
      lt-leb n 0x4e (omega arith),
      ne_eqb n 0x4f (λ e. omega arith),
      le-leb 0x51 n (omega arith),
      lt-leb n 0x60 l,
    )

-- a token that is written as one opcode or one direct push
abbrev direct : Token → Bool
direct (push x) = leb (length x) 75
direct (op n) = ltb 0x60 n

-- what stands in front of the rest is one token
record Reads (k : Token) (bs : Bytes) : Type 0 where
  reads : (rest : Bytes) → decode_from between (bs ++ rest) ≡ with_token (Some k) (decode_from between rest)

byte_reads : (b : ℕ) (k : Token) → first b ≡ ends k → Reads k (b ∷ [])
unfolding decode_from
byte_reads b k e = record { reads = λ rest. rw e }

push-reads : (b : ℕ) (bs : Bytes) → length bs < 75 → Reads (push (b ∷ bs)) (length (b ∷ bs) ∷ b ∷ bs)
unfolding decode_from
push-reads b bs l = record { reads = λ rest. rw (first-push (suc (length bs)) (omega arith) l, less) (inside-read b bs [] rest) }
  where
    less : suc (length bs) - 1 ≡ length bs
    less = omega arith

one-byte-reads : (b : ℕ) → Reads (push (b ∷ [])) (push_byte b)
one-byte-reads b = go (leb 1 b) (leb b 16) refl refl
  where
    other : (s : Bool) → eqb b 0x81 ≡ s → Reads (push (b ∷ [])) (cond s (0x4f ∷ []) (1 ∷ b ∷ []))
    other true e = rw (eqb-true b 0x81 e) (byte_reads 0x4f (push (0x81 ∷ [])) refl)
    other false e = push-reads b [] (omega arith)

    go : (r s : Bool) → leb 1 b ≡ r → leb b 16 ≡ s → Reads (push (b ∷ [])) (push_byte b)
    go true true e d =
        rw (e, d) (byte_reads (0x50 + b) (push (b ∷ [])) (first_small b (leb-true 1 b e) (leb-true b 16 d)))
    go true false e d = rw (e, d) (other (eqb b 0x81) refl)
    go false s e d = rw e (other (eqb b 0x81) refl)

token-reads : (k : Token) → direct k ≡ true → Reads k (token_bytes k)
unfolding push_bytes
token-reads (push []) e = byte_reads 0 (push []) refl
token-reads (push (b ∷ [])) e = one-byte-reads b
token-reads (push (b ∷ c ∷ bs)) e = push-reads b (c ∷ bs) (leb-true (length (b ∷ c ∷ bs)) 75 e)
token-reads (op n) e = byte_reads n (op n) (first-op n (ltb-true 0x60 n e))

-- ---- words are read back

short-key : (c : Context) → leb (key_size c) 75 ≡ true
short-key Segwitv0 = refl
short-key Tap = refl

short-hash : (kind : HashKind) → leb (hash_size kind) 75 ≡ true
short-hash Sha256 = refl
short-hash Hash256 = refl
short-hash Ripemd160 = refl
short-hash Hash160 = refl

module _ (c : Context) (t : Tables) where
  unfoldable all_direct : List Word → Bool
  all_direct [] = true
  all_direct (w ∷ ws) = direct (token c t w) && all_direct ws

  decode-words : (ws : List Word) → all_direct ws ≡ true → decode (encode c t ws) ≡ Some (tokens c t ws)
  unfolding encode decode_from all_direct
  decode-words [] e = refl
  decode-words (w ∷ ws) e =
      let both = and_both (direct (token c t w)) (all_direct ws) e in
      (token-reads (token c t w) both.0).reads (encode c t ws) ∙ ap (with_token (Some (token c t w))) (decode-words ws both.1)

  -- ---- the words of a tree are read back

  record Direct (ws : List Word) : Type 0 where
    all : all_direct ws ≡ true

  the : (ws : List Word) → all_direct ws ≡ true → Direct ws
  the ws e = record { all = e }

  direct-append : (us ws : List Word) → all_direct us ≡ true → all_direct ws ≡ true → all_direct (us ++ ws) ≡ true
  unfolding all_direct
  direct-append [] ws d e = e
  direct-append (u ∷ us) ws d e =
      let both = and_both (direct (token c t u)) (all_direct us) d in
      rw both.0 (direct-append us ws both.1 e)

  infixl 30 ◌⧺◌
  ◌⧺◌ : {us ws : List Word} → Direct us → Direct ws → Direct (us ++ ws)
  ◌⧺◌ {us} {ws} p q = record { all = direct-append us ws p.all q.all }

  direct-verified : (w : Word) (f : Form w) → all_direct (w ∷ []) ≡ true → all_direct (verified w f) ≡ true
  unfolding all_direct
  direct-verified w other e = e
  direct-verified w (is_plain equal d) e = refl
  direct-verified w (is_plain num_equal d) e = refl
  direct-verified w (is_plain check_sig d) e = refl
  direct-verified w (is_plain check_multi_sig d) e = refl
  direct-verified w (is_combined s d) e = e

  direct-merged : (ws : List Word) → all_direct ws ≡ true → all_direct (merge_verify ws) ≡ true
  unfolding all_direct merge_verify
  direct-merged [] e = refl
  direct-merged (w ∷ []) e = direct-verified w (form w) e
  direct-merged (w ∷ x ∷ ws) e =
      let both = and_both (direct (token c t w)) (all_direct (x ∷ ws)) e in
      rw both.0 (direct-merged (x ∷ ws) both.1)

  verify-direct : (ws : List Word) → Direct ws → Direct (merge_verify ws)
  verify-direct ws p = record { all = direct-merged ws p.all }

  -- a word, a number, a key, the hash of a key, a hash and its opcode
  word : (w : Word) → direct (token c t w) ≡ true → Direct (w ∷ [])
  unfolding all_direct
  word w e = record { all = rw e }

  number : (n : ℕ) → n ≤ max_lock → Direct (<n> n ∷ [])
  number n l = word (<n> n) (le-leb (length (write (pos n))) 75 (omega (arith, write-length n (range n (omega arith)))))

  a_key : (i : ℕ) → has_key c t i ≡ true → Direct (<key> i ∷ [])
  a_key i e = word (<key> i) (rw (entry_length (key_size c) t.keys i e) (short-key c))

  a-keyhash : (i : ℕ) → has_key_hash t i ≡ true → Direct (<keyhash> i ∷ [])
  a-keyhash i e = word (<keyhash> i) (rw (entry_length 20 t.key_hashes i e))

  a-hash : (kind : HashKind) (i : ℕ) → has_hash t kind i ≡ true → Direct (<h> kind i ∷ [])
  a-hash kind i e = word (<h> kind i) (rw (entry_length (hash_size kind) (hash_table kind t) i e) (short-hash kind))

  hashing : (kind : HashKind) → direct (token c t (HASH kind)) ≡ true
  hashing Sha256 = refl
  hashing Hash256 = refl
  hashing Ripemd160 = refl
  hashing Hash160 = refl

  keys-direct : (keys : List ℕ) → has_keys c t keys ≡ true → Direct (map <key> keys)
  unfolding all_direct has_keys
  keys-direct [] h = the [] refl
  keys-direct (i ∷ is) h = let both = and_both (has_key c t i) (has_keys c t is) h in a_key i both.0 ⧺ keys-direct is both.1

  sig_adds-direct : (keys : List ℕ) → has_keys c t keys ≡ true → Direct (sig_adds keys)
  unfolding all_direct has_keys
  sig_adds-direct [] h = the [] refl
  sig_adds-direct (i ∷ is) h =
      let both = and_both (has_key c t i) (has_keys c t is) h in
      a_key i both.0 ⧺ the (CHECKSIGADD ∷ []) refl ⧺ sig_adds-direct is both.1

  sig_sum-direct : (keys : List ℕ) → has_keys c t keys ≡ true → Direct (sig_sum keys)
  unfolding all_direct has_keys
  sig_sum-direct [] h = the [] refl
  sig_sum-direct (i ∷ is) h =
      let both = and_both (has_key c t i) (has_keys c t is) h in
      a_key i both.0 ⧺ the (CHECKSIG ∷ []) refl ⧺ sig_adds-direct is both.1

  lock-direct : (kind : LockKind) (n : ℕ) → n ≤ max_lock → Direct (merged (Lock kind n))
  unfolding ⟦◌⟧ all_direct
  lock-direct After n l = number n l ⧺ the (CHECKLOCKTIMEVERIFY ∷ []) refl
  lock-direct Older n l = number n l ⧺ the (CHECKSEQUENCEVERIFY ∷ []) refl

  mutual
    unfolding ⟦◌⟧ sum adds WellFormed AllWellFormed has_entries all_have_entries all_direct

    tree-direct : (f : Fragment) → WellFormed f → has_entries c t f ≡ true → Direct (merged f)
    tree-direct False w h = number 0 (omega arith)
    tree-direct True w h = number 1 (omega arith)
    tree-direct (PkK i) w h = a_key i h
    tree-direct (PkH i) w h = the (DUP ∷ HASH Hash160 ∷ []) refl ⧺ a-keyhash i h ⧺ the (EQUALVERIFY ∷ []) refl
    tree-direct (Lock kind n) w h = lock-direct kind n w.1
    tree-direct (Hash kind i) w h =
        the (SIZE ∷ []) refl ⧺ number 32 (omega arith) ⧺ the (EQUALVERIFY ∷ []) refl
        ⧺ word (HASH kind) (hashing kind) ⧺ a-hash kind i h ⧺ the (EQUAL ∷ []) refl
    tree-direct (Alt x) w h = the (TOALTSTACK ∷ []) refl ⧺ tree-direct x w h ⧺ the (FROMALTSTACK ∷ []) refl
    tree-direct (Swap x) w h = the (SWAP ∷ []) refl ⧺ tree-direct x w h
    tree-direct (Check x) w h = tree-direct x w h ⧺ the (CHECKSIG ∷ []) refl
    tree-direct (DupIf x) w h = the (DUP ∷ IF ∷ []) refl ⧺ tree-direct x w h ⧺ the (ENDIF ∷ []) refl
    tree-direct (Verify x) w h = verify-direct (merged x) (tree-direct x w h)
    tree-direct (NonZero x) w h = the (SIZE ∷ 0NOTEQUAL ∷ IF ∷ []) refl ⧺ tree-direct x w h ⧺ the (ENDIF ∷ []) refl
    tree-direct (ZeroNotEqual x) w h = tree-direct x w h ⧺ the (0NOTEQUAL ∷ []) refl
    tree-direct (AndB x y) w h =
        let b = and_both (has_entries c t x) (has_entries c t y) h in
        tree-direct x w.0 b.0 ⧺ tree-direct y w.1 b.1 ⧺ the (BOOLAND ∷ []) refl
    tree-direct (AndV x y) w h =
        let b = and_both (has_entries c t x) (has_entries c t y) h in tree-direct x w.0 b.0 ⧺ tree-direct y w.1 b.1
    tree-direct (OrB x y) w h =
        let b = and_both (has_entries c t x) (has_entries c t y) h in
        tree-direct x w.0 b.0 ⧺ tree-direct y w.1 b.1 ⧺ the (BOOLOR ∷ []) refl
    tree-direct (OrD x y) w h =
        let b = and_both (has_entries c t x) (has_entries c t y) h in
        tree-direct x w.0 b.0 ⧺ (the (IFDUP ∷ NOTIF ∷ []) refl ⧺ tree-direct y w.1 b.1) ⧺ the (ENDIF ∷ []) refl
    tree-direct (OrC x y) w h =
        let b = and_both (has_entries c t x) (has_entries c t y) h in
        tree-direct x w.0 b.0 ⧺ (the (NOTIF ∷ []) refl ⧺ tree-direct y w.1 b.1) ⧺ the (ENDIF ∷ []) refl
    tree-direct (OrI x y) w h =
        let b = and_both (has_entries c t x) (has_entries c t y) h in
        the (IF ∷ []) refl ⧺ tree-direct x w.0 b.0 ⧺ (the (ELSE ∷ []) refl ⧺ tree-direct y w.1 b.1) ⧺ the (ENDIF ∷ []) refl
    tree-direct (AndOr x y z) w h =
        let b = and_both (has_entries c t x) (has_entries c t y && has_entries c t z) h in
        let d = and_both (has_entries c t y) (has_entries c t z) b.1 in
        tree-direct x w.0 b.0 ⧺ (the (NOTIF ∷ []) refl ⧺ tree-direct z w.2 d.1)
        ⧺ (the (ELSE ∷ []) refl ⧺ tree-direct y w.1 d.0) ⧺ the (ENDIF ∷ []) refl
    tree-direct (Thresh k xs) w h = sum-direct xs w.1 h ⧺ (number k (omega (arith, w.0)) ⧺ the (EQUAL ∷ []) refl)
    tree-direct (Multi k keys) w h =
        number k (omega (arith, w.0)) ⧺ keys-direct keys h ⧺ (number (length keys) (omega (arith, w.0)) ⧺ the (CHECKMULTISIG ∷ []) refl)
    tree-direct (MultiA k keys) w h = sig_sum-direct keys h ⧺ (number k (omega (arith, w.0)) ⧺ the (NUMEQUAL ∷ []) refl)

    sum-direct : (xs : Fragments) → AllWellFormed xs → all_have_entries c t xs ≡ true → Direct (sum merge_verify xs)
    sum-direct end w h = the [] refl
    sum-direct (x ▹ xs) w h =
        let b = and_both (has_entries c t x) (all_have_entries c t xs) h in tree-direct x w.0 b.0 ⧺ adds-direct xs w.1 b.1

    adds-direct : (xs : Fragments) → AllWellFormed xs → all_have_entries c t xs ≡ true → Direct (adds merge_verify xs)
    adds-direct end w h = the [] refl
    adds-direct (x ▹ xs) w h =
        let b = and_both (has_entries c t x) (all_have_entries c t xs) h in
        tree-direct x w.0 b.0 ⧺ (the (ADD ∷ []) refl ⧺ adds-direct xs w.1 b.1)

  tree-decodes : (f : Fragment) → WellFormed f → has_entries c t f ≡ true → decode (script_bytes c t f) ≡ Some (tokens c t (merged f))
  unfolding script_bytes
  tree-decodes f w h = decode-words (merged f) (tree-direct f w h).all

  -- ---- tokens split as words do

  split_parts : (w : Word) → split_token (token c t w) ≡ tokens c t (parts w (form w))
  unfolding form
  split_parts (<n> n) = refl
  split_parts (<key> n) = refl
  split_parts (<keyhash> n) = refl
  split_parts (<h> kind n) = refl
  split_parts DUP = refl
  split_parts IFDUP = refl
  split_parts SWAP = refl
  split_parts SIZE = refl
  split_parts TOALTSTACK = refl
  split_parts FROMALTSTACK = refl
  split_parts VERIFY = refl
  split_parts (HASH Sha256) = refl
  split_parts (HASH Hash256) = refl
  split_parts (HASH Ripemd160) = refl
  split_parts (HASH Hash160) = refl
  split_parts CHECKLOCKTIMEVERIFY = refl
  split_parts CHECKSEQUENCEVERIFY = refl
  split_parts 0NOTEQUAL = refl
  split_parts BOOLAND = refl
  split_parts BOOLOR = refl
  split_parts ADD = refl
  split_parts EQUAL = refl
  split_parts NUMEQUAL = refl
  split_parts CHECKSIG = refl
  split_parts CHECKMULTISIG = refl
  split_parts EQUALVERIFY = refl
  split_parts NUMEQUALVERIFY = refl
  split_parts CHECKSIGVERIFY = refl
  split_parts CHECKMULTISIGVERIFY = refl
  split_parts CHECKSIGADD = refl
  split_parts IF = refl
  split_parts NOTIF = refl
  split_parts ELSE = refl
  split_parts ENDIF = refl

  tokens_append : (us ws : List Word) → tokens c t (us ++ ws) ≡ tokens c t us ++ tokens c t ws
  tokens_append [] ws = refl
  tokens_append (u ∷ us) ws = ap (λ (ks : List Token). token c t u ∷ ks) (tokens_append us ws)

  split-words : (ws : List Word) → split_tokens (tokens c t ws) ≡ tokens c t (split ws)
  unfolding split_tokens split
  split-words [] = refl
  split-words (w ∷ ws) = rw (split_parts w, split-words ws, tokens_append (parts w (form w)) (split ws))

  tree-read : (f : Fragment) → WellFormed f → has_entries c t f ≡ true → ReadAs c t (script_bytes c t f) (script f)
  tree-read f w h = record {
    read = tokens c t (merged f);
    decodes = tree-decodes f w h;
    alike = split-words (merged f) ∙ ap (tokens c t) (split-alike f) ∙ sym (split-words (script f));
  }

-- ---- what the entry writes

pub decodes-to : DecodesTo
decodes-to c t x bytes w =
    let k = known c t x bytes w in
    subst (λ (z : Bytes). ReadAs c t z (script x.tree)) k.are (tree-read c t x.tree k.well k.entries)
