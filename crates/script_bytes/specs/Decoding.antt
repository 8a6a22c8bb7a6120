-- What a Bitcoin node reads in a script, and that it reads the words of document 01's translation in ours: document 02, R-1.
use Rattle.std.specs.Prelude.{ℕ, zero, suc, ◌-◌, ◌≤◌, ◌&&◌, cond, List, [], ◌∷◌, ◌++◌, ◌≡◌, leb, eqb, length, Option, None, Some}
use Rattle.contexts.specs.declared.Context.{Context}
use Rattle.trees.specs.TreeCheck.{Typed}
use Rattle.script_machine.specs.Numbers.{Bytes}
use Rattle.script_machine.specs.Words.{Word}
use Rattle.script_machine.specs.Translation.{script}
use Rattle.script_bytes.specs.Tables.{Tables}
use Rattle.script_bytes.specs.Opcodes.{Token, push, op, token, tokens}
use Rattle.script_bytes.specs.Encoding.{push_bytes}
use Rattle.script_bytes.specs.Written.{Written}

-- Where a reader stands: between two tokens; inside a push, of which so many bytes come after the next and these are read; or at a push
-- that no script of ours has.
pub data Place : Type 0 where
  between : Place
  inside : (after : ℕ) → Bytes → Place
  lost : Place

-- What a byte makes of it: a token, if one ends there, and the place behind it.
pub record Step : Type 0 where
  pub ended : Option Token
  pub place : Place

abbrev pub ends : Token → Step
ends k = record { ended = Some k; place = between }

abbrev pub goes_to : Place → Step
goes_to p = record { ended = None; place = p }

-- A token's first byte: OP_0, the length of a push of 1 to 75 bytes, OP_PUSHDATA1 to OP_PUSHDATA4 (which are refused), OP_1NEGATE,
-- OP_1 to OP_16, or another opcode.
abbrev pub first : ℕ → Step
first b =
    cond (eqb b 0x00) (ends (push []))
    (cond (leb b 75) (goes_to (inside (b - 1) []))
    (cond (leb b 0x4e) (goes_to lost)
    (cond (eqb b 0x4f) (ends (push (0x81 ∷ [])))
    (cond (leb 0x51 b && leb b 0x60) (ends (push ((b - 0x50) ∷ [])))
    (ends (op b))))))

abbrev pub next : Place → ℕ → Step
next between b = first b
next (inside zero x) b = ends (push (x ++ b ∷ []))
next (inside (suc n) x) b = goes_to (inside n (x ++ b ∷ []))
next lost b = goes_to lost

-- A script ends between two tokens.
abbrev pub at_end : Place → Option (List Token)
at_end between = Some []
at_end (inside n x) = None
at_end lost = None

abbrev pub with_token : Option Token → Option (List Token) → Option (List Token)
with_token None ks = ks
with_token (Some k) None = None
with_token (Some k) (Some ks) = Some (k ∷ ks)

unfoldable pub decode_from : Place → Bytes → Option (List Token)
decode_from p [] = at_end p
decode_from p (b ∷ bs) = with_token (next p b).ended (decode_from (next p b).place bs)

-- The tokens of any byte string, if it is a script.
abbrev pub decode : Bytes → Option (List Token)
decode bs = decode_from between bs

-- Pushes are minimal: no byte string that is read as one push is shorter than ours.
abbrev pub MinimalPushes : Type 0
MinimalPushes = (x bytes : Bytes) → decode bytes ≡ Some (push x ∷ []) → length (push_bytes x) ≤ length bytes

-- The combined VERIFY opcodes split: EQUALVERIFY, NUMEQUALVERIFY, CHECKSIGVERIFY and CHECKMULTISIGVERIFY, each into its test and VERIFY.
abbrev pub split_token : Token → List Token
split_token (push x) = push x ∷ []
split_token (op n) =
    cond (eqb n 0x88) (op 0x87 ∷ op 0x69 ∷ [])
    (cond (eqb n 0x9d) (op 0x9c ∷ op 0x69 ∷ [])
    (cond (eqb n 0xad) (op 0xac ∷ op 0x69 ∷ [])
    (cond (eqb n 0xaf) (op 0xae ∷ op 0x69 ∷ [])
    (op n ∷ []))))

unfoldable pub split_tokens : List Token → List Token
split_tokens [] = []
split_tokens (k ∷ ks) = split_token k ++ split_tokens ks

-- Some bytes are read as these words, once combined opcodes are split on either side.
pub record ReadAs (c : Context) (t : Tables) (bytes : Bytes) (words : List Word) : Type 0 where
  pub read : List Token
  pub decodes : decode bytes ≡ Some read
  pub alike : split_tokens read ≡ split_tokens (tokens c t words)

-- What the entry writes is read as the words of document 01's translation.
abbrev pub DecodesTo : Type 0
DecodesTo = (c : Context) (t : Tables) (x : Typed) (bytes : Bytes) → Written c t x bytes → ReadAs c t bytes (script x.tree)

-- No two words have one opcode, so the tokens tell the words.
abbrev pub OpcodesDiffer : Type 0
OpcodesDiffer = (c : Context) (t : Tables) (v w : Word) (n : ℕ) → token c t v ≡ op n → token c t w ≡ op n → v ≡ w
