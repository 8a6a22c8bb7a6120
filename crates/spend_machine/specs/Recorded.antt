-- A run with recorded outcomes, from document 02, R-6: document 01's machine, where each word that asks takes the next outcome of a list.
use Rattle.std.specs.Prelude.{ℕ, ◌+◌, Bool, true, false, not, cond, List, [], ◌∷◌, leb, length, Option, None, Some}
use Rattle.contexts.specs.Leaves.{LockKind, After, Older, HashKind}
use Rattle.contexts.specs.declared.Context.{Context}
use Rattle.script_machine.specs.Numbers.{Bytes, Stack}
use Rattle.script_machine.specs.Words.{Word, <n>, <key>, <keyhash>, <h>, DUP, IFDUP, SWAP, SIZE, TOALTSTACK, FROMALTSTACK, VERIFY, HASH}
use Rattle.script_machine.specs.Words.{CHECKLOCKTIMEVERIFY, CHECKSEQUENCEVERIFY, 0NOTEQUAL, BOOLAND, BOOLOR, ADD, IF, NOTIF, ELSE, ENDIF}
use Rattle.script_machine.specs.Words.{EQUAL, NUMEQUAL, CHECKSIG, CHECKMULTISIG, CHECKSIGADD}
use Rattle.script_machine.specs.Words.{EQUALVERIFY, NUMEQUALVERIFY, CHECKSIGVERIFY, CHECKMULTISIGVERIFY}
use Rattle.script_machine.specs.Machine.{Outcomes, State, aborted, state, all_true, step, effect}
use Rattle.script_bytes.specs.Tables.{Tables, key, key_hash, hash}
use Rattle.spend_machine.specs.Entries.{Outcome, no, yes, digest}

-- What a word asks about: the digest of a hash, the signature of CHECKSIG, that of CHECKSIGADD, those of CHECKMULTISIG, or a time.
pub data Question : Type 0 where
  a_digest : HashKind → Question
  a_signature an_added_signature signatures : Question
  a_time : LockKind → Question

abbrev pub asks : Word → Option Question
asks (<n> n) = None
asks (<key> n) = None
asks (<keyhash> n) = None
asks (<h> kind n) = None
asks DUP = None
asks IFDUP = None
asks SWAP = None
asks SIZE = None
asks TOALTSTACK = None
asks FROMALTSTACK = None
asks VERIFY = None
asks (HASH kind) = Some (a_digest kind)
asks CHECKLOCKTIMEVERIFY = Some (a_time After)
asks CHECKSEQUENCEVERIFY = Some (a_time Older)
asks 0NOTEQUAL = None
asks BOOLAND = None
asks BOOLOR = None
asks ADD = None
asks EQUAL = None
asks NUMEQUAL = None
asks CHECKSIG = Some a_signature
asks CHECKMULTISIG = Some signatures
asks EQUALVERIFY = None
asks NUMEQUALVERIFY = None
asks CHECKSIGVERIFY = Some a_signature
asks CHECKMULTISIGVERIFY = Some signatures
asks CHECKSIGADD = Some an_added_signature
asks IF = None
asks NOTIF = None
asks ELSE = None
asks ENDIF = None

-- Whether an outcome is of the sort that is asked for: a digest for a hash, else yes or no.
abbrev pub is_digest : Outcome → Bool
is_digest no = false
is_digest yes = false
is_digest (digest x) = true

abbrev pub suits : Question → Outcome → Bool
suits (a_digest kind) r = is_digest r
suits a_signature r = not (is_digest r)
suits an_added_signature r = not (is_digest r)
suits signatures r = not (is_digest r)
suits (a_time kind) r = not (is_digest r)

-- What an outcome says to a check, and what it makes of a hash.
abbrev pub is_yes : Outcome → Bool
is_yes no = false
is_yes yes = true
is_yes (digest x) = false

abbrev pub digest_of : Outcome → Bytes
digest_of no = []
digest_of yes = []
digest_of (digest x) = x

-- The bench's own limit on both stacks together.
abbrev pub max_elements : ℕ
max_elements = 4096

-- Where a run stands between two words: the machine's state with the outcomes that no word took yet; stuck, where the outcome that a word
-- asked for was missing or of the wrong sort; or too large, which a run stays from the first word on that left too many elements.
pub data Run : Type 0 where
  stands : State → List Outcome → Run
  stuck large : Run

-- Whether a word left no more, and what a run makes of it.
abbrev pub fits : State → Bool
fits aborted = true
fits (state m a cs) = leb (length m + length a) max_elements

abbrev pub within : State → List Outcome → Run
within s rs = cond (fits s) (stands s rs) large

module _ (c : Context) (t : Tables) where
  -- An outcome believed by whatever asks; keys and hashes are the tables'.
  abbrev pub believing : Outcome → Outcomes
  believing r =
      record {
        key = key c t;
        key_hash = key_hash t;
        hash_value = hash t;
        hash = λ kind x. digest_of r;
        signs = λ k s. is_yes r;
        all_sign = λ ks ss. is_yes r;
        time_passes = λ kind i. is_yes r;
      }

  -- One step of document 01's machine in which the word believes r.
  abbrev pub step_believing : Outcome → Word → Stack → Stack → List Bool → State
  step_believing r w m a cs = step (effect c (believing r) w) m a cs

  -- A word takes the next outcome, if that is of the sort that it asks for.
  abbrev pub taking : Question → Word → Stack → Stack → List Bool → List Outcome → Run
  taking q w m a cs [] = stuck
  taking q w m a cs (r ∷ rs) = cond (suits q r) (within (step_believing r w m a cs) rs) stuck

  -- A word comes to ask where it would not abort on a yes: missing operands, long numbers and a non-empty dummy abort before.
  abbrev pub asking : State → Question → Word → Stack → Stack → List Bool → List Outcome → Run
  asking aborted q w m a cs rs = stands aborted rs
  asking (state m' a' cs') q w m a cs rs = taking q w m a cs rs

  -- A word that asks does so only where it is carried out; any other asks for nothing and heeds no outcome.
  abbrev pub questioned : Option Question → Word → Stack → Stack → List Bool → List Outcome → Run
  questioned None w m a cs rs = within (step_believing yes w m a cs) rs
  questioned (Some q) w m a cs rs = cond (all_true cs) (asking (step_believing yes w m a cs) q w m a cs rs) (within (state m a cs) rs)

  unfoldable pub recorded_step : Word → Run → Run
  recorded_step w (stands aborted rs) = stands aborted rs
  recorded_step w (stands (state m a cs) rs) = questioned (asks w) w m a cs rs
  recorded_step w stuck = stuck
  recorded_step w large = large

  -- A run, word by word.
  unfoldable pub recorded_run : List Word → Run → Run
  recorded_run [] s = s
  recorded_run (w ∷ ws) s = recorded_run ws (recorded_step w s)
