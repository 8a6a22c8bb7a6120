-- BIP 379's own translation, where v:X is the VERIFY form of the last opcode of X if that has one, and how combined words are split.
use Rattle.std.specs.Prelude.{List, [], ◌∷◌, ◌++◌, ◌≡◌, refl}
use Rattle.contexts.specs.declared.Context.{Context}
use Rattle.trees.specs.Fragment.{Fragment}
use Rattle.script_machine.specs.Words.{Word, <n>, <key>, <keyhash>, <h>, DUP, IFDUP, SWAP, SIZE, TOALTSTACK, FROMALTSTACK, VERIFY, HASH}
use Rattle.script_machine.specs.Words.{CHECKLOCKTIMEVERIFY, CHECKSEQUENCEVERIFY, 0NOTEQUAL, BOOLAND, BOOLOR, ADD, IF, NOTIF, ELSE, ENDIF}
use Rattle.script_machine.specs.Words.{EQUAL, NUMEQUAL, CHECKSIG, CHECKMULTISIG, CHECKSIGADD}
use Rattle.script_machine.specs.Words.{EQUALVERIFY, NUMEQUALVERIFY, CHECKSIGVERIFY, CHECKMULTISIGVERIFY}
use Rattle.script_machine.specs.Machine.{Outcomes, State, run}
use Rattle.script_machine.specs.Translation.{⟦◌⟧, script}

-- The four words that have a VERIFY form, and that form.
pub data Test : Type 0 where
  equal num_equal check_sig check_multi_sig : Test

abbrev pub plain : Test → Word
plain equal = EQUAL
plain num_equal = NUMEQUAL
plain check_sig = CHECKSIG
plain check_multi_sig = CHECKMULTISIG

abbrev pub combined : Test → Word
combined equal = EQUALVERIFY
combined num_equal = NUMEQUALVERIFY
combined check_sig = CHECKSIGVERIFY
combined check_multi_sig = CHECKMULTISIGVERIFY

-- A word is one of the four, one of their VERIFY forms, or another.
pub data Form (w : Word) : Type 0 where
  other : Form w
  is_plain : (t : Test) → w ≡ plain t → Form w
  is_combined : (t : Test) → w ≡ combined t → Form w

unfoldable pub form : (w : Word) → Form w
form (<n> n) = other
form (<key> n) = other
form (<keyhash> n) = other
form (<h> kind n) = other
form DUP = other
form IFDUP = other
form SWAP = other
form SIZE = other
form TOALTSTACK = other
form FROMALTSTACK = other
form VERIFY = other
form (HASH kind) = other
form CHECKLOCKTIMEVERIFY = other
form CHECKSEQUENCEVERIFY = other
form 0NOTEQUAL = other
form BOOLAND = other
form BOOLOR = other
form ADD = other
form EQUAL = is_plain equal refl
form NUMEQUAL = is_plain num_equal refl
form CHECKSIG = is_plain check_sig refl
form CHECKMULTISIG = is_plain check_multi_sig refl
form EQUALVERIFY = is_combined equal refl
form NUMEQUALVERIFY = is_combined num_equal refl
form CHECKSIGVERIFY = is_combined check_sig refl
form CHECKMULTISIGVERIFY = is_combined check_multi_sig refl
form CHECKSIGADD = other
form IF = other
form NOTIF = other
form ELSE = other
form ENDIF = other

-- A word with VERIFY after it, as one word if it can be.
abbrev pub verified : (w : Word) → Form w → List Word
verified w other = w ∷ VERIFY ∷ []
verified w (is_plain t e) = combined t ∷ []
verified w (is_combined t e) = w ∷ VERIFY ∷ []

-- The same of the last word of a script.
unfoldable pub merge_verify : List Word → List Word
merge_verify [] = VERIFY ∷ []
merge_verify (w ∷ []) = verified w (form w)
merge_verify (w ∷ x ∷ ws) = w ∷ merge_verify (x ∷ ws)

abbrev pub merged : Fragment → List Word
merged f = ⟦◌⟧ merge_verify f

-- A script with every combined word split.
abbrev pub parts : (w : Word) → Form w → List Word
parts w other = w ∷ []
parts w (is_plain t e) = w ∷ []
parts w (is_combined t e) = plain t ∷ VERIFY ∷ []

unfoldable pub split : List Word → List Word
split [] = []
split (w ∷ ws) = parts w (form w) ++ split ws

-- The two translations are the same once combined words are split, and do the same from any state.
abbrev pub SplitAlike : Type 0
SplitAlike = (f : Fragment) → split (merged f) ≡ split (script f)

abbrev pub RunAlike : Type 0
RunAlike = (c : Context) (o : Outcomes) (f : Fragment) (s : State) → run c o (merged f) s ≡ run c o (script f) s
