-- Worked runs: what scripts do on given stacks, satisfied, dissatisfied and aborting, for a reader who knows Bitcoin Script.
use Rattle.correctness.specs.declared.TypeError.TheVariants as TypeError
use Rattle.std.specs.Prelude.{ℕ, Bool, true, false, ◌&&◌, cond, List, [], ◌∷◌, ◌++◌, ◌≡◌, leb, ℤ, pos, negsuc, replicate, Err}
use Rattle.contexts.specs.declared.Context.{Context}
use Rattle.contexts.specs.declared.Context.TheVariants.{Segwitv0, Tap}
use Rattle.trees.specs.Fragment.{Fragment, end, ◌▹◌, Lock, Hash}
use Rattle.contexts.specs.Leaves.{LockKind, After, Older, HashKind, Sha256, Hash256, Ripemd160, Hash160}
use Rattle.trees.specs.Fragment.{True, PkK, PkH, Alt, Swap, Check, DupIf, Verify, NonZero, ZeroNotEqual}
use Rattle.trees.specs.Fragment.{AndB, AndV, OrB, OrD, OrC, OrI, AndOr, Thresh, Multi, MultiA}
use Rattle.trees.specs.Typing.{type_of}
use Rattle.script_machine.specs.Numbers.{Bytes, Stack, same}
use Rattle.script_machine.specs.Machine.{Outcomes, State, aborted, state, run}
use Rattle.script_machine.specs.Translation.{script}
use Rattle.script_machine.specs.Words.{Word, <n>, DUP, VERIFY, 0NOTEQUAL, ADD, IF, NOTIF, ELSE, ENDIF}

-- Outcomes of a toy: key n is two bytes, a key's one good signature is the byte 48 before it, a hash is a tag before what it hashes,
-- hash number n is that of 32 bytes n; heights pass up to 100, ages up to 50.
abbrev pub key : ℕ → Bytes
key n = 3 ∷ n ∷ []

abbrev pub sig : ℕ → Bytes
sig n = 48 ∷ key n

abbrev pub preimage : ℕ → Bytes
preimage n = replicate 32 n

abbrev pub tag : HashKind → ℕ
tag Sha256 = 1
tag Hash256 = 2
tag Ripemd160 = 3
tag Hash160 = 4

unfoldable pub signs : Bytes → Bytes → Bool
signs k s = same s (48 ∷ k)

-- The signatures are by keys in the keys' order.
unfoldable pub all_sign : Stack → Stack → Bool
all_sign [] [] = true
all_sign [] (s ∷ ss) = false
all_sign (k ∷ ks) [] = true
all_sign (k ∷ ks) (s ∷ ss) = cond (signs k s) (all_sign ks ss) (all_sign ks (s ∷ ss))

abbrev pub passes : LockKind → ℤ → Bool
passes After (pos n) = leb n 100
passes Older (pos n) = leb n 50
passes kind (negsuc n) = false

abbrev pub toy : Outcomes
toy =
    record {
      key = key;
      key_hash = λ n. tag Hash160 ∷ key n;
      hash_value = λ kind n. tag kind ∷ preimage n;
      hash = λ kind x. tag kind ∷ x;
      signs = signs;
      all_sign = all_sign;
      time_passes = passes;
    }

-- The trees.
abbrev pub pk : ℕ → Fragment
pk n = Check (PkK n)

abbrev pub pkh : ℕ → Fragment
pkh n = Check (PkH n)

abbrev pub two_of_three : Fragment
two_of_three = Thresh 2 (pk 1 ▹ Swap (pk 2) ▹ Alt (pk 3) ▹ end)

-- andor(pk(1),older(5),pk(2))
abbrev pub andor : Fragment
andor = AndOr (pk 1) (Lock Older 5) (pk 2)

-- or_i(pk(1),and_v(v:pk(2),after(100)))
abbrev pub ori : Fragment
ori = OrI (pk 1) (AndV (Verify (pk 2)) (Lock After 100))

-- A run over an element that it must not touch, with another on the alternate stack: it leaves elements over the first, or aborts.
abbrev pub below : Stack
below = (9 ∷ []) ∷ []

abbrev pub from : Context → List Word → Stack → State
from c ws m = run c toy ws (state (m ++ below) below [])

-- A script, a starting stack, and what is to come of them.
pub data Case : Type 0 where
  leaves : List Word → Stack → Stack → Case
  aborts : List Word → Stack → Case

unfoldable pub same_stack : Stack → Stack → Bool
same_stack [] [] = true
same_stack [] (y ∷ n) = false
same_stack (x ∷ m) [] = false
same_stack (x ∷ m) (y ∷ n) = same x y && same_stack m n

abbrev pub none_open : List Bool → Bool
none_open [] = true
none_open (c ∷ cs) = false

abbrev pub ends : State → Stack → Bool
ends aborted n = false
ends (state m a cs) n = same_stack m (n ++ below) && (same_stack a below && none_open cs)

abbrev pub stopped : State → Bool
stopped aborted = true
stopped (state m a cs) = false

abbrev pub holds : Context → Case → Bool
holds c (leaves ws m n) = ends (from c ws m) n
holds c (aborts ws m) = stopped (from c ws m)

unfoldable pub all_hold : Context → List Case → Bool
all_hold c [] = true
all_hold c (x ∷ xs) = holds c x && all_hold c xs

abbrev pub yes : Bytes
yes = 1 ∷ []

abbrev pub no : Bytes
no = []

-- 7 or 8, by IF and by NOTIF.
abbrev pub by_if : List Word
by_if = IF ∷ <n> 7 ∷ ELSE ∷ <n> 8 ∷ ENDIF ∷ []

abbrev pub by_not_if : List Word
by_not_if = NOTIF ∷ <n> 7 ∷ ELSE ∷ <n> 8 ∷ ENDIF ∷ []

abbrev pub cases : List Case
cases =
    leaves (script (pk 1)) (sig 1 ∷ []) (yes ∷ [])
    ∷ leaves (script (pk 1)) (no ∷ []) (no ∷ [])
    ∷ leaves (script (pkh 1)) (key 1 ∷ sig 1 ∷ []) (yes ∷ [])
    ∷ leaves (script (pkh 1)) (key 1 ∷ no ∷ []) (no ∷ [])
    ∷ aborts (script (pkh 1)) (key 2 ∷ sig 2 ∷ [])
    ∷ leaves (script (Hash Sha256 7)) (preimage 7 ∷ []) (yes ∷ [])
    ∷ leaves (script (Hash Sha256 7)) (preimage 8 ∷ []) (no ∷ [])
    ∷ aborts (script (Hash Sha256 7)) ((7 ∷ []) ∷ [])
    -- a signature each for keys 1, 2 and 3, of which one is missing, then two
    ∷ leaves (script two_of_three) (sig 1 ∷ no ∷ sig 3 ∷ []) (yes ∷ [])
    ∷ leaves (script two_of_three) (no ∷ no ∷ sig 3 ∷ []) (no ∷ [])
    -- CHECKMULTISIG: the last signature on top, the empty element below; signatures out of order, and an element that is not empty
    ∷ leaves (script (Multi 2 (1 ∷ 2 ∷ 3 ∷ []))) (sig 3 ∷ sig 1 ∷ no ∷ []) (yes ∷ [])
    ∷ leaves (script (Multi 2 (1 ∷ 2 ∷ 3 ∷ []))) (no ∷ no ∷ no ∷ []) (no ∷ [])
    ∷ leaves (script (Multi 2 (1 ∷ 2 ∷ 3 ∷ []))) (sig 1 ∷ sig 3 ∷ no ∷ []) (no ∷ [])
    ∷ aborts (script (Multi 2 (1 ∷ 2 ∷ 3 ∷ []))) (sig 3 ∷ sig 1 ∷ yes ∷ [])
    ∷ leaves (script (MultiA 2 (1 ∷ 2 ∷ 3 ∷ []))) (sig 1 ∷ no ∷ sig 3 ∷ []) (yes ∷ [])
    ∷ leaves (script (MultiA 2 (1 ∷ 2 ∷ 3 ∷ []))) (sig 1 ∷ no ∷ no ∷ []) (no ∷ [])
    -- the lock leaves its number
    ∷ leaves (script andor) (sig 1 ∷ []) ((5 ∷ []) ∷ [])
    ∷ leaves (script andor) (no ∷ sig 2 ∷ []) (yes ∷ [])
    ∷ leaves (script ori) (yes ∷ sig 1 ∷ []) (yes ∷ [])
    ∷ leaves (script ori) (no ∷ sig 2 ∷ []) ((100 ∷ []) ∷ [])
    ∷ aborts (script ori) (no ∷ sig 1 ∷ [])
    ∷ aborts (script (Lock After 101)) []
    -- a height that passes where the same age does not
    ∷ leaves (script (Lock After 60)) [] ((60 ∷ []) ∷ [])
    ∷ aborts (script (Lock Older 60)) []
    -- n:older(5): the number becomes the byte 1
    ∷ leaves (script (ZeroNotEqual (Lock Older 5))) [] (yes ∷ [])
    -- and_b, or_b, or_d and or_c of two keys: one of the two signatures does for all but and_b; or_c pushes nothing
    ∷ leaves (script (AndB (pk 1) (Swap (pk 2)))) (sig 1 ∷ sig 2 ∷ []) (yes ∷ [])
    ∷ leaves (script (AndB (pk 1) (Swap (pk 2)))) (sig 1 ∷ no ∷ []) (no ∷ [])
    ∷ leaves (script (OrB (pk 1) (Swap (pk 2)))) (sig 1 ∷ no ∷ []) (yes ∷ [])
    ∷ leaves (script (OrB (pk 1) (Swap (pk 2)))) (no ∷ no ∷ []) (no ∷ [])
    ∷ leaves (script (OrD (pk 1) (pk 2))) (sig 1 ∷ []) (yes ∷ [])
    ∷ leaves (script (OrD (pk 1) (pk 2))) (no ∷ sig 2 ∷ []) (yes ∷ [])
    ∷ leaves (script (OrC (pk 1) (Verify (pk 2)))) (sig 1 ∷ []) []
    ∷ leaves (script (OrC (pk 1) (Verify (pk 2)))) (no ∷ sig 2 ∷ []) []
    ∷ aborts (script (OrC (pk 1) (Verify (pk 2)))) (no ∷ no ∷ [])
    -- NonZero leaves an empty element
    ∷ leaves (script (NonZero (pk 1))) (no ∷ []) (no ∷ [])
    ∷ leaves (script (NonZero (pk 1))) (sig 1 ∷ []) (yes ∷ [])
    -- numbers: up to 4 bytes, negative and not minimal ones too; a fifth byte aborts; a sum may take 5 bytes
    ∷ leaves (ADD ∷ []) ((0x81 ∷ []) ∷ (0x05 ∷ 0x00 ∷ []) ∷ []) ((0x04 ∷ []) ∷ [])
    ∷ leaves (0NOTEQUAL ∷ []) ((0x00 ∷ 0x00 ∷ 0x00 ∷ 0x80 ∷ []) ∷ []) (no ∷ [])
    ∷ aborts (0NOTEQUAL ∷ []) ((0x01 ∷ 0x00 ∷ 0x00 ∷ 0x00 ∷ 0x00 ∷ []) ∷ [])
    ∷ leaves (DUP ∷ ADD ∷ []) ((0xff ∷ 0xff ∷ 0xff ∷ 0x7f ∷ []) ∷ []) ((0xfe ∷ 0xff ∷ 0xff ∷ 0xff ∷ 0x00 ∷ []) ∷ [])
    -- IF takes the empty element for false and the byte 1 for true, NOTIF the other way round
    ∷ leaves by_if (yes ∷ []) ((7 ∷ []) ∷ [])
    ∷ leaves by_if (no ∷ []) ((8 ∷ []) ∷ [])
    ∷ leaves by_not_if (yes ∷ []) ((8 ∷ []) ∷ [])
    ∷ leaves by_not_if (no ∷ []) ((7 ∷ []) ∷ [])
    -- conditions: in a branch that is not taken nothing is carried out, but its conditions are counted
    ∷ leaves (IF ∷ IF ∷ VERIFY ∷ ELSE ∷ DUP ∷ ENDIF ∷ ELSE ∷ <n> 300 ∷ ENDIF ∷ []) (no ∷ []) ((0x2c ∷ 0x01 ∷ []) ∷ [])
    ∷ aborts (ENDIF ∷ []) []
    ∷ []

-- Elements before IF and NOTIF that are neither empty nor the byte 1: 2, 0x80, 0x0100 and a zero byte. SegWit v0 takes each for true or
-- false; in Tapscript each aborts. So DupIf leaves a negative zero in SegWit v0, which is why it is u in Tapscript alone.
abbrev pub cases_in : Context → List Case
cases_in Segwitv0 =
    leaves by_if ((0x02 ∷ []) ∷ []) ((7 ∷ []) ∷ [])
    ∷ leaves by_if ((0x80 ∷ []) ∷ []) ((8 ∷ []) ∷ [])
    ∷ leaves by_if ((0x01 ∷ 0x00 ∷ []) ∷ []) ((7 ∷ []) ∷ [])
    ∷ leaves by_if ((0x00 ∷ []) ∷ []) ((8 ∷ []) ∷ [])
    ∷ leaves by_not_if ((0x02 ∷ []) ∷ []) ((8 ∷ []) ∷ [])
    ∷ leaves by_not_if ((0x80 ∷ []) ∷ []) ((7 ∷ []) ∷ [])
    ∷ leaves by_not_if ((0x01 ∷ 0x00 ∷ []) ∷ []) ((8 ∷ []) ∷ [])
    ∷ leaves by_not_if ((0x00 ∷ []) ∷ []) ((7 ∷ []) ∷ [])
    ∷ leaves (script (DupIf (Verify True))) ((0x00 ∷ 0x80 ∷ []) ∷ []) ((0x00 ∷ 0x80 ∷ []) ∷ [])
    ∷ []
cases_in Tap =
    aborts by_if ((0x02 ∷ []) ∷ [])
    ∷ aborts by_if ((0x80 ∷ []) ∷ [])
    ∷ aborts by_if ((0x01 ∷ 0x00 ∷ []) ∷ [])
    ∷ aborts by_if ((0x00 ∷ []) ∷ [])
    ∷ aborts by_not_if ((0x02 ∷ []) ∷ [])
    ∷ aborts by_not_if ((0x80 ∷ []) ∷ [])
    ∷ aborts by_not_if ((0x01 ∷ 0x00 ∷ []) ∷ [])
    ∷ aborts by_not_if ((0x00 ∷ []) ∷ [])
    ∷ aborts (script (DupIf (Verify True))) ((0x00 ∷ 0x80 ∷ []) ∷ [])
    ∷ []

abbrev pub WorkedRuns : Type 0
WorkedRuns = (c : Context) → all_hold c (cases ++ cases_in c) ≡ true

-- Why a NonZero must have a child that is n: over one that removes none it reads an element that it then leaves or not, as it finds it.
-- Why a Thresh must have W after its first child: two B sign in turn, and the second takes the first one's answer for its signature.
pub record Counterexamples (c : Context) : Type 0 where
  pub non_zero_over_z : type_of c (NonZero True) ≡ Err TypeError.IllTyped
  pub leaves_one : from c (script (NonZero True)) (no ∷ []) ≡ state (no ∷ below) below []
  pub leaves_two : from c (script (NonZero True)) ((5 ∷ []) ∷ []) ≡ state (yes ∷ (5 ∷ []) ∷ below) below []
  pub thresh_over_b : type_of c (Thresh 2 (pk 1 ▹ pk 2 ▹ end)) ≡ Err TypeError.IllTyped
  pub both_signed : from c (script (Thresh 2 (pk 1 ▹ pk 2 ▹ end))) (sig 1 ∷ sig 2 ∷ []) ≡ state (no ∷ below) below []
