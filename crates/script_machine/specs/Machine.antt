-- The limit-free machine, written from document 01, "What a fragment's script does", and document 02, R-5: what each word does, and a run
-- word by word.
use Rattle.std.specs.Prelude.{ℕ, zero, suc, Bool, true, false, not, ◌&&◌, ◌||◌, cond, List, [], ◌∷◌, ◌++◌, leb, ℤ, pos, negsuc, ◌+ℤ◌, length}
use Rattle.contexts.specs.Leaves.{LockKind, After, Older, HashKind}
use Rattle.contexts.specs.declared.Context.{Context}
use Rattle.contexts.specs.declared.Context.TheVariants.{Segwitv0, Tap}
use Rattle.script_machine.specs.Numbers.{Bytes, Stack, is_true, element, same, read, write, nonzero, equal}
use Rattle.script_machine.specs.Words.{Word, <n>, <key>, <keyhash>, <h>, DUP, IFDUP, SWAP, SIZE, TOALTSTACK, FROMALTSTACK, VERIFY, HASH}
use Rattle.script_machine.specs.Words.{CHECKLOCKTIMEVERIFY, CHECKSEQUENCEVERIFY, 0NOTEQUAL, BOOLAND, BOOLOR, ADD, IF, NOTIF, ELSE, ENDIF}
use Rattle.script_machine.specs.Words.{EQUAL, NUMEQUAL, CHECKSIG, CHECKMULTISIG, CHECKSIGADD}
use Rattle.script_machine.specs.Words.{EQUALVERIFY, NUMEQUALVERIFY, CHECKSIGVERIFY, CHECKMULTISIGVERIFY}

-- What is fixed from outside: the byte strings that the pushes of keys and hashes push, and the outcome of each check.
pub record Outcomes : Type 0 where
  pub key : ℕ → Bytes
  pub key_hash : ℕ → Bytes
  pub hash_value : HashKind → ℕ → Bytes
  pub hash : HashKind → Bytes → Bytes
  -- a key and a signature; for CHECKMULTISIG the keys and the signatures, each the top one first
  pub signs : Bytes → Bytes → Bool
  pub all_sign : Stack → Stack → Bool
  pub time_passes : LockKind → ℤ → Bool

-- What a word leaves: the main stack and the alternate stack, or an abort.
pub data Result : Type 0 where
  abort : Result
  done : Stack → Stack → Result

-- What a word does to the main stack and the alternate stack.
abbrev pub Action : Type 0
Action = Stack → Stack → Result

unfoldable pub ok : Bool → Result → Result
ok true r = r
ok false r = abort

-- A missing operand aborts, and so does a number operand over 4 bytes.
abbrev pub pop : Stack → (Bytes → Stack → Result) → Result
pop [] k = abort
pop (x ∷ m) k = k x m

abbrev pub number : Bytes → (ℤ → Result) → Result
number x k = ok (leb (length x) 4) (k (read x))

-- One action after another.
abbrev pub and_then : Result → Action → Result
and_then abort h = abort
and_then (done m a) h = h m a

infixr 40 ◌then◌
abbrev pub ◌then◌ : Action → Action → Action
(g then h) m a = and_then (g m a) h

-- Actions that push an element, or that take elements, the top one first, and push others in their place.
abbrev pub pushes : Bytes → Action
pushes x m a = done (x ∷ m) a

abbrev pub takes : (Bytes → Stack) → Action
takes f m a = pop m λ x m. done (f x ++ m) a

abbrev pub takes2 : (Bytes → Bytes → Stack) → Action
takes2 f m a = pop m λ x m. pop m λ y m. done (f x y ++ m) a

abbrev pub takes_number : (ℤ → Bytes) → Action
takes_number f m a = pop m λ x m. number x λ i. done (f i ∷ m) a

abbrev pub takes_numbers : (ℤ → ℤ → Bytes) → Action
takes_numbers f m a = pop m λ x m. pop m λ y m. number x λ i. number y λ j. done (f i j ∷ m) a

abbrev pub to_alt : Action
to_alt m a = pop m λ x m. done m (x ∷ a)

abbrev pub from_alt : Action
from_alt m a = pop a λ x a. done (x ∷ m) a

abbrev pub verify : Action
verify m a = pop m λ x m. ok (is_true x) (done m a)

-- The tests that have a VERIFY form. CHECKSIG takes key, signature.
abbrev pub equals : Action
equals = takes2 λ x y. element (same x y) ∷ []

abbrev pub num_equals : Action
num_equals = takes_numbers λ i j. element (equal i j)

abbrev pub check_sig : (Bytes → Bytes → Bool) → Action
check_sig signs = takes2 λ key sig. element (signs key sig) ∷ []

-- CHECKMULTISIG takes a count and that many keys, a count and that many signatures, and one element that must be empty.
-- A negative count asks for operands that no stack has.
abbrev pub pop_count : ℤ → (ℕ → Result) → Result
pop_count (pos n) k = k n
pop_count (negsuc n) k = abort

abbrev pub pop_many : ℕ → Stack → (Stack → Stack → Result) → Result
pop_many zero m k = k [] m
pop_many (suc n) m k = pop m λ x m. pop_many n m λ xs m. k (x ∷ xs) m

abbrev pub pop_group : Stack → (Stack → Stack → Result) → Result
pop_group m k = pop m λ x m. number x λ i. pop_count i λ n. pop_many n m k

abbrev pub check_multi_sig : (Stack → Stack → Bool) → Action
check_multi_sig all_sign m a =
    pop_group m λ keys m. pop_group m λ sigs m. pop m λ dummy m. ok (same dummy []) (done (element (all_sign keys sigs) ∷ m) a)

-- A time check leaves its operand.
abbrev pub check_time : (ℤ → Bool) → Action
check_time passes m a = pop m λ x m. number x λ i. ok (passes i) (done (x ∷ m) a)

-- CHECKSIGADD takes key, number, signature, and pushes the number, one more if the signature is good.
abbrev pub one_more : Bool → ℤ → ℤ
one_more true i = i +ℤ pos 1
one_more false i = i

abbrev pub check_sig_add : (Bytes → Bytes → Bool) → Action
check_sig_add signs m a = pop m λ key m. pop m λ x m. pop m λ sig m. number x λ i. done (write (one_more (signs key sig) i) ∷ m) a

-- Whether IF and NOTIF take an element: in SegWit v0 any, in Tapscript the empty one and the byte 1 (BIP 342). Any other aborts.
abbrev pub may_branch : Context → Bytes → Bool
may_branch Segwitv0 x = true
may_branch Tap x = same x [] || same x (1 ∷ [])

-- What a word is to the machine: it works on the stacks, opens a condition by the element that it takes, if it takes that, turns it or
-- closes it.
pub data Effect : Type 0 where
  works : Action → Effect
  opens : (may holds : Bytes → Bool) → Effect
  turns closes : Effect

-- Each word of Script, in each context.
abbrev pub effect : Context → Outcomes → Word → Effect
effect c o (<n> n) = works (pushes (write (pos n)))
effect c o (<key> n) = works (pushes (o.key n))
effect c o (<keyhash> n) = works (pushes (o.key_hash n))
effect c o (<h> kind n) = works (pushes (o.hash_value kind n))
effect c o DUP = works (takes λ x. x ∷ x ∷ [])
effect c o IFDUP = works (takes λ x. cond (is_true x) (x ∷ x ∷ []) (x ∷ []))
effect c o SWAP = works (takes2 λ x y. y ∷ x ∷ [])
effect c o SIZE = works (takes λ x. write (pos (length x)) ∷ x ∷ [])
effect c o TOALTSTACK = works to_alt
effect c o FROMALTSTACK = works from_alt
effect c o VERIFY = works verify
effect c o (HASH kind) = works (takes λ x. o.hash kind x ∷ [])
effect c o CHECKLOCKTIMEVERIFY = works (check_time (o.time_passes After))
effect c o CHECKSEQUENCEVERIFY = works (check_time (o.time_passes Older))
effect c o 0NOTEQUAL = works (takes_number λ i. element (nonzero i))
effect c o BOOLAND = works (takes_numbers λ i j. element (nonzero i && nonzero j))
effect c o BOOLOR = works (takes_numbers λ i j. element (nonzero i || nonzero j))
effect c o ADD = works (takes_numbers λ i j. write (i +ℤ j))
effect c o EQUAL = works equals
effect c o NUMEQUAL = works num_equals
effect c o CHECKSIG = works (check_sig o.signs)
effect c o CHECKMULTISIG = works (check_multi_sig o.all_sign)
effect c o EQUALVERIFY = works (equals then verify)
effect c o NUMEQUALVERIFY = works (num_equals then verify)
effect c o CHECKSIGVERIFY = works (check_sig o.signs then verify)
effect c o CHECKMULTISIGVERIFY = works (check_multi_sig o.all_sign then verify)
effect c o CHECKSIGADD = works (check_sig_add o.signs)
effect c o IF = opens (may_branch c) is_true
effect c o NOTIF = opens (may_branch c) λ x. not (is_true x)
effect c o ELSE = turns
effect c o ENDIF = closes

-- The machine between two words: the main stack, the alternate stack and the open conditions, the innermost first; or an abort.
pub data State : Type 0 where
  aborted : State
  state : Stack → Stack → List Bool → State

-- Words are carried out where every open condition is true.
abbrev pub all_true : List Bool → Bool
all_true [] = true
all_true (c ∷ cs) = c && all_true cs

abbrev pub under : List Bool → Result → State
under cs abort = aborted
under cs (done m a) = state m a cs

abbrev pub opened : (may holds : Bytes → Bool) → Stack → Stack → List Bool → State
opened may holds [] a cs = aborted
opened may holds (x ∷ m) a cs = cond (may x) (state m a (holds x ∷ cs)) aborted

unfoldable pub step : Effect → Stack → Stack → List Bool → State
step (works g) m a cs = cond (all_true cs) (under cs (g m a)) (state m a cs)
step (opens may holds) m a cs = cond (all_true cs) (opened may holds m a cs) (state m a (false ∷ cs))
step turns m a [] = aborted
step turns m a (c ∷ cs) = state m a (not c ∷ cs)
step closes m a [] = aborted
step closes m a (c ∷ cs) = state m a cs

unfoldable pub run : Context → Outcomes → List Word → State → State
run c o [] s = s
run c o (w ∷ ws) aborted = aborted
run c o (w ∷ ws) (state m a cs) = run c o ws (step (effect c o w) m a cs)
