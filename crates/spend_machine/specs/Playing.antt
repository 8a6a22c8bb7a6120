-- A run of a fragment's script put together from those of its children, with conditions nested: for the inner contracts of the interpreter.
-- proofs/Playing.antt shows that it is the run, word by word, of the script.
use Rattle.std.specs.Prelude.{ℕ, Bool, false, not, cond, List, [], ◌∷◌, length}
use Rattle.contexts.specs.Leaves.{LockKind, After, Older, Hash160}
use Rattle.contexts.specs.declared.Context.{Context}
use Rattle.trees.specs.Fragment.{Fragment, Fragments, end, ◌▹◌, False, True, PkK, PkH, Lock, Hash}
use Rattle.trees.specs.Fragment.{Alt, Swap, Check, DupIf, Verify, NonZero, ZeroNotEqual}
use Rattle.trees.specs.Fragment.{AndB, AndV, OrB, OrD, OrC, OrI, AndOr, Thresh, Multi, MultiA}
use Rattle.script_machine.specs.Numbers.{is_true}
use Rattle.script_machine.specs.Words.{Word, <n>, <key>, <keyhash>, <h>, DUP, IFDUP, SWAP, SIZE, TOALTSTACK, FROMALTSTACK, VERIFY, HASH}
use Rattle.script_machine.specs.Words.{CHECKLOCKTIMEVERIFY, CHECKSEQUENCEVERIFY, 0NOTEQUAL, BOOLAND, BOOLOR, ADD}
use Rattle.script_machine.specs.Words.{EQUAL, NUMEQUAL, CHECKSIG, CHECKMULTISIG, CHECKSIGADD, EQUALVERIFY}
use Rattle.script_machine.specs.Machine.{aborted, state, may_branch}
use Rattle.script_bytes.specs.Tables.{Tables}
use Rattle.spend_machine.specs.Recorded.{Run, stands, stuck, large, recorded_step}

-- whether IF would take the top element for true; that it takes it, if it may
abbrev pub top_true : Run → Bool
top_true (stands aborted rs) = false
top_true (stands (state [] a cs) rs) = false
top_true (stands (state (x ∷ m) a cs) rs) = is_true x
top_true stuck = false
top_true large = false

abbrev pub opened : Context → Run → Run
opened c (stands aborted rs) = stands aborted rs
opened c (stands (state [] a cs) rs) = stands aborted rs
opened c (stands (state (x ∷ m) a cs) rs) = cond (may_branch c x) (stands (state m a cs) rs) (stands aborted rs)
opened c stuck = stuck
opened c large = large

abbrev pub time_word : LockKind → Word
time_word After = CHECKLOCKTIMEVERIFY
time_word Older = CHECKSEQUENCEVERIFY

module _ (c : Context) (t : Tables) where
  infix 90 !◌
  abbrev pub !◌ : Word → Run → Run
  (! w) s = recorded_step c t w s

  -- one after another; IF and NOTIF by the top element
  infixr 40 ◌then◌
  abbrev pub ◌then◌ : (Run → Run) → (Run → Run) → Run → Run
  (g then h) s = h (g s)

  abbrev pub nothing : Run → Run
  nothing s = s

  abbrev pub if : (Run → Run) → (Run → Run) → Run → Run
  if g h s = cond (top_true s) (g (opened c s)) (h (opened c s))

  abbrev pub if_not : (Run → Run) → (Run → Run) → Run → Run
  if_not g h s = cond (not (top_true s)) (g (opened c s)) (h (opened c s))

  -- the keys of a Multi and of a MultiA
  unfoldable pub keys_pushed : List ℕ → Run → Run
  keys_pushed [] = nothing
  keys_pushed (n ∷ ns) = ! (<key> n) then keys_pushed ns

  unfoldable pub sigs_added : List ℕ → Run → Run
  sigs_added [] = nothing
  sigs_added (n ∷ ns) = ! (<key> n) then ! CHECKSIGADD then sigs_added ns

  unfoldable pub sigs_summed : List ℕ → Run → Run
  sigs_summed [] = nothing
  sigs_summed (n ∷ ns) = ! (<key> n) then ! CHECKSIG then sigs_added ns

  unfoldable mutual
    pub plays : Fragment → Run → Run
    plays False = ! (<n> 0)
    plays True = ! (<n> 1)
    plays (PkK n) = ! (<key> n)
    plays (PkH n) = ! DUP then ! (HASH Hash160) then ! (<keyhash> n) then ! EQUALVERIFY
    plays (Lock kind n) = ! (<n> n) then ! (time_word kind)
    plays (Hash kind h) = ! SIZE then ! (<n> 32) then ! EQUALVERIFY then ! (HASH kind) then ! (<h> kind h) then ! EQUAL
    plays (Alt x) = ! TOALTSTACK then plays x then ! FROMALTSTACK
    plays (Swap x) = ! SWAP then plays x
    plays (Check x) = plays x then ! CHECKSIG
    plays (DupIf x) = ! DUP then if (plays x) nothing
    plays (Verify x) = plays x then ! VERIFY
    plays (NonZero x) = ! SIZE then ! 0NOTEQUAL then if (plays x) nothing
    plays (ZeroNotEqual x) = plays x then ! 0NOTEQUAL
    plays (AndB x y) = plays x then plays y then ! BOOLAND
    plays (AndV x y) = plays x then plays y
    plays (OrB x y) = plays x then plays y then ! BOOLOR
    plays (OrD x y) = plays x then ! IFDUP then if_not (plays y) nothing
    plays (OrC x y) = plays x then if_not (plays y) nothing
    plays (OrI x y) = if (plays x) (plays y)
    plays (AndOr x y z) = plays x then if_not (plays z) (plays y)
    plays (Thresh k xs) = summed xs then ! (<n> k) then ! EQUAL
    plays (Multi k keys) = ! (<n> k) then keys_pushed keys then ! (<n> (length keys)) then ! CHECKMULTISIG
    plays (MultiA k keys) = sigs_summed keys then ! (<n> k) then ! NUMEQUAL

    pub summed : Fragments → Run → Run
    summed end = nothing
    summed (x ▹ xs) = plays x then added xs

    pub added : Fragments → Run → Run
    added end = nothing
    added (x ▹ xs) = plays x then ! ADD then added xs
