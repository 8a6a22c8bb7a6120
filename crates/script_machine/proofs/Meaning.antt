-- The meaning of each fragment's script, and that the script has it.
use Prim.Native.Nat.{ℕ}
use mathlib.Core.Bool.{not}
use mathlib.Core.List.{List, [], ◌∷◌, ◌++◌, map, append_assoc}
use mathlib.Core.Path.{refl}
use lib.ListN.{length}
use Rattle.contexts.specs.declared.Context.{Context}
use Rattle.trees.specs.Fragment.{Fragment, Fragments, end, ◌▹◌, False, True, PkK, PkH, Lock, Hash}
use Rattle.contexts.specs.Leaves.{LockKind, After, Older, Hash160}
use Rattle.trees.specs.Fragment.{Alt, Swap, Check, DupIf, Verify, NonZero, ZeroNotEqual}
use Rattle.trees.specs.Fragment.{AndB, AndV, OrB, OrD, OrC, OrI, AndOr, Thresh, Multi, MultiA}
use Rattle.script_machine.specs.Numbers.{is_true}
use Rattle.script_machine.specs.Words.{Word, <n>, <key>, <keyhash>, <h>, DUP, IFDUP, SWAP, SIZE, TOALTSTACK, FROMALTSTACK, VERIFY, HASH}
use Rattle.script_machine.specs.Words.{CHECKLOCKTIMEVERIFY, CHECKSEQUENCEVERIFY, 0NOTEQUAL, BOOLAND, BOOLOR, ADD, IF, NOTIF}
use Rattle.script_machine.specs.Words.{EQUAL, NUMEQUAL, CHECKSIG, CHECKMULTISIG, CHECKSIGADD, EQUALVERIFY}
use Rattle.script_machine.specs.Machine.{Outcomes, Action, ◌then◌, may_branch, effect}
use Rattle.script_machine.specs.Translation.{⟦◌⟧, and_verify, sum, adds, sig_sum, sig_adds}
use Rattle.script_machine.proofs.Nested.{Means, nothing, doing, branch, no_word, word, ◌⨾◌, opt, alt}

abbrev pub time_word : LockKind → Word
time_word After = CHECKLOCKTIMEVERIFY
time_word Older = CHECKSEQUENCEVERIFY

module _ (c : Context) (o : Outcomes) where
  infix 90 !◌
  abbrev pub !◌ : Word → Action
  ! w = doing (effect c o w)

  -- NOTIF takes a false element for true
  abbrev pub if : Action → Action → Action
  if g h = branch (may_branch c) is_true g h

  abbrev pub if_not : Action → Action → Action
  if_not g h = branch (may_branch c) (λ x. not (is_true x)) g h

  abbrev pub keys_pushed : List ℕ → Action
  keys_pushed [] = nothing
  keys_pushed (n ∷ ns) = ! (<key> n) then keys_pushed ns

  abbrev pub sigs_added : List ℕ → Action
  sigs_added [] = nothing
  sigs_added (n ∷ ns) = ! (<key> n) then ! CHECKSIGADD then sigs_added ns

  abbrev pub sigs_summed : List ℕ → Action
  sigs_summed [] = nothing
  sigs_summed (n ∷ ns) = ! (<key> n) then ! CHECKSIG then sigs_added ns

  abbrev mutual
    pub meaning : Fragment → Action
    meaning False = ! (<n> 0)
    meaning True = ! (<n> 1)
    meaning (PkK n) = ! (<key> n)
    meaning (PkH n) = ! DUP then ! (HASH Hash160) then ! (<keyhash> n) then ! EQUALVERIFY
    meaning (Lock kind n) = ! (<n> n) then ! (time_word kind)
    meaning (Hash kind h) = ! SIZE then ! (<n> 32) then ! EQUALVERIFY then ! (HASH kind) then ! (<h> kind h) then ! EQUAL
    meaning (Alt x) = ! TOALTSTACK then meaning x then ! FROMALTSTACK
    meaning (Swap x) = ! SWAP then meaning x
    meaning (Check x) = meaning x then ! CHECKSIG
    meaning (DupIf x) = ! DUP then if (meaning x) nothing
    meaning (Verify x) = meaning x then ! VERIFY
    meaning (NonZero x) = ! SIZE then ! 0NOTEQUAL then if (meaning x) nothing
    meaning (ZeroNotEqual x) = meaning x then ! 0NOTEQUAL
    meaning (AndB x y) = meaning x then meaning y then ! BOOLAND
    meaning (AndV x y) = meaning x then meaning y
    meaning (OrB x y) = meaning x then meaning y then ! BOOLOR
    meaning (OrD x y) = meaning x then ! IFDUP then if_not (meaning y) nothing
    meaning (OrC x y) = meaning x then if_not (meaning y) nothing
    meaning (OrI x y) = if (meaning x) (meaning y)
    meaning (AndOr x y z) = meaning x then if_not (meaning z) (meaning y)
    meaning (Thresh k xs) = summed xs then ! (<n> k) then ! EQUAL
    meaning (Multi k keys) = ! (<n> k) then keys_pushed keys then ! (<n> (length keys)) then ! CHECKMULTISIG
    meaning (MultiA k keys) = sigs_summed keys then ! (<n> k) then ! NUMEQUAL

    pub summed : Fragments → Action
    summed end = nothing
    summed (x ▹ xs) = meaning x then added xs

    pub added : Fragments → Action
    added end = nothing
    added (x ▹ xs) = meaning x then ! ADD then added xs

  -- the script of each fragment does what it means
  keys-mean : (ns : List ℕ) → Means c o (map <key> ns) (keys_pushed ns)
  keys-mean [] = no_word
  keys-mean (n ∷ ns) = word (<key> n) refl ⨾ keys-mean ns

  sigs-added : (ns : List ℕ) → Means c o (sig_adds ns) (sigs_added ns)
  sigs-added [] = no_word
  sigs-added (n ∷ ns) = word (<key> n) refl ⨾ word CHECKSIGADD refl ⨾ sigs-added ns

  sigs-summed : (ns : List ℕ) → Means c o (sig_sum ns) (sigs_summed ns)
  sigs-summed [] = no_word
  sigs-summed (n ∷ ns) = word (<key> n) refl ⨾ word CHECKSIG refl ⨾ sigs-added ns

  lock-means : (kind : LockKind) (n : ℕ) → Means c o (⟦◌⟧ and_verify (Lock kind n)) (meaning (Lock kind n))
  unfolding ⟦◌⟧
  lock-means After n = word (<n> n) refl ⨾ word CHECKLOCKTIMEVERIFY refl
  lock-means Older n = word (<n> n) refl ⨾ word CHECKSEQUENCEVERIFY refl

  mutual
    unfolding ⟦◌⟧ sum adds

    pub means : (f : Fragment) → Means c o (⟦◌⟧ and_verify f) (meaning f)
    means False = word (<n> 0) refl
    means True = word (<n> 1) refl
    means (PkK n) = word (<key> n) refl
    means (PkH n) = word DUP refl ⨾ word (HASH Hash160) refl ⨾ word (<keyhash> n) refl ⨾ word EQUALVERIFY refl
    means (Lock kind n) = lock-means kind n
    means (Hash kind h) =
        word SIZE refl ⨾ word (<n> 32) refl ⨾ word EQUALVERIFY refl ⨾ word (HASH kind) refl ⨾ word (<h> kind h) refl ⨾ word EQUAL refl
    means (Alt x) = word TOALTSTACK refl ⨾ means x ⨾ word FROMALTSTACK refl
    means (Swap x) = word SWAP refl ⨾ means x
    means (Check x) = means x ⨾ word CHECKSIG refl
    means (DupIf x) = word DUP refl ⨾ opt IF refl (means x)
    means (Verify x) = means x ⨾ word VERIFY refl
    means (NonZero x) = word SIZE refl ⨾ word 0NOTEQUAL refl ⨾ opt IF refl (means x)
    means (ZeroNotEqual x) = means x ⨾ word 0NOTEQUAL refl
    means (AndB x y) = rw append_assoc (means x ⨾ means y ⨾ word BOOLAND refl)
    means (AndV x y) = means x ⨾ means y
    means (OrB x y) = rw append_assoc (means x ⨾ means y ⨾ word BOOLOR refl)
    means (OrD x y) = rw append_assoc (means x ⨾ word IFDUP refl ⨾ opt NOTIF refl (means y))
    means (OrC x y) = rw append_assoc (means x ⨾ opt NOTIF refl (means y))
    means (OrI x y) = rw append_assoc (alt IF refl (means x) (means y))
    means (AndOr x y z) =
        rw (append_assoc (⟦◌⟧ and_verify x ++ NOTIF ∷ ⟦◌⟧ and_verify z), append_assoc (⟦◌⟧ and_verify x))
        (means x ⨾ alt NOTIF refl (means z) (means y))
    means (Thresh k xs) = sum-means xs ⨾ word (<n> k) refl ⨾ word EQUAL refl
    means (Multi k keys) = word (<n> k) refl ⨾ keys-mean keys ⨾ word (<n> (length keys)) refl ⨾ word CHECKMULTISIG refl
    means (MultiA k keys) = sigs-summed keys ⨾ word (<n> k) refl ⨾ word NUMEQUAL refl

    sum-means : (xs : Fragments) → Means c o (sum and_verify xs) (summed xs)
    sum-means end = no_word
    sum-means (x ▹ xs) = means x ⨾ adds-mean xs

    adds-mean : (xs : Fragments) → Means c o (adds and_verify xs) (added xs)
    adds-mean end = no_word
    adds-mean (x ▹ xs) = means x ⨾ word ADD refl ⨾ adds-mean xs
