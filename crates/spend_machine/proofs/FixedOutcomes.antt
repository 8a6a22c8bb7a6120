-- A run with the outcomes that fixed outcomes give is the run with the fixed outcomes.
use Prim.Native.Nat.{ℕ, zero, suc}
use mathlib.Core.Bool.{Bool, true, false, not, ◌&&◌, cond}
use mathlib.Core.List.{List, [], ◌∷◌, ◌++◌, append-nil, append_assoc}
use Rattle.std.specs.Prelude.{Some}
use mathlib.Core.Path.{◌≡◌, refl, sym, ◌∙◌}
use lib.Dec.{T, leb, eqb, eqb_refl}
use lib.IntN.{ℤ, pos, negsuc}
use lib.ListN.{length, take, drop}
use Rattle.contexts.specs.Leaves.{LockKind, After, Older, HashKind}
use Rattle.contexts.specs.declared.Context.{Context}
use Rattle.trees.specs.Fragment.{Fragment}
use Rattle.script_machine.specs.Numbers.{Bytes, Stack, is_true, element, same, read}
use Rattle.script_machine.specs.Words.{Word, <n>, <key>, <keyhash>, <h>, DUP, IFDUP, SWAP, SIZE, TOALTSTACK, FROMALTSTACK, VERIFY, HASH}
use Rattle.script_machine.specs.Words.{CHECKLOCKTIMEVERIFY, CHECKSEQUENCEVERIFY, 0NOTEQUAL, BOOLAND, BOOLOR, ADD, IF, NOTIF, ELSE, ENDIF}
use Rattle.script_machine.specs.Words.{EQUAL, NUMEQUAL, CHECKSIG, CHECKMULTISIG, CHECKSIGADD}
use Rattle.script_machine.specs.Words.{EQUALVERIFY, NUMEQUALVERIFY, CHECKSIGVERIFY, CHECKMULTISIGVERIFY}
use Rattle.script_machine.specs.Machine.{Outcomes, Result, abort, done, Action, ok, pop, pop_many, pop_count, pop_group, takes, works, effect, State, aborted, state, all_true, under, step, run}
use Rattle.script_machine.specs.Machine.{check_sig, check_multi_sig, check_time, check_sig_add, verify, and_then, ◌then◌}
use Rattle.script_machine.specs.Translation.{script}
use Rattle.script_machine.specs.WorkedRuns.{same_stack}
use Rattle.script_bytes.specs.Tables.{Tables}
use Rattle.spend_machine.specs.Entries.{Outcome, no, yes, digest}
use Rattle.spend_machine.specs.Recorded.{Question, a_digest, a_signature, an_added_signature, signatures, a_time, asks, suits, is_yes, is_digest, digest_of}
use Rattle.spend_machine.specs.Recorded.{fits, within, Run, stands, stuck, large, believing, step_believing, taking, asking, questioned, recorded_step, recorded_run}
use Rattle.spend_machine.specs.FixedOutcomes.{said, count_of, group, given, with_tables, fixed_step, unless_aborted, asked_by, asked, stays_small, RunsAsFixed, end_of, own_entry, OwnAgrees}
use Rattle.spend_machine.specs.Verdicts.{small_entry, same_end, judged, replay, verdict, agrees, too_large}

-- What a word does on a yes, under fixed outcomes, and with the outcome r that they give: it aborts before it asks, or the last two are one.
pub data Reach (q : Question) (r : Outcome) : Result → Result → Result → Type 0 where
  before : {z : Result} → Reach q r abort abort z
  reached : {m a : Stack} {z : Result} → suits q r ≡ true → Reach q r (done m a) z z

said-suits : (b : Bool) → not (is_digest (said b)) ≡ true
said-suits true = refl
said-suits false = refl

said-yes : (b : Bool) → is_yes (said b) ≡ b
said-yes true = refl
said-yes false = refl

-- a result that is no abort
pub data Passes : Result → Type 0 where
  going : {m a : Stack} → Passes (done m a)

-- w is what comes behind a word: nothing, or a VERIFY
module _ (w : Result → Result) (e : w abort ≡ abort) (q : Question) (r : Outcome) where
  -- a test that comes before the question
  ok-reach : (b : Bool) (x y z : Result) → Reach q r (w x) (w y) (w z) → Reach q r (w (ok b x)) (w (ok b y)) (w (ok b z))
  unfolding ok
  ok-reach true x y z p = p
  ok-reach false x y z p = rw e before

  -- the operands of CHECKMULTISIG
  many-reach : (n : ℕ) (m : Stack) (x y z : Stack → Stack → Result)
      → Reach q r (w (x (take n m) (drop n m))) (w (y (take n m) (drop n m))) (w (z (take n m) (drop n m)))
      → Reach q r (w (pop_many n m x)) (w (pop_many n m y)) (w (pop_many n m z))
  many-reach zero m x y z p = p
  many-reach (suc n) [] x y z p = rw e before
  many-reach (suc n) (d ∷ m) x y z p = many-reach n m (λ ds m. x (d ∷ ds) m) (λ ds m. y (d ∷ ds) m) (λ ds m. z (d ∷ ds) m) p

  count-reach : (i : ℤ) (m : Stack) (x y z : Stack → Stack → Result)
      → Reach q r (w (x (take (count_of i) m) (drop (count_of i) m))) (w (y (take (count_of i) m) (drop (count_of i) m)))
      (w (z (take (count_of i) m) (drop (count_of i) m)))
      → Reach q r (w (pop_count i λ n. pop_many n m x)) (w (pop_count i λ n. pop_many n m y)) (w (pop_count i λ n. pop_many n m z))
  count-reach (pos n) m x y z p = many-reach n m x y z p
  count-reach (negsuc n) m x y z p = rw e before

-- each word that asks
module _ (o : Outcomes) where
  hash-reach : (kind : HashKind) (m a : Stack)
      → Reach (a_digest kind) (given o (a_digest kind) m) (takes (λ x. [] ∷ []) m a) (takes (λ x. o.hash kind x ∷ []) m a)
      (takes (λ x. digest_of (given o (a_digest kind) m) ∷ []) m a)
  hash-reach kind [] a = before
  hash-reach kind (x ∷ m) a = reached refl

  sig-reach : (m a : Stack) → Reach a_signature (given o a_signature m) (check_sig (λ k s. true) m a) (check_sig o.signs m a)
      (check_sig (λ k s. is_yes (given o a_signature m)) m a)
  sig-reach [] a = before
  sig-reach (k ∷ []) a = before
  sig-reach (k ∷ s ∷ m) a = rw said-yes (reached (said-suits (o.signs k s)))

  sig-verify-reach : (m a : Stack)
      → Reach a_signature (given o a_signature m) ((check_sig (λ k s. true) then verify) m a) ((check_sig o.signs then verify) m a)
      ((check_sig (λ k s. is_yes (given o a_signature m)) then verify) m a)
  unfolding ok is_true element
  sig-verify-reach [] a = before
  sig-verify-reach (k ∷ []) a = before
  sig-verify-reach (k ∷ s ∷ m) a = rw said-yes (reached (said-suits (o.signs k s)))

  add-reach : (m a : Stack)
      → Reach an_added_signature (given o an_added_signature m) (check_sig_add (λ k s. true) m a) (check_sig_add o.signs m a)
      (check_sig_add (λ k s. is_yes (given o an_added_signature m)) m a)
  add-reach [] a = before
  add-reach (k ∷ []) a = before
  add-reach (k ∷ x ∷ []) a = before
  add-reach (k ∷ x ∷ s ∷ m) a = ok-reach (λ r. r) refl _ _ (leb (length x) 4) _ _ _ (rw said-yes (reached (said-suits (o.signs k s))))

  time-reach : (kind : LockKind) (m a : Stack)
      → Reach (a_time kind) (given o (a_time kind) m) (check_time (λ i. true) m a) (check_time (o.time_passes kind) m a)
      (check_time (λ i. is_yes (given o (a_time kind) m)) m a)
  unfolding ok
  time-reach kind [] a = before
  time-reach kind (x ∷ m) a = ok-reach (λ r. r) refl _ _ (leb (length x) 4) _ _ _ (rw said-yes (reached (said-suits (o.time_passes kind (read x)))))

  module _ (w : Result → Result) (e : w abort ≡ abort) (passes : (m a : Stack) → Passes (w (done (element true ∷ m) a))) where
    abbrev dummied : Bool → Stack → Stack → Result
    dummied b m a = pop m λ dummy m. ok (same dummy []) (done (element b ∷ m) a)

    dummy-reach : (b : Bool) (m a : Stack)
        → Reach signatures (said b) (w (dummied true m a)) (w (dummied b m a)) (w (dummied (is_yes (said b)) m a))
    dummy-reach b [] a = rw e before
    dummy-reach b (d ∷ m) a = ok-reach w e _ _ (same d []) _ _ _ (rw said-yes (passed (passes m a)))
      where
        passed : {x : Result} → Passes x → Reach signatures (said b) x (w (done (element b ∷ m) a)) (w (done (element b ∷ m) a))
        passed going = reached (said-suits b)

    abbrev signed : (Stack → Bool) → Stack → Stack → Result
    signed good m a = pop_group m λ sigs m. dummied (good sigs) m a

    sigs-reach : (keys m a : Stack)
        → Reach signatures (group m λ sigs m. said (o.all_sign keys sigs)) (w (signed (λ sigs. true) m a)) (w (signed (o.all_sign keys) m a))
        (w (signed (λ sigs. is_yes (group m λ sigs m. said (o.all_sign keys sigs))) m a))
    sigs-reach keys [] a = rw e before
    sigs-reach keys (x ∷ m) a = ok-reach w e _ _ (leb (length x) 4) _ _ _
        (count-reach w e _ _ (read x) m _ _ _ (dummy-reach (o.all_sign keys (take (count_of (read x)) m)) (drop (count_of (read x)) m) a))

    multi-reach : (m a : Stack)
        → Reach signatures (given o signatures m) (w (check_multi_sig (λ ks ss. true) m a)) (w (check_multi_sig o.all_sign m a))
        (w (check_multi_sig (λ ks ss. is_yes (given o signatures m)) m a))
    multi-reach [] a = rw e before
    multi-reach (x ∷ m) a = ok-reach w e _ _ (leb (length x) 4) _ _ _
        (count-reach w e _ _ (read x) m _ _ _ (sigs-reach (take (count_of (read x)) m) (drop (count_of (read x)) m) a))

  verify-passes : (m a : Stack) → Passes (and_then (done (element true ∷ m) a) verify)
  unfolding ok is_true element
  verify-passes m a = going

-- one word
module _ (c : Context) (t : Tables) (o : Outcomes) where
  asks-as-fixed : (q : Question) (w : Word) (g : Outcome → Action) (h : Action)
      → ((r : Outcome) → effect c (believing c t r) w ≡ works (g r)) → effect c (with_tables c t o) w ≡ works h
      → (m a : Stack) (cs : List Bool) (rs : List Outcome) → Reach q (given o q m) (g yes m a) (h m a) (g (given o q m) m a)
      → questioned c t (Some q) w m a cs (asked_by c t o (Some q) w m a cs ++ rs) ≡ within (fixed_step c t o w m a cs) rs
  unfolding step
  asks-as-fixed q w g h e d m a cs rs p = rw (e yes, d) (go (all_true cs) refl p refl)
    where
      go : (b : Bool) → all_true cs ≡ b → {x y z : Result} → Reach q (given o q m) x y z → g (given o q m) m a ≡ z
          → cond b (asking c t (cond b (under cs x) (state m a cs)) q w m a cs
          (cond b (unless_aborted c t o (cond b (under cs x) (state m a cs)) (given o q m ∷ [])) [] ++ rs))
          (within (state m a cs) (cond b (unless_aborted c t o (cond b (under cs x) (state m a cs)) (given o q m ∷ [])) [] ++ rs))
          ≡ within (cond b (under cs y) (state m a cs)) rs
      go false f p i = refl
      go true f before i = refl
      go true f (reached u) i = rw (u, e (given o q m), f, i)

  -- every word
  steps-as-fixed : (w : Word) (m a : Stack) (cs : List Bool) (rs : List Outcome)
      → questioned c t (asks w) w m a cs (asked_by c t o (asks w) w m a cs ++ rs) ≡ within (fixed_step c t o w m a cs) rs
  steps-as-fixed (<n> n) m a cs rs = refl
  steps-as-fixed (<key> n) m a cs rs = refl
  steps-as-fixed (<keyhash> n) m a cs rs = refl
  steps-as-fixed (<h> kind n) m a cs rs = refl
  steps-as-fixed DUP m a cs rs = refl
  steps-as-fixed IFDUP m a cs rs = refl
  steps-as-fixed SWAP m a cs rs = refl
  steps-as-fixed SIZE m a cs rs = refl
  steps-as-fixed TOALTSTACK m a cs rs = refl
  steps-as-fixed FROMALTSTACK m a cs rs = refl
  steps-as-fixed VERIFY m a cs rs = refl
  steps-as-fixed (HASH kind) m a cs rs =
      asks-as-fixed (a_digest kind) (HASH kind) (λ r. takes λ x. digest_of r ∷ []) _ (λ r. refl) refl m a cs rs (hash-reach o kind m a)
  steps-as-fixed CHECKLOCKTIMEVERIFY m a cs rs =
      asks-as-fixed (a_time After) CHECKLOCKTIMEVERIFY (λ r. check_time λ i. is_yes r) _ (λ r. refl) refl m a cs rs (time-reach o After m a)
  steps-as-fixed CHECKSEQUENCEVERIFY m a cs rs =
      asks-as-fixed (a_time Older) CHECKSEQUENCEVERIFY (λ r. check_time λ i. is_yes r) _ (λ r. refl) refl m a cs rs (time-reach o Older m a)
  steps-as-fixed 0NOTEQUAL m a cs rs = refl
  steps-as-fixed BOOLAND m a cs rs = refl
  steps-as-fixed BOOLOR m a cs rs = refl
  steps-as-fixed ADD m a cs rs = refl
  steps-as-fixed EQUAL m a cs rs = refl
  steps-as-fixed NUMEQUAL m a cs rs = refl
  steps-as-fixed CHECKSIG m a cs rs =
      asks-as-fixed a_signature CHECKSIG (λ r. check_sig λ k s. is_yes r) _ (λ r. refl) refl m a cs rs (sig-reach o m a)
  steps-as-fixed CHECKMULTISIG m a cs rs =
      asks-as-fixed signatures CHECKMULTISIG (λ r. check_multi_sig λ ks ss. is_yes r) _ (λ r. refl) refl m a cs rs
      (multi-reach o (λ r. r) refl (λ m a. going) m a)
  steps-as-fixed EQUALVERIFY m a cs rs = refl
  steps-as-fixed NUMEQUALVERIFY m a cs rs = refl
  steps-as-fixed CHECKSIGVERIFY m a cs rs =
      asks-as-fixed a_signature CHECKSIGVERIFY (λ r. check_sig (λ k s. is_yes r) then verify) _ (λ r. refl) refl m a cs rs (sig-verify-reach o m a)
  steps-as-fixed CHECKMULTISIGVERIFY m a cs rs =
      asks-as-fixed signatures CHECKMULTISIGVERIFY (λ r. check_multi_sig (λ ks ss. is_yes r) then verify) _ (λ r. refl) refl m a cs rs
      (multi-reach o (λ r. and_then r verify) refl (verify-passes o) m a)
  steps-as-fixed CHECKSIGADD m a cs rs =
      asks-as-fixed an_added_signature CHECKSIGADD (λ r. check_sig_add λ k s. is_yes r) _ (λ r. refl) refl m a cs rs (add-reach o m a)
  steps-as-fixed IF m a cs rs = refl
  steps-as-fixed NOTIF m a cs rs = refl
  steps-as-fixed ELSE m a cs rs = refl
  steps-as-fixed ENDIF m a cs rs = refl

-- runs that go no further
module _ (c : Context) (t : Tables) where
  pub stays-aborted : (ws : List Word) (rs : List Outcome) → recorded_run c t ws (stands aborted rs) ≡ stands aborted rs
  unfolding recorded_run recorded_step
  stays-aborted [] rs = refl
  stays-aborted (w ∷ ws) rs = stays-aborted ws rs

  pub stays-large : (ws : List Word) → recorded_run c t ws large ≡ large
  unfolding recorded_run recorded_step
  stays-large [] = refl
  stays-large (w ∷ ws) = stays-large ws

  pub stays-stuck : (ws : List Word) → recorded_run c t ws stuck ≡ stuck
  unfolding recorded_run recorded_step
  stays-stuck [] = refl
  stays-stuck (w ∷ ws) = stays-stuck ws

pub runs-as-fixed : RunsAsFixed
unfolding recorded_run recorded_step asked stays_small run
runs-as-fixed c t o [] s rs = refl
runs-as-fixed c t o (w ∷ ws) aborted rs = stays-aborted c t ws rs
runs-as-fixed c t o (w ∷ ws) (state m a cs) rs =
    rw (append_assoc (asked_by c t o (asks w) w m a cs), steps-as-fixed c t o w m a cs (asked c t o ws (fixed_step c t o w m a cs) ++ rs))
    (go (fits (fixed_step c t o w m a cs)) (runs-as-fixed c t o ws (fixed_step c t o w m a cs) rs))
  where
    go : (b : Bool)
        → recorded_run c t ws (stands (fixed_step c t o w m a cs) (asked c t o ws (fixed_step c t o w m a cs) ++ rs))
        ≡ cond (stays_small c t o ws (fixed_step c t o w m a cs)) (stands (run c (with_tables c t o) ws (fixed_step c t o w m a cs)) rs) large
        → recorded_run c t ws (cond b (stands (fixed_step c t o w m a cs) (asked c t o ws (fixed_step c t o w m a cs) ++ rs)) large)
        ≡ cond (b && stays_small c t o ws (fixed_step c t o w m a cs)) (stands (run c (with_tables c t o) ws (fixed_step c t o w m a cs)) rs) large
    go true h = h
    go false h = stays-large c t ws

-- a stack is its own equal
T_true : (b : Bool) → T b → b ≡ true
T_true true h = refl
T_true false h = absurd h

same_self : (x : Bytes) → same x x ≡ true
unfolding same
same_self [] = refl
same_self (b ∷ bs) = rw (T_true (eqb b b) (eqb_refl b)) (same_self bs)

same-stack-self : (m : Stack) → same_stack m m ≡ true
unfolding same_stack
same-stack-self [] = refl
same-stack-self (x ∷ m) = rw (same_self x) (same-stack-self m)

own-end : (s : State) → same_end s (end_of s) ≡ true
own-end aborted = refl
own-end (state m a cs) = same-stack-self m

pub own-agrees : OwnAgrees
unfolding verdict replay
own-agrees c t o f number m = by (small_entry (own_entry c t o f number m))
  where
    ends : (b : Bool) → judged (cond b (stands (run c (with_tables c t o) (script f) (state m [] [])) []) large)
        (end_of (run c (with_tables c t o) (script f) (state m [] []))) ≡ cond b agrees too_large
    ends true = rw (own-end (run c (with_tables c t o) (script f) (state m [] [])))
    ends false = refl

    by : (b : Bool) → cond b (judged (recorded_run c t (script f) (stands (state m [] []) (asked c t o (script f) (state m [] []))))
        (end_of (run c (with_tables c t o) (script f) (state m [] [])))) too_large
        ≡ cond (b && stays_small c t o (script f) (state m [] [])) agrees too_large
    by false = refl
    by true = rw (← append-nil (asked c t o (script f) (state m [] [])), runs-as-fixed c t o (script f) (state m [] []) [])
        (ends (stays_small c t o (script f) (state m [] [])))
