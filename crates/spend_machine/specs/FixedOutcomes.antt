-- Recorded outcomes that fixed outcomes would give: their run is the one that demand 3 speaks of. Document 02, R-6, and document 01, "What a
-- fragment's script does" (a signature outcome is fixed by keys and signatures, a hash by its kind and input, a time check by its kind and number).
use Rattle.std.specs.Prelude.{ℕ, Bool, true, false, ◌&&◌, cond, List, [], ◌∷◌, ◌++◌, ◌≡◌, ℤ, pos, negsuc, take, drop, Option, None, Some}
use Rattle.contexts.specs.declared.Context.{Context}
use Rattle.trees.specs.Fragment.{Fragment}
use Rattle.script_machine.specs.Numbers.{Bytes, Stack, read}
use Rattle.script_machine.specs.Words.{Word}
use Rattle.script_machine.specs.Machine.{Outcomes, State, aborted, state, all_true, step, effect, run}
use Rattle.script_machine.specs.Translation.{script}
use Rattle.script_bytes.specs.Tables.{Tables, key, key_hash, hash}
use Rattle.spend_machine.specs.Entries.{Outcome, no, yes, digest, End, aborts, leaves, Entry}
use Rattle.spend_machine.specs.Recorded.{Question, a_digest, a_signature, an_added_signature, signatures, a_time, asks}
use Rattle.spend_machine.specs.Recorded.{fits, Run, stands, large, believing, recorded_run}
use Rattle.spend_machine.specs.Verdicts.{small_entry, replay, verdict, Verdict, agrees, too_large}

abbrev pub said : Bool → Outcome
said true = yes
said false = no

-- The top element and those below it; a count and so many elements below it. `no` where they are missing, which no word asks about.
abbrev pub top : Stack → (Bytes → Stack → Outcome) → Outcome
top [] k = no
top (x ∷ m) k = k x m

abbrev pub count_of : ℤ → ℕ
count_of (pos n) = n
count_of (negsuc n) = 0

abbrev pub group : Stack → (Stack → Stack → Outcome) → Outcome
group m k = top m λ x m. k (take (count_of (read x)) m) (drop (count_of (read x)) m)

-- What fixed outcomes say to a question, by the elements that the word takes.
abbrev pub given : Outcomes → Question → Stack → Outcome
given o (a_digest kind) m = top m λ x m. digest (o.hash kind x)
given o a_signature m = top m λ key m. top m λ sig m. said (o.signs key sig)
given o an_added_signature m = top m λ key m. top m λ number m. top m λ sig m. said (o.signs key sig)
given o signatures m = group m λ keys m. group m λ sigs m. said (o.all_sign keys sigs)
given o (a_time kind) m = top m λ x m. said (o.time_passes kind (read x))

module _ (c : Context) (t : Tables) (o : Outcomes) where
  -- Fixed outcomes whose keys and hashes are the tables'.
  abbrev pub with_tables : Outcomes
  with_tables =
      record {
        key = key c t;
        key_hash = key_hash t;
        hash_value = hash t;
        hash = o.hash;
        signs = o.signs;
        all_sign = o.all_sign;
        time_passes = o.time_passes;
      }

  abbrev pub fixed_step : Word → Stack → Stack → List Bool → State
  fixed_step w m a cs = step (effect c with_tables w) m a cs

  -- The outcome that a word asks for, where it is carried out and comes to ask.
  abbrev pub unless_aborted : State → List Outcome → List Outcome
  unless_aborted aborted rs = []
  unless_aborted (state m a cs) rs = rs

  abbrev pub asked_by : Option Question → Word → Stack → Stack → List Bool → List Outcome
  asked_by None w m a cs = []
  asked_by (Some q) w m a cs = cond (all_true cs) (unless_aborted (step (effect c (believing c t yes) w) m a cs) (given o q m ∷ [])) []

  -- The outcomes that a run asks for, in order.
  unfoldable pub asked : List Word → State → List Outcome
  asked [] s = []
  asked (w ∷ ws) aborted = []
  asked (w ∷ ws) (state m a cs) = asked_by (asks w) w m a cs ++ asked ws (fixed_step w m a cs)

  -- Whether no word of a run leaves more than 4,096 elements.
  unfoldable pub stays_small : List Word → State → Bool
  stays_small [] s = true
  stays_small (w ∷ ws) aborted = true
  stays_small (w ∷ ws) (state m a cs) = fits (fixed_step w m a cs) && stays_small ws (fixed_step w m a cs)

-- Where the recorded outcomes begin with those that fixed outcomes give, the run ends as the run with the fixed outcomes does, and the others
-- are left; unless it becomes too large.
abbrev pub RunsAsFixed : Type 0
RunsAsFixed =
    (c : Context) (t : Tables) (o : Outcomes) (ws : List Word) (s : State) (rs : List Outcome)
    → recorded_run c t ws (stands s (asked c t o ws s ++ rs)) ≡ cond (stays_small c t o ws s) (stands (run c (with_tables c t o) ws s) rs) large

-- The entry that records a spend under fixed outcomes.
abbrev pub end_of : State → End
end_of aborted = aborts
end_of (state m a cs) = leaves m

module _ (c : Context) (t : Tables) (o : Outcomes) (f : Fragment) where
  abbrev pub started : Stack → State
  started m = state m [] []

  abbrev pub own_entry : (number : ℕ) → Stack → Entry
  own_entry number m =
      record {
        number = number;
        start = m;
        outcomes = asked c t o (script f) (started m);
        recorded = end_of (run c (with_tables c t o) (script f) (started m));
      }

-- It agrees, unless it is too large.
abbrev pub OwnAgrees : Type 0
OwnAgrees =
    (c : Context) (t : Tables) (o : Outcomes) (f : Fragment) (number : ℕ) (m : Stack)
    → verdict c t f (own_entry c t o f number m)
    ≡ cond (small_entry (own_entry c t o f number m) && stays_small c t o (script f) (started c t o f m)) agrees too_large
