-- What the functions between the words that ask answer: the next outcome, a test that it says, and the operands of CHECKMULTISIG.
use Rattle.std.specs.Prelude.{ℕ, ◌<◌, Bool, true, false, not, cond, List, [], ◌∷◌, ◌≡◌, eqb, length, Option, None, Some}
use Rattle.script_machine.specs.Numbers.{Bytes, Stack, element, same}
use Rattle.script_machine.specs.Machine.{Result, abort, done, ok, pop, pop_group, aborted, under}
use Rattle.spend_machine.specs.Entries.{Outcome, no, yes, digest}
use Rattle.spend_machine.specs.Recorded.{Run, stands, stuck, within, is_digest, is_yes}
use Rattle.spend_elements.specs.Elements.{bytes_in}
use Rattle.spend_stack.specs.declared.Machine.{Machine}
use Rattle.spend_stack.specs.Machines.{stack_of, left_of, is_going, run_of, Fits}
use Rattle.spend_asks.specs.declared.Answer.{Answer}
use Rattle.spend_asks.specs.declared.Answer.TheVariants as Answer
use Rattle.spend_asks.specs.declared.Said.{Said}
use Rattle.spend_asks.specs.declared.Said.TheVariants as Said

-- the first of some outcomes, if there is one, and as yes or no
abbrev pub first_of : List Outcome → Option Outcome
first_of [] = None
first_of (r ∷ rs) = Some r

abbrev pub answered : Bytes → Answer → Option Outcome
answered log Answer.Missing = None
answered log Answer.No = Some no
answered log Answer.Yes = Some yes
answered log (Answer.Digest e) = Some (digest (bytes_in log e))

abbrev pub said_by : Option Outcome → Said
said_by None = Said.Neither
said_by (Some no) = Said.No
said_by (Some yes) = Said.Yes
said_by (Some (digest x)) = Said.Neither

abbrev pub said_of : List Outcome → Said
said_of rs = said_by (first_of rs)

-- a word that asks for yes or no, by what it does on each; it does not ask where it aborts on yes
abbrev pub told : (Bool → Result) → List Outcome → Run
told g [] = stuck
told g (r ∷ rs) = cond (not (is_digest r)) (within (under [] (g (is_yes r))) rs) stuck

abbrev pub asked : Result → (Bool → Result) → List Outcome → Run
asked abort g rs = stands aborted rs
asked (done m a) g rs = told g rs

-- the test that the next outcome says was put over the lowest n elements of the main stack
pub record SaysOver (log before after : List ℕ) (m : Machine) (n : ℕ) (r : Machine) : Type 0 where
  pub says : is_going m ≡ true → (alt : List ℕ)
      → run_of log after alt r ≡ told (λ b. done (element b ∷ stack_of log before n) (stack_of log alt m.alt)) (left_of log m)
  pub fits : Fits log after r
  pub same : length after ≡ length before

-- a count on top of a stack and so many elements below it: what comes behind is done to the others
abbrev pub behind : (log memory : List ℕ) → Option ℕ → (Stack → Result) → Result
behind log memory None k = abort
behind log memory (Some n) k = k (stack_of log memory n)

abbrev pub below : Option ℕ → ℕ → Type 0
below None n = Unit
below (Some p) n = p < n

pub record Grouped (log memory : List ℕ) (n : ℕ) (r : Option ℕ) : Type 0 where
  pub says : (k : Stack → Result) → pop_group (stack_of log memory n) (λ xs m. k m) ≡ behind log memory r k
  pub less : below r n

-- whether the empty element is on top
abbrev pub dummy_on : Stack → Bool
dummy_on [] = false
dummy_on (x ∷ m) = eqb (length x) 0

-- what CHECKMULTISIG does behind its keys, with a good outcome or not
abbrev pub signed : Stack → Stack → Bool → Result
signed m a b = pop_group m λ sigs m. pop m λ dummy m. ok (same dummy []) (done (element b ∷ m) a)

pub record ChecksSignatures (log before after : List ℕ) (m : Machine) (n : ℕ) (r : Machine) : Type 0 where
  pub says : is_going m ≡ true → (alt : List ℕ)
      → run_of log after alt r
      ≡ asked (signed (stack_of log before n) (stack_of log alt m.alt) true) (signed (stack_of log before n) (stack_of log alt m.alt))
      (left_of log m)
  pub fits : Fits log after r
  pub same : length after ≡ length before
