-- The choice and the writing: what their parts tell of what their definitions give. Assumes nothing.
use Rattle.refusals.specs.Numbers.{number_of}
use Rattle.refusals.specs.declared.Refusal.{Refusal}
use mathlib.Core.Bool.{Bool, true, false, cond}
use mathlib.Core.List.{List, ◌++◌}
use Rattle.std.specs.Prelude.{Option, None, Some, Result, Ok, Err}
use mathlib.Core.Path.{◌≡◌, refl, sym, ap, subst, ◌∙◌}
use Prim.Native.Nat.{ℕ, ◌<◌, ◌≤◌}
use native.Mathlib.Omega.{arith}
use borrow.Author.Tests.{eqb-true, le-leb, lt-leb}
use lib.Dec.{eqb, leb}
use lib.ListN.{length, take, drop, replicate, length-append, length-drop}
use lib.Seq.{take_at, drop_at, length-take-le}
use Rattle.words.specs.Memory.{zeroed}
use Rattle.contexts.specs.declared.Context.{Context}
use Rattle.costs.specs.declared.Price.{Price}
use Rattle.costs.specs.Price.{cost_bits, never_flag}
use Rattle.memory.specs.Layout.{work_words}
use Rattle.definition.specs.Refusals.{OutputTooSmall}
use Rattle.definition.specs.Compile.{Outcome, compiled, refused_with, compile_in, context_of, compile}
use Rattle.compile.specs.declared.Compiled.{Compiled}
use Rattle.compile.specs.Answers as Compile
use Rattle.compile.specs.Answers.{Compiles}
use Rattle.chosen.specs.Form.{tree_bytes, most_bytes, holding, room_in}
use Rattle.chosen.specs.Chosen.{all_zero, chosen_of}
use Rattle.chosen.specs.Answers as Chosen
use Rattle.chosen.specs.Answers.{Tells}
use Rattle.chosen.proofs.Words.{room_whole}
use Rattle.chosen.proofs.Zeros.{zero-drop}
use Rattle.claspwillow.specs.Results.{number_in, bytes_in, cost_in, never_in, nodes_in, Chooses, chooses, refuses, Puts, puts, leaves}
use Rattle.claspwillow.specs.Promises.{number_of_outcome, bytes_written, cost_given, never_given, nodes_used, given, choice, memory_after, ChoosePromise}
use Rattle.claspwillow.specs.Promises.{Writing, wrote, unwritten, writing, number_of_writing, output_of_writing, bytes_of_writing, WritePromise}

-- ---- what compile tells

-- work memory has its length where a tree was chosen
pub work-fits : (context : ℕ) (policy work : List ℕ) (room : ℕ) {bytes : List ℕ} {price : Price} {nodes : ℕ}
    → compile context (eqb (length work) work_words) policy room ≡ compiled bytes price nodes → length work ≡ work_words
unfolding compile
work-fits context policy work room {bytes} {price} {nodes} e = by_length (eqb (length work) work_words) refl e
  where
    no-context : (o : Option Context) → compile_in context false room policy o ≡ compiled bytes price nodes → ⊥
    no-context None e = let z : ◌≡◌ {A = ℕ} 0 1 = cc in omega arith
    no-context (Some c) e = let z : ◌≡◌ {A = ℕ} 0 1 = cc in omega arith

    by_length : (t : Bool) → eqb (length work) work_words ≡ t → compile_in context t room policy (context_of context) ≡ compiled bytes price nodes
        → length work ≡ work_words
    by_length true l e = eqb-true (length work) work_words l
    by_length false l e = absurd (no-context (context_of context) e)

-- what an answer with a tree says of the definition and of the output
pub record Told (o : Outcome) (out₀ out : List ℕ) (c : Compiled) : Type 0 where
  pub bytes : List ℕ
  pub price : Price
  pub is : o ≡ compiled bytes price c.nodes
  pub costs : c.cost ≡ cost_bits price
  pub nevers : c.never ≡ never_flag price
  pub count : length bytes ≡ c.bytes
  pub output : out ≡ bytes ++ drop c.bytes out₀

pub compiled-told : {o : Outcome} {out₀ out : List ℕ} {c : Compiled} → Compiles o out₀ out (Ok c) → Told o out₀ out c
compiled-told (Compile.compiles bytes price e b f l w) =
    record { bytes = bytes; price = price; is = e; costs = b; nevers = f; count = l; output = w }

pub refused-told : {o : Outcome} {out₀ out : List ℕ} {r : Refusal} → Compiles o out₀ out (Err r) → o ≡ refused_with (number_of r)
refused-told (Compile.refuses e w) = e

-- ---- the choice

module _ {o : Outcome} {out₀ out : List ℕ} {c : Compiled} (told : Told o out₀ out c) where
  pub zeros-behind : all_zero out₀ ≡ true → all_zero (drop c.bytes out) ≡ true
  zeros-behind z =
      ap (λ (l : List ℕ). all_zero (drop c.bytes l)) told.output ∙ ap all_zero (drop_at told.bytes (drop c.bytes out₀) c.bytes told.count)
      ∙ zero-drop c.bytes out₀ z

  pub fits_in : length out ≡ length out₀ → c.bytes ≤ length out₀
  fits_in e =
      let all = length-append told.bytes (drop c.bytes out₀) in
      omega (arith, ap length told.output, length-drop c.bytes out₀, told.count)

  pub chosen-held : {work after : List ℕ} → after ≡ holding (take c.bytes out) → Chooses o work after (Ok c)
  chosen-held e =
      chooses told.bytes told.price told.is told.costs told.nevers told.count
      (e ∙ ap holding (ap (take c.bytes) told.output ∙ take_at told.bytes (drop c.bytes out₀) c.bytes told.count))

-- compile into an output of zeros, and what it leaves there

module _ (context : ℕ) (policy work out₀ : List ℕ) (long : length out₀ ≡ most_bytes) (blank : all_zero out₀ ≡ true) {out : List ℕ} where
  as-chosen : {r : Result Compiled Refusal} → Compiles (given context policy out₀ work) out₀ out r → Compiles (choice context policy work) out₀ out r
  as-chosen {r} h =
      subst (λ (o : Outcome). Compiles o out₀ out r) (ap (λ (k : ℕ). compile context (eqb (length work) work_words) policy k) long) h

  module _ {c : Compiled} (h : Compiles (given context policy out₀ work) out₀ out (Ok c)) where
    told : Told (choice context policy work) out₀ out c
    told = compiled-told (as-chosen h)

    -- the memory has its length, the bytes are not too many, and zeros stand behind them
    pub choice-ready : (length work ≡ work_words) × (length out ≡ length out₀ → c.bytes ≤ most_bytes) × (all_zero (drop c.bytes out) ≡ true)
    choice-ready = (
      work-fits context policy work most_bytes told.is,
      (λ e. omega (arith, fits_in told e, long)),
      zeros-behind told blank,
    )

    pub choice-held : {after : List ℕ} → after ≡ holding (take c.bytes out) → Chooses (choice context policy work) work after (Ok c)
    choice-held e = chosen-held told e

  pub choice-refused : {r : Refusal} → Compiles (given context policy out₀ work) out₀ out (Err r) → (worked : List ℕ) {after : List ℕ}
      → after ≡ zeroed worked → length worked ≡ length work → Chooses (choice context policy work) work after (Err r)
  choice-refused h worked cleared same = refuses (refused-told (as-chosen h)) (cleared ∙ ap (λ (k : ℕ). replicate k 0) same)

pub chosen-promised : (context : ℕ) (policy work : List ℕ) {after : List ℕ} {r : Result Compiled Refusal} {number bytes cost never nodes : ℕ}
    → Chooses (choice context policy work) work after r
    → number ≡ number_in r → bytes ≡ bytes_in r → cost ≡ cost_in r → never ≡ never_in r → nodes ≡ nodes_in r
    → ChoosePromise context policy work number bytes cost never nodes after
chosen-promised context policy work (chooses b price e c f l h) number bytes cost never nodes = record {
  gives = number ∙ ap number_of_outcome (sym e);
  counts = bytes ∙ sym l ∙ ap bytes_written (sym e);
  costs = cost ∙ c ∙ ap cost_given (sym e);
  tells = never ∙ f ∙ ap never_given (sym e);
  uses = nodes ∙ ap nodes_used (sym e);
  leaves = h ∙ ap (λ (o : Outcome). memory_after o work) (sym e);
}
chosen-promised context policy work (refuses e h) number bytes cost never nodes = record {
  gives = number ∙ ap number_of_outcome (sym e);
  counts = bytes ∙ ap bytes_written (sym e);
  costs = cost ∙ ap cost_given (sym e);
  tells = never ∙ ap never_given (sym e);
  uses = nodes ∙ ap nodes_used (sym e);
  leaves = h ∙ ap (λ (o : Outcome). memory_after o work) (sym e);
}

-- ---- the writing

-- what a memory that holds n bytes says
pub record Held-told (m : List ℕ) (n : ℕ) : Type 0 where
  pub is : chosen_of m ≡ Some (take n (room_in m))
  pub few : n ≤ tree_bytes
  pub long : length m ≡ work_words
  pub count : length (take n (room_in m)) ≡ n

pub held-told : {m : List ℕ} {n : ℕ} → Tells m (Some n) → Held-told m n
held-told {m} {n} (Chosen.bytes is few long) =
    record { is = is; few = few; long = long; count = length-take-le n (room_in m) (omega (arith, room_whole m long)) }

pub nothing-told : {m : List ℕ} → Tells m None → chosen_of m ≡ None
nothing-told (Chosen.nothing is) = is

pub bad-memory : (m out : List ℕ) → chosen_of m ≡ None → Puts (writing (chosen_of m) (length out)) out out (Err Refusal.BadWork)
bad-memory m out e = leaves (ap (λ (o : Option (List ℕ)). writing o (length out)) e) refl

module _ {m : List ℕ} {n : ℕ} (told : Held-told m n) (out : List ℕ) where
  by-room : (t : Bool) → leb n (length out) ≡ t
      → writing (chosen_of m) (length out) ≡ cond t (wrote (take n (room_in m))) (unwritten OutputTooSmall)
  by-room t e =
      ap (λ (o : Option (List ℕ)). writing o (length out)) told.is
      ∙ ap (λ (k : ℕ). cond (leb k (length out)) (wrote (take n (room_in m))) (unwritten OutputTooSmall)) told.count
      ∙ ap (λ (b : Bool). cond b (wrote (take n (room_in m))) (unwritten OutputTooSmall)) e

  pub no_room : length out < n → Puts (writing (chosen_of m) (length out)) out out (Err Refusal.OutputTooSmall)
  no_room h = leaves (by-room false (lt-leb n (length out) h)) refl

  pub put-there : n ≤ length out → (left : List ℕ) → left ≡ take n (room_in m) ++ drop n out
      → Puts (writing (chosen_of m) (length out)) out left (Ok n)
  put-there h left e = puts (take n (room_in m)) (by-room true (le-leb n (length out) h)) told.count e

all-cleared : (work worked : List ℕ) {after : List ℕ} → length worked ≡ length work → after ≡ zeroed worked → after ≡ zeroed work
all-cleared work worked same cleared = cleared ∙ ap (λ (n : ℕ). replicate n 0) same

module _ (out work worked : List ℕ) {left after : List ℕ} (same : length worked ≡ length work) (cleared : after ≡ zeroed worked) where
  pub written-promised : {n : ℕ} → Puts (writing (chosen_of work) (length out)) out left (Ok n) → WritePromise out work 0 left n after
  written-promised (puts b e l w) = record {
    gives = ap number_of_writing (sym e);
    writes = w ∙ ap (λ (k : ℕ). b ++ drop k out) (sym l) ∙ ap (λ (x : Writing). output_of_writing x out) (sym e);
    counts = sym l ∙ ap bytes_of_writing (sym e);
    clears = all-cleared work worked same cleared;
  }

  pub unwritten-promised : {r : Refusal} → Puts (writing (chosen_of work) (length out)) out left (Err r) → {number : ℕ} → number ≡ number_of r
      → WritePromise out work number left 0 after
  unwritten-promised (leaves e w) number = record {
    gives = number ∙ ap number_of_writing (sym e);
    writes = w ∙ ap (λ (x : Writing). output_of_writing x out) (sym e);
    counts = ap bytes_of_writing (sym e);
    clears = all-cleared work worked same cleared;
  }
