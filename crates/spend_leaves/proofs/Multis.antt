-- The keys of a Multi and of a MultiA that are still to come. Assumes nothing.
use Prim.Native.Nat.{ℕ, ◌+◌, ◌≤◌, ◌<◌}
use mathlib.Core.Bool.{Bool, true, false}
use mathlib.Core.List.{List, [], ◌∷◌}
use mathlib.Core.Path.{◌≡◌, refl, sym, ap, ◌∙◌}
use lib.Dec.{eqb, eqb-suc-zero}
use lib.ListN.{length}
use native.Mathlib.Numerals.{add-one}
use Rattle.contexts.specs.declared.Context.{Context}
use Rattle.records.specs.Payloads.{key_at, first_keys, keys_from, k_in, count_in}
use Rattle.records.proofs.Laws.{keys-first, keys-next, keys-end, length-keys}
use Rattle.script_machine.specs.Numbers.{Bytes}
use Rattle.script_machine.specs.Words.{<n>, <key>, NUMEQUAL, CHECKMULTISIG}
use Rattle.script_bytes.specs.Tables.{Tables}
use Rattle.script_leaves.specs.Leaves.{multi_of, multi_a_of}
use Rattle.spend_machine.specs.Recorded.{Run, recorded_step}
use Rattle.spend_machine.specs.Playing.{plays, keys_pushed, sigs_added, sigs_summed}
use Rattle.spend_stack.specs.declared.Machine.{Machine}
use Rattle.spend_stack.specs.Machines.{run_of, Fits, Does}
use Rattle.spend_leaves.specs.Acting.{Acts, sig_word}
use Rattle.spend_leaves.proofs.Laws.{◌⨾◌, acts-as, word}

-- ---- what comes yet makes up the whole

pub record Coming (goal rest : Run → Run) (log before after : List ℕ) (m r : Machine) : Type 0 where
  pub says : (alt : List ℕ) → rest (run_of log after alt r) ≡ goal (run_of log before alt m)
  pub fits : Fits log after r
  pub same : length after ≡ length before

module _ {goal rest : Run → Run} {log before : List ℕ} {m : Machine} where
  pub all-coming : ((s : Run) → rest s ≡ goal s) → Fits log before m → Coming goal rest log before before m m
  all-coming e f = record { says = λ alt. e (run_of log before alt m); fits = f; same = refl }

  module _ {between : List ℕ} {q : Machine} (x : Coming goal rest log before between m q) where
    pub more-coming : {g next : Run → Run} {after : List ℕ} {r : Machine} → ((s : Run) → rest s ≡ next (g s)) → Acts g log between after q r
        → Coming goal next log before after m r
    more-coming {next = next} e y =
        record {
          says = λ alt. ap next (y.says alt) ∙ sym (e (run_of log between alt q)) ∙ x.says alt;
          fits = y.fits;
          same = y.same ∙ x.same;
        }

    pub none-coming : ((s : Run) → rest s ≡ s) → Acts goal log before between m q
    none-coming e = record { says = λ alt. sym (e (run_of log between alt q)) ∙ x.says alt; fits = x.fits; same = x.same }

-- ---- the keys, one by one

module _ (c : Context) (t : Tables) (bytes : Bytes) (count : ℕ) where
  pub key-first : (s : Run) → keys_pushed c t (keys_from bytes count 0) s ≡ keys_pushed c t (first_keys bytes count) s
  key-first s = ap (λ (ns : List ℕ). keys_pushed c t ns s) (keys-first bytes count)

  pub key-next : (j : ℕ) {i : ℕ} → i ≡ key_at bytes j → j < count → (s : Run)
      → keys_pushed c t (keys_from bytes count j) s ≡ keys_pushed c t (keys_from bytes count (j + 1)) (recorded_step c t (<key> i) s)
  unfolding keys_pushed
  key-next j e h s = rw e (ap (λ (ns : List ℕ). keys_pushed c t ns s) (keys-next bytes count j h))

  pub key-end : (j : ℕ) → count ≤ j → (s : Run) → keys_pushed c t (keys_from bytes count j) s ≡ s
  unfolding keys_pushed
  key-end j h s = ap (λ (ns : List ℕ). keys_pushed c t ns s) (keys-end bytes count j h)

  -- those of a MultiA, by whether the first of them is the first of all
  abbrev pub sigs_from : Bool → List ℕ → Run → Run
  sigs_from true ns = sigs_summed c t ns
  sigs_from false ns = sigs_added c t ns

  pub sig-first : (s : Run) → sigs_from true (keys_from bytes count 0) s ≡ sigs_summed c t (first_keys bytes count) s
  sig-first s = ap (λ (ns : List ℕ). sigs_summed c t ns s) (keys-first bytes count)

  sigs-next : (first : Bool) (n : ℕ) (ns : List ℕ) (s : Run)
      → sigs_from first (n ∷ ns) s ≡ sigs_from false ns (recorded_step c t (sig_word first) (recorded_step c t (<key> n) s))
  unfolding sigs_summed sigs_added
  sigs-next true n ns s = refl
  sigs-next false n ns s = refl

  pub sig-next : (j : ℕ) {i : ℕ} → i ≡ key_at bytes j → j < count → (s : Run)
      → sigs_from (eqb j 0) (keys_from bytes count j) s
      ≡ sigs_from (eqb (j + 1) 0) (keys_from bytes count (j + 1)) (recorded_step c t (sig_word (eqb j 0)) (recorded_step c t (<key> i) s))
  sig-next j {i} e h s =
      let later : eqb (j + 1) 0 ≡ false = ap (λ (n : ℕ). eqb n 0) (add-one j) ∙ eqb-suc-zero j in
      ap (λ (ns : List ℕ). sigs_from (eqb j 0) ns s) (keys-next bytes count j h)
      ∙ ap (λ (n : ℕ). sigs_from (eqb j 0) (n ∷ keys_from bytes count (j + 1)) s) (sym e)
      ∙ sigs-next (eqb j 0) i (keys_from bytes count (j + 1)) s
      ∙ ap (λ (b : Bool). sigs_from b (keys_from bytes count (j + 1)) (recorded_step c t (sig_word (eqb j 0)) (recorded_step c t (<key> i) s))) (sym later)

  sigs-end : (first : Bool) (s : Run) → sigs_from first [] s ≡ s
  unfolding sigs_summed sigs_added
  sigs-end true s = refl
  sigs-end false s = refl

  pub sig-end : (first : Bool) (j : ℕ) → count ≤ j → (s : Run) → sigs_from first (keys_from bytes count j) s ≡ s
  sig-end first j h s = ap (λ (ns : List ℕ). sigs_from first ns s) (keys-end bytes count j h) ∙ sigs-end first s

-- ---- Multi and MultiA

module _ (c : Context) (t : Tables) (bytes : Bytes) {k count : ℕ} (first : k ≡ k_in bytes) (second : count ≡ count_in bytes) where
  multi-is : (s : Run)
      → recorded_step c t CHECKMULTISIG (recorded_step c t (<n> count) (keys_pushed c t (first_keys bytes count) (recorded_step c t (<n> k) s)))
      ≡ plays c t (multi_of bytes) s
  unfolding plays
  multi-is s = rw (first, second, length-keys bytes (count_in bytes))

  multi-a-is : (s : Run)
      → recorded_step c t NUMEQUAL (recorded_step c t (<n> k) (sigs_summed c t (first_keys bytes count) s)) ≡ plays c t (multi_a_of bytes) s
  unfolding plays
  multi-a-is s = rw (first, second)

  pub multi-runs : {log a b d e f : List ℕ} {m₀ m₁ m₂ m₃ m₄ : Machine} → Does (<n> k) log a b m₀ m₁
      → Acts (keys_pushed c t (first_keys bytes count)) log b d m₁ m₂ → Does (<n> count) log d e m₂ m₃ → Does CHECKMULTISIG log e f m₃ m₄
      → Acts (plays c t (multi_of bytes)) log a f m₀ m₄
  multi-runs x y z w = acts-as multi-is (word c t x ⨾ y ⨾ word c t z ⨾ word c t w)

  pub multi-a-runs : {log a b d e : List ℕ} {m₀ m₁ m₂ m₃ : Machine} → Acts (sigs_summed c t (first_keys bytes count)) log a b m₀ m₁
      → Does (<n> k) log b d m₁ m₂ → Does NUMEQUAL log d e m₂ m₃ → Acts (plays c t (multi_a_of bytes)) log a e m₀ m₃
  multi-a-runs x y z = acts-as multi-a-is (x ⨾ word c t y ⨾ word c t z)
