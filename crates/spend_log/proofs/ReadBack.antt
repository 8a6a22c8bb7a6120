-- What is written of a log is read back: each reader over its bytes, whatever follows them. Assumes nothing.
use Prim.Native.Nat.{ℕ, zero, suc, ◌+◌, ◌-◌, ◌≤◌, ◌<◌}
use mathlib.Core.Bool.{true, false, cond}
use mathlib.Core.List.{List, [], ◌∷◌, ◌++◌, reverse, reverse-reverse, append_assoc}
use Rattle.std.specs.Prelude.{Option, None, Some}
use mathlib.Core.Path.{◌≡◌, refl, ap, subst, ◌∙◌}
use native.Mathlib.Omega.{arith}
use borrow.Author.Tests.{le-leb}
use lib.Dec.{leb}
use lib.ListN.{length, take, drop, length-append}
use lib.Seq.{take-append_seam, drop-append_seam}
use Rattle.words.specs.Bytes.{little, bytes_of, le_at, put_le}
use Rattle.words.proofs.Bytes.{length-bytes, read_back}
use Rattle.spend_log.specs.Readers.{Read, Reader, give, onward, ◌>>=◌, block, byte, number, several, counted, to_end}
use Rattle.script_machine.specs.Numbers.{Bytes, Stack}
use Rattle.script_bytes.specs.Tables.{tables}
use Rattle.spend_machine.specs.Entries.{Outcome, no, yes, digest, End, aborts, leaves, Entry}
use Rattle.spend_log.specs.Logs.{element, elements, outcome_of, outcome, end_of, ending, entry, contents, head, Head, Log, log, log_of, value_of}
use Rattle.spend_log.specs.Written.{number_bytes, element_bytes, several_bytes, counted_bytes, stack_bytes, outcome_bytes, end_bytes, entry_bytes}
use Rattle.spend_log.specs.Written.{head_bytes, log_bytes, IsU32, All, Counted, Short, ShortStack, ShortOutcome, ShortEnd, ShortEntry}
use Rattle.spend_log.specs.Written.{ShortHead, ReadBack, BlocksAreEntries}
use Rattle.spend_log.proofs.Passing.{some_same, Takes, takes-less, to_end-next, to_end-done}
use Rattle.spend_log.proofs.Parts.{takes-entry}

-- A reader reads a value off these bytes, and leaves what follows them.
pub record Spells {A : Type 0} (r : Reader A) (w : List ℕ) (x : A) : Type 0 where
  pub reads : (s : List ℕ) → r (w ++ s) ≡ Some (record { value = x; behind = s })

spells-give : {A : Type 0} (x : A) → Spells (give x) [] x
spells-give x = record { reads = λ s. refl }

spells_then : {A B : Type 0} (r : Reader A) (next : A → Reader B) (v w : List ℕ) (x : A) (y : B)
    → Spells r v x → Spells (next x) w y → Spells (r >>= next) (v ++ w) y
spells_then r next v w x y a b =
    record { reads = λ s. ap (λ t. onward (r t) next) (append_assoc v w s) ∙ ap (λ o. onward o next) (a.reads (w ++ s)) ∙ b.reads s }

-- what is made of a value
spells-made : {A B : Type 0} (r : Reader A) (f : A → B) (w : List ℕ) (x : A) → Spells r w x → Spells (r >>= λ z. give (f z)) w (f x)
spells-made r f w x a = record { reads = λ s. ap (λ o. onward o (λ z. give (f z))) (a.reads s) }

spells-block : (x : List ℕ) → Spells (block (length x)) x x
unfolding block
spells-block x =
    record {
      reads = λ s. rw (length-append x s, le-leb (length x) (length x + length s) (omega arith), take-append_seam x s, drop-append_seam x s);
    }

little-number : (n : ℕ) → IsU32 n → little (bytes_of 4 n) ≡ n
unfolding le_at put_le bytes_of
little-number n h = some_same (read_back 4 (0 ∷ 0 ∷ 0 ∷ 0 ∷ []) 0 n refl h)

spells-number : (n : ℕ) → IsU32 n → Spells number (number_bytes n) n
unfolding number
spells-number n h =
    let four : Spells (block 4) (bytes_of 4 n) (bytes_of 4 n) =
    subst (λ (k : ℕ). Spells (block k) (bytes_of 4 n) (bytes_of 4 n)) (length-bytes 4 n) (spells-block (bytes_of 4 n))
    in
    subst (λ (v : ℕ). Spells number (bytes_of 4 n) v) (little-number n h) (spells-made (block 4) little (bytes_of 4 n) (bytes_of 4 n) four)

spells-element : (x : Bytes) → Short x → Spells element (element_bytes x) x
unfolding element
spells-element x h = spells_then number (λ n. block n) (number_bytes (length x)) x (length x) x (spells-number (length x) h) (spells-block x)

module _ {A : Type 0} (r : Reader A) (write : A → Bytes) (P : A → Type 0) (spells : (x : A) → P x → Spells r (write x) x) where
  spells-several : (xs : List A) → All P xs → Spells (several r (length xs)) (several_bytes write xs) xs
  unfolding several several_bytes All
  spells-several [] h = spells-give []
  spells-several (x ∷ xs) h =
      spells_then r _ (write x) (several_bytes write xs) x (x ∷ xs) (spells x h.0)
      (spells-made (several r (length xs)) (λ ys. x ∷ ys) (several_bytes write xs) xs (spells-several xs h.1))

  spells-counted : (xs : List A) → Counted P xs → Spells (counted r) (counted_bytes write xs) xs
  unfolding counted
  spells-counted xs h =
      spells_then number (several r) (number_bytes (length xs)) (several_bytes write xs) (length xs) xs
      (spells-number (length xs) h.0) (spells-several xs h.1)

  -- up to the end
  read_all : Takes 1 r → (xs : List A) → All P xs → to_end r (several_bytes write xs) ≡ Some (record { value = xs; behind = [] })
  unfolding several_bytes All
  read_all t [] h = to_end-done r [] refl
  read_all t (x ∷ xs) h =
      to_end-next r t (write x ++ several_bytes write xs) (record { value = x; behind = several_bytes write xs })
      ((spells x h.0).reads (several_bytes write xs))
      ∙ ap (λ o. onward o (λ ys. give (x ∷ ys))) (read_all t xs h.1)

spells-stack : (m : Stack) → ShortStack m → Spells elements (stack_bytes m) m
unfolding elements
spells-stack m h =
    subst (λ (n : Stack). Spells elements (stack_bytes m) n) (reverse-reverse m)
    (spells-made (counted element) reverse (stack_bytes m) (reverse m) (spells-counted element element_bytes Short spells-element (reverse m) h))

spells-byte : (b : ℕ) → Spells byte (b ∷ []) b
unfolding byte
spells-byte b = record { reads = λ s. refl }

-- a byte in front, and what it asks for
spells-sort : {A : Type 0} (r : ℕ → Reader A) (b : ℕ) (w : Bytes) (x : A) → Spells (r b) w x → Spells (byte >>= r) (b ∷ w) x
spells-sort r b w x a = spells_then byte r (b ∷ []) w b x (spells-byte b) a

spells-outcome : (o : Outcome) → ShortOutcome o → Spells outcome (outcome_bytes o) o
unfolding outcome outcome_of
spells-outcome no h = spells-sort outcome_of 0 [] no (spells-give no)
spells-outcome yes h = spells-sort outcome_of 1 [] yes (spells-give yes)
spells-outcome (digest x) h =
    spells-sort outcome_of 2 (element_bytes x) (digest x) (spells-made element digest (element_bytes x) x (spells-element x h))

spells-end : (e : End) → ShortEnd e → Spells ending (end_bytes e) e
unfolding ending end_of
spells-end aborts h = spells-sort end_of 0 [] aborts (spells-give aborts)
spells-end (leaves m) h = spells-sort end_of 1 (stack_bytes m) (leaves m) (spells-made elements leaves (stack_bytes m) m (spells-stack m h))

spells-entry : (e : Entry) → ShortEntry e → Spells entry (entry_bytes e) e
unfolding entry entry_bytes
spells-entry e h =
    spells_then number _ _ _ _ _ (spells-number e.number h.number)
    (spells_then elements _ _ _ _ _ (spells-stack e.start h.start)
    (spells_then (counted outcome) _ _ _ _ _ (spells-counted outcome outcome_bytes ShortOutcome spells-outcome e.outcomes h.outcomes)
    (spells-made ending (λ end'. record { number = e.number; start = e.start; outcomes = e.outcomes; recorded = end' }) _ _
    (spells-end e.recorded h.recorded))))

spells-head : (h : Head) → ShortHead h → Spells head (head_bytes h) h
unfolding head contents head_bytes
spells-head h s =
    spells_then number _ _ _ _ _ (spells-number _ s.context)
    (spells_then number _ _ _ _ _ (spells-number _ s.tree)
    (spells_then number _ _ _ _ _ (spells-number _ s.keys)
    (spells_then number _ _ _ _ _ (spells-number _ s.key_hashes)
    (spells_then number _ _ _ _ _ (spells-number _ s.hashes32)
    (spells_then number _ _ _ _ _ (spells-number _ s.hashes20)
    (spells_then (block _) _ _ _ _ _ (spells-block h.tree)
    (spells_then (block _) _ _ _ _ _ (spells-block h.tables.keys)
    (spells_then (block _) _ _ _ _ _ (spells-block h.tables.key_hashes)
    (spells_then (block _) _ _ _ _ _ (spells-block h.tables.hashes32)
    (spells-made (block _) (λ x. record { context = h.context; tree = h.tree; tables = tables h.tables.keys h.tables.key_hashes h.tables.hashes32 x }) _ _
    (spells-block h.tables.hashes20)))))))))))

pub blocks-are-entries : BlocksAreEntries
unfolding log
blocks-are-entries h es s t =
    ap (λ o. value_of (onward o (λ k. to_end entry >>= λ xs. give (record { front = k; entries = xs })))) ((spells-head h s).reads (several_bytes entry_bytes es))
    ∙ ap (λ o. value_of (onward o (λ xs. give (record { front = h; entries = xs }))))
    (read_all entry entry_bytes ShortEntry spells-entry (takes-less (omega arith) takes-entry) es t)

pub log-read-back : ReadBack
unfolding log_bytes
log-read-back l s t = blocks-are-entries l.front l.entries s t
