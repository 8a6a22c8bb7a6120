-- A log is written in one way: what reads as a log is its own writing. Assumes nothing.
use Prim.Native.Nat.{ℕ, zero, suc, ◌+◌, ◌*◌, ◌/◌, ◌%◌, ◌<◌, ◌≤◌}
use mathlib.Core.Bool.{Bool, true, false, cond}
use mathlib.Core.List.{List, [], ◌∷◌, ◌++◌, reverse, reverse-reverse, append_assoc, append-nil}
use Rattle.std.specs.Prelude.{Option, None, Some}
use mathlib.Core.Path.{◌≡◌, refl, sym, ap, subst, ◌∙◌}
use native.Mathlib.Omega.{arith}
use borrow.Author.Tests.{leb-true, ne_eqb}
use lib.Dec.{leb, eqb}
use lib.ListN.{length, take, drop, take-append-drop}
use lib.Seq.{length-take-le}
use Rattle.words.specs.Bytes.{little, bytes_of}
use Rattle.script_machine.specs.Numbers.{Bytes, Stack}
use Rattle.script_bytes.specs.Tables.{tables}
use Rattle.spend_machine.specs.Entries.{Outcome, no, yes, digest, End, aborts, leaves, Entry}
use Rattle.spend_log.specs.Readers.{Read, Reader, give, broken, onward, ◌>>=◌, block, byte, number, several, counted, end_or, up_to_end, to_end}
use Rattle.spend_log.specs.Logs.{element, elements, outcome_of, outcome, end_of, ending, entry, contents, head, Head, Log, log, log_of, value_of}
use Rattle.spend_log.specs.Written.{number_bytes, element_bytes, several_bytes, counted_bytes, stack_bytes, outcome_bytes, end_bytes, entry_bytes}
use Rattle.spend_log.specs.Written.{head_bytes, log_bytes, All}
use Rattle.spend_replay.specs.Laws.{IsByte, OneForm}
use Rattle.spend_log.proofs.Passing.{some_same}

-- ---- what two readers in a row read

-- the first read this, and the second the whole
record Went {A B : Type 0} (o : Option (Read A)) (next : A → Reader B) (g : Read B) : Type 0 where
  first : Read A
  reads : o ≡ Some first
  then : next first.value first.behind ≡ Some g

went : {A B : Type 0} (o : Option (Read A)) (next : A → Reader B) (g : Read B) → onward o next ≡ Some g → Went o next g
went None next g e = absurd (let z : ◌≡◌ {A = ℕ} 0 1 = cc in omega arith)
went (Some a) next g e = record { first = a; reads = refl; then = e }

-- what was given
given : {A : Type 0} {x : A} {s : Bytes} {g : Read A} → give x s ≡ Some g → (g.value ≡ x) × (g.behind ≡ s)
given e = (ap (λ r. r.value) (sym (some_same e)), ap (λ r. r.behind) (sym (some_same e)))

as-given : {A : Type 0} (write : A → Bytes) (x : A) (t : Bytes) (g : Read A) → (g.value ≡ x) × (g.behind ≡ t)
    → write x ++ t ≡ write g.value ++ g.behind
as-given write x t g v = ap (λ y. write y ++ t) (sym v.0) ∙ ap (λ z. write g.value ++ z) (sym v.1)

-- ---- bytes behind what was read are bytes

bytes-behind : (w s : Bytes) → All IsByte (w ++ s) → All IsByte s
unfolding All
bytes-behind [] s a = a
bytes-behind (b ∷ w) s a = bytes-behind w s a.1

bytes-front : (w s : Bytes) → All IsByte (w ++ s) → All IsByte w
unfolding All
bytes-front [] s a = tt
bytes-front (b ∷ w) s a = (a.0, bytes-front w s a.1)

-- A reader reads bytes only as they are written.
record Writes {A : Type 0} (r : Reader A) (write : A → Bytes) : Type 0 where
  tells : (s : Bytes) (g : Read A) → All IsByte s → r s ≡ Some g → s ≡ write g.value ++ g.behind

module _ {A : Type 0} {r : Reader A} {write : A → Bytes} (w : Writes r write) where
  left-bytes : (s : Bytes) (g : Read A) → All IsByte s → r s ≡ Some g → All IsByte g.behind
  left-bytes s g a e = bytes-behind (write g.value) g.behind (subst (λ (t : Bytes). All IsByte t) (w.tells s g a e) a)

-- ---- numbers

little-written : (bs : Bytes) → All IsByte bs → bytes_of (length bs) (little bs) ≡ bs
unfolding bytes_of little All
little-written [] a = refl
little-written (b ∷ bs) a =
    let small : b < 256 = a.0 in
    let low : (b + little bs * 256) % 256 ≡ b = omega arith in
    let high : (b + little bs * 256) / 256 ≡ little bs = omega arith in
    rw (low, high, little-written bs a.1)

record Blocked (n : ℕ) (s : Bytes) (g : Read Bytes) : Type 0 where
  is : s ≡ g.value ++ g.behind
  long : length g.value ≡ n

block-told : (n : ℕ) (s : Bytes) (g : Read Bytes) → block n s ≡ Some g → Blocked n s g
unfolding block
block-told n s g e = by-room (leb n (length s)) refl e
  where
    by-room : (t : Bool) → leb n (length s) ≡ t → cond t (Some (record { value = take n s; behind = drop n s })) None ≡ Some g → Blocked n s g
    by-room true t k =
        let v : g.value ≡ take n s = ap (λ r. r.value) (sym (some_same k)) in
        let b : g.behind ≡ drop n s = ap (λ r. r.behind) (sym (some_same k)) in
        record { is = sym (rw (v, b) (take-append-drop n s)); long = ap length v ∙ length-take-le n s (leb-true n (length s) t) }
    by-room false t k = absurd (let z : ◌≡◌ {A = ℕ} 0 1 = cc in omega arith)

number-writes : Writes number number_bytes
unfolding number
number-writes = record { tells = by-block }
  where
    by-block : (s : Bytes) (g : Read ℕ) → All IsByte s → number s ≡ Some g → s ≡ number_bytes g.value ++ g.behind
    by-block s g a e =
        let k = went (block 4 s) (λ bytes. give (little bytes)) g e in
        let b = block-told 4 s k.first k.reads in
        let v = given k.then in
        let bytes = bytes-front k.first.value k.first.behind (subst (λ (t : Bytes). All IsByte t) b.is a) in
        let same : bytes_of 4 (little k.first.value) ≡ k.first.value =
        subst (λ (n : ℕ). bytes_of n (little k.first.value) ≡ k.first.value) b.long (little-written k.first.value bytes)
        in
        b.is ∙ ap (λ z. z ++ k.first.behind) (sym same) ∙ as-given number_bytes (little k.first.value) k.first.behind g v

-- ---- parts

element-writes : Writes element element_bytes
unfolding element
element-writes = record { tells = by_number }
  where
    by_number : (s : Bytes) (g : Read Bytes) → All IsByte s → element s ≡ Some g → s ≡ element_bytes g.value ++ g.behind
    by_number s g a e =
        let k = went (number s) block g e in
        let n = number-writes.tells s k.first a k.reads in
        let b = block-told k.first.value k.first.behind g k.then in
        n ∙ ap (λ t. number_bytes k.first.value ++ t) b.is ∙ ap (λ m. number_bytes m ++ (g.value ++ g.behind)) (sym b.long)
        ∙ sym (append_assoc (number_bytes (length g.value)) g.value g.behind)

module _ {A : Type 0} (r : Reader A) (write : A → Bytes) (w : Writes r write) where
  -- one, and those behind it
  one_more : (s : Bytes) (x : Read A) (xs : Read (List A)) → All IsByte s → r s ≡ Some x
      → x.behind ≡ several_bytes write xs.value ++ xs.behind → s ≡ several_bytes write (x.value ∷ xs.value) ++ xs.behind
  unfolding several_bytes
  one_more s x xs a e k =
      w.tells s x a e ∙ ap (λ t. write x.value ++ t) k ∙ sym (append_assoc (write x.value) (several_bytes write xs.value) xs.behind)

  several-writes : (n : ℕ) (s : Bytes) (g : Read (List A)) → All IsByte s → several r n s ≡ Some g
      → (s ≡ several_bytes write g.value ++ g.behind) × (length g.value ≡ n)
  unfolding several several_bytes
  several-writes zero s g a e =
      let v = given e in
      (as-given (several_bytes write) [] s g v, ap length v.0)
  several-writes (suc n) s g a e =
      let k = went (r s) (λ x. several r n >>= λ xs. give (x ∷ xs)) g e in
      let m = went (several r n k.first.behind) (λ xs. give (k.first.value ∷ xs)) g k.then in
      let rest = several-writes n k.first.behind m.first (left-bytes w s k.first a k.reads) m.reads in
      let v = given m.then in (
        one_more s k.first m.first a k.reads rest.0 ∙ as-given (several_bytes write) (k.first.value ∷ m.first.value) m.first.behind g v,
        ap length v.0 ∙ ap suc rest.1,
      )

  counted-writes : Writes (counted r) (counted_bytes write)
  unfolding counted
  counted-writes = record { tells = by_number }
    where
      by_number : (s : Bytes) (g : Read (List A)) → All IsByte s → counted r s ≡ Some g → s ≡ counted_bytes write g.value ++ g.behind
      by_number s g a e =
          let k = went (number s) (several r) g e in
          let n = number-writes.tells s k.first a k.reads in
          let xs = several-writes k.first.value k.first.behind g (left-bytes number-writes s k.first a k.reads) k.then in
          n ∙ ap (λ t. number_bytes k.first.value ++ t) xs.0
          ∙ ap (λ m. number_bytes m ++ (several_bytes write g.value ++ g.behind)) (sym xs.1)
          ∙ sym (append_assoc (number_bytes (length g.value)) (several_bytes write g.value) g.behind)

  up-to-writes : (most : ℕ) (s : Bytes) (g : Read (List A)) → All IsByte s → up_to_end r most s ≡ Some g
      → (s ≡ several_bytes write g.value) × (g.behind ≡ [])
  unfolding up_to_end several_bytes
  up-to-writes zero [] g a e =
      let v = given e in
      (ap (several_bytes write) (sym v.0), v.1)
  up-to-writes zero (b ∷ s) g a e = absurd (let z : ◌≡◌ {A = ℕ} 0 1 = cc in omega arith)
  up-to-writes (suc most) [] g a e =
      let v = given e in
      (ap (several_bytes write) (sym v.0), v.1)
  up-to-writes (suc most) (b ∷ s) g a e =
      let k = went (r (b ∷ s)) (λ x. up_to_end r most >>= λ xs. give (x ∷ xs)) g e in
      let m = went (up_to_end r most k.first.behind) (λ xs. give (k.first.value ∷ xs)) g k.then in
      let rest = up-to-writes most k.first.behind m.first (left-bytes w (b ∷ s) k.first a k.reads) m.reads in
      let v = given m.then in
      let more : k.first.behind ≡ several_bytes write m.first.value ++ [] = rest.0 ∙ sym (append-nil (several_bytes write m.first.value)) in
      let all = one_more (b ∷ s) k.first (record { value = m.first.value; behind = [] }) a k.reads more in
      (all ∙ append-nil (several_bytes write (k.first.value ∷ m.first.value)) ∙ ap (several_bytes write) (sym v.0), v.1 ∙ rest.1)

stack-writes : Writes elements stack_bytes
unfolding elements
stack-writes = record { tells = by-elements }
  where
    by-elements : (s : Bytes) (g : Read Stack) → All IsByte s → elements s ≡ Some g → s ≡ stack_bytes g.value ++ g.behind
    by-elements s g a e =
        let k = went (counted element s) (λ xs. give (reverse xs)) g e in
        let v = given k.then in
        let back : reverse g.value ≡ k.first.value = ap reverse v.0 ∙ reverse-reverse k.first.value in
        (counted-writes element element_bytes element-writes).tells s k.first a k.reads
        ∙ ap (λ xs. counted_bytes element_bytes xs ++ k.first.behind) (sym back) ∙ ap (λ z. stack_bytes g.value ++ z) (sym v.1)

-- the byte in front
byte-writes : Writes byte (λ b. b ∷ [])
unfolding byte
byte-writes = record { tells = by_bytes }
  where
    by_bytes : (s : Bytes) (g : Read ℕ) → All IsByte s → byte s ≡ Some g → s ≡ (g.value ∷ []) ++ g.behind
    by_bytes [] g a e = absurd (let z : ◌≡◌ {A = ℕ} 0 1 = cc in omega arith)
    by_bytes (b ∷ s) g a e = cc

outcome-writes : Writes outcome outcome_bytes
unfolding outcome outcome_of
outcome-writes = record { tells = by_byte }
  where
    by-sort : (sort : ℕ) (s : Bytes) (g : Read Outcome) → All IsByte s → outcome_of sort s ≡ Some g → sort ∷ s ≡ outcome_bytes g.value ++ g.behind
    by-sort zero s g a e = as-given outcome_bytes no s g (given e)
    by-sort (suc zero) s g a e = as-given outcome_bytes yes s g (given e)
    by-sort (suc (suc zero)) s g a e =
        let k = went (element s) (λ bytes. give (digest bytes)) g e in
        let v = given k.then in
        ap (λ t. 2 ∷ t) (element-writes.tells s k.first a k.reads)
        ∙ as-given outcome_bytes (digest k.first.value) k.first.behind g v
    by-sort (suc (suc (suc n))) s g a e =
        let m = suc (suc (suc n)) in
        let z : None ≡ Some g =
        simp (ne_eqb m 0 (λ q. omega arith), ne_eqb m 1 (λ q. omega arith), ne_eqb m 2 (λ q. omega arith)) at e
        in
        absurd (let y : ◌≡◌ {A = ℕ} 0 1 = cc in omega arith)

    by_byte : (s : Bytes) (g : Read Outcome) → All IsByte s → outcome s ≡ Some g → s ≡ outcome_bytes g.value ++ g.behind
    by_byte s g a e =
        let k = went (byte s) outcome_of g e in
        byte-writes.tells s k.first a k.reads
        ∙ by-sort k.first.value k.first.behind g (left-bytes byte-writes s k.first a k.reads) k.then

end-writes : Writes ending end_bytes
unfolding ending end_of
end-writes = record { tells = by_byte }
  where
    by-sort : (sort : ℕ) (s : Bytes) (g : Read End) → All IsByte s → end_of sort s ≡ Some g → sort ∷ s ≡ end_bytes g.value ++ g.behind
    by-sort zero s g a e = as-given end_bytes aborts s g (given e)
    by-sort (suc zero) s g a e =
        let k = went (elements s) (λ m. give (leaves m)) g e in
        let v = given k.then in
        ap (λ t. 1 ∷ t) (stack-writes.tells s k.first a k.reads)
        ∙ as-given end_bytes (leaves k.first.value) k.first.behind g v
    by-sort (suc (suc n)) s g a e =
        let m = suc (suc n) in
        let z : None ≡ Some g = simp (ne_eqb m 0 (λ q. omega arith), ne_eqb m 1 (λ q. omega arith)) at e in
        absurd (let y : ◌≡◌ {A = ℕ} 0 1 = cc in omega arith)

    by_byte : (s : Bytes) (g : Read End) → All IsByte s → ending s ≡ Some g → s ≡ end_bytes g.value ++ g.behind
    by_byte s g a e =
        let k = went (byte s) end_of g e in
        byte-writes.tells s k.first a k.reads
        ∙ by-sort k.first.value k.first.behind g (left-bytes byte-writes s k.first a k.reads) k.then

abbrev made : ℕ → Stack → List Outcome → End → Entry
made n m os x = record { number = n; start = m; outcomes = os; recorded = x }

joined : (a b c d r : Bytes) → (a ++ (b ++ (c ++ d))) ++ r ≡ a ++ (b ++ (c ++ (d ++ r)))
joined a b c d r = simp append_assoc

entry-writes : Writes entry entry_bytes
unfolding entry entry_bytes
entry-writes = record { tells = by_parts }
  where
    by_parts : (s : Bytes) (g : Read Entry) → All IsByte s → entry s ≡ Some g → s ≡ entry_bytes g.value ++ g.behind
    by_parts s g a e =
        let k = went (number s) (λ n. elements >>= λ m. counted outcome >>= λ os. ending >>= λ x. give (made n m os x)) g e in
        let a₁ = left-bytes number-writes s k.first a k.reads in
        let n = k.first.value in
        let l = went (elements k.first.behind) (λ m. counted outcome >>= λ os. ending >>= λ x. give (made n m os x)) g k.then in
        let a₂ = left-bytes stack-writes k.first.behind l.first a₁ l.reads in
        let m = l.first.value in
        let o = went (counted outcome l.first.behind) (λ os. ending >>= λ x. give (made n m os x)) g l.then in
        let outcomes-write = counted-writes outcome outcome_bytes outcome-writes in
        let a₃ = left-bytes outcomes-write l.first.behind o.first a₂ o.reads in
        let os = o.first.value in
        let p = went (ending o.first.behind) (λ x. give (made n m os x)) g o.then in
        let x = p.first.value in
        let v = given p.then in
        number-writes.tells s k.first a k.reads
        ∙ ap (λ t. number_bytes n ++ t) (stack-writes.tells k.first.behind l.first a₁ l.reads)
        ∙ ap (λ t. number_bytes n ++ (stack_bytes m ++ t)) (outcomes-write.tells l.first.behind o.first a₂ o.reads)
        ∙ ap (λ t. number_bytes n ++ (stack_bytes m ++ (counted_bytes outcome_bytes os ++ t))) (end-writes.tells o.first.behind p.first a₃ p.reads)
        ∙ sym (joined (number_bytes n) (stack_bytes m) (counted_bytes outcome_bytes os) (end_bytes x) p.first.behind)
        ∙ as-given entry_bytes (made n m os x) p.first.behind g v

-- ---- the head: six numbers, then five blocks

module _ {B : Type 0} (next : ℕ → Reader B) (s : Bytes) (g : Read B) (a : All IsByte s) (e : onward (number s) next ≡ Some g) where
  number-then : Went (number s) next g
  number-then = went (number s) next g e

  number_is : s ≡ number_bytes number-then.first.value ++ number-then.first.behind
  number_is = number-writes.tells s number-then.first a number-then.reads

  number-left : All IsByte number-then.first.behind
  number-left = left-bytes number-writes s number-then.first a number-then.reads

module _ {B : Type 0} (n : ℕ) (next : Bytes → Reader B) (s : Bytes) (g : Read B) (e : onward (block n s) next ≡ Some g) where
  block-then : Went (block n s) next g
  block-then = went (block n s) next g e

  block-is : Blocked n s block-then.first
  block-is = block-told n s block-then.first block-then.reads

abbrev head_with : ℕ → Bytes → Bytes → Bytes → Bytes → Bytes → Head
head_with c tree keys key_hashes hashes32 hashes20 = record { context = c; tree = tree; tables = tables keys key_hashes hashes32 hashes20 }

abbrev contents_bytes : Head → Bytes → Bytes
contents_bytes h z = h.tree ++ (h.tables.keys ++ (h.tables.key_hashes ++ (h.tables.hashes32 ++ (h.tables.hashes20 ++ z))))

-- the contents, as bytes one behind the other, of the lengths that were asked for
record Contents (c t k kh h32 h20 : ℕ) (s : Bytes) (g : Read Head) : Type 0 where
  context : g.value.context ≡ c
  tree : length g.value.tree ≡ t
  keys : length g.value.tables.keys ≡ k
  key_hashes : length g.value.tables.key_hashes ≡ kh
  hashes32 : length g.value.tables.hashes32 ≡ h32
  hashes20 : length g.value.tables.hashes20 ≡ h20
  is : s ≡ contents_bytes g.value g.behind

contents-told : (c t k kh h32 h20 : ℕ) (s : Bytes) (g : Read Head) → contents c t k kh h32 h20 s ≡ Some g → Contents c t k kh h32 h20 s g
unfolding contents
contents-told c t k kh h32 h20 s g e =
    let w₁ = block-then t (λ a. block k >>= λ b. block kh >>= λ d. block h32 >>= λ f. block h20 >>= λ i. give (head_with c a b d f i)) s g e in
    let b₁ = block-told t s w₁.first w₁.reads in
    let a = w₁.first.value in
    let w₂ = went (block k w₁.first.behind) (λ b. block kh >>= λ d. block h32 >>= λ f. block h20 >>= λ i. give (head_with c a b d f i)) g w₁.then in
    let b₂ = block-told k w₁.first.behind w₂.first w₂.reads in
    let b = w₂.first.value in
    let w₃ = went (block kh w₂.first.behind) (λ d. block h32 >>= λ f. block h20 >>= λ i. give (head_with c a b d f i)) g w₂.then in
    let b₃ = block-told kh w₂.first.behind w₃.first w₃.reads in
    let d = w₃.first.value in
    let w₄ = went (block h32 w₃.first.behind) (λ f. block h20 >>= λ i. give (head_with c a b d f i)) g w₃.then in
    let b₄ = block-told h32 w₃.first.behind w₄.first w₄.reads in
    let f = w₄.first.value in
    let w₅ = went (block h20 w₄.first.behind) (λ i. give (head_with c a b d f i)) g w₄.then in
    let b₅ = block-told h20 w₄.first.behind w₅.first w₅.reads in
    let v = given w₅.then in
    record {
      context = ap (λ x. x.context) v.0;
      tree = ap (λ x. length x.tree) v.0 ∙ b₁.long;
      keys = ap (λ x. length x.tables.keys) v.0 ∙ b₂.long;
      key_hashes = ap (λ x. length x.tables.key_hashes) v.0 ∙ b₃.long;
      hashes32 = ap (λ x. length x.tables.hashes32) v.0 ∙ b₄.long;
      hashes20 = ap (λ x. length x.tables.hashes20) v.0 ∙ b₅.long;
      is =
          b₁.is ∙ ap (λ z. a ++ z) b₂.is ∙ ap (λ z. a ++ (b ++ z)) b₃.is ∙ ap (λ z. a ++ (b ++ (d ++ z))) b₄.is
          ∙ ap (λ z. a ++ (b ++ (d ++ (f ++ z)))) b₅.is ∙ ap (λ x. contents_bytes x w₅.first.behind) (sym v.0) ∙ ap (contents_bytes g.value) (sym v.1);
    }

head-joined : (a b c d e f i j k l m r : Bytes)
    → (a ++ (b ++ (c ++ (d ++ (e ++ (f ++ (i ++ (j ++ (k ++ (l ++ m)))))))))) ++ r
    ≡ a ++ (b ++ (c ++ (d ++ (e ++ (f ++ (i ++ (j ++ (k ++ (l ++ (m ++ r))))))))))
head-joined a b c d e f i j k l m r = simp append_assoc

-- six numbers before some bytes
abbrev six : (c t k kh h32 h20 : ℕ) → Bytes → Bytes
six c t k kh h32 h20 z =
    number_bytes c ++ (number_bytes t ++ (number_bytes k ++ (number_bytes kh ++ (number_bytes h32 ++ (number_bytes h20 ++ z)))))

head-writes : Writes head head_bytes
unfolding head head_bytes
head-writes = record { tells = by-numbers }
  where
    by-numbers : (s : Bytes) (g : Read Head) → All IsByte s → head s ≡ Some g → s ≡ head_bytes g.value ++ g.behind
    by-numbers s g a e =
        let w₁ = number-then (λ c. number >>= λ t. number >>= λ k. number >>= λ kh. number >>= λ h32. number >>= λ h20. contents c t k kh h32 h20) s g a e in
        let c = w₁.first.value in
        let s₁ = w₁.first.behind in
        let a₁ = left-bytes number-writes s w₁.first a w₁.reads in
        let w₂ = went (number s₁) (λ t. number >>= λ k. number >>= λ kh. number >>= λ h32. number >>= λ h20. contents c t k kh h32 h20) g w₁.then in
        let t = w₂.first.value in
        let s₂ = w₂.first.behind in
        let a₂ = left-bytes number-writes s₁ w₂.first a₁ w₂.reads in
        let w₃ = went (number s₂) (λ k. number >>= λ kh. number >>= λ h32. number >>= λ h20. contents c t k kh h32 h20) g w₂.then in
        let k = w₃.first.value in
        let s₃ = w₃.first.behind in
        let a₃ = left-bytes number-writes s₂ w₃.first a₂ w₃.reads in
        let w₄ = went (number s₃) (λ kh. number >>= λ h32. number >>= λ h20. contents c t k kh h32 h20) g w₃.then in
        let kh = w₄.first.value in
        let s₄ = w₄.first.behind in
        let a₄ = left-bytes number-writes s₃ w₄.first a₃ w₄.reads in
        let w₅ = went (number s₄) (λ h32. number >>= λ h20. contents c t k kh h32 h20) g w₄.then in
        let h32 = w₅.first.value in
        let s₅ = w₅.first.behind in
        let a₅ = left-bytes number-writes s₄ w₅.first a₄ w₅.reads in
        let w₆ = went (number s₅) (λ h20. contents c t k kh h32 h20) g w₅.then in
        let h20 = w₆.first.value in
        let p = contents-told c t k kh h32 h20 w₆.first.behind g w₆.then in
        let h = g.value in
        let rest = contents_bytes g.value g.behind in
        number-writes.tells s w₁.first a w₁.reads
        ∙ ap (λ z. number_bytes c ++ z) (number-writes.tells s₁ w₂.first a₁ w₂.reads)
        ∙ ap (λ z. number_bytes c ++ (number_bytes t ++ z)) (number-writes.tells s₂ w₃.first a₂ w₃.reads)
        ∙ ap (λ z. number_bytes c ++ (number_bytes t ++ (number_bytes k ++ z))) (number-writes.tells s₃ w₄.first a₃ w₄.reads)
        ∙ ap (λ z. number_bytes c ++ (number_bytes t ++ (number_bytes k ++ (number_bytes kh ++ z)))) (number-writes.tells s₄ w₅.first a₄ w₅.reads)
        ∙ ap (λ z. number_bytes c ++ (number_bytes t ++ (number_bytes k ++ (number_bytes kh ++ (number_bytes h32 ++ z)))))
        (number-writes.tells s₅ w₆.first a₅ w₆.reads)
        ∙ ap (λ z. number_bytes c ++ (number_bytes t ++ (number_bytes k ++ (number_bytes kh ++ (number_bytes h32 ++ (number_bytes h20 ++ z))))))
        p.is
        ∙ ap (λ m. six m t k kh h32 h20 rest) (sym p.context)
        ∙ ap (λ m. six h.context m k kh h32 h20 rest) (sym p.tree)
        ∙ ap (λ m. six h.context (length h.tree) m kh h32 h20 rest) (sym p.keys)
        ∙ ap (λ m. six h.context (length h.tree) (length h.tables.keys) m h32 h20 rest) (sym p.key_hashes)
        ∙ ap (λ m. six h.context (length h.tree) (length h.tables.keys) (length h.tables.key_hashes) m h20 rest) (sym p.hashes32)
        ∙ ap (λ m. six h.context (length h.tree) (length h.tables.keys) (length h.tables.key_hashes) (length h.tables.hashes32) m rest)
        (sym p.hashes20)
        ∙ sym (head-joined (number_bytes h.context) (number_bytes (length h.tree)) (number_bytes (length h.tables.keys))
        (number_bytes (length h.tables.key_hashes)) (number_bytes (length h.tables.hashes32)) (number_bytes (length h.tables.hashes20))
        h.tree h.tables.keys h.tables.key_hashes h.tables.hashes32 h.tables.hashes20 g.behind)

-- ---- the log

pub one_form : OneForm
unfolding log log_bytes to_end
one_form s l a e = by-log (log s) refl e
  where
    by-log : (o : Option (Read Log)) → log s ≡ o → value_of o ≡ Some l → s ≡ log_bytes l
    by-log None k v = absurd (let y : ◌≡◌ {A = ℕ} 0 1 = cc in omega arith)
    by-log (Some g) k v =
        let w = went (head s) (λ h. to_end entry >>= λ es. give (record { front = h; entries = es })) g k in
        let h = w.first.value in
        let left = left-bytes head-writes s w.first a w.reads in
        let m = went (to_end entry w.first.behind) (λ es. give (record { front = h; entries = es })) g w.then in
        let rest = up-to-writes entry entry_bytes entry-writes (length w.first.behind) w.first.behind m.first left m.reads in
        let is-log : record { front = h; entries = m.first.value } ≡ l = sym (given m.then).0 ∙ some_same v in
        head-writes.tells s w.first a w.reads ∙ ap (λ z. head_bytes h ++ z) rest.0 ∙ ap log_bytes is-log
