-- The head of a log where it stands in its bytes. Assumes nothing.
use Prim.Native.Nat.{ℕ, ◌+◌, ◌-◌, ◌≤◌, ◌<◌}
use mathlib.Core.Bool.{Bool, true, false}
use mathlib.Core.List.{List}
use Rattle.std.specs.Prelude.{Option, None, Some}
use mathlib.Core.Path.{◌≡◌, refl, sym, ap, subst, ◌∙◌}
use native.Mathlib.Omega.{arith}
use borrow.Author.Tests.{leb-true, leb-false}
use lib.Dec.{leb}
use lib.ListN.{length, take, drop, length-drop}
use lib.Seq.{length-take-le}
use Rattle.records.specs.Numbers.{u32}
use Rattle.script_bytes.specs.Tables.{tables}
use Rattle.spend_machine.specs.Entries.{Entry}
use Rattle.spend_log.specs.Readers.{Read, give, onward, block, number, to_end}
use Rattle.spend_log.specs.Logs.{Head, contents, head, entry, Log, log, value_of, log_of}
use Rattle.spend_log.specs.Places.{offsets, head_answer, head_in, Lies, count_answer}
use Rattle.spend_log.specs.declared.Offsets.{Offsets}
use Rattle.spend_log.proofs.Passing.{Takes, takes-give, takes-block, takes-then, takes-number, takes-any, takes_none}
use Rattle.spend_log.proofs.Parts.{block-found, number-there}

takes-contents : (c t k kh h32 h20 : ℕ) → Takes (t + (k + (kh + (h32 + (h20 + 0))))) (contents c t k kh h32 h20)
unfolding contents
takes-contents c t k kh h32 h20 =
    takes-then (block t) _ (takes-block t) λ a.
    takes-then (block k) _ (takes-block k) λ b.
    takes-then (block kh) _ (takes-block kh) λ d.
    takes-then (block h32) _ (takes-block h32) λ e.
    takes-then (block h20) _ (takes-block h20) λ f.
    takes-give _

takes-head : Takes 24 head
unfolding head
takes-head =
    takes-then number _ takes-number λ c.
    takes-then number _ takes-number λ t.
    takes-then number _ takes-number λ k.
    takes-then number _ takes-number λ kh.
    takes-then number _ takes-number λ h32.
    takes-then number _ takes-number λ h20.
    takes-any (takes-contents c t k kh h32 h20)

module _ (s : List ℕ) where
  pub head-short : length s < 24 → None ≡ head_answer (head s)
  head-short h = sym (ap head_answer (takes_none takes-head s h))

  module _ (long : 24 ≤ length s) where
    head-numbers : head s ≡ contents (u32 s 0) (u32 s 4) (u32 s 8) (u32 s 12) (u32 s 16) (u32 s 20) (drop 24 s)
    unfolding head
    head-numbers =
        rw (
          number-there s 0 (omega arith),
          number-there s 4 (omega arith),
          number-there s 8 (omega arith),
          number-there s 12 (omega arith),
          number-there s 16 (omega arith),
          number-there s 20 (omega arith),
        )

    pub head-cut : length s < 24 + u32 s 4 + u32 s 8 + u32 s 12 + u32 s 16 + u32 s 20 → None ≡ head_answer (head s)
    head-cut h =
        let l : length (drop 24 s) ≡ length s - 24 = length-drop 24 s in
        sym (ap head_answer (head-numbers
        ∙ takes_none (takes-contents (u32 s 0) (u32 s 4) (u32 s 8) (u32 s 12) (u32 s 16) (u32 s 20)) (drop 24 s) (omega arith)))

-- a head that fits, by the numbers in front
module _ (s : List ℕ) (c t k kh h32 h20 : ℕ) (fits : 24 + t + k + kh + h32 + h20 ≤ length s) where
  contents-whole : contents c t k kh h32 h20 (drop 24 s) ≡ Some (record {
    value = record {
      context = c;
      tree = take t (drop 24 s);
      tables =
          tables (take k (drop (24 + t) s)) (take kh (drop (24 + t + k) s)) (take h32 (drop (24 + t + k + kh) s))
          (take h20 (drop (24 + t + k + kh + h32) s));
    };
    behind = drop (24 + t + k + kh + h32 + h20) s;
  })
  unfolding contents
  contents-whole =
      rw (
        block-found t s 24 (omega arith),
        block-found k s (24 + t) (omega arith),
        block-found kh s (24 + t + k) (omega arith),
        block-found h32 s (24 + t + k + kh) (omega arith),
        block-found h20 s (24 + t + k + kh + h32) (omega arith),
      )

  long-part : (n at : ℕ) → at + n ≤ length s → length (take n (drop at s)) ≡ n
  long-part n at h =
      let l : length (drop at s) ≡ length s - at = length-drop at s in
      length-take-le n (drop at s) (omega arith)

  pub head-whole : c ≡ u32 s 0 → t ≡ u32 s 4 → k ≡ u32 s 8 → kh ≡ u32 s 12 → h32 ≡ u32 s 16 → h20 ≡ u32 s 20
      → Some (record {
        context = c;
        keys = 24 + t;
        key_hashes = 24 + t + k;
        hashes32 = 24 + t + k + kh;
        hashes20 = 24 + t + k + kh + h32;
        entries = 24 + t + k + kh + h32 + h20;
      })
      ≡ head_answer (head s)
  head-whole ec et ek ekh e32 e20 =
      let numbers : head s ≡ contents c t k kh h32 h20 (drop 24 s) =
      rw (ec, et, ek, ekh, e32, e20) (head-numbers s (omega arith))
      in
      sym (ap head_answer (numbers ∙ contents-whole)
      ∙ rw (
        long-part t 24 (omega arith),
        long-part k (24 + t) (omega arith),
        long-part kh (24 + t + k) (omega arith),
        long-part h32 (24 + t + k + kh) (omega arith),
        long-part h20 (24 + t + k + kh + h32) (omega arith),
      ))

-- ---- a head that was answered

whole_same : {a b : Offsets} → Some a ≡ Some b → a ≡ b
whole_same e = cc

module _ (s : List ℕ) (t k kh h32 h20 : ℕ) (fits : 24 + t + k + kh + h32 + h20 ≤ length s) where
  abbrev placed : Offsets
  placed =
      record {
        context = u32 s 0;
        keys = 24 + t;
        key_hashes = 24 + t + k;
        hashes32 = 24 + t + k + kh;
        hashes20 = 24 + t + k + kh + h32;
        entries = 24 + t + k + kh + h32 + h20;
      }

  lies_placed : t ≡ u32 s 4 → k ≡ u32 s 8 → kh ≡ u32 s 12 → h32 ≡ u32 s 16 → h20 ≡ u32 s 20 → Lies s placed
  lies_placed et ek ekh e32 e20 =
      let t-is : 24 + t - 24 ≡ t = omega arith in
      let k-is : 24 + t + k - (24 + t) ≡ k = omega arith in
      let kh-is : 24 + t + k + kh - (24 + t + k) ≡ kh = omega arith in
      let h32-is : 24 + t + k + kh + h32 - (24 + t + k + kh) ≡ h32 = omega arith in
      let h20-is : 24 + t + k + kh + h32 + h20 - (24 + t + k + kh + h32) ≡ h20 = omega arith in
      let numbers : head s ≡ contents (u32 s 0) t k kh h32 h20 (drop 24 s) = rw (et, ek, ekh, e32, e20) (head-numbers s (omega arith)) in
      record {
        reads = rw (t-is, k-is, kh-is, h32-is, h20-is) (numbers ∙ contents-whole s (u32 s 0) t k kh h32 h20 fits);
        keys = omega arith;
        key-hashes = omega arith;
        hashes32 = omega arith;
        hashes20 = omega arith;
        entries = omega arith;
        within = fits;
      }

pub head-told : (s : List ℕ) {a : Option Offsets} {h : Offsets} → a ≡ head_answer (head s) → a ≡ Some h → Lies s h
head-told s {a} {h} e m = by_length (leb 24 (length s)) refl
  where
    never : {A : Type 0} → None ≡ head_answer (head s) → A
    never b =
        let z : None ≡ Some h = b ∙ sym e ∙ m in
        absurd (let y : ◌≡◌ {A = ℕ} 0 1 = cc in omega arith)

    by-fit : 24 ≤ length s → (f : Bool) → leb (24 + u32 s 4 + u32 s 8 + u32 s 12 + u32 s 16 + u32 s 20) (length s) ≡ f → Lies s h
    by-fit l true f =
        let fits = leb-true (24 + u32 s 4 + u32 s 8 + u32 s 12 + u32 s 16 + u32 s 20) (length s) f in
        let lies = lies_placed s (u32 s 4) (u32 s 8) (u32 s 12) (u32 s 16) (u32 s 20) fits refl refl refl refl refl in
        let whole = head-whole s (u32 s 0) (u32 s 4) (u32 s 8) (u32 s 12) (u32 s 16) (u32 s 20) fits refl refl refl refl refl refl in
        subst (λ (x : Offsets). Lies s x) (whole_same (whole ∙ sym e ∙ m)) lies
    by-fit l false f = never (head-cut s l (leb-false (24 + u32 s 4 + u32 s 8 + u32 s 12 + u32 s 16 + u32 s 20) (length s) f))

    by_length : (l : Bool) → leb 24 (length s) ≡ l → Lies s h
    by_length true l = by-fit (leb-true 24 (length s) l) _ refl
    by_length false l = never (head-short s (leb-false 24 (length s) l))

-- a head that is broken, and a log whose head is
pub head-told-broken : (s : List ℕ) {a : Option Offsets} → a ≡ head_answer (head s) → a ≡ None → log_of s ≡ None
unfolding log
head-told-broken s {a} e m = by-head (head s) refl
  where
    by-head : (o : Option (Read Head)) → head s ≡ o → log_of s ≡ None
    by-head None k = rw k
    by-head (Some g) k =
        let z : Some (offsets g.value) ≡ None = sym (ap head_answer k) ∙ sym e ∙ m in
        absurd (let y : ◌≡◌ {A = ℕ} 0 1 = cc in omega arith)

-- ---- the entries behind it

-- from here on entries stand up to the end of the log
pub record Entries (s : List ℕ) (at : ℕ) (es : List Entry) : Type 0 where
  pub last : List ℕ
  pub reads : to_end entry (drop at s) ≡ Some (record { value = es; behind = last })

-- the log that lies there, and its entries, so many
pub record EntriesAt (s : List ℕ) (h : Offsets) (n : ℕ) : Type 0 where
  pub those : List Entry
  pub stand : Entries s h.entries those
  pub count : n ≡ length those
  pub is-log : log_of s ≡ Some (record { front = head_in s h; entries = those })

module _ (s : List ℕ) (h : Offsets) (lies : Lies s h) where
  log_with : Option (Read (List Entry)) → Option Log
  log_with o = value_of (onward o (λ es. give (record { front = head_in s h; entries = es })))

  log_is : log_of s ≡ log_with (to_end entry (drop h.entries s))
  unfolding log log_with
  log_is = rw lies.reads

  with-some : (g : Read (List Entry)) → to_end entry (drop h.entries s) ≡ Some g
      → log_with (to_end entry (drop h.entries s)) ≡ Some (record { front = head_in s h; entries = g.value })
  unfolding log_with
  with-some g k = rw k

  with_none : to_end entry (drop h.entries s) ≡ None → log_with (to_end entry (drop h.entries s)) ≡ None
  unfolding log_with
  with_none k = rw k

  pub entries-told : {a : Option ℕ} {n : ℕ} → a ≡ count_answer (to_end entry (drop h.entries s)) → a ≡ Some n
      → EntriesAt s h n
  entries-told {a} {n} e m = by_entries (to_end entry (drop h.entries s)) refl
    where
      by_entries : (o : Option (Read (List Entry))) → to_end entry (drop h.entries s) ≡ o → EntriesAt s h n
      by_entries None k =
          let z : None ≡ Some n = sym (ap count_answer k) ∙ sym e ∙ m in
          absurd (let y : ◌≡◌ {A = ℕ} 0 1 = cc in omega arith)
      by_entries (Some g) k =
          let z : Some (length g.value) ≡ Some n = sym (ap count_answer k) ∙ sym e ∙ m in
          record {
            those = g.value;
            stand = record { last = g.behind; reads = k };
            count = cc;
            is-log = log_is ∙ with-some g k;
          }

  pub entries-told-broken : {a : Option ℕ} → a ≡ count_answer (to_end entry (drop h.entries s)) → a ≡ None → log_of s ≡ None
  entries-told-broken {a} e m = by_entries (to_end entry (drop h.entries s)) refl
    where
      by_entries : (o : Option (Read (List Entry))) → to_end entry (drop h.entries s) ≡ o → log_of s ≡ None
      by_entries None k = log_is ∙ with_none k
      by_entries (Some g) k =
          let z : Some (length g.value) ≡ None = sym (ap count_answer k) ∙ sym e ∙ m in
          absurd (let y : ◌≡◌ {A = ℕ} 0 1 = cc in omega arith)
