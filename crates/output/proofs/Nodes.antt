-- Writing goes over the children of a node with what is still to come: the bytes placed so far, with those of the children to come, are those
-- of all children, and the numbers of their records stand in a row. Assumes nothing.
use Rattle.std.specs.Prelude.{None, Some}
use mathlib.Core.Path.{◌≡◌, refl, sym, ◌∙◌, ap, subst}
use mathlib.Core.List.{List, [], ◌∷◌, ◌++◌, append-nil, append_assoc}
use mathlib.Core.Logic.{inl, inr}
use Prim.Native.Nat.{ℕ, suc, ◌+◌, ◌-◌, ◌%◌, ◌<◌, ◌≤◌}
use native.Mathlib.Omega.{arith}
use lib.ListN.{length, get_or, set, take, drop, length-set}
use lib.Seq.{sets, length-sets, sets-eq, take-suc-set}
use Rattle.words.specs.Bytes.{bytes_of}
use Rattle.contexts.specs.Leaves.{After, Older, Sha256, Hash256, Ripemd160, Hash160}
use Rattle.trees.specs.Fragment.{Fragment, Fragments, end, ◌▹◌, False, True, PkK, PkH, Lock, Hash}
use Rattle.trees.specs.Fragment.{Alt, Swap, Check, DupIf, Verify, NonZero, ZeroNotEqual}
use Rattle.trees.specs.Fragment.{AndB, AndV, OrB, OrD, OrC, OrI, AndOr, Thresh, Multi, MultiA}
use Rattle.trees.specs.Reading.{max_records}
use Rattle.writing.specs.Writing.{Node, node, Nodes, nil, ◌▸◌, in_row, k_and_n, record_of, node_of, nodes_of, count, counts, own, owns, written}
use Rattle.writing.specs.Writing.{written_all, size, bytes_of_tree}
use Rattle.writing.specs.WellFormed.{WellFormed, AllWellFormed}
use Rattle.writing.proofs.Clauses.{own-last}
use Rattle.output.specs.Records.{tree_at, kind_at, front_at, arity_at, child_at, child_nodes, length_at, record_at}
use Rattle.output.specs.Answers.{Readable, Wrote, wrote, too_small}
use Rattle.output.specs.Inside.{SomeK, AllSomeK, Placed, Room, Ended}
use Rattle.output.specs.declared.End.{End}
use Rattle.output.proofs.Shapes.{shape}
use Rattle.output.proofs.Lengths.{length_of, lengths_of, length-written, lengths-written, count-is, length-is}
use Rattle.output.proofs.Placing.{then-sets}
use Rattle.output.proofs.Measuring.{next-child, no-child, child-falls, child-readable, count-cons, length-cons}

-- ---- k is not 0 where a tree is well formed

no-k : (kind : ℕ) → kind < 107 → {A : Type 0} → 107 ≤ kind → A
no-k kind h l = absurd (omega arith)

first-k : (k n : ℕ) (rest : List ℕ) → 1 ≤ k → k ≤ n → n ≤ 16 → 1 ≤ get_or (k_and_n k n ++ rest) 0 0
unfolding in_row bytes_of
first-k k n rest l h u =
    let e : k % 256 ≡ k = omega arith in
    rw e l

mutual
  unfolding SomeK node_of WellFormed

  pub some-k : (f : Fragment) → WellFormed f → SomeK (node_of f)
  some-k False w = (no-k 32 (omega arith), tt)
  some-k True w = (no-k 33 (omega arith), tt)
  some-k (PkK key) w = (no-k 84 (omega arith), tt)
  some-k (PkH key) w = (no-k 85 (omega arith), tt)
  some-k (Lock After n) w = (no-k 36 (omega arith), tt)
  some-k (Lock Older n) w = (no-k 37 (omega arith), tt)
  some-k (Hash Sha256 h) w = (no-k 38 (omega arith), tt)
  some-k (Hash Hash256 h) w = (no-k 39 (omega arith), tt)
  some-k (Hash Ripemd160 h) w = (no-k 40 (omega arith), tt)
  some-k (Hash Hash160 h) w = (no-k 41 (omega arith), tt)
  some-k (Alt x) w = (no-k 42 (omega arith), (some-k x w, tt))
  some-k (Swap x) w = (no-k 43 (omega arith), (some-k x w, tt))
  some-k (Check x) w = (no-k 44 (omega arith), (some-k x w, tt))
  some-k (DupIf x) w = (no-k 45 (omega arith), (some-k x w, tt))
  some-k (Verify x) w = (no-k 46 (omega arith), (some-k x w, tt))
  some-k (NonZero x) w = (no-k 47 (omega arith), (some-k x w, tt))
  some-k (ZeroNotEqual x) w = (no-k 48 (omega arith), (some-k x w, tt))
  some-k (AndB x y) w = (no-k 49 (omega arith), (some-k x w.0, (some-k y w.1, tt)))
  some-k (AndV x y) w = (no-k 50 (omega arith), (some-k x w.0, (some-k y w.1, tt)))
  some-k (OrB x y) w = (no-k 51 (omega arith), (some-k x w.0, (some-k y w.1, tt)))
  some-k (OrD x y) w = (no-k 52 (omega arith), (some-k x w.0, (some-k y w.1, tt)))
  some-k (OrC x y) w = (no-k 53 (omega arith), (some-k x w.0, (some-k y w.1, tt)))
  some-k (OrI x y) w = (no-k 54 (omega arith), (some-k x w.0, (some-k y w.1, tt)))
  some-k (AndOr x y z) w = (no-k 55 (omega arith), (some-k x w.0, (some-k y w.1, (some-k z w.2, tt))))
  some-k (Thresh k xs) w = (no-k 56 (omega arith), all-some-k xs w.1)
  some-k (Multi k keys) w = ((λ l. first-k k (length keys) (in_row 8 keys) w.0.0 w.0.1 w.0.2), tt)
  some-k (MultiA k keys) w = ((λ l. first-k k (length keys) (in_row 8 keys) w.0.0 w.0.1 w.0.2), tt)

  pub all-some-k : (xs : Fragments) → AllWellFormed xs → AllSomeK (nodes_of xs)
  all-some-k end w = tt
  all-some-k (x ▹ xs) w = (some-k x w.0, all-some-k xs w.1)

-- ---- the children of a node, one after another

some-children : (kind : ℕ) (front : List ℕ) (xs : Nodes) → SomeK (node kind front xs) → AllSomeK xs
unfolding SomeK
some-children kind front xs s = s.1

some_first : (x : Node) (xs : Nodes) → AllSomeK (x ▸ xs) → SomeK x × AllSomeK xs
unfolding SomeK
some_first x xs s = s

written_next : (n : ℕ) (x : Node) (xs : Nodes) → written_all n (x ▸ xs) ≡ written n x ++ written_all (n + count x) xs
unfolding written
written_next n x xs = refl

owns-next : (n : ℕ) (x : Node) (xs : Nodes) → owns n (x ▸ xs) ≡ own n x ∷ owns (n + count x) xs
unfolding owns
owns-next n x xs = refl

written-whole : (n kind : ℕ) (front : List ℕ) (xs : Nodes)
    → written_all n xs ++ record_of kind (front ++ in_row 2 (owns n xs)) ≡ written n (node kind front xs)
unfolding written
written-whole n kind front xs = refl

none_left : (n : ℕ) → (written_all n nil ≡ []) × (lengths_of nil ≡ 0) × (counts nil ≡ 0) × (owns n nil ≡ [])
unfolding written length_of count owns
none_left n = (refl, refl, refl, refl)

abbrev pub rest : (pol m : List ℕ) (e j k : ℕ) → Nodes
rest pol m e j k = child_nodes pol m e j (k - j)

pub record WriteInv (pol m : List ℕ) (e : ℕ) (out₀ : List ℕ) (at n k : ℕ) (out row : List ℕ) (to records j : ℕ) : Type 0 where
  pub arity : k ≡ arity_at pol m e
  pub upto : j ≤ k
  pub long : length out ≡ length out₀
  pub wide : length row ≡ 16
  pub bytes : sets out to (written_all records (rest pol m e j k)) ≡ sets out₀ at (written_all n (child_nodes pol m e 0 k))
  pub place : to + lengths_of (rest pol m e j k) ≡ at + lengths_of (child_nodes pol m e 0 k)
  pub counted : records + counts (rest pol m e j k) ≡ n + counts (child_nodes pol m e 0 k)
  pub numbers : take j row ++ owns records (rest pol m e j k) ≡ owns n (child_nodes pol m e 0 k)
  pub sound : AllSomeK (rest pol m e j k)

module _ {pol m : List ℕ} {e : ℕ} {out₀ : List ℕ} {at n k : ℕ} (room : Room pol m e out₀ at n) (a : k ≡ arity_at pol m e) where
  shaped : node_of (tree_at pol m e) ≡ node (kind_at m e) (front_at pol m e) (child_nodes pol m e 0 k)
  shaped =
      shape pol room.readable.holds e room.readable.there
      ∙ ap (λ (i : ℕ). node (kind_at m e) (front_at pol m e) (child_nodes pol m e 0 i)) (sym a)

  all-count : count (node_of (tree_at pol m e)) ≡ counts (child_nodes pol m e 0 k) + 1
  all-count = count-is room.readable ∙ ap (λ (i : ℕ). counts (child_nodes pol m e 0 i) + 1) (sym a)

  all-length : length_of (node_of (tree_at pol m e)) ≡ lengths_of (child_nodes pol m e 0 k) + length_at pol m e
  all-length = length-is room.readable ∙ ap (λ (i : ℕ). lengths_of (child_nodes pol m e 0 i) + length_at pol m e) (sym a)

  all_fit : at + lengths_of (child_nodes pol m e 0 k) + length_at pol m e ≤ length out₀
  all_fit = omega (arith, room.fits, length-written n (node_of (tree_at pol m e)), all-length)

  pub write-starts : (row : List ℕ) → length row ≡ 16 → WriteInv pol m e out₀ at n k out₀ row at n 0
  write-starts row wide =
      let z : k - 0 ≡ k = omega arith in
      record {
        arity = a;
        upto = omega arith;
        long = refl;
        wide = wide;
        bytes = rw z;
        place = rw z;
        counted = rw z;
        numbers = rw z;
        sound =
            rw z
            (some-children (kind_at m e) (front_at pol m e) (child_nodes pol m e 0 k) (subst SomeK shaped room.sound));
      }

  module _ {out row : List ℕ} {to records j : ℕ} (inv : WriteInv pol m e out₀ at n k out row to records j) where
    module _ (c : ℕ) (l : j < k) (is : c ≡ child_at m e j) where
      next : rest pol m e j k ≡ node_of (tree_at pol m (child_at m e j)) ▸ child_nodes pol m e (j + 1) (k - (j + 1))
      next = next-child pol m e j k l

      same : node_of (tree_at pol m c) ≡ node_of (tree_at pol m (child_at m e j))
      same = ap (λ (i : ℕ). node_of (tree_at pol m i)) is

      next-count : counts (rest pol m e j k) ≡ count (node_of (tree_at pol m c)) + counts (child_nodes pol m e (j + 1) (k - (j + 1)))
      next-count =
          ap counts next ∙ count-cons (node_of (tree_at pol m (child_at m e j))) (child_nodes pol m e (j + 1) (k - (j + 1)))
          ∙ ap (λ (y : Node). count y + counts (child_nodes pol m e (j + 1) (k - (j + 1)))) (sym same)

      next-length : lengths_of (rest pol m e j k) ≡ length_of (node_of (tree_at pol m c)) + lengths_of (child_nodes pol m e (j + 1) (k - (j + 1)))
      next-length =
          ap lengths_of next ∙ length-cons (node_of (tree_at pol m (child_at m e j))) (child_nodes pol m e (j + 1) (k - (j + 1)))
          ∙ ap (λ (y : Node). length_of y + lengths_of (child_nodes pol m e (j + 1) (k - (j + 1)))) (sym same)

      next-sound : SomeK (node_of (tree_at pol m (child_at m e j))) × AllSomeK (child_nodes pol m e (j + 1) (k - (j + 1)))
      next-sound =
          some_first (node_of (tree_at pol m (child_at m e j))) (child_nodes pol m e (j + 1) (k - (j + 1))) (subst AllSomeK next inv.sound)

      pub child-less : c < e
      child-less = omega (arith, child-falls room.readable j (omega arith))

      pub child-room : Room pol m c out to records
      child-room =
          record {
            readable = child-readable room.readable j c (omega arith) is;
            sound = subst SomeK (sym same) next-sound.0;
            fits =
                omega (arith, length-written records (node_of (tree_at pol m c)), next-length, inv.place, inv.long, all_fit);
            few = omega (arith, next-count, inv.counted, room.few, all-count);
          }

      module _ (out' : List ℕ) (r : End) (ended : Ended (node_of (tree_at pol m c)) to records out out' r) where
        pub record-number : (1 ≤ r.records) × (r.records ≤ max_records)
        record-number =
            let o : own records (node_of (tree_at pol m c)) + 1 ≡ records + count (node_of (tree_at pol m c)) = own-last records (node_of (tree_at pol m c)) in (
              omega (arith, ended.records),
              omega (arith, ended.records, next-count, inv.counted, room.few, all-count),
            )

        own-number : r.records - 1 ≡ own records (node_of (tree_at pol m c))
        own-number =
            let o : own records (node_of (tree_at pol m c)) + 1 ≡ records + count (node_of (tree_at pol m c)) = own-last records (node_of (tree_at pol m c)) in
            omega (arith, ended.records)

        next-rest : rest pol m e j k ≡ node_of (tree_at pol m c) ▸ child_nodes pol m e (j + 1) (k - (j + 1))
        next-rest = next ∙ ap (λ (y : Node). y ▸ child_nodes pol m e (j + 1) (k - (j + 1))) (sym same)

        placed : sets out' r.at (written_all r.records (child_nodes pol m e (j + 1) (k - (j + 1))))
            ≡ sets out to (written_all records (rest pol m e j k))
        placed =
            then-sets out out' (sets out' r.at (written_all r.records (child_nodes pol m e (j + 1) (k - (j + 1)))))
            (written records (node_of (tree_at pol m c))) (written_all r.records (child_nodes pol m e (j + 1) (k - (j + 1)))) to r.at ended.is refl
            ended.to
            ∙ ap (λ (i : ℕ). sets out to (written records (node_of (tree_at pol m c)) ++ written_all i (child_nodes pol m e (j + 1) (k - (j + 1))))) ended.records
            ∙ ap (sets out to)
            (sym (ap (written_all records) next-rest ∙ written_next records (node_of (tree_at pol m c)) (child_nodes pol m e (j + 1) (k - (j + 1)))))

        numbered : k ≤ 16 → take (j + 1) (set row j (r.records - 1)) ++ owns r.records (child_nodes pol m e (j + 1) (k - (j + 1)))
            ≡ take j row ++ owns records (rest pol m e j k)
        numbered few =
            let in-row : j < length row = omega (arith, inv.wide) in
            let s : j + 1 ≡ suc j = omega arith in
            ap (λ (i : ℕ). take i (set row j (r.records - 1)) ++ owns r.records (child_nodes pol m e (j + 1) (k - (j + 1)))) s
            ∙ ap (λ (l : List ℕ). l ++ owns r.records (child_nodes pol m e (j + 1) (k - (j + 1)))) (take-suc-set row j (r.records - 1) in-row)
            ∙ append_assoc (take j row) ((r.records - 1) ∷ []) (owns r.records (child_nodes pol m e (j + 1) (k - (j + 1))))
            ∙ ap (λ (i : ℕ). take j row ++ (i ∷ owns r.records (child_nodes pol m e (j + 1) (k - (j + 1))))) own-number
            ∙ ap (λ (i : ℕ). take j row ++ (own records (node_of (tree_at pol m c)) ∷ owns i (child_nodes pol m e (j + 1) (k - (j + 1))))) ended.records
            ∙ ap (λ (l : List ℕ). take j row ++ l)
            (sym (ap (owns records) next-rest ∙ owns-next records (node_of (tree_at pol m c)) (child_nodes pol m e (j + 1) (k - (j + 1)))))

        pub write-goes-on : k ≤ 16 → WriteInv pol m e out₀ at n k out' (set row j (r.records - 1)) r.at r.records (j + 1)
        write-goes-on few =
            record {
              arity = a;
              upto = omega arith;
              long = ap length ended.is ∙ length-sets out to (written records (node_of (tree_at pol m c))) ∙ inv.long;
              wide = length-set row j (r.records - 1) ∙ inv.wide;
              bytes = placed ∙ inv.bytes;
              place = omega (arith, ended.to, length-written records (node_of (tree_at pol m c)), next-length, inv.place);
              counted = omega (arith, ended.records, next-count, inv.counted);
              numbers = numbered few ∙ inv.numbers;
              sound = next-sound.1;
            }

    -- ---- all children are written

    module _ (l : k ≤ j) where
      none : rest pol m e j k ≡ nil
      none = no-child pol m e j k l

      pub all_placed : to ≡ at + lengths_of (child_nodes pol m e 0 k)
      all_placed = omega (arith, inv.place, ap lengths_of none, (none_left 0).1)

      pub all-counted : records ≡ n + counts (child_nodes pol m e 0 k)
      all-counted = omega (arith, inv.counted, ap counts none, (none_left 0).2)

      all-written : out ≡ sets out₀ at (written_all n (child_nodes pol m e 0 k))
      all-written = ap (λ (bs : List ℕ). sets out to bs) (sym (ap (written_all records) none ∙ (none_left records).0)) ∙ inv.bytes

      all-numbers : take (arity_at pol m e) row ≡ owns n (child_nodes pol m e 0 k)
      all-numbers =
          let same : arity_at pol m e ≡ j = omega (arith, inv.upto) in
          ap (λ (i : ℕ). take i row) same
          ∙ sym (append-nil (take j row))
          ∙ ap (λ (ns : List ℕ). take j row ++ ns) (sym (ap (owns records) none ∙ (none_left records).3))
          ∙ inv.numbers

      pub record-room : to + length_at pol m e ≤ length out
      record-room = omega (arith, all_placed, all_fit, inv.long)

      pub records-few : records + 1 ≤ max_records
      records-few = omega (arith, all-counted, all-count, room.few)

      record_is : record_at pol m e row ≡ record_of (kind_at m e) (front_at pol m e ++ in_row 2 (owns n (child_nodes pol m e 0 k)))
      unfolding record_at
      record_is = ap (λ (ns : List ℕ). record_of (kind_at m e) (front_at pol m e ++ in_row 2 ns)) all-numbers

      whole : written_all n (child_nodes pol m e 0 k) ++ record_at pol m e row ≡ written n (node_of (tree_at pol m e))
      whole = ap (λ (bs : List ℕ). written_all n (child_nodes pol m e 0 k) ++ bs) record_is ∙ written-whole n (kind_at m e) (front_at pol m e) (child_nodes pol m e 0 k) ∙ ap (written n) (sym shaped)

      pub write-ends : (out' : List ℕ) (last : ℕ) → Placed pol m e row to out out' last
          → Ended (node_of (tree_at pol m e)) at n out₀ out' (record { at = last; records = records + 1 })
      write-ends out' last put =
          record {
            is =
                then-sets out₀ out out' (written_all n (child_nodes pol m e 0 k)) (record_at pol m e row) at to all-written put.is
                (omega (arith, all_placed, lengths-written n (child_nodes pol m e 0 k)))
                ∙ ap (sets out₀ at) whole;
            to = omega (arith, put.to, all_placed, length-written n (node_of (tree_at pol m e)), all-length);
            records = omega (arith, all-counted, all-count);
          }

pub ended-long : (t : Node) (at n : ℕ) (out₀ out : List ℕ) (r : End) → Ended t at n out₀ out r → length out ≡ length out₀
ended-long t at n out₀ out r ended = ap length ended.is ∙ length-sets out₀ at (written n t)

-- ---- the whole tree

module _ {pol m : List ℕ} {e : ℕ} (readable : Readable pol m e) (w : WellFormed (tree_at pol m e)) (out₀ : List ℕ) where
  pub whole_room : (records bytes : ℕ) → size (tree_at pol m e) ≡ records → length_of (node_of (tree_at pol m e)) ≡ bytes
      → records ≤ max_records → bytes ≤ length out₀
      → Room pol m e out₀ 0 0
  whole_room records bytes s b few l =
      record {
        readable = readable;
        sound = some-k (tree_at pol m e) w;
        fits = omega (arith, length-written 0 (node_of (tree_at pol m e)));
        few = omega arith;
      }

  pub whole-written : (records bytes : ℕ) (out : List ℕ) (r : End) → size (tree_at pol m e) ≡ records → length_of (node_of (tree_at pol m e)) ≡ bytes
      → records ≤ max_records → bytes ≤ length out₀ → Ended (node_of (tree_at pol m e)) 0 0 out₀ out r → Wrote (tree_at pol m e) out₀ out (Some bytes)
  whole-written records bytes out r s b few l ended =
      let t : List ℕ = bytes_of_tree (tree_at pol m e) in
      let long : length t ≡ bytes = length-written 0 (node_of (tree_at pol m e)) ∙ b in
      let e₀ : 0 + length t ≡ bytes = omega arith in
      wrote {n = bytes} (omega arith) long l
      (ended.is ∙ sets-eq t out₀ 0 (omega arith) ∙ ap (λ (i : ℕ). t ++ drop i out₀) e₀)

pub whole_long : (t : Fragment) (out₀ : List ℕ) (bytes : ℕ) → length_of (node_of t) ≡ bytes → length out₀ < bytes
    → Wrote t out₀ out₀ None
whole_long t out₀ bytes b l = too_small (inr (omega (arith, length-written 0 (node_of t)))) refl

pub whole-many : (t : Fragment) (out₀ : List ℕ) → max_records < size t → Wrote t out₀ out₀ None
whole-many t out₀ l = too_small (inl l) refl
