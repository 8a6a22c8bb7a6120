-- No sum wraps: the size of a fragment is below its weight, each record of a tree adds at most 640 to that of the records up to it, and there are at most
-- 4,096. Assumes nothing.
use Prim.Native.Nat.{ℕ, zero, suc, ◌+◌, ◌*◌, ◌≤◌, ◌<◌}
use mathlib.Core.Bool.{Bool, true, false, cond}
use mathlib.Core.List.{List, [], ◌∷◌}
use Rattle.std.specs.Prelude.{Option, Some}
use mathlib.Core.Path.{◌≡◌, refl, sym, ap, subst, ◌∙◌}
use native.Mathlib.Omega.{arith}
use borrow.Author.Tests.{leb-true, leb-false, eqb-true}
use lib.Dec.{leb, eqb}
use lib.ListN.{length}
use Rattle.words.proofs.Bytes.{length-bytes}
use Rattle.records.specs.declared.Shape.TheVariants as Shape
use Rattle.records.specs.Numbers.{max_lock}
use Rattle.records.specs.Payloads.{Payload, nothing, number, children, weighted, threshold, keys, number_in, number_of, k_of, count_of, keys_of, payload_of}
use Rattle.records.specs.RecordForm.{kind_of, fragment_payload}
use Rattle.records.specs.Answers.{parts_of}
use Rattle.records.proofs.Arities.{counts}
use Rattle.records.proofs.KindRanges.{shapes-in}
use Rattle.records.proofs.Laws.{of-fragment, fragment-record, lock-bounds}
use Rattle.contexts.specs.declared.Context.{Context}
use Rattle.contexts.specs.declared.Context.TheVariants.{Segwitv0, Tap}
use Rattle.contexts.specs.Leaves.{LockKind, After, Older, HashKind, Sha256, Hash256, Ripemd160, Hash160}
use Rattle.trees.specs.Fragment.{Fragment, Fragments, end, ◌▹◌, to_list, False, True, PkK, PkH, Lock, Hash}
use Rattle.trees.specs.Fragment.{Alt, Swap, Check, DupIf, Verify, NonZero, ZeroNotEqual}
use Rattle.trees.specs.Fragment.{AndB, AndV, OrB, OrD, OrC, OrI, AndOr, Thresh, Multi, MultiA}
use Rattle.walk.specs.TreeRecords.{record_at, fragment_at, TreeRecord, TreeRecords}
use Rattle.walk.specs.Heads.{Head, head_of, children_in, head_with}
use Rattle.walk.specs.Folds.{every, over_records, Gathers, OwnAndChildren}
use Rattle.walk.proofs.Laws.{row_told}
use Rattle.walk.proofs.KindLaws.{no_payload, number-payload, one-payload, two-payload, three-payload, threshold-bounds}
use Rattle.walk.proofs.HeadLaws.{head_at}
use Rattle.walk.proofs.FoldLaws.{part_of}
use Rattle.script_bytes.proofs.Pushes.{Range, is-0, to-16, in-1, in-2, in-3, in-4, range, number-0, number_small, number-1, number-2, number-3, number-4}
use Rattle.script_bytes.specs.Tables.{hash_size}
use Rattle.index_places.specs.Sizes.{verify_size, number_size, key_push, size_of, sum_size, adds_size}
use Rattle.index_places.specs.Places.{size_at}

-- ---- the weight of a fragment: what its own record can add, and its children's

-- a lock's number counts
abbrev lock_size : (kind n : ℕ) → ℕ
lock_size kind n = cond (eqb kind 36) (number_size n) (cond (eqb kind 37) (number_size n) 0)

abbrev own_of : Head → ℕ
own_of h = 48 + (lock_size h.kind h.number + (number_size h.k + (36 * length h.keys + number_size (length h.keys))))

abbrev own : Fragment → ℕ
own f = own_of (head_of f)

unfoldable mutual
  weight : Fragment → ℕ
  weight False = own False + 0
  weight True = own True + 0
  weight (PkK n) = own (PkK n) + 0
  weight (PkH n) = own (PkH n) + 0
  weight (Lock kind n) = own (Lock kind n) + 0
  weight (Hash kind h) = own (Hash kind h) + 0
  weight (Alt x) = own (Alt x) + (weight x + 0)
  weight (Swap x) = own (Swap x) + (weight x + 0)
  weight (Check x) = own (Check x) + (weight x + 0)
  weight (DupIf x) = own (DupIf x) + (weight x + 0)
  weight (Verify x) = own (Verify x) + (weight x + 0)
  weight (NonZero x) = own (NonZero x) + (weight x + 0)
  weight (ZeroNotEqual x) = own (ZeroNotEqual x) + (weight x + 0)
  weight (AndB x y) = own (AndB x y) + (weight x + (weight y + 0))
  weight (AndV x y) = own (AndV x y) + (weight x + (weight y + 0))
  weight (OrB x y) = own (OrB x y) + (weight x + (weight y + 0))
  weight (OrD x y) = own (OrD x y) + (weight x + (weight y + 0))
  weight (OrC x y) = own (OrC x y) + (weight x + (weight y + 0))
  weight (OrI x y) = own (OrI x y) + (weight x + (weight y + 0))
  weight (AndOr x y z) = own (AndOr x y z) + (weight x + (weight y + (weight z + 0)))
  weight (Thresh k xs) = own (Thresh k xs) + weights xs
  weight (Multi k ks) = own (Multi k ks) + 0
  weight (MultiA k ks) = own (MultiA k ks) + 0

  weights : Fragments → ℕ
  weights end = 0
  weights (x ▹ xs) = weight x + weights xs

gathers : Gathers ◌+◌ 0
gathers = record { right-unit = λ x. omega arith; assoc = λ x y z. omega arith; comm = λ x y. omega arith }

weights-every : (xs : Fragments) → weights xs ≡ every ◌+◌ 0 weight (to_list xs)
unfolding weights every to_list
weights-every end = refl
weights-every (x ▹ xs) = rw (weights-every xs)

splits : OwnAndChildren ◌+◌ 0 weight own
unfolding weight every children_in
splits False = refl
splits True = refl
splits (PkK n) = refl
splits (PkH n) = refl
splits (Lock kind n) = refl
splits (Hash kind h) = refl
splits (Alt x) = refl
splits (Swap x) = refl
splits (Check x) = refl
splits (DupIf x) = refl
splits (Verify x) = refl
splits (NonZero x) = refl
splits (ZeroNotEqual x) = refl
splits (AndB x y) = refl
splits (AndV x y) = refl
splits (OrB x y) = refl
splits (OrD x y) = refl
splits (OrC x y) = refl
splits (OrI x y) = refl
splits (AndOr x y z) = refl
splits (Thresh k xs) = rw (weights-every xs)
splits (Multi k ks) = refl
splits (MultiA k ks) = refl

-- ---- sizes are below the weight

verify-few : (v : Bool) → verify_size v ≤ 1
verify-few true = omega arith
verify-few false = omega arith

push-few : (c : Context) → key_push c ≤ 34
push-few Segwitv0 = omega arith
push-few Tap = omega arith

keys-few : (c : Context) (n : ℕ) → (key_push c * n ≤ 34 * n) × ((key_push c + 1) * n ≤ 35 * n)
keys-few Segwitv0 n = (omega arith, omega arith)
keys-few Tap n = (omega arith, omega arith)

hash-few : (kind : HashKind) → hash_size kind ≤ 32
hash-few Sha256 = omega arith
hash-few Hash256 = omega arith
hash-few Ripemd160 = omega arith
hash-few Hash160 = omega arith

module _ (c : Context) where
  mutual
    unfolding size_of sum_size adds_size weight weights head_of

    below : (v : Bool) (f : Fragment) → size_of c v f + 1 ≤ weight f
    below v False = omega (arith, verify-few v)
    below v True = omega (arith, verify-few v)
    below v (PkK n) = omega (arith, verify-few v, push-few c)
    below v (PkH n) = omega (arith, verify-few v)
    below v (Lock After n) = omega (arith, verify-few v)
    below v (Lock Older n) = omega (arith, verify-few v)
    below v (Hash kind h) = omega (arith, hash-few kind)
    below v (Alt x) = omega (arith, verify-few v, below false x)
    below v (Swap x) = omega (arith, below v x)
    below v (Check x) = omega (arith, below false x)
    below v (DupIf x) = omega (arith, verify-few v, below false x)
    below v (Verify x) = omega (arith, verify-few v, below true x)
    below v (NonZero x) = omega (arith, verify-few v, below false x)
    below v (ZeroNotEqual x) = omega (arith, verify-few v, below false x)
    below v (AndB x y) = omega (arith, verify-few v, below false x, below false y)
    below v (AndV x y) = omega (arith, below false x, below v y)
    below v (OrB x y) = omega (arith, verify-few v, below false x, below false y)
    below v (OrD x y) = omega (arith, verify-few v, below false x, below false y)
    below v (OrC x y) = omega (arith, verify-few v, below false x, below false y)
    below v (OrI x y) = omega (arith, verify-few v, below false x, below false y)
    below v (AndOr x y z) = omega (arith, verify-few v, below false x, below false y, below false z)
    below v (Thresh k xs) = omega (arith, below-sum xs)
    below v (Multi k ks) = omega (arith, (keys-few c (length ks)).0)
    below v (MultiA k ks) = omega (arith, (keys-few c (length ks)).1)

    below-sum : (xs : Fragments) → sum_size c xs ≤ weights xs
    below-sum end = omega arith
    below-sum (x ▹ xs) = omega (arith, below false x, below-adds xs)

    below-adds : (xs : Fragments) → adds_size c xs ≤ weights xs
    below-adds end = omega arith
    below-adds (x ▹ xs) = omega (arith, below false x, below-adds xs)

-- ---- what a record of a tree adds

number-few : (n : ℕ) → Range n → number_size n ≤ 5
number-few n (is-0 e) = rw (e, number-0) (omega arith)
number-few n (to-16 l h) = rw (number_small n l h) (omega arith)
number-few n (in-1 l h) = rw (number-1 n l h) (omega (arith, length-bytes 1 n))
number-few n (in-2 l h) = rw (number-2 n l h) (omega (arith, length-bytes 2 n))
number-few n (in-3 l h) = rw (number-3 n l h) (omega (arith, length-bytes 3 n))
number-few n (in-4 l h) = rw (number-4 n l h) (omega (arith, length-bytes 4 n))

-- few keys, and k is no more than they are or than the children
few-keys : (p : Payload) → count_of p ≤ 16 → length (keys_of p) ≤ 16
few-keys nothing h = omega arith
few-keys (number n) h = omega arith
few-keys (children cs) h = omega arith
few-keys (weighted l r lw rw) h = omega arith
few-keys (threshold k cs) h = omega arith
few-keys (keys k ks) h = h

module _ {tree : List ℕ} {i : ℕ} (row : TreeRecord tree i) where
  abbrev kind : ℕ
  kind = kind_of (record_at tree i)

  k_as : (q : Payload) → row.payload ≡ q → k_of q ≡ 0 → k_of row.payload ≤ 16
  k_as q e z = omega (arith, ap k_of e, z)

  few-k : k_of row.payload ≤ 16
  few-k = to-33 (leb kind 33) refl
    where
      from-56 : 56 ≤ kind → k_of row.payload ≤ 16
      from-56 l =
          let b = threshold-bounds (row_told row) l in
          let same = ap (λ (o : Option Payload). (parts_of o).k) row.fits in
          omega (arith, b.1, b.2, same)

      to-55 : (b : Bool) → leb kind 55 ≡ b → 55 ≤ kind → k_of row.payload ≤ 16
      to-55 true t l = k_as _ (three-payload (row_told row) (omega (arith, leb-true kind 55 t))) refl
      to-55 false t l = from-56 (omega (arith, leb-false kind 55 t))

      to-54 : (b : Bool) → leb kind 54 ≡ b → 49 ≤ kind → k_of row.payload ≤ 16
      to-54 true t l = k_as _ (two-payload (row_told row) l (leb-true kind 54 t)) refl
      to-54 false t l = to-55 (leb kind 55) refl (omega (arith, leb-false kind 54 t))

      to-48 : (b : Bool) → leb kind 48 ≡ b → 42 ≤ kind → k_of row.payload ≤ 16
      to-48 true t l = k_as _ (one-payload (row_told row) l (leb-true kind 48 t)) refl
      to-48 false t l = to-54 (leb kind 54) refl (omega (arith, leb-false kind 48 t))

      to-41 : (b : Bool) → leb kind 41 ≡ b → 34 ≤ kind → k_of row.payload ≤ 16
      to-41 true t l = k_as _ (number-payload (row_told row) l (leb-true kind 41 t)) refl
      to-41 false t l = to-48 (leb kind 48) refl (omega (arith, leb-false kind 41 t))

      to-33 : (b : Bool) → leb kind 33 ≡ b → k_of row.payload ≤ 16
      to-33 true t = k_as _ (no_payload (row_told row) (leb-true kind 33 t)) refl
      to-33 false t = to-41 (leb kind 41) refl (omega (arith, leb-false kind 33 t))

  lock-as : (q : Payload) → row.payload ≡ q → number_of q ≤ max_lock → number_of row.payload ≤ max_lock
  lock-as q e z = omega (arith, ap number_of e, z)

  lock-few : 36 ≤ kind → kind ≤ 37 → number_of row.payload ≤ max_lock
  lock-few l h =
      let is = number-payload (row_told row) (omega arith) (omega arith) in
      let shape = shapes-in 36 37 refl kind l h in
      let fits : payload_of Shape.Lock (record_at tree i) ≡ Some row.payload =
      sym (of-fragment (record_at tree i) (fragment-record (record_at tree i) row.fits).0 shape) ∙ row.fits in
      lock-as _ is (lock-bounds (record_at tree i) (fits ∙ ap Some is)).1

  lock-small : (n : ℕ) → number_of row.payload ≡ n → lock_size kind n ≤ 5
  lock-small n e = by_kind (eqb kind 36) (eqb kind 37) refl refl
    where
      by_kind : (a b : Bool) → eqb kind 36 ≡ a → eqb kind 37 ≡ b → lock_size kind n ≤ 5
      by_kind true b t u =
          let same = eqb-true kind 36 t in
          rw t (number-few n (range n (omega (arith, e, lock-few (omega arith) (omega arith)))))
      by_kind false true t u =
          let same = eqb-true kind 37 u in
          rw (t, u) (number-few n (range n (omega (arith, e, lock-few (omega arith) (omega arith)))))
      by_kind false false t u = rw (t, u) (omega arith)

  own-few : own (fragment_at tree i) ≤ 640
  own-few =
      let p = row.payload in
      let head : head_of (fragment_at tree i) ≡ head_with kind (Some p) =
      head_at row ∙ ap (head_with kind) row.fits in
      let is : own (fragment_at tree i) ≡ 48 + (lock_size kind (number_of p) + (number_size (k_of p) + (36 * length (keys_of p) + number_size (length (keys_of p))))) =
      ap own_of head in
      let few = few-keys p (counts (record_at tree i) p row.fits).few in
      omega (
        arith,
        is,
        lock-small (number_of p) refl,
        few,
        number-few (k_of p) (range (k_of p) (omega (arith, few-k))),
        number-few (length (keys_of p)) (range (length (keys_of p)) (omega (arith, few))),
      )

-- ---- all records

module _ (c : Context) {tree : List ℕ} {f : Fragment} (r : TreeRecords tree f) where
  over-few : (n : ℕ) → n ≤ r.count → over_records ◌+◌ 0 own tree n ≤ n * 640
  unfolding over_records
  over-few zero h = omega arith
  over-few (suc n) h = omega (arith, over-few n (omega arith), own-few (r.row n (omega arith)))

  -- no script of a record has 2^22 bytes
  pub size_small : (v : Bool) (i : ℕ) → i < r.count → size_at c tree v i < 4194304
  unfolding size_at
  size_small v i h =
      let part = part_of ◌+◌ 0 gathers weight own splits r i h in
      omega (arith, part.1, over-few (suc i) h, r.few, below c v (fragment_at tree i))
