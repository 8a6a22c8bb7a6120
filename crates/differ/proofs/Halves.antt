-- Work memory in two halves: the starts of the left tree's records, then those of the right one's. Assumes nothing.
use Prim.Native.Nat.{ℕ, ◌+◌, ◌-◌, ◌≤◌}
use mathlib.Core.List.{List, ◌++◌}
use mathlib.Core.Path.{◌≡◌, refl, sym, ap, subst, ◌∙◌}
use native.Mathlib.Omega.{arith}
use lib.ListN.{length, take, drop, length-append, length-drop}
use lib.Seq.{length-take-le, take_at, drop_at}
use Rattle.trees.specs.Fragment.{Fragment}
use Rattle.trees.specs.Reading.{max_records}
use Rattle.walk.specs.TreeRecords.{TreeRecords}
use Rattle.walk.specs.Nodes.{AllPlaced, Scanned}
use Rattle.walk.proofs.Laws.{all_placed, kept-length}
use Rattle.differ.specs.Differ.{work_words}
use Rattle.differ.specs.Records.{Walks}
use Rattle.differ.proofs.Walking.{root-walks}

-- ---- a list of t elements in two halves of h

module _ (h t : ℕ) (e : t ≡ h + h) where
  pub first-long : (w : List ℕ) → length w ≡ t → length (take h w) ≡ h
  first-long w l = length-take-le h w (omega (arith, e, l))

  pub joined-long : (w p : List ℕ) → length w ≡ t → length p ≡ h → length (p ++ drop h w) ≡ t
  joined-long w p l k = length-append p (drop h w) ∙ omega (arith, e, l, k, length-drop h w)

  second-long : (w : List ℕ) → length w ≡ t → length (take h (drop h w)) ≡ h
  second-long w l = length-take-le h (drop h w) (omega (arith, e, l, length-drop h w))

  module _ (w q : List ℕ) (l : length w ≡ t) (k : length q ≡ h) where
    put-long : length (take h w ++ (q ++ drop h (drop h w))) ≡ t
    put-long =
        length-append (take h w) (q ++ drop h (drop h w))
        ∙ omega (arith, e, l, k, first-long w l, length-append q (drop h (drop h w)), length-drop h (drop h w), length-drop h w)

    put_first : take h (take h w ++ (q ++ drop h (drop h w))) ≡ take h w
    put_first = take_at (take h w) (q ++ drop h (drop h w)) h (first-long w l)

    put_second : take h (drop h (take h w ++ (q ++ drop h (drop h w)))) ≡ q
    put_second =
        ap (take h) (drop_at (take h w) (q ++ drop h (drop h w)) h (first-long w l)) ∙ take_at q (drop h (drop h w)) h k

-- ---- the scans of two trees

module _ {left right : List ℕ} {f g : Fragment} (r : TreeRecords left f) (s : TreeRecords right g) (w : List ℕ) (l : length w ≡ work_words) where
  pub left_end : 4096 ≤ length w
  left_end = omega (arith, l)

  pub left-room : max_records ≤ length (take 4096 w)
  left-room = omega (arith, first-long 4096 8192 refl w l)

  module _ {p : List ℕ} {n : ℕ} (first : Scanned left (take 4096 w) p n) where
    long-left : length p ≡ 4096
    long-left = kept-length first r left-room ∙ first-long 4096 8192 refl w l

    joined : length (p ++ drop 4096 w) ≡ 8192
    joined = joined-long 4096 8192 refl w p l long-left

    pub right_end : 8192 ≤ length (p ++ drop 4096 w)
    right_end = omega (arith, joined)

    pub right-room : max_records ≤ length (take 4096 (drop 4096 (p ++ drop 4096 w)))
    right-room = omega (arith, second-long 4096 8192 refl (p ++ drop 4096 w) joined)

    module _ {q : List ℕ} {m : ℕ} (second : Scanned right (take 4096 (drop 4096 (p ++ drop 4096 w))) q m) where
      abbrev pub stored : List ℕ
      stored = take 4096 (p ++ drop 4096 w) ++ (q ++ drop 4096 (drop 4096 (p ++ drop 4096 w)))

      long-right : length q ≡ 4096
      long-right = kept-length second s right-room ∙ second-long 4096 8192 refl (p ++ drop 4096 w) joined

      long-both : length stored ≡ 8192
      long-both = put-long 4096 8192 refl (p ++ drop 4096 w) q joined long-right

      pub stored-long : length stored ≡ length w
      stored-long = long-both ∙ sym l

      pub half-end : 4096 ≤ length stored
      half-end = omega (arith, long-both)

      pub whole-end : 8192 ≤ length stored
      whole-end = omega (arith, long-both)

      starts-left : p ≡ take 4096 stored
      starts-left =
          sym (put_first 4096 8192 refl (p ++ drop 4096 w) q joined long-right ∙ take_at p (drop 4096 w) 4096 long-left)

      starts-right : q ≡ take 4096 (drop 4096 stored)
      starts-right = sym (put_second 4096 8192 refl (p ++ drop 4096 w) q joined long-right)

      pub roots-walk : Walks left right (take 4096 stored) (take 4096 (drop 4096 stored)) (n - 1) (m - 1) 0
      roots-walk =
          root-walks r s (first.counts f r) (second.counts g s)
          (subst (λ (x : List ℕ). AllPlaced left x (n - 1)) starts-left (all_placed first r left-room))
          (subst (λ (x : List ℕ). AllPlaced right x (m - 1)) starts-right (all_placed second s right-room))

      pub some_left : 1 ≤ n
      some_left = omega (arith, first.counts f r, r.any)

      pub some_right : 1 ≤ m
      some_right = omega (arith, second.counts g s, s.any)
