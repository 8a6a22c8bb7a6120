-- The bytes of a fragment with children are its pieces, one after another. Assumes nothing.
use Prim.Native.Nat.{ℕ, zero, suc, ◌≤◌, ◌<◌}
use mathlib.Core.Bool.{Bool, false}
use mathlib.Core.List.{List, [], ◌∷◌, ◌++◌, append_assoc, append-nil}
use mathlib.Core.Path.{◌≡◌, sym, ap, ◌∙◌}
use native.Mathlib.Omega.{arith}
use lib.ListN.{length, get_or, take}
use lib.Seq.{take-suc, take-length}
use Rattle.contexts.specs.declared.Context.{Context}
use Rattle.trees.specs.Fragment.{Fragment, end}
use Rattle.trees.specs.Fragment.{Alt, Swap, Check, DupIf, Verify, NonZero, ZeroNotEqual, AndB, AndV, OrB, OrD, OrC, OrI, AndOr, Thresh}
use Rattle.trees.specs.Tree.{find, fragments}
use Rattle.script_machine.specs.Numbers.{Bytes}
use Rattle.script_bytes.specs.Tables.{Tables}
use Rattle.script_bytes.specs.Layout.{bytes_of, sum_bytes, adds_bytes}
use Rattle.script_bytes.proofs.Merging.{bytes-alt, bytes-swap, bytes-check, bytes-dup_if, bytes-verify, bytes-non_zero, bytes-zero_not_equal}
use Rattle.script_bytes.proofs.Merging.{bytes-and_b, bytes-and_v, bytes-or_b, bytes-or_d, bytes-or_c, bytes-or_i, bytes-and_or, bytes-thresh}
use Rattle.script_bytes.proofs.Merging.{sum-end, sum_more, adds-end, adds-more}
use Rattle.script_entry.specs.Pieces.{front, last, up_to}

module _ (c : Context) (t : Tables) (v : Bool) where
  -- a fragment of this kind with n children is laid in its pieces
  abbrev pub InPieces : (kind k n : ℕ) → (ℕ → Fragment) → Fragment → Type 0
  InPieces kind k n child f = bytes_of c t v f ≡ front kind ++ (up_to c t kind v child n ++ last kind k v)

  module _ (k : ℕ) (child : ℕ → Fragment) where
    pub in-alt : InPieces 42 k 1 child (Alt (child 0))
    unfolding up_to find
    in-alt = bytes-alt c t v (child 0) ∙ simp append-nil

    pub in-swap : InPieces 43 k 1 child (Swap (child 0))
    unfolding up_to find
    in-swap = bytes-swap c t v (child 0) ∙ rw (append-nil (bytes_of c t v (child 0)), append-nil (bytes_of c t v (child 0)))

    pub in-check : InPieces 44 k 1 child (Check (child 0))
    unfolding up_to find
    in-check = bytes-check c t v (child 0) ∙ simp append-nil

    pub in-dup_if : InPieces 45 k 1 child (DupIf (child 0))
    unfolding up_to find
    in-dup_if = bytes-dup_if c t v (child 0) ∙ simp append-nil

    pub in-verify : InPieces 46 k 1 child (Verify (child 0))
    unfolding up_to find
    in-verify = bytes-verify c t v (child 0) ∙ simp append-nil

    pub in-non_zero : InPieces 47 k 1 child (NonZero (child 0))
    unfolding up_to find
    in-non_zero = bytes-non_zero c t v (child 0) ∙ simp append-nil

    pub in-zero_not_equal : InPieces 48 k 1 child (ZeroNotEqual (child 0))
    unfolding up_to find
    in-zero_not_equal = bytes-zero_not_equal c t v (child 0) ∙ simp append-nil

    pub in-and_b : InPieces 49 k 2 child (AndB (child 0) (child 1))
    unfolding up_to find
    in-and_b = bytes-and_b c t v (child 0) (child 1) ∙ simp (append-nil, append_assoc)

    pub in-and_v : InPieces 50 k 2 child (AndV (child 0) (child 1))
    unfolding up_to find
    in-and_v = bytes-and_v c t v (child 0) (child 1) ∙ simp append-nil

    pub in-or_b : InPieces 51 k 2 child (OrB (child 0) (child 1))
    unfolding up_to find
    in-or_b = bytes-or_b c t v (child 0) (child 1) ∙ simp (append-nil, append_assoc)

    pub in-or_d : InPieces 52 k 2 child (OrD (child 0) (child 1))
    unfolding up_to find
    in-or_d = bytes-or_d c t v (child 0) (child 1) ∙ simp (append-nil, append_assoc)

    pub in-or_c : InPieces 53 k 2 child (OrC (child 0) (child 1))
    unfolding up_to find
    in-or_c = bytes-or_c c t v (child 0) (child 1) ∙ simp (append-nil, append_assoc)

    pub in-or_i : InPieces 54 k 2 child (OrI (child 0) (child 1))
    unfolding up_to find
    in-or_i = bytes-or_i c t v (child 0) (child 1) ∙ simp (append-nil, append_assoc)

    pub in-and_or : InPieces 55 k 3 child (AndOr (child 0) (child 1) (child 2))
    unfolding up_to find
    in-and_or = bytes-and_or c t v (child 0) (child 1) (child 2) ∙ simp (append-nil, append_assoc)

  -- ---- Thresh: one child more

  adds-last : (xs : List Fragment) (y : Fragment)
      → adds_bytes c t (fragments (xs ++ (y ∷ []))) ≡ adds_bytes c t (fragments xs) ++ (bytes_of c t false y ++ 0x93 ∷ [])
  unfolding fragments
  adds-last [] y = rw (adds-more c t y end, adds-end c t)
  adds-last (x ∷ xs) y =
      adds-more c t x (fragments (xs ++ (y ∷ [])))
      ∙ ap (λ (z : Bytes). bytes_of c t false x ++ 0x93 ∷ z) (adds-last xs y)
      ∙ rw (adds-more c t x (fragments xs), append_assoc)

  -- all but the first have ADD
  sum-last-first : (y : Fragment) → sum_bytes c t (fragments (y ∷ [])) ≡ bytes_of c t false y ++ []
  unfolding fragments
  sum-last-first y = rw (sum_more c t y end, adds-end c t)

  sum-last-later : (x : Fragment) (xs : List Fragment) (y : Fragment)
      → sum_bytes c t (fragments ((x ∷ xs) ++ (y ∷ []))) ≡ sum_bytes c t (fragments (x ∷ xs)) ++ (bytes_of c t false y ++ 0x93 ∷ [])
  unfolding fragments
  sum-last-later x xs y =
      sum_more c t x (fragments (xs ++ (y ∷ [])))
      ∙ ap (λ (z : Bytes). bytes_of c t false x ++ z) (adds-last xs y)
      ∙ rw (sum_more c t x (fragments xs), append_assoc)

  sum-nil : sum_bytes c t (fragments []) ≡ []
  unfolding fragments
  sum-nil = sum-end c t

  module _ (d : Fragment) (xs : List Fragment) where
    abbrev its-child : ℕ → Fragment
    its-child j = get_or xs j d

    more : (j : ℕ) → j < length xs → take (suc j) xs ≡ take j xs ++ (its-child j ∷ [])
    more j h = take-suc xs j d h

    up-to : (n : ℕ) → n ≤ length xs → up_to c t 56 v its-child n ≡ sum_bytes c t (fragments (take n xs))
    unfolding up_to find
    up-to zero h = sym sum-nil
    up-to (suc zero) h = rw (more 0 (omega arith), sum-last-first (its-child 0))
    up-to (suc (suc j)) h = go xs h (up-to (suc j) (omega arith))
      where
        go : (xs : List Fragment) → suc (suc j) ≤ length xs
            → up_to c t 56 v (λ i. get_or xs i d) (suc j) ≡ sum_bytes c t (fragments (take (suc j) xs))
            → up_to c t 56 v (λ i. get_or xs i d) (suc (suc j)) ≡ sum_bytes c t (fragments (take (suc (suc j)) xs))
        go [] h e = absurd (omega arith)
        go (x ∷ xs) h e =
            ap (λ (z : Bytes). z ++ (bytes_of c t false (get_or xs j d) ++ 0x93 ∷ [])) e
            ∙ sym (sum-last-later x (take j xs) (get_or xs j d))
            ∙ ap (λ (l : List Fragment). sum_bytes c t (fragments (x ∷ l))) (sym (take-suc xs j d (omega arith)))

    pub in-thresh : (k : ℕ) → InPieces 56 k (length xs) its-child (Thresh k (fragments xs))
    unfolding find
    in-thresh k = bytes-thresh c t v k (fragments xs) ∙ rw (up-to (length xs) (omega arith), take-length xs)
