-- A part of the replay's memory that was lent and came back: it holds what the borrower left, and the other parts are as they were. Assumes nothing.
use Prim.Native.Nat.{ℕ, ◌≤◌}
use mathlib.Core.List.{List, ◌++◌}
use mathlib.Core.Path.{◌≡◌, refl, sym, ap, subst, ◌∙◌}
use native.Mathlib.Omega.{arith}
use lib.ListN.{length, take, drop, length-append, length-drop}
use lib.Seq.{length-take-le, take_at, drop_at, drop-drop}
use Rattle.spend_stack.specs.Memory.{work_words, main_in, alt_in, starts_in, Keeps}

pub keeps-all : (w : List ℕ) → Keeps w w
keeps-all w = record { starts = refl; same = refl }

pub keeps_on : {u v w : List ℕ} → Keeps u v → Keeps v w → Keeps u w
keeps_on x y = record { starts = y.starts ∙ x.starts; same = y.same ∙ x.same }

pub keeps-long : {u w : List ℕ} → length u ≡ work_words → Keeps u w → length w ≡ work_words
keeps-long l x = x.same ∙ l

module _ (w : List ℕ) (long : length w ≡ work_words) where
  pub main-long : length (main_in w) ≡ 8192
  main-long = length-take-le 8192 w (omega (arith, long))

  pub alt-long : length (alt_in w) ≡ 8192
  alt-long = length-take-le 8192 (drop 8192 w) (omega (arith, long, length-drop 8192 w))

  pub starts-long : length (starts_in w) ≡ 4096
  starts-long = length-take-le 4096 (drop 16384 w) (omega (arith, long, length-drop 16384 w))

  -- the main stack's part
  module _ (p : List ℕ) (same : length p ≡ length (main_in w)) where
    abbrev with-main : List ℕ
    with-main = p ++ drop 8192 w

    part-long : length p ≡ 8192
    part-long = same ∙ main-long

    behind : drop 8192 with-main ≡ drop 8192 w
    behind = drop_at p (drop 8192 w) 8192 part-long

    pub main-back : (P : List ℕ → List ℕ → Type 0) → P p (alt_in w) → P (main_in with-main) (alt_in with-main)
    main-back P x =
        subst (λ (a : List ℕ). P (main_in with-main) a) (sym (ap (take 8192) behind))
        (subst (λ (m : List ℕ). P m (alt_in w)) (sym (take_at p (drop 8192 w) 8192 part-long)) x)

    pub main-keeps : Keeps w with-main
    main-keeps =
        record {
          starts = ap (take 4096) (sym (drop-drop 8192 8192 with-main) ∙ ap (drop 8192) behind ∙ drop-drop 8192 8192 w);
          same = length-append p (drop 8192 w) ∙ omega (arith, part-long, length-drop 8192 w, long);
        }

  -- the alternate stack's part
  module _ (p : List ℕ) (same : length p ≡ length (alt_in w)) where
    abbrev with-alt : List ℕ
    with-alt = main_in w ++ (p ++ drop 8192 (drop 8192 w))

    alt-part-long : length p ≡ 8192
    alt-part-long = same ∙ alt-long

    alt-behind : drop 8192 with-alt ≡ p ++ drop 8192 (drop 8192 w)
    alt-behind = drop_at (main_in w) (p ++ drop 8192 (drop 8192 w)) 8192 main-long

    pub alt-back : (P : List ℕ → List ℕ → Type 0) → P (main_in w) p → P (main_in with-alt) (alt_in with-alt)
    alt-back P x =
        subst (λ (a : List ℕ). P (main_in with-alt) a)
        (sym (ap (take 8192) alt-behind ∙ take_at p (drop 8192 (drop 8192 w)) 8192 alt-part-long))
        (subst (λ (m : List ℕ). P m p) (sym (take_at (main_in w) (p ++ drop 8192 (drop 8192 w)) 8192 main-long)) x)

    pub alt-keeps : Keeps w with-alt
    alt-keeps =
        record {
          starts = ap (take 4096) (sym (drop-drop 8192 8192 with-alt) ∙ ap (drop 8192) alt-behind
              ∙ drop_at p (drop 8192 (drop 8192 w)) 8192 alt-part-long ∙ drop-drop 8192 8192 w);
          same = length-append (main_in w) (p ++ drop 8192 (drop 8192 w))
              ∙ omega (
                arith,
                main-long,
                alt-part-long,
                length-append p (drop 8192 (drop 8192 w)),
                length-drop 8192 (drop 8192 w),
                length-drop 8192 w,
                long,
              );
        }

  -- the places of the records
  module _ (p : List ℕ) (same : length p ≡ length (starts_in w)) where
    abbrev with-starts : List ℕ
    with-starts = take 16384 w ++ (p ++ drop 4096 (drop 16384 w))

    front_long : length (take 16384 w) ≡ 16384
    front_long = length-take-le 16384 w (omega (arith, long))

    pub starts-back : starts_in with-starts ≡ p
    starts-back =
        ap (take 4096) (drop_at (take 16384 w) (p ++ drop 4096 (drop 16384 w)) 16384 front_long)
        ∙ take_at p (drop 4096 (drop 16384 w)) 4096 (same ∙ starts-long)

    pub starts-same : length with-starts ≡ length w
    starts-same =
        length-append (take 16384 w) (p ++ drop 4096 (drop 16384 w))
        ∙ omega (
          arith,
          front_long,
          same,
          starts-long,
          length-append p (drop 4096 (drop 16384 w)),
          length-drop 4096 (drop 16384 w),
          length-drop 16384 w,
          long,
        )
