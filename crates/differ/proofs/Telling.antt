-- Differences told one after the other: those of a list are told once its parts are. Assumes nothing.
use Prim.Native.Nat.{ℕ, suc, ◌+◌, ◌*◌, ◌≤◌, ◌<◌}
use mathlib.Core.Bool.{Bool, true, false, cond}
use mathlib.Core.List.{List, [], ◌∷◌, ◌++◌}
use mathlib.Core.Path.{◌≡◌, refl, sym, ap, subst, ◌∙◌}
use native.Mathlib.Omega.{arith}
use borrow.Author.Tests.{le-leb, lt-leb}
use lib.Dec.{leb}
use lib.ListN.{length, set, drop, length-append}
use lib.Seq.{sets, length-sets, sets-eq}
use Rattle.words.specs.Bytes.{bytes_of, put_le}
use Rattle.differ.specs.Differences.{Difference}
use Rattle.differ.specs.Differ.{difference_bytes, differences_bytes}
use Rattle.differ.specs.Telling.{tell, tell_all, Tells}

-- ---- lists of bytes stored one after the other

sets-append : (us vs out : List ℕ) (p : ℕ) → sets out p (us ++ vs) ≡ sets (sets out p us) (p + length us) vs
sets-append [] vs out p =
    let e : p + 0 ≡ p = omega arith in
    ap (λ (n : ℕ). sets out n vs) (sym e)
sets-append (u ∷ us) vs out p =
    let e : suc p + length us ≡ p + suc (length us) = omega arith in
    sets-append us vs (set out p u) (suc p) ∙ ap (λ (n : ℕ). sets (sets (set out p u) (suc p) us) n vs) e

length-four : (v : ℕ) → length (bytes_of 4 v) ≡ 4
unfolding bytes_of
length-four v = refl

pub length-difference : (d : Difference) → length (difference_bytes d) ≡ 8
length-difference d = length-append (bytes_of 4 d.left) (bytes_of 4 d.right) ∙ omega (arith, length-four d.left, length-four d.right)

pub length-differences : (ds : List Difference) → length (differences_bytes ds) ≡ 8 * length ds
unfolding differences_bytes
length-differences [] = refl
length-differences (d ∷ ds) =
    length-append (difference_bytes d) (differences_bytes ds) ∙ omega (arith, length-difference d, length-differences ds)

-- ---- one difference

put-fits : (out : List ℕ) (p v : ℕ) → p + 4 ≤ length out → put_le 4 out p v ≡ sets out p (bytes_of 4 v)
unfolding put_le
put-fits out p v h = rw (le-leb (p + 4) (length out) h)

module _ (out : List ℕ) (at : ℕ) (d : Difference) where
  pub told-one : {first second : List ℕ} {left right : ℕ} → 8 * at + 8 ≤ length out → left ≡ d.left → right ≡ d.right
      → first ≡ put_le 4 out (8 * at) left → second ≡ put_le 4 first (8 * at + 4) right → Tells out second at (d ∷ []) (at + 1)
  unfolding tell_all
  told-one {first} {second} {left} {right} h l r a b =
      let one : first ≡ sets out (8 * at) (bytes_of 4 d.left) = a ∙ put-fits out (8 * at) left (omega arith) ∙ ap (λ (v : ℕ). sets out (8 * at) (bytes_of 4 v)) l in
      let long : length first ≡ length out = ap length one ∙ length-sets out (8 * at) (bytes_of 4 d.left) in
      let two : second ≡ sets (sets out (8 * at) (bytes_of 4 d.left)) (8 * at + 4) (bytes_of 4 d.right) =
      b ∙ put-fits first (8 * at + 4) right (omega (arith, long)) ∙ ap (λ (m : List ℕ). sets m (8 * at + 4) (bytes_of 4 right)) one
      ∙ ap (λ (v : ℕ). sets (sets out (8 * at) (bytes_of 4 d.left)) (8 * at + 4) (bytes_of 4 v)) r in
      let whole : sets (sets out (8 * at) (bytes_of 4 d.left)) (8 * at + 4) (bytes_of 4 d.right) ≡ sets out (8 * at) (difference_bytes d) =
      ap (λ (n : ℕ). sets (sets out (8 * at) (bytes_of 4 d.left)) (8 * at + n) (bytes_of 4 d.right)) (sym (length-four d.left))
      ∙ sym (sets-append (bytes_of 4 d.left) (bytes_of 4 d.right) out (8 * at)) in
      record { is = two ∙ whole ∙ sym (fits h); ends = refl }
    where
      fits : 8 * at + 8 ≤ length out → tell out at d ≡ sets out (8 * at) (difference_bytes d)
      fits h = rw (le-leb (8 * at + 8) (length out) h)

  pub untold-one : length out < 8 * at + 8 → Tells out out at (d ∷ []) (at + 1)
  unfolding tell_all
  untold-one h =
      let no : tell out at d ≡ out = rw (lt-leb (8 * at + 8) (length out) h) in
      record { is = sym no; ends = refl }

-- ---- lists of differences

pub told_none : (out : List ℕ) (at : ℕ) → Tells out out at [] at
unfolding tell_all
told_none out at = record { is = refl; ends = omega arith }

tell-append : (ds es : List Difference) (out : List ℕ) (at : ℕ) → tell_all out at (ds ++ es) ≡ tell_all (tell_all out at ds) (at + length ds) es
unfolding tell_all
tell-append [] es out at =
    let e : at + 0 ≡ at = omega arith in
    ap (λ (n : ℕ). tell_all out n es) (sym e)
tell-append (d ∷ ds) es out at =
    let e : suc at + length ds ≡ at + suc (length ds) = omega arith in
    tell-append ds es (tell out at d) (suc at) ∙ ap (λ (n : ℕ). tell_all (tell_all (tell out at d) (suc at) ds) n es) e

pub then-told : {before between after : List ℕ} {at to end : ℕ} {ds es : List Difference} → Tells before between at ds to
    → Tells between after to es end → Tells before after at (ds ++ es) end
then-told {before} {between} {after} {at} {to} {end} {ds} {es} a b =
    record {
      is = b.is ∙ ap (λ (m : List ℕ). tell_all m to es) a.is ∙ ap (λ (n : ℕ). tell_all (tell_all before at ds) n es) a.ends
          ∙ sym (tell-append ds es before at);
      ends = omega (arith, a.ends, b.ends, length-append ds es);
    }

pub told-as : {before after : List ℕ} {at end : ℕ} {ds es : List Difference} → ds ≡ es → Tells before after at ds end → Tells before after at es end
told-as {before} {after} {at} {end} e t = subst (λ (x : List Difference). Tells before after at x end) e t

length-tell : (out : List ℕ) (at : ℕ) (d : Difference) → length (tell out at d) ≡ length out
length-tell out at d = by-test (leb (8 * at + 8) (length out))
  where
    by-test : (b : Bool) → length (cond b (sets out (8 * at) (difference_bytes d)) out) ≡ length out
    by-test true = length-sets out (8 * at) (difference_bytes d)
    by-test false = refl

length-told : (ds : List Difference) (out : List ℕ) (at : ℕ) → length (tell_all out at ds) ≡ length out
unfolding tell_all
length-told [] out at = refl
length-told (d ∷ ds) out at = length-told ds (tell out at d) (suc at) ∙ length-tell out at d

pub keeps-length : {before after : List ℕ} {at end : ℕ} {ds : List Difference} → Tells before after at ds end → length after ≡ length before
keeps-length {before} {after} {at} {end} {ds} t = ap length t.is ∙ length-told ds before at

-- ---- what is still to come

pub record ToCome (before : List ℕ) (from : ℕ) (all : List Difference) (out : List ℕ) (at : ℕ) (rest : List Difference) : Type 0 where
  pub goes : (after : List ℕ) (end : ℕ) → Tells out after at rest end → Tells before after from all end
  pub long : length out ≡ length before

pub all_come : (before : List ℕ) (from : ℕ) {all rest : List Difference} → all ≡ rest → ToCome before from all before from rest
all_come before from e = record { goes = λ after end t. told-as (sym e) t; long = refl }

pub more-come : {before out next : List ℕ} {from at to : ℕ} {all rest ds es : List Difference} → rest ≡ ds ++ es → ToCome before from all out at rest
    → Tells out next at ds to → ToCome before from all next to es
more-come e c t = record { goes = λ after end r. c.goes after end (told-as (sym e) (then-told t r)); long = keeps-length t ∙ c.long }

pub none-come : {before out : List ℕ} {from at : ℕ} {all rest : List Difference} → rest ≡ [] → ToCome before from all out at rest → Tells before out from all at
none-come {before} {out} {from} {at} e c = c.goes out at (told-as (sym e) (told_none out at))

-- ---- an output of no bytes, and one where all fit

pub no_output : (ds : List Difference) (at : ℕ) → tell_all [] at ds ≡ []
unfolding tell_all
no_output [] at = refl
no_output (d ∷ ds) at =
    let no : tell [] at d ≡ [] = rw (lt-leb (8 * at + 8) 0 (omega arith)) in
    ap (λ (m : List ℕ). tell_all m (suc at) ds) no ∙ no_output ds (suc at)

told-all : (ds : List Difference) (out : List ℕ) (at : ℕ) → 8 * (at + length ds) ≤ length out → tell_all out at ds ≡ sets out (8 * at) (differences_bytes ds)
unfolding tell_all differences_bytes
told-all [] out at h = refl
told-all (d ∷ ds) out at h =
    let one : tell out at d ≡ sets out (8 * at) (difference_bytes d) = rw (le-leb (8 * at + 8) (length out) (omega arith)) in
    let long : length (sets out (8 * at) (difference_bytes d)) ≡ length out = length-sets out (8 * at) (difference_bytes d) in
    let e : 8 * suc at ≡ 8 * at + length (difference_bytes d) = omega (arith, length-difference d) in
    ap (λ (m : List ℕ). tell_all m (suc at) ds) one
    ∙ told-all ds (sets out (8 * at) (difference_bytes d)) (suc at) (omega (arith, long))
    ∙ ap (λ (n : ℕ). sets (sets out (8 * at) (difference_bytes d)) n (differences_bytes ds)) e
    ∙ sym (sets-append (difference_bytes d) (differences_bytes ds) out (8 * at))

pub all_told : (ds : List Difference) (out : List ℕ) → 8 * length ds ≤ length out → tell_all out 0 ds ≡ differences_bytes ds ++ drop (8 * length ds) out
all_told ds out h =
    let long : 0 + length (differences_bytes ds) ≡ 8 * length ds = omega (arith, length-differences ds) in
    told-all ds out 0 (omega (arith, h)) ∙ sets-eq (differences_bytes ds) out 0 (omega (arith, length-differences ds))
    ∙ ap (λ (n : ℕ). differences_bytes ds ++ drop n out) long
