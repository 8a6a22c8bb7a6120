-- What a reader takes off the front of its bytes, and where it then stands in a log: over any reader. Assumes nothing.
use Prim.Native.Nat.{ℕ, zero, suc, ◌+◌, ◌-◌, ◌≤◌, ◌<◌}
use mathlib.Core.Bool.{Bool, true, false, cond}
use mathlib.Core.List.{List, [], ◌∷◌}
use Rattle.std.specs.Prelude.{Option, None, Some}
use mathlib.Core.Path.{◌≡◌, refl, sym, ap, subst, ◌∙◌}
use native.Mathlib.Omega.{arith}
use borrow.Author.Tests.{leb-true, le-leb, lt-leb}
use lib.Dec.{leb}
use lib.ListN.{length, take, drop, length-drop}
use lib.Seq.{drop-drop}
use Rattle.spend_log.specs.Readers.{Read, Reader, give, broken, onward, ◌>>=◌, block, byte, number, several, counted, end_or, up_to_end, to_end}
use Rattle.spend_log.specs.Places.{behind_at, place_of}

-- ---- at least so many bytes are taken

-- some bytes with at least so many taken off their front
pub record Cut (least : ℕ) (s t : List ℕ) : Type 0 where
  pub count : ℕ
  pub enough : least ≤ count
  pub within : count ≤ length s
  pub cut : t ≡ drop count s

pub record Takes {A : Type 0} (least : ℕ) (r : Reader A) : Type 0 where
  pub cuts : (s : List ℕ) (g : Read A) → r s ≡ Some g → Cut least s g.behind

pub some_same : {A : Type 0} {x y : A} → Some x ≡ Some y → x ≡ y
some_same e = cc

behind-same : {A : Type 0} {v : A} {t : List ℕ} {g : Read A} → ◌≡◌ {A = Option (Read A)} (Some (record { value = v; behind = t })) (Some g) → g.behind ≡ t
behind-same e = ap (λ r. r.behind) (sym (some_same e))

pub takes-give : {A : Type 0} (x : A) → Takes 0 (give x)
takes-give x = record { cuts = λ s g e. record { count = 0; enough = omega arith; within = omega arith; cut = behind-same e } }

pub takes-broken : {A : Type 0} (n : ℕ) → Takes {A = A} n broken
takes-broken n = record { cuts = λ s g e. absurd (let z : ◌≡◌ {A = ℕ} 0 1 = cc in omega arith) }

cut-then : {m n : ℕ} {s t u : List ℕ} → Cut m s t → Cut n t u → Cut (m + n) s u
cut-then {m} {n} {s} {t} {u} a b =
    let len : length t ≡ length s - a.count = ap length a.cut ∙ length-drop a.count s in
    let w = a.within in
    let w' = b.within in
    let e = a.enough in
    let e' = b.enough in
    record {
      count = a.count + b.count;
      enough = omega arith;
      within = omega arith;
      cut = b.cut ∙ ap (drop b.count) a.cut ∙ drop-drop b.count a.count s;
    }

pub takes-block : (n : ℕ) → Takes n (block n)
unfolding block
takes-block n = record { cuts = λ s g e. by-room s g (leb n (length s)) refl e }
  where
    by-room : (s : List ℕ) (g : Read (List ℕ)) (fits : Bool) → leb n (length s) ≡ fits
        → cond fits (Some (record { value = take n s; behind = drop n s })) None ≡ Some g → Cut n s g.behind
    by-room s g true t e = record { count = n; enough = omega arith; within = leb-true n (length s) t; cut = behind-same e }
    by-room s g false t e = absurd (let z : ◌≡◌ {A = ℕ} 0 1 = cc in omega arith)

pub takes-byte : Takes 1 byte
unfolding byte
takes-byte = record { cuts = by_bytes }
  where
    by_bytes : (s : List ℕ) (g : Read ℕ) → byte s ≡ Some g → Cut 1 s g.behind
    by_bytes [] g e = absurd (let z : ◌≡◌ {A = ℕ} 0 1 = cc in omega arith)
    by_bytes (b ∷ s) g e = record { count = 1; enough = omega arith; within = omega arith; cut = behind-same e }

module _ {A B : Type 0} (r : Reader A) (next : A → Reader B) where
  pub takes-then : {m n : ℕ} → Takes m r → ((x : A) → Takes n (next x)) → Takes (m + n) (r >>= next)
  takes-then {m} {n} t u = record { cuts = λ s g e. by_first s g (r s) refl e }
    where
      by_first : (s : List ℕ) (g : Read B) (o : Option (Read A)) → r s ≡ o → onward o next ≡ Some g → Cut (m + n) s g.behind
      by_first s g None o e = absurd (let z : ◌≡◌ {A = ℕ} 0 1 = cc in omega arith)
      by_first s g (Some f) o e = cut-then (t.cuts s f o) ((u f.value).cuts f.behind g e)

-- fewer are taken all the more
pub takes-less : {A : Type 0} {r : Reader A} {m n : ℕ} → m ≤ n → Takes n r → Takes m r
takes-less {m = m} {n = n} l t = record { cuts = λ s g e. fewer s g.behind (t.cuts s g e) }
  where
    fewer : (s u : List ℕ) → Cut n s u → Cut m s u
    fewer s u k =
        let h = k.enough in
        record { count = k.count; enough = omega arith; within = k.within; cut = k.cut }

pub takes-any : {A : Type 0} {r : Reader A} {n : ℕ} → Takes n r → Takes 0 r
takes-any t = takes-less (omega arith) t

pub takes-number : Takes 4 number
unfolding number
takes-number = takes-then (block 4) _ (takes-block 4) (λ x. takes-give _)

module _ {A : Type 0} (r : Reader A) (t : Takes 0 r) where
  pub takes-several : (n : ℕ) → Takes 0 (several r n)
  unfolding several
  takes-several zero = takes-give []
  takes-several (suc n) = takes-then r _ t (λ x. takes-then (several r n) _ (takes-several n) (λ xs. takes-give (x ∷ xs)))

  pub takes-counted : Takes 4 (counted r)
  unfolding counted
  takes-counted = takes-then number _ takes-number takes-several

-- where fewer bytes are there, nothing is read
pub takes_none : {A : Type 0} {r : Reader A} {n : ℕ} → Takes n r → (s : List ℕ) → length s < n → r s ≡ None
takes_none {A} {r} {n} t s h = by_read (r s) refl
  where
    by_read : (o : Option (Read A)) → r s ≡ o → o ≡ None
    by_read None e = refl
    by_read (Some g) e =
        let k = t.cuts s g e in
        let l = k.enough in
        let w = k.within in
        absurd (omega arith)

-- ---- where a reader stands in a log

-- At a place of a log a reader reads a value, and stands at the next place, at least so far on.
pub record Passes {A : Type 0} (least : ℕ) (r : Reader A) (log : List ℕ) (at next : ℕ) : Type 0 where
  pub value : A
  pub reads : r (drop at log) ≡ Some (record { value = value; behind = drop next log })
  pub onwards : at + least ≤ next
  pub within : next ≤ length log

at_same : {m n : ℕ} → Some m ≡ Some n → m ≡ n
at_same e = cc

module _ {A : Type 0} (r : Reader A) (log : List ℕ) (at : ℕ) where
  -- a place that was answered
  pub told : {least : ℕ} → Takes least r → at ≤ length log → {p : Option ℕ} {next : ℕ} → p ≡ place_of r log at → p ≡ Some next
      → Passes least r log at next
  unfolding place_of
  told {least} t h {p} {next} e m = by_read (r (drop at log)) refl (sym e ∙ m)
    where
      by_read : (o : Option (Read A)) → r (drop at log) ≡ o → behind_at (length log) o ≡ Some next → Passes least r log at next
      by_read None o b = absurd (let z : ◌≡◌ {A = ℕ} 0 1 = cc in omega arith)
      by_read (Some g) o b =
          let k = t.cuts (drop at log) g o in
          let n = k.count in
          let left : g.behind ≡ drop (at + n) log = k.cut ∙ drop-drop n at log in
          let len : length g.behind ≡ length log - (at + n) = ap length left ∙ length-drop (at + n) log in
          let all : length (drop at log) ≡ length log - at = length-drop at log in
          let w = k.within in
          let l = k.enough in
          let is_at : length log - length g.behind ≡ next = at_same b in
          let here : at + n ≡ next = omega arith in
          record {
            value = g.value;
            reads = o ∙ ap Some (ap (λ s. record { value = g.value; behind = s }) (left ∙ ap (λ i. drop i log) here));
            onwards = omega arith;
            within = omega arith;
          }

  -- that it is broken was answered
  pub told-broken : {p : Option ℕ} → p ≡ place_of r log at → p ≡ None → r (drop at log) ≡ None
  unfolding place_of
  told-broken e m = by_read (r (drop at log)) refl (sym e ∙ m)
    where
      by_read : (o : Option (Read A)) → r (drop at log) ≡ o → behind_at (length log) o ≡ None → r (drop at log) ≡ None
      by_read None o b = o
      by_read (Some g) o b = absurd (let z : ◌≡◌ {A = ℕ} 0 1 = cc in omega arith)

  pub place-broken : r (drop at log) ≡ None → place_of r log at ≡ None
  unfolding place_of
  place-broken e = rw e

  pub place-passed : {v : A} {next : ℕ} → r (drop at log) ≡ Some (record { value = v; behind = drop next log }) → next ≤ length log
      → place_of r log at ≡ Some next
  unfolding place_of
  place-passed {v} {next} e w = rw (e, length-drop next log) (ap Some (omega arith))

module _ {A B : Type 0} (r : Reader A) (then : A → Reader B) (log : List ℕ) (at : ℕ) where
  pub place-next : {v : A} (next : ℕ) → r (drop at log) ≡ Some (record { value = v; behind = drop next log })
      → place_of (r >>= then) log at ≡ place_of (then v) log next
  unfolding place_of
  place-next next e = rw e

  pub place_none : r (drop at log) ≡ None → place_of (r >>= then) log at ≡ None
  unfolding place_of
  place_none e = rw e

pub place-give : {A : Type 0} (x : A) (log : List ℕ) (at : ℕ) → at ≤ length log → place_of (give x) log at ≡ Some at
unfolding place_of
place-give x log at h = rw (length-drop at log) (ap Some (omega arith))

-- what is made of a value does not move its place
pub place-made : {A B : Type 0} (r : Reader A) (f : A → B) (log : List ℕ) (at : ℕ)
    → place_of (r >>= λ x. give (f x)) log at ≡ place_of r log at
unfolding place_of
place-made {A} {B} r f log at = by_read (r (drop at log))
  where
    by_read : (o : Option (Read A)) → behind_at (length log) (onward o (λ x. give (f x))) ≡ behind_at (length log) o
    by_read None = refl
    by_read (Some g) = refl

-- ---- several, one behind the other

module _ {A : Type 0} (r : Reader A) (log : List ℕ) (n i at : ℕ) (more : i < n) where
  one_fewer : n - i ≡ suc (n - (i + 1))
  one_fewer = omega arith

  pub several-next : {least next : ℕ} → Passes least r log at next → place_of (several r (n - i)) log at ≡ place_of (several r (n - (i + 1))) log next
  unfolding several
  several-next {least} {next} p =
      rw one_fewer
      (place-next r _ log at next p.reads ∙ place-made (several r (n - (i + 1))) (λ xs. p.value ∷ xs) log next)

  pub several-broken : r (drop at log) ≡ None → place_of (several r (n - i)) log at ≡ None
  unfolding several
  several-broken e = rw one_fewer (place_none r _ log at e)

pub several-all : {A : Type 0} (r : Reader A) (log : List ℕ) (n at : ℕ) → place_of (several r (n - 0)) log at ≡ place_of (several r n) log at
several-all r log n at =
    let e : n - 0 ≡ n = omega arith in
    rw e

pub several-done : {A : Type 0} (r : Reader A) (log : List ℕ) (n i at : ℕ) → n ≤ i → at ≤ length log → place_of (several r (n - i)) log at ≡ Some at
unfolding several
several-done r log n i at e h =
    let z : n - i ≡ 0 = omega arith in
    rw z (place-give [] log at h)

-- ---- up to the end

module _ {A : Type 0} (r : Reader A) (t : Takes 1 r) where
  -- more than the bytes' length is never read
  enough : (m n : ℕ) (s : List ℕ) → length s ≤ m → length s ≤ n → up_to_end r m s ≡ up_to_end r n s
  unfolding up_to_end
  enough zero zero [] h k = refl
  enough zero (suc n) [] h k = refl
  enough (suc m) zero [] h k = refl
  enough (suc m) (suc n) [] h k = refl
  enough zero n (b ∷ s) h k = absurd (omega arith)
  enough (suc m) zero (b ∷ s) h k = absurd (omega arith)
  enough (suc m) (suc n) (b ∷ s) h k = by_read (λ u i j. enough m n u i j) (r (b ∷ s)) refl
    where
      by_read : ((u : List ℕ) → length u ≤ m → length u ≤ n → up_to_end r m u ≡ up_to_end r n u) → (o : Option (Read A)) → r (b ∷ s) ≡ o
          → onward o (λ x. up_to_end r m >>= λ xs. give (x ∷ xs)) ≡ onward o (λ x. up_to_end r n >>= λ xs. give (x ∷ xs))
      by_read fewer None e = refl
      by_read fewer (Some g) e =
          let c = t.cuts (b ∷ s) g e in
          let len : length g.behind ≡ length (b ∷ s) - c.count = ap length c.cut ∙ length-drop c.count (b ∷ s) in
          let l = c.enough in
          let w = c.within in
          rw (fewer g.behind (omega arith) (omega arith))

  pub to_end-next : (s : List ℕ) (g : Read A) → r s ≡ Some g → to_end r s ≡ onward (to_end r g.behind) (λ xs. give (g.value ∷ xs))
  unfolding to_end up_to_end
  to_end-next [] g e =
      let c = t.cuts [] g e in
      let l = c.enough in
      let w = c.within in
      absurd (omega arith)
  to_end-next (b ∷ s) g e =
      let c = t.cuts (b ∷ s) g e in
      let len : length g.behind ≡ length (b ∷ s) - c.count = ap length c.cut ∙ length-drop c.count (b ∷ s) in
      let l = c.enough in
      let w = c.within in
      rw (e, enough (length s) (length g.behind) g.behind (omega arith) (omega arith))

  pub to_end-broken : (s : List ℕ) → 0 < length s → r s ≡ None → to_end r s ≡ None
  unfolding to_end up_to_end
  to_end-broken [] h e = absurd (omega arith)
  to_end-broken (b ∷ s) h e = rw e

pub to_end-done : {A : Type 0} (r : Reader A) (s : List ℕ) → length s ≡ 0 → to_end r s ≡ Some (record { value = []; behind = [] })
unfolding to_end up_to_end
to_end-done r [] h = refl
to_end-done r (b ∷ s) h = absurd (omega arith)
