-- The length and the bytes of an element.
use Prim.Native.Nat.{ℕ, zero, suc, ◌+◌, ◌-◌, ◌/◌, ◌%◌, ◌≤◌, ◌<◌}
use native.Mathlib.Omega.{arith}
use mathlib.Core.Bool.{Bool, true, false, cond}
use mathlib.Core.List.{List, [], ◌∷◌}
use mathlib.Core.Path.{◌≡◌, refl, ◌∙◌, sym, ap}
use borrow.Author.Tests.{leb-true, ltb-true, ltb-false, lt-ltb, le-ltb, le-leb}
use lib.Dec.{leb, ltb}
use lib.ListN.{length, get_or, take, drop, length-drop, drop_of_length-le, get_or-eq_default}
use lib.Seq.{length-take-le, take_all, take-nil, get_or-take, get_or-drop}
use Rattle.words.specs.Bytes.{bytes_of}
use Rattle.words.proofs.Bytes.{length-bytes}
use Rattle.script_machine.specs.Numbers.{Bytes}
use Rattle.spend_elements.specs.declared.Element.{Element}
use Rattle.spend_elements.specs.Elements.{held, small_length, range_length, bytes_in}

-- a range within the log
pub range_length_lem : (log : Bytes) (at len : ℕ) → length (take len (drop at log)) ≡ range_length (length log) at len
range_length_lem log at len = go (ltb at (length log)) refl
  where
    inner : (b : Bool) → ltb len (length log - at) ≡ b → at < length log
        → length (take len (drop at log)) ≡ cond b len (length log - at)
    inner true e l = length-take-le len (drop at log) (omega (arith, length-drop at log, ltb-true len (length log - at) e))
    inner false e l =
        let more : length (drop at log) ≤ len = omega (arith, length-drop at log, ltb-false len (length log - at) e) in
        ap length (take_all len (drop at log) more) ∙ length-drop at log

    go : (b : Bool) → ltb at (length log) ≡ b → length (take len (drop at log)) ≡ cond b (cond (ltb len (length log - at)) len (length log - at)) 0
    go true e = inner (ltb len (length log - at)) refl (ltb-true at (length log) e)
    go false e = rw (drop_of_length-le log (ltb-false at (length log) e), take-nil len)

-- where byte j of a range lies
pub record Within (n at len j : ℕ) : Type 0 where
  pub below : j < len
  pub inside : at + j < n

pub within : (n at len j : ℕ) → j < range_length n at len → Within n at len j
within n at len j h = go (ltb at n) refl h
  where
    inner : (b : Bool) → ltb len (n - at) ≡ b → at < n → j < cond b len (n - at) → Within n at len j
    inner true e l h = let k = ltb-true len (n - at) e in record { below = h; inside = omega arith }
    inner false e l h = let k = ltb-false len (n - at) e in record { below = omega arith; inside = omega arith }

    go : (b : Bool) → ltb at n ≡ b → j < cond b (cond (ltb len (n - at)) len (n - at)) 0 → Within n at len j
    go true e h = inner (ltb len (n - at)) refl (ltb-true at n e) h
    go false e h = absurd (omega arith)

pub range-byte : (log : Bytes) (at len j : ℕ) → j < range_length (length log) at len → get_or (take len (drop at log)) j 0 ≡ get_or log (at + j) 0
range-byte log at len j h =
    get_or-take len (drop at log) j 0 (within (length log) at len j h).below ∙ get_or-drop at log j 0

pub range-past : (log : Bytes) (at len j : ℕ) → range_length (length log) at len ≤ j → get_or (take len (drop at log)) j 0 ≡ 0
range-past log at len j h = get_or-eq_default (take len (drop at log)) 0 (omega (arith, range_length_lem log at len))

-- bytes held in place
pub digit-0 : (n v : ℕ) → 0 < n → get_or (bytes_of n v) 0 0 ≡ v % 256
unfolding bytes_of
digit-0 zero v h = absurd (omega arith)
digit-0 (suc n) v h = refl

pub digit-1 : (n v : ℕ) → 1 < n → get_or (bytes_of n v) 1 0 ≡ v / 256 % 256
unfolding bytes_of
digit-1 zero v h = absurd (omega arith)
digit-1 (suc n) v h = digit-0 n (v / 256) (omega arith)

pub digit-2 : (n v : ℕ) → 2 < n → get_or (bytes_of n v) 2 0 ≡ v / 65536 % 256
unfolding bytes_of
digit-2 zero v h = absurd (omega arith)
digit-2 (suc n) v h =
    let e : v / 256 / 256 % 256 ≡ v / 65536 % 256 = omega arith in
    digit-1 n (v / 256) (omega arith) ∙ e

pub digit-3 : (n v : ℕ) → 3 < n → get_or (bytes_of n v) 3 0 ≡ v / 16777216 % 256
unfolding bytes_of
digit-3 zero v h = absurd (omega arith)
digit-3 (suc n) v h =
    let e : v / 256 / 65536 % 256 ≡ v / 16777216 % 256 = omega arith in
    digit-2 n (v / 256) (omega arith) ∙ e

pub digit-4 : (n v : ℕ) → 4 < n → get_or (bytes_of n v) 4 0 ≡ v / 4294967296 % 256
unfolding bytes_of
digit-4 zero v h = absurd (omega arith)
digit-4 (suc n) v h =
    let e : v / 256 / 16777216 % 256 ≡ v / 4294967296 % 256 = omega arith in
    digit-3 n (v / 256) (omega arith) ∙ e

pub digits-past : (n v j : ℕ) → n ≤ j → get_or (bytes_of n v) j 0 ≡ 0
digits-past n v j h = get_or-eq_default (bytes_of n v) 0 (omega (arith, length-bytes n v))

pub small-at-most : (len : ℕ) → small_length len ≤ 5
small-at-most len = go (leb (len - held) 5) refl
  where
    go : (b : Bool) → leb (len - held) 5 ≡ b → cond b (len - held) 5 ≤ 5
    go true e = omega (arith, leb-true (len - held) 5 e)
    go false e = omega arith

-- the two forms of an element
module _ (log : Bytes) (e : Element) where
  pub in-range : e.len < held → bytes_in log e ≡ take e.len (drop e.at log)
  unfolding bytes_in
  in-range h = rw (lt-ltb e.len held h)

  pub in_place : held ≤ e.len → bytes_in log e ≡ bytes_of (small_length e.len) e.at
  unfolding bytes_in
  in_place h = rw (le-ltb e.len held h)

-- a few bytes
pub held_bytes : (log : Bytes) (e : Element) (n : ℕ) → n ≤ 5 → e.len ≡ held + n → bytes_in log e ≡ bytes_of n e.at
held_bytes log e n few h =
    let more : e.len - held ≡ n = omega arith in
    in_place log e (omega arith) ∙ rw (more, le-leb n 5 few)
