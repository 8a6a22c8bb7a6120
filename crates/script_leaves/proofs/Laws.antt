-- Laws on bytes that are laid in an output: one run after another, what is still to come in a loop, a measuring run and a run that fits.
-- Assumes nothing.
use Prim.Native.Nat.{ℕ, suc, ◌+◌, ◌<◌, ◌≤◌}
use mathlib.Core.Bool.{Bool, true, false}
use mathlib.Core.List.{[], ◌∷◌, ◌++◌}
use mathlib.Core.Path.{◌≡◌, refl, sym, ◌∙◌, ap, subst}
use native.Mathlib.Omega.{arith}
use borrow.Author.Tests.{leb-true, leb-false}
use lib.Dec.{leb}
use lib.ListN.{length, drop, length-append}
use lib.Seq.{sets, set_out, length-sets, sets-eq}
use Rattle.words.proofs.Stores.{sets-append}
use Rattle.script_machine.specs.Numbers.{Bytes}
use Rattle.script_leaves.specs.Laying.{max_position, clip, Lays}

-- ---- past the end of the output

sets-out : (vs l : Bytes) (at : ℕ) → length l ≤ at → sets l at vs ≡ l
sets-out [] l at h = refl
sets-out (v ∷ vs) l at h = ap (λ (z : Bytes). sets z (suc at) vs) (set_out l at v h) ∙ sets-out vs l (suc at) (omega arith)

-- from the largest position on nothing is stored
at-clip : (vs l : Bytes) (n : ℕ) → length l < max_position → sets l (clip n) vs ≡ sets l n vs
at-clip vs l n h = by-test (leb n max_position) refl
  where
    by-test : (t : Bool) → leb n max_position ≡ t → sets l (clip n) vs ≡ sets l n vs
    by-test true e =
        let below = leb-true n max_position e in
        let same : clip n ≡ n = omega arith in
        ap (λ (k : ℕ). sets l k vs) same
    by-test false e =
        let above = leb-false n max_position e in
        sets-out vs l (clip n) (omega arith) ∙ sym (sets-out vs l n (omega arith))

-- ---- one run after another

pub keeps-length : {before after : Bytes} {at : ℕ} {bytes : Bytes} {end : ℕ} → Lays before after at bytes end → length after ≡ length before
keeps-length {before} {after} {at} {bytes} l = ap length l.is ∙ length-sets before at bytes

pub none-laid : (out : Bytes) (at : ℕ) → length out < max_position → at ≤ max_position → Lays out out at [] at
none-laid out at h l = record { is = refl; ends = omega arith; short = h }

-- a byte past the end of the output
pub past-laid : (out : Bytes) (at b end : ℕ) → length out < max_position → length out ≤ at → end ≡ clip (at + 1) → Lays out out at (b ∷ []) end
past-laid out at b end h l e = record { is = sym (set_out out at b l); ends = e; short = h }

pub then-laid : {before between after : Bytes} {at to : ℕ} {us vs : Bytes} {end : ℕ} → Lays before between at us to → Lays between after to vs end
    → Lays before after at (us ++ vs) end
then-laid {before} {between} {after} {at} {to} {us} {vs} {end} p q =
    let long : length (us ++ vs) ≡ length us + length vs = length-append us vs in
    record {
      is =
          q.is
          ∙ ap (λ (k : ℕ). sets between k vs) p.ends
          ∙ at-clip vs between (at + length us) q.short
          ∙ ap (λ (z : Bytes). sets z (at + length us) vs) p.is
          ∙ sym (sets-append us vs before at);
      ends = omega (arith, p.ends, q.ends);
      short = p.short;
    }

pub laid_as : {before after : Bytes} {at : ℕ} {us vs : Bytes} {end : ℕ} → us ≡ vs → Lays before after at us end → Lays before after at vs end
laid_as {before} {after} {at} {us} {vs} {end} e l = subst (λ (z : Bytes). Lays before after at z end) e l

-- where bytes end is a position
pub position : {before after : Bytes} {at : ℕ} {bytes : Bytes} {end : ℕ} → Lays before after at bytes end → end ≤ max_position
position l = omega (arith, l.ends)

-- ---- a loop: with what is still to come laid, all is

pub record Coming (before : Bytes) (from : ℕ) (all out : Bytes) (at : ℕ) (rest : Bytes) : Type 0 where
  pub goes : (after : Bytes) (end : ℕ) → Lays out after at rest end → Lays before after from all end
  pub long : length out ≡ length before
  pub short : length before < max_position
  pub within : at ≤ max_position

module _ {before : Bytes} {from : ℕ} {all : Bytes} where
  pub all-coming : (rest : Bytes) → rest ≡ all → length before < max_position → from ≤ max_position → Coming before from all before from rest
  all-coming rest e h l = record { goes = λ after end. laid_as e; long = refl; short = h; within = l }

  pub more-coming : {out out' : Bytes} {at at' : ℕ} {rest us vs : Bytes} → rest ≡ us ++ vs → Coming before from all out at rest
      → Lays out out' at us at' → Coming before from all out' at' vs
  more-coming e c l =
      record {
        goes = λ after end m. c.goes after end (laid_as (sym e) (then-laid l m));
        long = keeps-length l ∙ c.long;
        short = c.short;
        within = position l;
      }

  pub none-coming : {out : Bytes} {at : ℕ} {rest : Bytes} → rest ≡ [] → Coming before from all out at rest → Lays before out from all at
  none-coming {out} {at} e c =
      c.goes out at (laid_as (sym e) (none-laid out at (subst (λ (n : ℕ). n < max_position) (sym c.long) c.short) c.within))

-- ---- a run that measures, and a run that fits

-- where a run from the beginning ends within some room, its bytes do, and it ends at their count
pub fitting : {before after bytes : Bytes} {end : ℕ} (room : ℕ) → Lays before after 0 bytes end → room < max_position → end ≤ room
    → (length bytes ≤ room) × (end ≡ length bytes)
fitting room l h e = (omega (arith, l.ends), omega (arith, l.ends))

pub too_long : {before after bytes : Bytes} {end : ℕ} (room : ℕ) → Lays before after 0 bytes end → room < end → room < length bytes
too_long room l e = omega (arith, l.ends)

pub written : {before after bytes : Bytes} {end : ℕ} → Lays before after 0 bytes end → length bytes ≤ length before
    → after ≡ bytes ++ drop (length bytes) before
written {before} {after} {bytes} l h =
    let e : 0 + length bytes ≡ length bytes = omega arith in
    l.is ∙ sets-eq bytes before 0 (omega arith) ∙ ap (λ (n : ℕ). bytes ++ drop n before) e

-- a run over an output of no bytes leaves none
pub measuring : {after : Bytes} {at : ℕ} {bytes : Bytes} {end : ℕ} → Lays [] after at bytes end → after ≡ []
measuring {after} {at} {bytes} l = l.is ∙ sets-out bytes [] at (omega arith)
