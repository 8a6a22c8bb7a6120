-- A run of stores in a list, `sets`: what stands below it, above it and in it, and two runs in a row. Assumes nothing.
use mathlib.Core.Path.{◌≡◌, refl, ◌∙◌}
use mathlib.Core.List.{List, [], ◌∷◌, ◌++◌}
use Prim.Native.Nat.{ℕ, zero, suc, ◌+◌, ◌<◌, ◌≤◌}
use native.Mathlib.Omega.{arith}
use lib.ListN.{length, get_or, set, length-set}
use lib.Seq.{sets, get_or-set_same, get_or-set_other}

pub sets_below : (vs l : List ℕ) (at j d : ℕ) → j < at → get_or (sets l at vs) j d ≡ get_or l j d
sets_below [] l at j d h = refl
sets_below (a ∷ vs) l at j d h =
    sets_below vs (set l at a) (suc at) j d (omega arith) ∙ get_or-set_other l at j a d (λ e. omega arith)

pub sets-above : (vs l : List ℕ) (at j d : ℕ) → at + length vs ≤ j → get_or (sets l at vs) j d ≡ get_or l j d
sets-above [] l at j d h = refl
sets-above (a ∷ vs) l at j d h =
    sets-above vs (set l at a) (suc at) j d (omega arith) ∙ get_or-set_other l at j a d (λ e. omega arith)

pub sets-in : (vs l : List ℕ) (at k d : ℕ) → k < length vs → at + length vs ≤ length l → get_or (sets l at vs) (at + k) d ≡ get_or vs k d
sets-in [] l at k d h f = absurd (omega arith)
sets-in (a ∷ vs) l at zero d h f =
    let e : at + 0 ≡ at = omega arith in
    let p : at < length l = omega arith in
    rw e (sets_below vs (set l at a) (suc at) at d (omega arith) ∙ get_or-set_same l at a d p)
sets-in (a ∷ vs) l at (suc k) d h f =
    let e : at + suc k ≡ suc at + k = omega arith in
    rw e (sets-in vs (set l at a) (suc at) k d (omega arith) (rw length-set (omega arith)))

pub sets-append : (us vs l : List ℕ) (at : ℕ) → sets l at (us ++ vs) ≡ sets (sets l at us) (at + length us) vs
sets-append [] vs l at =
    let e : at + 0 ≡ at = omega arith in
    rw e
sets-append (a ∷ us) vs l at =
    let e : at + suc (length us) ≡ suc at + length us = omega arith in
    rw e (sets-append us vs (set l at a) (suc at))
