-- The record of a key, as it is written, and one record moved. Assumes nothing.
use mathlib.Core.Path.{◌≡◌, refl, sym, ap, ◌∙◌}
use mathlib.Core.Bool.{Bool, true, false}
use mathlib.Core.List.{List, [], ◌++◌}
use Prim.Native.Nat.{ℕ, ◌+◌, ◌*◌, ◌/◌, ◌%◌, ◌<◌, ◌≤◌}
use native.Mathlib.Nat.{div-add-mod'}
use native.Mathlib.Omega.{arith}
use borrow.Author.Tests.{le-leb}
use lib.Dec.{eqb}
use lib.ListN.{length}
use lib.Seq.{sets}
use Rattle.words.specs.Bytes.{bytes_of, le_at, put_le}
use Rattle.words.proofs.Bytes as bytes
use Rattle.words.proofs.Bytes.{length-bytes, length-put}
use Rattle.words.proofs.Stores.{sets-append}
use Rattle.records.specs.Payloads.{written_kind, number_in}
use Rattle.writing.proofs.OneRecord.{length-record}
use Rattle.moving.specs.declared.Form.{Form}
use Rattle.moving.specs.declared.Form.TheVariants.{Old, New}
use Rattle.moving.specs.Moving.{key_kind, key_width, key_record, other, exceeds, moves, moved, too_large}

-- ---- one record moved

pub length-key : (form : Form) (key : ℕ) → length (key_record form key) ≡ 4 + key_width form
length-key form key = omega (arith, length-record (key_kind form) (bytes_of (key_width form) key), length-bytes (key_width form) key)

pub wide : (form : Form) → key_width form ≤ 8
wide Old = omega arith
wide New = omega arith

module _ (form : Form) (s : List ℕ) where
  pub moved-key : moves form s ≡ true → moved form s ≡ key_record form (number_in s)
  unfolding moved
  moved-key e = rw e

  pub moved_other : moves form s ≡ false → moved form s ≡ s
  unfolding moved
  moved_other e = rw e

  pub large-key : moves form s ≡ true → too_large form s ≡ exceeds form (number_in s)
  unfolding too_large
  large-key e = rw e

  pub large-other : moves form s ≡ false → too_large form s ≡ false
  unfolding too_large
  large-other e = rw e

  pub key-long : moves form s ≡ true → length (moved form s) ≡ 4 + key_width form
  key-long e = ap length (moved-key e) ∙ length-key form (number_in s)

  pub other-long : moves form s ≡ false → length (moved form s) ≡ length s
  other-long e = ap length (moved_other e)

  -- it grows by no more than a key has
  pub moved-few : length (moved form s) ≤ length s + 12
  moved-few = by-test (moves form s) refl
    where
      by-test : (t : Bool) → moves form s ≡ t → length (moved form s) ≤ length s + 12
      by-test true e = omega (arith, key-long e, wide form)
      by-test false e = omega (arith, other-long e)

-- from what was read
pub told-moves : (form : Form) (s : List ℕ) {kind wanted : ℕ} {from : Form} → kind ≡ written_kind s → from ≡ other form → wanted ≡ key_kind from
    → eqb kind wanted ≡ moves form s
told-moves form s e f k = rw (e, k, f)

-- no bytes are no key

empty-stays : (form : Form) → moves form [] ≡ false
unfolding le_at
empty-stays Old = refl
empty-stays New = refl

pub moved-empty : (form : Form) → moved form [] ≡ []
moved-empty form = moved_other form [] (empty-stays form)

pub empty-fits : (form : Form) → too_large form [] ≡ false
empty-fits form = large-other form [] (empty-stays form)

-- ---- a key written

low-bytes : (a b : ℕ) → a < 4294967296 → bytes_of 4 (a + b * 4294967296) ≡ bytes_of 4 a
unfolding bytes_of
low-bytes a b f =
    let r₀ : (a + b * 4294967296) % 256 ≡ a % 256 = omega arith in
    let q₀ : (a + b * 4294967296) / 256 ≡ a / 256 + b * 16777216 = omega arith in
    let r₁ : (a / 256 + b * 16777216) % 256 ≡ a / 256 % 256 = omega arith in
    let q₁ : (a / 256 + b * 16777216) / 256 ≡ a / 256 / 256 + b * 65536 = omega arith in
    let r₂ : (a / 256 / 256 + b * 65536) % 256 ≡ a / 256 / 256 % 256 = omega arith in
    let q₂ : (a / 256 / 256 + b * 65536) / 256 ≡ a / 256 / 256 / 256 + b * 256 = omega arith in
    let r₃ : (a / 256 / 256 / 256 + b * 256) % 256 ≡ a / 256 / 256 / 256 % 256 = omega arith in
    rw (r₀, q₀, r₁, q₁, r₂, q₂, r₃)

-- four bytes are those of the low 32 bits
pub low-four : (v : ℕ) → bytes_of 4 (v % 4294967296) ≡ bytes_of 4 v
low-four v =
    sym (low-bytes (v % 4294967296) (v / 4294967296) (omega arith))
    ∙ ap (bytes_of 4) (omega (arith, div-add-mod' v 4294967296))

pub put_is : (width : ℕ) (s : List ℕ) (at v : ℕ) → at + width ≤ length s → put_le width s at v ≡ sets s at (bytes_of width v)
put_is width s at v h = bytes.written width s at v (le-leb (at + width) (length s) h)

-- one after another
pub then-sets : (s₀ s₁ s₂ us vs : List ℕ) (at to : ℕ) → s₁ ≡ sets s₀ at us → s₂ ≡ sets s₁ to vs → to ≡ at + length us
    → s₂ ≡ sets s₀ at (us ++ vs)
then-sets s₀ s₁ s₂ us vs at to e₁ e₂ p =
    e₂ ∙ ap (λ (s : List ℕ). sets s to vs) e₁ ∙ ap (λ (t : ℕ). sets (sets s₀ at us) t vs) p ∙ sym (sets-append us vs s₀ at)

pub same-put : (width : ℕ) (s₀ s : List ℕ) (at v : ℕ) → s ≡ put_le width s₀ at v → length s ≡ length s₀
same-put width s₀ s at v e = ap length e ∙ length-put width s₀ at v

module _ (form : Form) (key : ℕ) (s₀ s₁ s₂ s₃ : List ℕ) (at len kind : ℕ) where
  pub key-placed : at + (4 + key_width form) ≤ length s₀ → len ≡ 4 + key_width form → kind ≡ key_kind form → s₁ ≡ put_le 2 s₀ at len
      → s₂ ≡ put_le 2 s₁ (at + 2) kind → s₃ ≡ sets s₂ (at + 4) (bytes_of (key_width form) key) → s₃ ≡ sets s₀ at (key_record form key)
  key-placed fits l k e₁ e₂ e₃ =
      let payload : List ℕ = bytes_of (key_width form) key in
      let same = same-put 2 s₀ s₁ at len e₁ in
      let first : s₁ ≡ sets s₀ at (bytes_of 2 len) = e₁ ∙ put_is 2 s₀ at len (omega arith) in
      let second : s₂ ≡ sets s₁ (at + 2) (bytes_of 2 kind) = e₂ ∙ put_is 2 s₁ (at + 2) kind (omega (arith, same)) in
      let two : length (bytes_of 2 len) ≡ 2 = length-bytes 2 len in
      let kind-two : length (bytes_of 2 kind) ≡ 2 = length-bytes 2 kind in
      let kinded : s₃ ≡ sets s₁ (at + 2) (bytes_of 2 kind ++ payload) = then-sets s₁ s₂ s₃ (bytes_of 2 kind) payload (at + 2) (at + 4) second e₃ (omega arith) in
      let long : len ≡ 4 + length payload = omega (arith, length-bytes (key_width form) key) in
      then-sets s₀ s₁ s₃ (bytes_of 2 len) (bytes_of 2 kind ++ payload) at (at + 2) first kinded (omega arith)
      ∙ ap (λ (n : ℕ). sets s₀ at (bytes_of 2 n ++ (bytes_of 2 kind ++ payload))) long
      ∙ ap (λ (n : ℕ). sets s₀ at (bytes_of 2 (4 + length payload) ++ (bytes_of 2 n ++ payload))) k
