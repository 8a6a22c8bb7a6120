-- Whatever is read is well formed: specs/ReadBack.antt. Assumes nothing.
use mathlib.Core.Path.{◌≡◌, refl, sym, ap, subst, ◌∙◌}
use mathlib.Core.Bool.{Bool, true, false}
use mathlib.Core.List.{List, [], ◌∷◌}
use Rattle.std.specs.Prelude.{Some}
use Prim.Native.Nat.{ℕ, zero, suc, ◌+◌, ◌*◌, ◌^◌, ◌<◌, ◌≤◌}
use native.Mathlib.Nat.{pow-suc}
use native.Mathlib.Omega.{arith}
use lib.ListN.{length, take, drop, length-take}
use Rattle.words.specs.Bytes.{little, has_bytes, when_read, le_at}
use Rattle.records.specs.Numbers.{or_zero, number_at, u16, u32, numbers_at}
use Rattle.records.specs.Shapes.{look_up, is_long, shape_of}
use Rattle.records.specs.Payloads.{Payload, written_kind, width, number_in, keys_in, payload_of, children_of}
use Rattle.records.specs.RecordForm.{kind_of, fragment_payload}
use Rattle.records.specs.declared.Shape.{Shape}
use Rattle.records.specs.declared.Shape.TheVariants as Shape
use Rattle.records.proofs.Laws.{fragment-record, is_number, is-lock, is-threshold, is-keys, lock-bounds, threshold-bounds, keys-bounds}
use Rattle.records.proofs.Widths.{width-long, width-short, short-fragment}
use Rattle.contexts.specs.Leaves.{After, Older, Sha256, Hash256, Ripemd160, Hash160}
use Rattle.trees.specs.Fragment.{Fragment, to_list, False, True, PkK, PkH, Lock, Hash}
use Rattle.trees.specs.Fragment.{Alt, Swap, Check, DupIf, Verify, NonZero, ZeroNotEqual}
use Rattle.trees.specs.Fragment.{AndB, AndV, OrB, OrD, OrC, OrI, AndOr, Thresh, Multi, MultiA}
use Rattle.trees.specs.Reading.{read_tree}
use Rattle.trees.specs.Tree.{Maker, plain, with_number, one, two, three, of_children, of_keys, fragments, makers, make_fragment, tree_of}
use Rattle.writing.specs.WellFormed.{AllBelow, IsU32, IsU64, IsLock, IsThreshold, WellFormed, AllWellFormed}
use Rattle.writing.specs.ReadBack.{ReadsWellFormed}
use Rattle.writing.proofs.Kept.{All, AllHeld, Makes, below-take, below-drop, read-holds}
use Rattle.writing.proofs.Makers.{AllLines, no_line, ◌⊗◌, found-maker}
use Rattle.writing.proofs.Makers.{plain-made, number-made, keys-made, one-made, two_made, three_made}

-- ---- numbers in bytes

little-below : (width : ℕ) (s : List ℕ) → length s ≤ width → AllBelow 256 s → little s < 256 ^ width
unfolding little AllBelow
little-below zero [] l h = omega arith
little-below zero (b ∷ s) l h = absurd (omega arith)
little-below (suc width) [] l h =
    let p : 256 ^ suc width ≡ 256 ^ width * 256 = pow-suc 256 width in
    let q = little-below width [] (omega arith) tt in
    omega arith
little-below (suc width) (b ∷ s) l h =
    let p : 256 ^ suc width ≡ 256 ^ width * 256 = pow-suc 256 width in
    let q = little-below width s (omega arith) h.1 in
    omega arith

some-power : (w : ℕ) → 0 < 256 ^ w
unfolding little AllBelow
some-power w = little-below w [] (omega arith) tt

pub number-below : (w : ℕ) (s : List ℕ) (at : ℕ) → AllBelow 256 s → number_at w s at < 256 ^ w
unfolding le_at
number-below w s at h = by-room (has_bytes w s at)
  where
    bytes : List ℕ
    bytes = take w (drop at s)

    by-room : (room : Bool) → or_zero (when_read room (little bytes)) < 256 ^ w
    by-room true = little-below w bytes (omega (arith, length-take w (drop at s))) (below-take 256 w (drop at s) (below-drop 256 at s h))
    by-room false = omega (arith, some-power w)

numbers-below : (w : ℕ) (s : List ℕ) (at n : ℕ) → AllBelow 256 s → AllBelow (256 ^ w) (numbers_at w s at n)
unfolding numbers_at AllBelow
numbers-below w s at zero h = tt
numbers-below w s at (suc n) h = (number-below w s at h, numbers-below w s (at + w) n h)

-- a number of a record has at most eight bytes
by_width : (s : List ℕ) (P : ℕ → Type 0) → P 4 → P 8 → P (width s)
by_width s P four eight = by-test (is_long (written_kind s)) refl
  where
    by-test : (t : Bool) → is_long (written_kind s) ≡ t → P (width s)
    by-test true e = subst P (sym (width-long s e)) eight
    by-test false e = subst P (sym (width-short s e)) four

all-higher : (low high : ℕ) (ns : List ℕ) → low ≤ high → AllBelow low ns → AllBelow high ns
unfolding AllBelow
all-higher low high [] l h = tt
all-higher low high (n ∷ ns) l h = (omega (arith, h.0), all-higher low high ns l h.1)

pub key_below : (s : List ℕ) → AllBelow 256 s → IsU64 (number_in s)
key_below s h =
    by_width s (λ w. number_at w s 4 < 2 ^ 64) (omega (arith, number-below 4 s 4 h)) (number-below 8 s 4 h)

keys_below : (s : List ℕ) → AllBelow 256 s → AllBelow (2 ^ 64) (keys_in s)
keys_below s h =
    by_width s (λ w. AllBelow (2 ^ 64) (numbers_at w s 8 (u16 s 6)))
    (all-higher (2 ^ 32) (2 ^ 64) (numbers_at 4 s 8 (u16 s 6)) (omega arith) (numbers-below 4 s 8 (u16 s 6) h))
    (numbers-below 8 s 8 (u16 s 6) h)

-- of a kind with short numbers it is a u32
pub short-below : (s : List ℕ) → AllBelow 256 s → width s ≡ 4 → IsU32 (number_in s)
short-below s h e = rw e (number-below 4 s 4 h)

-- ---- makers

-- what a maker makes of a record of this kind is well formed
abbrev Fine : ℕ → Maker → Type 0
Fine kind maker = (s : List ℕ) (payload : Payload) (xs : List Fragment) (x : Fragment) → AllBelow 256 s → kind_of s ≡ kind
    → fragment_payload s ≡ Some payload → length xs ≡ length (children_of payload) → maker payload xs ≡ Some x → All WellFormed xs → WellFormed x

-- a record is of its kind's shape
shape-known : (kind : ℕ) (s : List ℕ) {shape : Shape} {payload : Payload} → shape_of kind ≡ Some shape → kind_of s ≡ kind
    → fragment_payload s ≡ Some payload → payload_of shape s ≡ Some payload
shape-known kind s known k e = rw (k, known) at (fragment-record s e).1

module _ (kind : ℕ) where
  plain-fine : (f : Fragment) → WellFormed f → Fine kind (plain f)
  plain-fine f w s payload xs x bytes k e l m all = rw (plain-made f payload xs m).1 w

  key-fine : shape_of kind ≡ Some Shape.Number → (f : ℕ → Fragment) → ((n : ℕ) → IsU64 n → WellFormed (f n)) → Fine kind (with_number f)
  key-fine known f w s payload xs x bytes k e l m all =
      let this = is_number s (shape-known kind s known k e) in
      rw ((number-made f payload xs m).1, this) (w (number_in s) (key_below s bytes))

  hash-fine : 38 ≤ kind → kind ≤ 41 → shape_of kind ≡ Some Shape.Number → (f : ℕ → Fragment) → ((n : ℕ) → IsU32 n → WellFormed (f n))
      → Fine kind (with_number f)
  hash-fine low high known f w s payload xs x bytes k e l m all =
      let this = is_number s (shape-known kind s known k e) in
      rw ((number-made f payload xs m).1, this)
      (w (number_in s) (short-below s bytes (short-fragment s (omega (arith, k)) (omega (arith, k)))))

  lock-fine : shape_of kind ≡ Some Shape.Lock → (f : ℕ → Fragment) → ((n : ℕ) → IsLock n → WellFormed (f n)) → Fine kind (with_number f)
  lock-fine known f w s payload xs x bytes k e l m all =
      let shaped = shape-known kind s known k e in
      let this = is-lock s shaped in
      rw ((number-made f payload xs m).1, this) (w (number_in s) (lock-bounds s (shaped ∙ ap Some this)))

  keys-fine : shape_of kind ≡ Some Shape.Keys → (f : ℕ → List ℕ → Fragment)
      → ((k : ℕ) (ks : List ℕ) → IsThreshold k (length ks) × AllBelow (2 ^ 64) ks → WellFormed (f k ks)) → Fine kind (of_keys f)
  keys-fine known f w s payload xs x bytes k e l m all =
      let shaped = shape-known kind s known k e in
      let this = is-keys s shaped in
      let bounds = keys-bounds s (shaped ∙ ap Some this) in
      rw ((keys-made f payload xs m).1, this) (w (u16 s 4) (keys_in s) (bounds, keys_below s bytes))

  one-fine : (f : Fragment → Fragment) → ((x : Fragment) → WellFormed x → WellFormed (f x)) → Fine kind (one f)
  unfolding All
  one-fine f w s payload xs x bytes k e l m all =
      let by = one-made f payload xs m in
      let well = rw by.1 at all in
      rw by.2 (w by.0 well.0)

  two-fine : (f : Fragment → Fragment → Fragment) → ((x y : Fragment) → WellFormed x → WellFormed y → WellFormed (f x y)) → Fine kind (two f)
  unfolding All
  two-fine f w s payload xs x bytes k e l m all =
      let by = two_made f payload xs m in
      let well = rw by.2 at all in
      rw by.3 (w by.0 by.1 well.0 well.1.0)

  three-fine : (f : Fragment → Fragment → Fragment → Fragment)
      → ((x y z : Fragment) → WellFormed x → WellFormed y → WellFormed z → WellFormed (f x y z)) → Fine kind (three f)
  unfolding All
  three-fine f w s payload xs x bytes k e l m all =
      let by = three_made f payload xs m in
      let well = rw by.3 at all in
      rw by.4 (w by.0 by.1 by.2 well.0 well.1.0 well.1.1.0)

as_many : (xs : List Fragment) → length (to_list (fragments xs)) ≡ length xs
unfolding to_list fragments
as_many [] = refl
as_many (x ∷ xs) = ap suc (as_many xs)

all-fragments : (xs : List Fragment) → All WellFormed xs → AllWellFormed (fragments xs)
unfolding All AllWellFormed fragments
all-fragments [] all = tt
all-fragments (x ∷ xs) all = (all.0, all-fragments xs all.1)

thresh-fine : Fine 56 (of_children Thresh)
unfolding WellFormed shape_of look_up
thresh-fine s payload xs x bytes k e l m all =
    let as-threshold = shape-known 56 s refl k e in
    let this = is-threshold s as-threshold in
    let first = u16 s 4 in
    let bounds = threshold-bounds s (as-threshold ∙ ap Some this) in
    let same : Thresh first (fragments xs) ≡ x = cc this in
    let n : length (to_list (fragments xs)) ≡ length (children_of payload) = as_many xs ∙ l in
    let fits : IsThreshold first (length (to_list (fragments xs))) = rw (n, this) bounds in
    subst WellFormed same (fits, all-fragments xs all)

makers-fine : AllLines Fine makers
unfolding WellFormed shape_of look_up
makers-fine =
    plain-fine 32 False tt
    ⊗ plain-fine 33 True tt
    ⊗ key-fine 34 refl PkK (λ n w. w)
    ⊗ key-fine 35 refl PkH (λ n w. w)
    ⊗ lock-fine 36 refl (Lock After) (λ n w. w)
    ⊗ lock-fine 37 refl (Lock Older) (λ n w. w)
    ⊗ hash-fine 38 (omega arith) (omega arith) refl (Hash Sha256) (λ n w. w)
    ⊗ hash-fine 39 (omega arith) (omega arith) refl (Hash Hash256) (λ n w. w)
    ⊗ hash-fine 40 (omega arith) (omega arith) refl (Hash Ripemd160) (λ n w. w)
    ⊗ hash-fine 41 (omega arith) (omega arith) refl (Hash Hash160) (λ n w. w)
    ⊗ one-fine 42 Alt (λ x w. w)
    ⊗ one-fine 43 Swap (λ x w. w)
    ⊗ one-fine 44 Check (λ x w. w)
    ⊗ one-fine 45 DupIf (λ x w. w)
    ⊗ one-fine 46 Verify (λ x w. w)
    ⊗ one-fine 47 NonZero (λ x w. w)
    ⊗ one-fine 48 ZeroNotEqual (λ x w. w)
    ⊗ two-fine 49 AndB (λ x y v w. (v, w))
    ⊗ two-fine 50 AndV (λ x y v w. (v, w))
    ⊗ two-fine 51 OrB (λ x y v w. (v, w))
    ⊗ two-fine 52 OrD (λ x y v w. (v, w))
    ⊗ two-fine 53 OrC (λ x y v w. (v, w))
    ⊗ two-fine 54 OrI (λ x y v w. (v, w))
    ⊗ three-fine 55 AndOr (λ x y z u v w. (u, v, w))
    ⊗ thresh-fine
    ⊗ keys-fine 57 refl Multi (λ k ks w. w)
    ⊗ keys-fine 58 refl MultiA (λ k ks w. w)
    ⊗ no_line

-- ---- whatever is read

made-fine : Makes make_fragment WellFormed
made-fine s payload xs x bytes e l m all =
    let by = found-maker Fine makers-fine (kind_of s) payload xs m in
    by.1 s payload xs x bytes refl e l by.2 all

pub reads-well-formed : ReadsWellFormed
unfolding tree_of read_tree AllHeld
reads-well-formed bytes below f e = read-holds make_fragment WellFormed made-fine 4096 [] bytes below tt e
