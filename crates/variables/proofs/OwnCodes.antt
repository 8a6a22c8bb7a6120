-- The variables that stand in a record, read from its bytes. Assumes nothing.
use Prim.Native.Nat.{ℕ, zero, suc, ◌+◌, ◌*◌, ◌≤◌, ◌<◌}
use mathlib.Core.List.{List, [], ◌∷◌, ◌++◌, map, append_assoc}
use Rattle.std.specs.Prelude.{Some}
use mathlib.Core.Path.{◌≡◌, refl, sym, ap, subst, ◌∙◌}
use native.Mathlib.Nat.{mul-zero, mul-suc}
use native.Mathlib.Omega.{arith}
use native.Mathlib.Numerals.{add-one}
use borrow.Author.Tests.{le-leb, lt-leb}
use lib.ListN.{length, take, set, get_or, length-set, length-map, get_or-map}
use lib.Seq.{take-suc-set, take-suc, get_or-take, length-take-le, take_all}
use Rattle.records.specs.Numbers.{numbers_at}
use Rattle.records.specs.Payloads.{Payload, keys, number_of, count_of, keys_of, width, k_in, key_at, first_keys, keys_in, count_in}
use Rattle.records.specs.RecordForm.{kind_of, fragment_payload}
use Rattle.records.specs.declared.Parts.{Parts}
use Rattle.records.specs.Answers.{parts_of}
use Rattle.records.proofs.KindRanges.{shapes-in}
use Rattle.records.proofs.Laws.{of-fragment, fragment-record, is-keys, length-keys}
use Rattle.records.proofs.Laws as Laws
use Rattle.records.proofs.Arities.{counts}
use Rattle.contexts.specs.Leaves.{After, Older, Sha256, Hash256, Ripemd160, Hash160}
use Rattle.trees.specs.Fragment.{Fragment, False, True, PkK, PkH, Lock, Hash}
use Rattle.trees.specs.Fragment.{Alt, Swap, Check, DupIf, Verify, NonZero, ZeroNotEqual}
use Rattle.trees.specs.Fragment.{AndB, AndV, OrB, OrD, OrC, OrI, AndOr, Thresh, Multi, MultiA}
use Rattle.walk.specs.TreeRecords.{record_at, fragment_at, TreeRecord}
use Rattle.walk.specs.Heads.{head_of, head_with, head_in}
use Rattle.walk.proofs.HeadLaws.{head_at}
use Rattle.meaning.specs.Meaning.{Variable, key}
use Rattle.variables.specs.declared.Var.{Var}
use Rattle.variables.specs.declared.Vars.{Vars}
use Rattle.variables.specs.declared.Own.{Own}
use Rattle.variables.specs.Gathering.{code, code_of, Roomy, add_code, Gathered, own_variables, class_in, key_code, codes_in, OwnIs, Fits}
use Rattle.variables.proofs.Rows.{gathered-add}

-- ---- by the head

key-codes : (ks : List ℕ) → map key_code ks ≡ map code_of (map key ks)
key-codes [] = refl
key-codes (k ∷ ks) = ap (λ (l : List Var). key_code k ∷ l) (key-codes ks)

pub codes-are : (f : Fragment) → codes_in (head_of f) ≡ map code_of (own_variables f)
unfolding head_of own_variables
codes-are False = refl
codes-are True = refl
codes-are (PkK n) = refl
codes-are (PkH n) = refl
codes-are (Lock After n) = refl
codes-are (Lock Older n) = refl
codes-are (Hash Sha256 n) = refl
codes-are (Hash Hash256 n) = refl
codes-are (Hash Ripemd160 n) = refl
codes-are (Hash Hash160 n) = refl
codes-are (Alt x) = refl
codes-are (Swap x) = refl
codes-are (Check x) = refl
codes-are (DupIf x) = refl
codes-are (Verify x) = refl
codes-are (NonZero x) = refl
codes-are (ZeroNotEqual x) = refl
codes-are (AndB x y) = refl
codes-are (AndV x y) = refl
codes-are (OrB x y) = refl
codes-are (OrD x y) = refl
codes-are (OrC x y) = refl
codes-are (OrI x y) = refl
codes-are (AndOr x y z) = refl
codes-are (Thresh k xs) = refl
codes-are (Multi k ks) = key-codes ks
codes-are (MultiA k ks) = key-codes ks

-- those of record i
pub own_at : {tree : List ℕ} {i : ℕ} (row : TreeRecord tree i) {bytes : List ℕ} → bytes ≡ record_at tree i → {r : Own} → OwnIs bytes r
    → take r.n r.list ≡ map code_of (own_variables (fragment_at tree i))
own_at {tree} {i} row b o = o.are ∙ ap (λ (l : List ℕ). codes_in (head_in l)) b ∙ ap codes_in (sym (head_at row)) ∙ codes-are (fragment_at tree i)

-- ---- the keys, one by one

numbers-snoc : (w : ℕ) (s : List ℕ) (at n : ℕ) → numbers_at w s at (suc n) ≡ numbers_at w s at n ++ numbers_at w s (at + w * n) 1
unfolding numbers_at
numbers-snoc w s at zero =
    let e : at + w * 0 ≡ at = omega (arith, mul-zero w) in
    rw e
numbers-snoc w s at (suc n) =
    let e : at + w + w * n ≡ at + w * suc n = omega (arith, mul-suc w n) in
    let rest = numbers-snoc w s (at + w) n in
    rw (rest, e)

map-append : (xs ys : List ℕ) → map key_code (xs ++ ys) ≡ map key_code xs ++ map key_code ys
map-append [] ys = refl
map-append (x ∷ xs) ys = ap (λ (l : List Var). key_code x ∷ l) (map-append xs ys)

pub record KeysOn (bytes : List ℕ) (j n : ℕ) (list : List Var) : Type 0 where
  pub upto : j ≤ n
  pub long : length list ≡ 16
  pub are : take j list ≡ map key_code (first_keys bytes j)

pub keys-begin : (bytes : List ℕ) (n : ℕ) (list : List Var) → length list ≡ 16 → KeysOn bytes 0 n list
unfolding numbers_at
keys-begin bytes n list l = record { upto = omega arith; long = l; are = refl }

pub keys-more : {bytes : List ℕ} {j n : ℕ} {list : List Var} → KeysOn bytes j n list → n ≤ 16 → j < n → {k : ℕ} → k ≡ key_at bytes j
    → KeysOn bytes (j + 1) n (set list j (key_code k))
unfolding numbers_at
keys-more {bytes} {j} {n} {list} on few l {k} e =
    record {
      upto = omega arith;
      long = length-set list j (key_code k) ∙ on.long;
      are =
          ap (λ (m : ℕ). take m (set list j (key_code k))) (add-one j)
          ∙ take-suc-set list j (key_code k) (omega (arith, on.long))
          ∙ ap (λ (xs : List Var). xs ++ (key_code k ∷ [])) on.are
          ∙ ap (λ (m : ℕ). map key_code (first_keys bytes j) ++ (key_code m ∷ [])) e
          ∙ sym (map-append (first_keys bytes j) (numbers_at (width bytes) bytes (8 + width bytes * j) 1))
          ∙ ap (map key_code) (sym (numbers-snoc (width bytes) bytes 8 j))
          ∙ ap (λ (m : ℕ). map key_code (first_keys bytes m)) (sym (add-one j));
    }

pub keys-done : {bytes : List ℕ} {j n : ℕ} {list : List Var} → KeysOn bytes j n list → n ≤ j → (length list ≡ 16) × (take n list ≡ map key_code (first_keys bytes n))
keys-done {bytes} {j} {n} {list} on l =
    let same : j ≡ n = omega (arith, on.upto) in
    (on.long, subst (λ (m : ℕ). take m list ≡ map key_code (first_keys bytes m)) same on.are)

-- ---- by the bytes

module _ {bytes : List ℕ} (fit : Fits bytes) {parts : Parts} {kind : ℕ} (p : parts ≡ parts_of (fragment_payload bytes)) (k : kind ≡ kind_of bytes) where
  parts_are : parts ≡ parts_of (Some fit.payload)
  parts_are = p ∙ ap parts_of fit.fits

  head-is : head_in bytes ≡ head_with kind (Some fit.payload)
  head-is = ap (head_with (kind_of bytes)) fit.fits ∙ ap (λ (n : ℕ). head_with n (Some fit.payload)) (sym k)

  pub own-low : kind < 34 → {r : Own} → (r.n ≡ 0) × (length r.list ≡ 16) → OwnIs bytes r
  own-low h {r} z =
      record {
        few = omega (arith, z.0);
        long = z.1;
        are = ap (λ (n : ℕ). take n r.list) z.0 ∙ sym (ap codes_in head-is ∙ simp (lt-leb 34 kind h, lt-leb 57 kind (omega arith)));
      }

  pub own-one : 34 ≤ kind → kind < 42 → {r : Own} → (r.n ≡ 1) × (length r.list ≡ 16) × (take 1 r.list ≡ code (class_in kind) parts.number ∷ []) → OwnIs bytes r
  own-one l h {r} o =
      let number : parts.number ≡ number_of fit.payload = ap (λ (x : Parts). x.number) parts_are in
      record {
        few = omega (arith, o.0);
        long = o.1;
        are = ap (λ (n : ℕ). take n r.list) o.0 ∙ o.2 ∙ ap (λ (n : ℕ). code (class_in kind) n ∷ []) number
            ∙ sym (ap codes_in head-is ∙ simp (le-leb 34 kind l, le-leb kind 41 (omega arith)));
      }

  pub own-high : 42 ≤ kind → kind < 57 → {r : Own} → (r.n ≡ 0) × (length r.list ≡ 16) → OwnIs bytes r
  own-high l h {r} z =
      record {
        few = omega (arith, z.0);
        long = z.1;
        are = ap (λ (n : ℕ). take n r.list) z.0
            ∙ sym (ap codes_in head-is ∙ simp (le-leb 34 kind (omega arith), lt-leb kind 41 (omega arith), lt-leb 57 kind h));
      }

  module _ (l : 57 ≤ kind) where
    top : kind ≤ 58
    top = omega (arith, k, (counts bytes fit.payload fit.fits).to)

    keys-are : fit.payload ≡ keys (k_in bytes) (keys_in bytes)
    keys-are =
        let is = shapes-in 57 58 refl (kind_of bytes) (omega (arith, k)) (omega (arith, k, top)) in
        is-keys bytes (sym (of-fragment bytes (fragment-record bytes fit.fits).0 is) ∙ fit.fits)

    pub few-keys : parts.count ≤ 16
    few-keys =
        let is = shapes-in 57 58 refl (kind_of bytes) (omega (arith, k)) (omega (arith, k, top)) in
        let b = Laws.keys-bounds bytes (sym (of-fragment bytes (fragment-record bytes fit.fits).0 is) ∙ fit.fits ∙ ap Some keys-are) in
        let n : parts.count ≡ count_of (keys (k_in bytes) (keys_in bytes)) = ap (λ (x : Parts). x.count) parts_are ∙ ap count_of keys-are in
        omega (arith, n, b.2)

    pub own_keys : {list : List Var} → length list ≡ 16 → take parts.count list ≡ map key_code (first_keys bytes parts.count)
        → OwnIs bytes (record { list = list; n = parts.count })
    own_keys {list} long t =
        let n : parts.count ≡ count_in bytes =
        ap (λ (x : Parts). x.count) parts_are ∙ ap count_of keys-are ∙ length-keys bytes (count_in bytes) in
        record {
          few = few-keys;
          long = long;
          are = t ∙ ap (λ (m : ℕ). map key_code (first_keys bytes m)) n ∙ ap (λ (x : Payload). map key_code (keys_of x)) (sym keys-are)
              ∙ sym (ap codes_in head-is ∙ simp (le-leb 34 kind (omega arith), lt-leb kind 41 (omega arith), le-leb 57 kind l));
        }

-- ---- they are added one by one

pub record OwnOn (t : Vars) (own : List Var) (n j : ℕ) (all : Vars) : Type 0 where
  pub upto : j ≤ n
  pub room : Roomy all
  pub so_far : (l vs : List Variable) → take n own ≡ map code_of vs → Gathered t l → Gathered all (l ++ take j vs)

pub own-begin : (t : Vars) (own : List Var) (n : ℕ) → Roomy t → OwnOn t own n 0 t
own-begin t own n room = record { upto = omega arith; room = room; so_far = λ l vs e g. rw (nil l) g }
  where
    nil : (l : List Variable) → l ++ [] ≡ l
    nil [] = refl
    nil (v ∷ l) = ap (λ (k : List Variable). v ∷ k) (nil l)

module _ {t : Vars} {own : List Var} {n j : ℕ} {all : Vars} (on : OwnOn t own n j all) (few : n ≤ length own) where
  pub own-more : j < n → {next : Vars} → next ≡ add_code all (get_or own j (code 0 0)) → Roomy next
      → OwnOn t own n (j + 1) next
  own-more l {next} e room = record { upto = omega arith; room = room; so_far = λ k vs s g. one k vs s (on.so_far k vs s g) }
    where
      one : (k vs : List Variable) → take n own ≡ map code_of vs → Gathered all (k ++ take j vs) → Gathered next (k ++ take (j + 1) vs)
      one k vs s g =
          let many : length vs ≡ n = sym (length-map vs code_of) ∙ ap length (sym s) ∙ length-take-le n own few in
          let v = get_or vs j (key 0) in
          let its : get_or own j (code 0 0) ≡ code_of v =
          sym (get_or-take n own j (code 0 0) l) ∙ ap (λ (xs : List Var). get_or xs j (code 0 0)) s ∙ get_or-map code_of vs j (key 0) in
          let split : take (j + 1) vs ≡ take j vs ++ (v ∷ []) = ap (λ (m : ℕ). take m vs) (add-one j) ∙ take-suc vs j (key 0) (omega (arith, many)) in
          let joined : k ++ take (j + 1) vs ≡ (k ++ take j vs) ++ (v ∷ []) =
          ap (λ (xs : List Variable). k ++ xs) split ∙ sym (append_assoc k (take j vs) (v ∷ [])) in
          rw (joined, e, its) (gathered-add all v (k ++ take j vs) on.room g)

  pub own-done : n ≤ j → (l vs : List Variable) → take n own ≡ map code_of vs → Gathered t l → Gathered all (l ++ vs)
  own-done h l vs s g =
      let many : length vs ≡ n = sym (length-map vs code_of) ∙ ap length (sym s) ∙ length-take-le n own few in
      let whole : take j vs ≡ vs = take_all j vs (omega arith) in
      subst (λ (xs : List Variable). Gathered all (l ++ xs)) whole (on.so_far l vs s g)
