-- Bytes placed one after another in the output: numbers, rows of numbers, the front of a record, and the record. Assumes nothing.
use mathlib.Core.Path.{◌≡◌, refl, sym, ◌∙◌, ap, subst}
use mathlib.Core.Bool.{Bool, true, false}
use mathlib.Core.List.{List, [], ◌∷◌, ◌++◌, append-nil}
use Prim.Native.Nat.{ℕ, zero, suc, ◌+◌, ◌*◌, ◌/◌, ◌%◌, ◌^◌, ◌<◌, ◌≤◌}
use native.Mathlib.Nat.{div-add-mod', mul_assoc, mod-lt, add-mul-div_right, add-mul-mod_self_right, mod-eq_of_lt, pow-suc}
use native.Mathlib.Omega.{arith}
use borrow.Author.Tests.{le-leb, ltb-true, ltb-false, ne_eqb}
use lib.Dec.{ltb}
use lib.ListN.{length, get_or, take, drop, length-append, length-map, get_or-map}
use lib.Seq.{sets, length-sets, drop-cons, drop-length, length-take-le, get_or-take}
use Rattle.words.specs.Bytes.{bytes_of, put_le}
use Rattle.words.proofs.Bytes as bytes
use Rattle.words.proofs.Bytes.{length-bytes}
use Rattle.words.proofs.Stores.{sets-append}
use Rattle.writing.specs.Writing.{node, Nodes, in_row, k_and_n}
use Rattle.policies.specs.Policy.{Policy, Unsatisfiable}
use Rattle.policies.specs.Forms.{number_of, children_of}
use Rattle.policies.specs.Heads.{head_of}
use Rattle.policies.specs.Array.{policy_at, Good, child_number, stored}
use Rattle.policies.specs.declared.Head.{Head}
use Rattle.policies.proofs.Views.{child-is, past_head}
use Rattle.candidates.specs.declared.Candidate.{Candidate}
use Rattle.nodes.specs.Words.{node_at}
use Rattle.nodes.specs.Views.{keys_of}
use Rattle.output.specs.Records.{held_at, kind_at, fragment_kind, number_width, front_of, front_at, arity_at, length_at, record_at, child_nodes}
use Rattle.output.specs.Answers.{Readable}
use Rattle.output.specs.Inside.{FrontLength, Keyed, SomeK, Sound}
use Rattle.output.proofs.Shapes.{shape, in-range, out_below, out-above}
use Rattle.output.proofs.Lengths.{mul-suc, length-row, policy-few}

-- ---- one number

low_step : (k v : ℕ) → 0 < k → (v % (k * 256) % 256 ≡ v % 256) × (v % (k * 256) / 256 ≡ v / 256 % k)
low_step k v p =
    let q : ℕ = v / (k * 256) in
    let r : ℕ = v % (k * 256) in
    let whole : q * (k * 256) + r ≡ v = div-add-mod' v (k * 256) in
    let times : q * k * 256 ≡ q * (k * 256) = mul_assoc q k 256 in
    let split : v ≡ r + q * k * 256 = omega arith in
    let small : r < k * 256 = mod-lt v (omega arith) in
    let few : r / 256 < k = omega arith in
    let quotient : v / 256 ≡ r / 256 + q * k = ap (λ (x : ℕ). x / 256) split ∙ add-mul-div_right r (q * k) (omega arith) in (
      sym (ap (λ (x : ℕ). x % 256) split ∙ add-mul-mod_self_right r (q * k) 256),
      sym (ap (λ (x : ℕ). x % k) quotient ∙ add-mul-mod_self_right (r / 256) q k ∙ mod-eq_of_lt few),
    )

some-power : (width : ℕ) → 0 < 256 ^ width
some-power zero = omega arith
some-power (suc width) =
    let h = some-power width in
    let s : 256 ^ suc width ≡ 256 ^ width * 256 = pow-suc 256 width in
    omega arith

-- the bytes of a number are those of what is left of it at their width
pub low-bytes : (width v : ℕ) → bytes_of width (v % (256 ^ width)) ≡ bytes_of width v
unfolding bytes_of
low-bytes zero v = refl
low-bytes (suc width) v =
    let s : 256 ^ suc width ≡ 256 ^ width * 256 = pow-suc 256 width in
    let both = low_step (256 ^ width) v (some-power width) in
    rw (s, both.0, both.1) (ap (λ (l : List ℕ). v % 256 ∷ l) (low-bytes width (v / 256)))

pub put_is : (width : ℕ) (s : List ℕ) (at v : ℕ) → at + width ≤ length s → put_le width s at v ≡ sets s at (bytes_of width v)
put_is width s at v h = bytes.written width s at v (le-leb (at + width) (length s) h)

-- ---- one after another

pub then-sets : (s₀ s₁ s₂ us vs : List ℕ) (at to : ℕ) → s₁ ≡ sets s₀ at us → s₂ ≡ sets s₁ to vs → to ≡ at + length us
    → s₂ ≡ sets s₀ at (us ++ vs)
then-sets s₀ s₁ s₂ us vs at to e₁ e₂ p =
    e₂ ∙ ap (λ (s : List ℕ). sets s to vs) e₁ ∙ ap (λ (t : ℕ). sets (sets s₀ at us) t vs) p ∙ sym (sets-append us vs s₀ at)

pub same-sets : (s₀ s : List ℕ) (at : ℕ) (vs : List ℕ) → s ≡ sets s₀ at vs → length s ≡ length s₀
same-sets s₀ s at vs e = ap length e ∙ length-sets s₀ at vs

pub k-and-n : (s₀ s₁ s₂ : List ℕ) (at k n : ℕ) → s₁ ≡ sets s₀ at (bytes_of 2 (k % 65536)) → s₂ ≡ sets s₁ (at + 2) (bytes_of 2 n)
    → s₂ ≡ sets s₀ at (k_and_n k n)
unfolding in_row
k-and-n s₀ s₁ s₂ at k n e₁ e₂ =
    let two : length (bytes_of 2 k) ≡ 2 = length-bytes 2 k in
    then-sets s₀ s₁ s₂ (bytes_of 2 k) (bytes_of 2 n) at (at + 2) (e₁ ∙ ap (sets s₀ at) (low-bytes 2 k)) e₂ (omega arith)
    ∙ ap (λ (l : List ℕ). sets s₀ at (bytes_of 2 k ++ l)) (sym (append-nil (bytes_of 2 n)))

-- ---- a row of numbers, with those still to come

pub record RowInv (width : ℕ) (ns out₀ : List ℕ) (at : ℕ) (out : List ℕ) (j : ℕ) : Type 0 where
  pub upto : j ≤ length ns
  pub long : length out ≡ length out₀
  pub come : sets out (at + width * j) (in_row width (drop j ns)) ≡ sets out₀ at (in_row width ns)

module _ (width : ℕ) (ns out₀ : List ℕ) (at : ℕ) where
  pub row-starts : RowInv width ns out₀ at out₀ 0
  row-starts =
      let e : at + width * 0 ≡ at = omega arith in
      record { upto = omega arith; long = refl; come = rw e }

  module _ {out : List ℕ} {j : ℕ} (inv : RowInv width ns out₀ at out j) where
    pub row-goes-on : (out' : List ℕ) → j < length ns → out' ≡ sets out (at + width * j) (bytes_of width (get_or ns j 0))
        → RowInv width ns out₀ at out' (j + 1)
    unfolding in_row
    row-goes-on out' l e =
        let b : length (bytes_of width (get_or ns j 0)) ≡ width = length-bytes width (get_or ns j 0) in
        let next : j + 1 ≡ suc j = omega arith in
        let times : width * suc j ≡ width + width * j = mul-suc width j in
        let place : at + width * suc j ≡ at + width * j + length (bytes_of width (get_or ns j 0)) = omega arith in
        record {
          upto = omega arith;
          long = same-sets out out' (at + width * j) (bytes_of width (get_or ns j 0)) e ∙ inv.long;
          come =
              rw next
              (then-sets out out' (sets out' (at + width * suc j) (in_row width (drop (suc j) ns))) (bytes_of width (get_or ns j 0))
              (in_row width (drop (suc j) ns)) (at + width * j) (at + width * suc j) e refl place
              ∙ ap (λ (l : List ℕ). sets out (at + width * j) (in_row width l)) (sym (drop-cons ns j 0 l))
              ∙ inv.come);
        }

    pub row_ends : length ns ≤ j → out ≡ sets out₀ at (in_row width ns)
    unfolding in_row
    row_ends l =
        let e : j ≡ length ns = omega (arith, inv.upto) in
        let none : drop j ns ≡ [] = ap (λ (i : ℕ). drop i ns) e ∙ drop-length ns in
        ap (λ (l : List ℕ). sets out (at + width * j) (in_row width l)) (sym none) ∙ inv.come

-- the keys of a record of the policy

module _ (pol : List ℕ) (r n : ℕ) (keyed : Keyed pol r n) where
  pub keys-count : length (keys_of (policy_at pol r)) ≡ n
  keys-count = length-map (children_of (policy_at pol r)) number_of ∙ sym keyed.count

  pub key-read : (j c : ℕ) (h : Head) → j < n → c ≡ child_number pol r j → h ≡ head_of (policy_at pol c)
      → h.number ≡ get_or (keys_of (policy_at pol r)) j 0
  unfolding number_of
  key-read j c h l is head =
      let u : j < length (children_of (policy_at pol r)) = omega (arith, keyed.count) in
      let child = child-is pol keyed.good r j (stored keyed.stored) u in
      ap (λ (x : Head). x.number) head
      ∙ ap (λ (i : ℕ). number_of (policy_at pol i)) is
      ∙ ap number_of child.is
      ∙ sym (get_or-map number_of (children_of (policy_at pol r)) j Unsatisfiable)

-- the first numbers of a row

module _ (row : List ℕ) (n : ℕ) (wide : length row ≡ 16) (few : n ≤ 16) where
  pub taken-count : length (take n row) ≡ n
  taken-count = length-take-le n row (omega arith)

  pub taken-read : (j : ℕ) → j < n → get_or row j 0 ≡ get_or (take n row) j 0
  taken-read j l = sym (get_or-take n row j 0 l)

-- ---- the front of a record

module _ (pol m : List ℕ) (e : ℕ) (x : Candidate) (h : Head) (is : x ≡ node_at m e) (held : h ≡ head_of (policy_at pol x.first)) where
  abbrev p : Policy
  p = policy_at pol x.first

  front-is : front_at pol m e ≡ front_of x.kind p
  unfolding front_at held_at
  front-is = ap (λ (y : Candidate). front_of y.kind (policy_at pol y.first)) (sym is)

  pub front-number : 34 ≤ x.kind → x.kind ≤ 41 → front_at pol m e ≡ bytes_of (number_width x.kind) h.number
  front-number l u =
      front-is ∙ rw (in-range 34 41 x.kind l u) (ap (λ (y : Head). bytes_of (number_width x.kind) y.number) (sym held))

  pub front-thresh : x.kind ≡ 56 → front_at pol m e ≡ k_and_n h.k h.count
  front-thresh k = front-is ∙ rw k (ap (λ (y : Head). k_and_n y.k y.count) (sym held))

  pub front-keys : 57 ≤ x.kind → x.kind ≤ 58 → front_at pol m e ≡ k_and_n h.k h.count ++ in_row 8 (keys_of p)
  front-keys l u =
      front-is
      ∙ rw (out-above 34 41 x.kind (omega arith), ne_eqb x.kind 56 (λ k. omega arith), in-range 57 58 x.kind l u)
      (ap (λ (y : Head). k_and_n y.k y.count ++ in_row 8 (keys_of p)) (sym held))

  pub front_low : x.kind < 34 → front_at pol m e ≡ []
  front_low l =
      front-is ∙ rw (out_below 34 41 x.kind l, ne_eqb x.kind 56 (λ k. omega arith), out_below 57 58 x.kind (omega arith))

  pub front-middle : 42 ≤ x.kind → x.kind < 56 → front_at pol m e ≡ []
  front-middle l u =
      front-is
      ∙ rw (out-above 34 41 x.kind (omega arith), ne_eqb x.kind 56 (λ k. omega arith), out_below 57 58 x.kind (omega arith))

  pub front-high : 59 ≤ x.kind → front_at pol m e ≡ []
  front-high l =
      front-is
      ∙ rw (out-above 34 41 x.kind (omega arith), ne_eqb x.kind 56 (λ k. omega arith), out-above 57 58 x.kind (omega arith))

  k-length : length (k_and_n h.k h.count) ≡ 4
  k-length = length-row 2 (h.k ∷ h.count ∷ [])

  -- the front fits where its bytes do
  module _ (at : ℕ) (out : List ℕ) (fits : at + length (front_at pol m e) ≤ length out) where
    pub number_fits : 34 ≤ x.kind → x.kind ≤ 41 → at + number_width x.kind ≤ length out
    number_fits l u = omega (arith, ap length (front-number l u), length-bytes (number_width x.kind) h.number)

    pub thresh-fits : x.kind ≡ 56 → at + 4 ≤ length out
    thresh-fits k = omega (arith, ap length (front-thresh k), k-length)

    pub keys-fit : 57 ≤ x.kind → x.kind ≤ 58 → at + 4 + 8 * h.count ≤ length out
    keys-fit l u =
        let whole = ap length (front-keys l u) ∙ length-append (k_and_n h.k h.count) (in_row 8 (keys_of p)) in
        let row : length (in_row 8 (keys_of p)) ≡ 8 * length (keys_of p) = length-row 8 (keys_of p) in
        let keys : length (keys_of p) ≡ length (children_of p) = length-map (children_of p) number_of in
        let same : h.count ≡ length (children_of p) = ap (λ (y : Head). y.count) held in
        omega (arith, whole, k-length)

  pub count_fits : Good pol → h.count ≤ 16
  count_fits good =
      let same : h.count ≡ length (children_of p) = ap (λ (y : Head). y.count) held in
      omega (arith, policy-few pol good x.first)

  -- the keys are those of a record, since k is not 0
  first-k : (k n : ℕ) (rest : List ℕ) → get_or (k_and_n k n ++ rest) 0 0 ≡ k % 256
  unfolding in_row bytes_of
  first-k k n rest = refl

  whole-kind : 57 ≤ x.kind → x.kind ≤ 58 → kind_at m e ≡ x.kind + 50
  unfolding kind_at
  whole-kind l u =
      ap (λ (y : Candidate). fragment_kind y.kind) (sym is)
      ∙ rw (in-range 32 58 x.kind (omega arith) u, out-above 34 35 x.kind (omega arith), in-range 57 58 x.kind l u)

  some-front : (kind : ℕ) (front : List ℕ) (xs : Nodes) → SomeK (node kind front xs) → 107 ≤ kind → 1 ≤ get_or front 0 0
  unfolding SomeK
  some-front kind front xs s l = s.0 l

  pub keyed-by : Readable pol m e → Sound pol m e → 57 ≤ x.kind → x.kind ≤ 58 → Keyed pol x.first h.count
  keyed-by readable sound l u =
      record { good = readable.good; stored = by-test (ltb x.first 64) refl; count = ap (λ (y : Head). y.count) held }
    where
      by-test : (b : Bool) → ltb x.first 64 ≡ b → x.first < 64
      by-test true t = ltb-true x.first 64 t
      by-test false t =
          let some =
          some-front (kind_at m e) (front_at pol m e) (child_nodes pol m e 0 (arity_at pol m e))
          (subst SomeK (shape pol readable.holds e readable.there) sound) (omega (arith, whole-kind l u)) in
          let first = ap (λ (f : List ℕ). get_or f 0 0) (front-keys l u) ∙ first-k h.k h.count (in_row 8 (keys_of p)) in
          let k : 0 ≡ h.k = ap (λ (y : Head). y.k) (past_head pol x.first (ltb-false x.first 64 t)) ∙ ap (λ (y : Head). y.k) (sym held) in
          absurd (omega (arith, some, first))

-- ---- a record

module _ (pol m : List ℕ) (e : ℕ) (row : List ℕ) (wide : length row ≡ 16) (front n : ℕ) (f : FrontLength pol m e front) (a : n ≡ arity_at pol m e) (few : n ≤ 16) where
  payload-length : 4 + front + 2 * n ≡ 4 + length (front_at pol m e ++ in_row 2 (take (arity_at pol m e) row))
  payload-length =
      let whole = length-append (front_at pol m e) (in_row 2 (take (arity_at pol m e) row)) in
      let r : length (in_row 2 (take (arity_at pol m e) row)) ≡ 2 * length (take (arity_at pol m e) row) = length-row 2 (take (arity_at pol m e) row) in
      let t : length (take (arity_at pol m e) row) ≡ arity_at pol m e = taken-count row (arity_at pol m e) wide (omega arith) in
      omega (arith, whole, f.is)

  pub record-placed : (s₀ s₁ s₂ s₃ s₄ : List ℕ) (at kind : ℕ) → kind ≡ kind_at m e → s₁ ≡ sets s₀ at (bytes_of 2 (4 + front + 2 * n))
      → s₂ ≡ sets s₁ (at + 2) (bytes_of 2 kind) → s₃ ≡ sets s₂ (at + 4) (front_at pol m e) → s₄ ≡ sets s₃ (at + 4 + front) (in_row 2 (take n row))
      → s₄ ≡ sets s₀ at (record_at pol m e row)
  unfolding record_at
  record-placed s₀ s₁ s₂ s₃ s₄ at kind k e₁ e₂ e₃ e₄ =
      let front_bytes : List ℕ = front_at pol m e in
      let len : ℕ = 4 + front + 2 * n in
      let two : length (bytes_of 2 len) ≡ 2 = length-bytes 2 len in
      let kind-two : length (bytes_of 2 kind) ≡ 2 = length-bytes 2 kind in
      let children : List ℕ = in_row 2 (take n row) in
      let payload : s₄ ≡ sets s₂ (at + 4) (front_bytes ++ children) = then-sets s₂ s₃ s₄ front_bytes children (at + 4) (at + 4 + front) e₃ e₄ (omega (arith, f.is)) in
      let kinded : s₄ ≡ sets s₁ (at + 2) (bytes_of 2 kind ++ (front_bytes ++ children)) =
      then-sets s₁ s₂ s₄ (bytes_of 2 kind) (front_bytes ++ children) (at + 2) (at + 4) e₂ payload (omega arith) in
      then-sets s₀ s₁ s₄ (bytes_of 2 len) (bytes_of 2 kind ++ (front_bytes ++ children)) at (at + 2) e₁ kinded (omega arith)
      ∙ ap (λ (l : ℕ). sets s₀ at (bytes_of 2 l ++ (bytes_of 2 kind ++ (front_bytes ++ children)))) len_is
      ∙ ap (λ (i : ℕ). sets s₀ at (bytes_of 2 (4 + length (front_bytes ++ in_row 2 (take (arity_at pol m e) row))) ++ (bytes_of 2 i ++ (front_bytes ++ children)))) k
      ∙ ap (λ (i : ℕ). sets s₀ at (bytes_of 2 (4 + length (front_bytes ++ in_row 2 (take (arity_at pol m e) row))) ++ (bytes_of 2 (kind_at m e) ++ (front_bytes ++ in_row 2 (take i row))))) a
    where
      len_is : 4 + front + 2 * n ≡ 4 + length (front_at pol m e ++ in_row 2 (take (arity_at pol m e) row))
      len_is = payload-length

  pub length-is-read : 4 + front + 2 * n ≡ length_at pol m e
  unfolding length_at
  length-is-read = omega (arith, f.is)
