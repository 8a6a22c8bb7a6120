-- A tree that the check passed is made up of its records (specs/TreeRecords.antt), and what that tells to one who walks them. Assumes nothing.
use Prim.Native.Nat.{ℕ, zero, suc, ◌+◌, ◌-◌, ◌≤◌, ◌<◌}
use mathlib.Core.Bool.{Bool, true, false}
use mathlib.Core.List.{List, [], ◌∷◌, ◌++◌}
use mathlib.Core.Logic.{◌⊎◌, inl, inr}
use Rattle.std.specs.Prelude.{None, Some}
use mathlib.Core.Path.{◌≡◌, refl, sym, ap, ◌∙◌}
use native.Mathlib.Omega.{arith}
use borrow.Author.Tests.{leb-true, leb-false, ltb-true, ltb-false}
use lib.Dec.{leb, ltb}
use lib.ListN.{length, get_or, take, drop, length-append, length-drop, get_or-append}
use lib.Seq.{get_or_at}
use Rattle.records.specs.Numbers.{or_zero}
use Rattle.records.specs.Shapes.{arity}
use Rattle.records.specs.Payloads.{children_of}
use Rattle.records.specs.RecordForm.{record_length, kind_of, fragment_payload}
use Rattle.records.specs.declared.Parts.{Parts}
use Rattle.records.specs.Answers.{parts_of}
use Rattle.records.proofs.Arities.{arity-one, arity-two, arity-below, arity-above, Found, own-children, few-children, same-children}
use Rattle.records.proofs.Laws.{length-bounds, whole_room, length-padded, padded-at}
use Rattle.trees.specs.Fragment.{Fragment}
use Rattle.trees.specs.Reading.{done, or_refuse, max_records}
use Rattle.trees.specs.Tree.{tree_of}
use Rattle.trees.specs.TreeCheck.{Typed, bad_context, bad_work, context_of, work_of, typed_tree_of, check_in, check_of}
use Rattle.trees.proofs.Theorem.{passes-well-typed-trees}
use Rattle.walk.specs.TreeRecords.{length_from, start_of, starts_of, record_at, fragments_of, TreeRecord, TreeRecords, Told}
use Rattle.walk.specs.Nodes.{node_of, Placed, AllPlaced, Scanned}
use Rattle.walk.proofs.ReadRecords.{bind_done, or-done, start-after, bytes-are, read_all, length-fragments}
use Rattle.walk.proofs.ReadRecords.{fragments-kept, agrees, rows-read, root-last}
use Rattle.walk.proofs.KindLaws.{threshold-bounds}

-- ---- a tree that the check passed

passed : (context : ℕ) (tree : List ℕ) (words : ℕ) (x : Typed) → check_of context tree words ≡ done x → tree_of tree ≡ done x.tree
unfolding check_of
passed context tree words x e =
    let c = bind_done (or_refuse bad_context (context_of context)) (λ c. check_in c tree words) e in
    let w = bind_done (or_refuse bad_work (work_of words)) (λ w. typed_tree_of c.0 tree) c.2 in
    let is = or-done bad_context (context_of context) c.1 in
    ((passes-well-typed-trees context c.0 tree x is).0 (rw is w.2)).0

-- bytes that write a tree are its records
pub written : (tree : List ℕ) (f : Fragment) → tree_of tree ≡ done f → TreeRecords tree f
written tree f e =
    let all = read_all tree f e in
    let root = root-last all.count all.slots (fragments_of tree all.count) (agrees tree all.reads)
    (length-fragments tree all.count) all.root in
    record {
      writes = e;
      count = all.count;
      any = root.0;
      few = all.few;
      ends = all.ends;
      row = rows-read tree all.reads;
      root = sym (fragments-kept tree all.count (all.count - 1) (omega (arith, root.0))) ∙ root.1;
    }

pub rows : (context : ℕ) (tree : List ℕ) (words : ℕ) (x : Typed) → check_of context tree words ≡ done x → TreeRecords tree x.tree
rows context tree words x e = written tree x.tree (passed context tree words x e)

-- ---- walking the records: `at` is where record i begins

pub start_first : (tree : List ℕ) → start_of tree 0 ≡ 0
unfolding start_of
start_first tree = refl

module _ (tree : List ℕ) (i : ℕ) {at len : ℕ} (s : at ≡ start_of tree i) (e : record_length (drop at tree) ≡ Some len) where
  whole_here : record_length (drop (start_of tree i) tree) ≡ Some len
  whole_here = rw (← s) e

  pub start-next : at + len ≡ start_of tree (i + 1)
  start-next =
      let n : i + 1 ≡ suc i = omega arith in
      rw (n, s) (sym (start-after tree i whole_here))

  pub bytes-at : take (at + len - at) (drop at tree) ≡ record_at tree i
  bytes-at =
      let n : at + len - at ≡ len = omega arith in
      rw (n, s) (sym (bytes-are tree i whole_here))

module _ {tree : List ℕ} {f : Fragment} (r : TreeRecords tree f) where
  whole-at : (i : ℕ) {at : ℕ} (s : at ≡ start_of tree i) (h : i < r.count) → record_length (drop at tree) ≡ Some (r.row i h).len
  whole-at i s h = rw s (r.row i h).whole

  pub inside : (i : ℕ) {at : ℕ} → at ≡ start_of tree i → i < r.count → at < length tree
  inside i {at} s h =
      omega (arith, length-bounds (drop at tree) (whole-at i s h), whole_room tree at (whole-at i s h))

  pub not_last : (i : ℕ) {at : ℕ} → at ≡ start_of tree i → i ≤ r.count → at < length tree → i < r.count
  not_last i {at} s l h = by-test (ltb i r.count) refl
    where
      by-test : (t : Bool) → ltb i r.count ≡ t → i < r.count
      by-test true e = ltb-true i r.count e
      by-test false e =
          let last : i ≡ r.count = omega (arith, ltb-false i r.count e) in
          let z : at ≡ length tree = s ∙ ap (start_of tree) last ∙ r.ends in
          absurd (omega arith)

  pub all_read : (i : ℕ) {at : ℕ} → at ≡ start_of tree i → i ≤ r.count → length tree ≤ at → i ≡ r.count
  all_read i {at} s l h = by-test (ltb i r.count) refl
    where
      by-test : (t : Bool) → ltb i r.count ≡ t → i ≡ r.count
      by-test true e = absurd (omega (arith, inside i s (ltb-true i r.count e)))
      by-test false e = omega (arith, ltb-false i r.count e)

  pub never-broken : (i : ℕ) {at : ℕ} → at ≡ start_of tree i → i < r.count → record_length (drop at tree) ≡ None → ⊥
  never-broken i s h e =
      let w = whole-at i s h in
      let z : ◌≡◌ {A = ℕ} 0 1 = cc (w, e) in
      omega arith

  pub never-unfit : (i : ℕ) (bytes : List ℕ) → i < r.count → bytes ≡ record_at tree i → fragment_payload bytes ≡ None → ⊥
  never-unfit i bytes h b e =
      let w = ap fragment_payload b ∙ (r.row i h).fits in
      let z : ◌≡◌ {A = ℕ} 0 1 = cc (w, e) in
      omega arith

  pub told : (i : ℕ) (bytes : List ℕ) {kind : ℕ} {parts : Parts} → i < r.count → bytes ≡ record_at tree i → kind ≡ kind_of bytes
      → parts ≡ parts_of (fragment_payload bytes) → Told tree i bytes kind parts
  told i bytes h b k p =
      record { row = r.row i h; bytes-are = b; kind-is = k; parts_are = p ∙ ap parts_of (ap fragment_payload b ∙ (r.row i h).fits) }

-- a tree has one number of records
start-inside : {tree : List ℕ} {i : ℕ} → TreeRecord tree i → start_of tree i < length tree
start-inside {tree} {i} row =
    omega (arith, length-bounds (drop (start_of tree i) tree) row.whole, whole_room tree (start_of tree i) row.whole)

pub count-is : {tree : List ℕ} {f : Fragment} (r : TreeRecords tree f) (n : ℕ) → start_of tree n ≡ length tree
    → ((i : ℕ) → i < n → TreeRecord tree i) → r.count ≡ n
count-is {tree} r n e rows = by-test (ltb r.count n) (ltb n r.count) refl refl
  where
    by-test : (a b : Bool) → ltb r.count n ≡ a → ltb n r.count ≡ b → r.count ≡ n
    by-test true b d h = absurd (omega (arith, r.ends, start-inside (rows r.count (ltb-true r.count n d))))
    by-test false true d h = absurd (omega (arith, e, start-inside (r.row n (ltb-true n r.count h))))
    by-test false false d h = omega (arith, ltb-false r.count n d, ltb-false n r.count h)

pub same_count : {tree : List ℕ} {f g : Fragment} (r : TreeRecords tree f) (s : TreeRecords tree g) → r.count ≡ s.count
same_count r s = count-is r s.count s.ends s.row

-- ---- a record found by its start in work memory

module _ {tree starts : List ℕ} {i end : ℕ} (placed : Placed tree starts i) (e : end ≡ get_or starts i 0 + length_from tree (get_or starts i 0)) where
  end_is : end ≡ start_of tree i + length_from tree (start_of tree i)
  end_is = e ∙ ap (λ (n : ℕ). n + length_from tree n) placed.start

  pub ends-inside : end ≤ length tree
  ends-inside =
      let len : length_from tree (start_of tree i) ≡ placed.row.len = ap or_zero placed.row.whole in
      omega (arith, end_is, len, whole_room tree (start_of tree i) placed.row.whole)

  pub its-bytes : take (end - get_or starts i 0) (drop (get_or starts i 0) tree) ≡ record_at tree i
  unfolding record_at
  its-bytes =
      let n : end - get_or starts i 0 ≡ length_from tree (start_of tree i) = omega (arith, end_is, placed.start) in
      ap (λ (m : ℕ). take m (drop (get_or starts i 0) tree)) n
      ∙ ap (λ (m : ℕ). take (length_from tree (start_of tree i)) (drop m tree)) placed.start

-- all records below one that is placed with all below it are
pub placed_below : {tree starts : List ℕ} {i : ℕ} → AllPlaced tree starts i → (j : ℕ) → j ≤ i → AllPlaced tree starts j
placed_below all j h = record { placed = λ n l. all.placed n (omega arith) }

-- ---- what the scan leaves

pub length-starts : (tree : List ℕ) (n : ℕ) → length (starts_of tree n) ≡ n
unfolding starts_of
length-starts tree zero = refl
length-starts tree (suc n) = rw (length-append (starts_of tree n) (start_of tree n ∷ [])) (omega (arith, length-starts tree n))

starts-at : (tree : List ℕ) (n j : ℕ) → j < n → get_or (starts_of tree n) j 0 ≡ start_of tree j
unfolding starts_of
starts-at tree zero j h = absurd (omega arith)
starts-at tree (suc n) j h = by-test (ltb j n) refl (λ l. starts-at tree n j l)
  where
    by-test : (t : Bool) → ltb j n ≡ t → (j < n → get_or (starts_of tree n) j 0 ≡ start_of tree j)
        → get_or (starts_of tree n ++ (start_of tree n ∷ [])) j 0 ≡ start_of tree j
    by-test true e rec =
        let l = ltb-true j n e in
        get_or-append (starts_of tree n) (start_of tree n ∷ []) 0 j (rw (length-starts tree n) l) ∙ rec l
    by-test false e rec =
        let same : j ≡ n = omega (arith, ltb-false j n e) in
        rw same (get_or_at (starts_of tree n) (start_of tree n) [] 0 n (length-starts tree n))

module _ {tree before after : List ℕ} {count : ℕ} (scanned : Scanned tree before after count) where
  pub start-stored : (j : ℕ) → j < count → get_or after j 0 ≡ start_of tree j
  start-stored j h =
      ap (λ (m : List ℕ). get_or m j 0) scanned.stores
      ∙ get_or-append (starts_of tree count) (drop count before) 0 j (rw (length-starts tree count) h)
      ∙ starts-at tree count j h

  pub scanned-length : count ≤ length before → length after ≡ length before
  scanned-length h =
      ap length scanned.stores
      ∙ rw (length-append (starts_of tree count) (drop count before), length-starts tree count) (omega (arith, length-drop count before))

  module _ {f : Fragment} (r : TreeRecords tree f) (room : max_records ≤ length before) where
    pub kept-length : length after ≡ length before
    kept-length = scanned-length (omega (arith, scanned.counts f r, r.few))

    -- every record is placed
    pub all_placed : AllPlaced tree after (count - 1)
    all_placed =
        record {
          placed = λ j l. record { row = r.row j (inside-count j l); long = omega (arith, inside-count j l, r.few, kept-length); start = start-stored j (omega (arith, inside-count j l, scanned.counts f r)) };
        }
      where
        inside-count : (j : ℕ) → j ≤ count - 1 → j < r.count
        inside-count j l = omega (arith, scanned.counts f r, r.any)

-- ---- the number of children by kind

pub has-children : (kind count : ℕ) → 0 < arity kind count → 42 ≤ kind
has-children kind count h = by-test (leb 42 kind) refl
  where
    by-test : (b : Bool) → leb 42 kind ≡ b → 42 ≤ kind
    by-test true t = leb-true 42 kind t
    by-test false t = absurd (omega (arith, arity-below kind count (leb-false 42 kind t)))

pub few-kinds : (kind count : ℕ) → 0 < arity kind count → kind ≤ 56
few-kinds kind count h = by-test (leb kind 56) refl
  where
    by-test : (b : Bool) → leb kind 56 ≡ b → kind ≤ 56
    by-test true t = leb-true kind 56 t
    by-test false t = absurd (omega (arith, arity-above kind count (leb-false kind 56 t)))

-- this kind or a later one
pub or_later : {kind : ℕ} (n : ℕ) {P : Type 0} → n ≤ kind → (kind ≡ n → P) → (suc n ≤ kind → P) → P
or_later {kind} n {P} l this later = by-test (ltb n kind) refl
  where
    by-test : (b : Bool) → ltb n kind ≡ b → P
    by-test true b = later (ltb-true n kind b)
    by-test false b = this (omega (arith, ltb-false n kind b))

-- a record without children is none of the kinds that have some
pub leaf-kind : (kind count : ℕ) → arity kind count ≡ 0 → (kind ≡ 56 → 1 ≤ count) → (kind ≤ 41) ⊎ (57 ≤ kind)
leaf-kind kind count e k = from-42 (leb 42 kind) refl
  where
    is-55 : kind ≡ 55 → ⊥
    is-55 same =
        let z : arity kind count ≡ 3 = rw same in
        omega arith

    is-56 : kind ≡ 56 → ⊥
    is-56 same =
        let z : arity kind count ≡ count = rw same in
        omega (arith, k same)

    from-49 : (b : Bool) → leb kind 54 ≡ b → 49 ≤ kind → kind ≤ 56 → ⊥
    from-49 true t l h = omega (arith, arity-two kind count l (leb-true kind 54 t))
    from-49 false t l h = or_later 55 (leb-false kind 54 t) is-55 (λ m. is-56 (omega arith))

    from-57 : (b : Bool) → leb 57 kind ≡ b → 42 ≤ kind → (kind ≤ 41) ⊎ (57 ≤ kind)
    from-57 true t l = inr (leb-true 57 kind t)
    from-57 false t l = absurd (to-48 (leb kind 48) refl)
      where
        to-48 : (b : Bool) → leb kind 48 ≡ b → ⊥
        to-48 true u = omega (arith, arity-one kind count l (leb-true kind 48 u))
        to-48 false u = from-49 (leb kind 54) refl (leb-false kind 48 u) (omega (arith, leb-false 57 kind t))

    from-42 : (b : Bool) → leb 42 kind ≡ b → (kind ≤ 41) ⊎ (57 ≤ kind)
    from-42 true t = from-57 (leb 57 kind) refl (leb-true 42 kind t)
    from-42 false t = inl (omega (arith, leb-false 42 kind t))

-- ---- the node of a record

module _ {tree : List ℕ} {i : ℕ} (row : TreeRecord tree i) where
  abbrev pub its-kind : ℕ
  its-kind = kind_of (record_at tree i)

  abbrev pub its-parts : Parts
  its-parts = parts_of (fragment_payload (record_at tree i))

  abbrev pub row_told : Told tree i (record_at tree i) its-kind its-parts
  row_told = record { row = row; bytes-are = refl; kind-is = refl; parts_are = ap parts_of row.fits }

  abbrev its-record : Found (record_at tree i) its-parts its-kind (arity its-kind its-parts.count)
  its-record = record { payload = row.payload; fits = row.fits; parts_are = ap parts_of row.fits; kind-is = refl; n-is = refl }

  pub few : (node_of (record_at tree i)).n ≤ 16
  few = few-children its-record

  -- the node's children are the record's
  pub node-count : (node_of (record_at tree i)).n ≡ length (children_of row.payload)
  node-count = own-children its-record

  pub node-children : take (node_of (record_at tree i)).n (node_of (record_at tree i)).children ≡ children_of row.payload
  node-children = same-children its-record

  pub all-places : length its-parts.children ≡ 16
  all-places =
      let cs = children_of row.payload in
      let small : length cs ≤ 16 = omega (arith, few-children its-record, own-children its-record) in
      ap (λ (p : Parts). length p.children) (ap parts_of row.fits) ∙ length-padded cs small

  pub child-is : (j : ℕ) → j < (node_of (record_at tree i)).n → get_or (node_of (record_at tree i)).children j 0 ≡ get_or (children_of row.payload) j 0
  child-is j h =
      ap (λ (p : Parts). get_or p.children j 0) (ap parts_of row.fits) ∙ padded-at (children_of row.payload) j (omega (arith, node-count))

  -- they come before it
  pub child-before : (j : ℕ) → j < (node_of (record_at tree i)).n → get_or (node_of (record_at tree i)).children j 0 < i
  child-before j h = rw (child-is j h) (row.before j (omega (arith, node-count)))

  pub parent-kind : 0 < (node_of (record_at tree i)).n → (42 ≤ its-kind) × (its-kind ≤ 56)
  parent-kind h = (has-children its-kind its-parts.count h, few-kinds its-kind its-parts.count h)

  pub childless-kind : (node_of (record_at tree i)).n ≡ 0 → (its-kind ≤ 41) ⊎ (57 ≤ its-kind)
  childless-kind e =
      leaf-kind its-kind its-parts.count e (λ k. let b = threshold-bounds row_told (omega arith) in omega arith)
