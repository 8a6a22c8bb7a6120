-- Work memory is filled with the sizes and types of records, children first. Assumes nothing.
use Prim.Native.Nat.{ℕ, suc, ◌+◌, ◌-◌, ◌*◌, ◌≤◌, ◌<◌}
use mathlib.Core.Bool.{Bool, true, false}
use mathlib.Core.List.{List, [], ◌∷◌, map}
use Rattle.std.specs.Prelude.{Option}
use mathlib.Core.Path.{◌≡◌, refl, sym, ap, subst, ◌∙◌}
use native.Mathlib.Omega.{arith}
use borrow.Author.Tests.{eqb-true, eqb-false}
use lib.Dec.{eqb}
use lib.ListN.{length, get_or, set, length-set}
use lib.Seq.{get_or-set_other}
use Rattle.records.specs.Payloads.{Payload, k_of}
use Rattle.records.specs.RecordForm.{fragment_payload}
use Rattle.records.specs.Answers.{parts_of}
use Rattle.types.specs.TypeOrder.{pack}
use Rattle.contexts.specs.declared.Context.{Context}
use Rattle.trees.specs.Typing.{type_of}
use Rattle.trees.specs.Height.{height_of}
use Rattle.trees.specs.Reading.{done}
use Rattle.trees.specs.Rules.{answered, rule_of, types_of, tallest}
use Rattle.trees.specs.declared.Subtree.{Subtree}
use Rattle.walk.specs.TreeRecords.{record_at, fragment_at, TreeRecord, TreeRecords}
use Rattle.walk.specs.Nodes.{node_of, Placed}
use Rattle.walk.proofs.Laws.{node-children}
use Rattle.script_entry.specs.Pieces.{last, place}
use Rattle.script_entry.proofs.Nodes.{placed-before, leaf-here}
use Rattle.index_places.specs.Sizes.{size_of}
use Rattle.index_places.specs.Places.{kids_at, kind_at, ahead, size_at}
use Rattle.index_places.specs.Typed.{type_or, subtree_of}
use Rattle.index_places.proofs.Parents.{kids-row, kids-before}
use Rattle.index_places.proofs.Records.{same_ahead, node-size}
use Rattle.index_places.proofs.Typed.{WellTyped, rule-at, height-at, well_typed, not-tall}
use Rattle.index_places.proofs.Weights.{size_small}
use Rattle.index_memory.specs.Memory.{size_digit, size_in, subtree_in, tree_word}
use Rattle.index_entry.specs.Memory.{Readable, size_from, subtrees_from, size_word, fill_one}
use Rattle.index_entry.specs.Building.{Ruled, Scanned, Known, Filling, Fill}
use Rattle.index_memory.proofs.Words.{alone-back, before_back, slot-back, size_same, size-other, subtree-same, subtree-other}

-- ---- one record

module _ {c : Context} {tree work : List ℕ} {i : ℕ} (fill : Fill c tree work i) where
  abbrev rows : TreeRecords tree fill.scanned.checked.root
  rows = fill.scanned.checked.rows

  in_rows : i < rows.count
  in_rows = omega (arith, fill.inside, fill.scanned.counts)

  abbrev row : TreeRecord tree i
  row = rows.row i in_rows

  pub few-records : i < 4096
  few-records = omega (arith, in_rows, rows.few)

  pub its-place : Placed tree work i
  its-place = fill.scanned.placed.placed i (omega (arith, fill.inside))

  pub readable : {bytes : List ℕ} → bytes ≡ record_at tree i → Readable bytes work
  readable e =
      record {
        payload = row.payload;
        fits = ap fragment_payload e ∙ row.fits;
        inside = λ j h. omega (arith, row.before j h, few-records);
        room = fill.scanned.room;
      }

  -- ---- its sizes

  size-from : (v : Bool) → size_from c (record_at tree i) work v ≡ size_at c tree v i
  unfolding size_from size_at
  size-from v = by-test (eqb (node_of (record_at tree i)).n 0) refl
    where
      by-test : (b : Bool) → eqb (node_of (record_at tree i)).n 0 ≡ b → size_from c (record_at tree i) work v ≡ size_of c v (fragment_at tree i)
      by-test true b = rw b (ap (size_of c v) (leaf-here row (eqb-true (node_of (record_at tree i)).n 0 b)))
      by-test false b =
          let n = (node_of (record_at tree i)).n in
          let kind = kind_at tree i in
          let children = (parts_of (fragment_payload (record_at tree i))).children in
          let same : ahead kind v (λ w m. size_in work w (get_or children m 0)) n ≡ ahead kind v (λ w m. size_at c tree w (get_or children m 0)) n =
          same_ahead v kind n (λ w m. size_in work w (get_or children m 0)) (λ w m. size_at c tree w (get_or children m 0))
          (λ w j h. (fill.each (get_or children (place kind j) 0) (placed-before row j h)).sizes w) in
          rw b (ap (λ (z : ℕ). z + length (last kind (parts_of (fragment_payload (record_at tree i))).k v)) same
          ∙ sym (node-size row c v (omega (arith, eqb-false (node_of (record_at tree i)).n 0 b))))

  pub size-is-at : (v : Bool) {bytes : List ℕ} {s : ℕ} → bytes ≡ record_at tree i → s ≡ size_from c bytes work v → s ≡ size_at c tree v i
  size-is-at v e f = f ∙ ap (λ (b : List ℕ). size_from c b work v) e ∙ size-from v

  pub size_few : (v : Bool) → size_at c tree v i < 4194304
  size_few v = size_small c rows v i in_rows

  -- ---- its type and height

  same_map : (g h : ℕ → Subtree) (js : List ℕ) → ((k : ℕ) → k < length js → g (get_or js k 0) ≡ h (get_or js k 0)) → map g js ≡ map h js
  same_map g h [] e = refl
  same_map g h (j ∷ js) e = rw (e 0 (omega arith), same_map g h js (λ k l. e (suc k) (omega arith)))

  abbrev value : ℕ → Subtree
  value j = subtree_of c (fragment_at tree j)

  subtrees-are : subtrees_from (record_at tree i) work ≡ map value (kids_at tree i)
  subtrees-are =
      let kids = kids-row tree row in
      ap (map (subtree_in work)) (node-children row ∙ sym kids)
      ∙ same_map (subtree_in work) value (kids_at tree i) (λ k h. (fill.each (get_or (kids_at tree i) k 0) (kids-before tree row k h)).subtree)

  typed : (j : ℕ) → j < rows.count → WellTyped c (fragment_at tree j)
  typed j h = well_typed c rows fill.scanned.checked.typed fill.scanned.checked.low j h

  pub subtree-is : {bytes : List ℕ} {r : Subtree} → bytes ≡ record_at tree i → Ruled c bytes work r → r ≡ subtree_of c (fragment_at tree i)
  subtree-is {bytes} {r} e ruled =
      let kinds = kind_at tree i in
      let own : Ruled c (record_at tree i) work r = subst (λ (b : List ℕ). Ruled c b work r) e ruled in
      let its-k : (node_of (record_at tree i)).k ≡ k_of row.payload = ap (λ (o : Option Payload). (parts_of o).k) row.fits in
      let rule : rule_of kinds c (k_of row.payload) (types_of (map value (kids_at tree i))) ≡ answered (type_of c (fragment_at tree i)) =
      rule-at c row (λ k h. typed (get_or (kids_at tree i) k 0) (omega (arith, kids-before tree row k h, in_rows))) in
      let given : rule_of kinds c (node_of (record_at tree i)).k (types_of (subtrees_from (record_at tree i) work)) ≡ done (type_or (type_of c (fragment_at tree i))) =
      ap (λ (k : ℕ). rule_of kinds c k (types_of (subtrees_from (record_at tree i) work))) its-k
      ∙ ap (λ (xs : List Subtree). rule_of kinds c (k_of row.payload) (types_of xs)) subtrees-are
      ∙ rule ∙ ap answered (typed i in_rows) in
      let high : height_of (fragment_at tree i) ≡ suc (tallest (subtrees_from (record_at tree i) work)) =
      height-at c row ∙ ap (λ (xs : List Subtree). suc (tallest xs)) (sym subtrees-are) in
      let low = not-tall c rows fill.scanned.checked.typed fill.scanned.checked.low i in_rows in
      let sum : tallest (subtrees_from (record_at tree i) work) + 1 ≡ height_of (fragment_at tree i) = omega (arith, high) in
      own.is (type_or (type_of c (fragment_at tree i))) given (omega (arith, high, low))
      ∙ ap (λ (n : ℕ). record { ty = type_or (type_of c (fragment_at tree i)); height = n }) sum

  pub filled : {alone before p : ℕ} {x : Subtree} → alone ≡ size_at c tree false i → before ≡ size_at c tree true i → x ≡ subtree_of c (fragment_at tree i)
      → p ≡ pack x.ty → set (set work (4096 + i) (alone + before * 4294967296)) (12288 + i) (p + 1 + x.height * 1024) ≡ fill_one c tree work i
  unfolding fill_one
  filled {x = x} a b d e =
      let word : tree_word x ≡ tree_word (subtree_of c (fragment_at tree i)) = ap tree_word d in
      rw (a, b, e, word)

-- ---- all records

pub fill_begins : (c : Context) (tree work : List ℕ) → Filling c tree work work 0
fill_begins c tree work = record { room = refl; starts = λ a h. refl; each = λ j h. absurd (omega arith) }

module _ {c : Context} {tree before work : List ℕ} {count i : ℕ} (scanned : Scanned c tree before count) (on : Filling c tree before work i) (h : i < count) where
  abbrev rows' : TreeRecords tree scanned.checked.root
  rows' = scanned.checked.rows

  small : (j : ℕ) → j < count → j < 4096
  small j l = omega (arith, scanned.counts, rows'.few)

  long : length work ≡ 16384
  long = on.room ∙ scanned.room

  -- record i is next
  pub fill-next : Fill c tree work i
  fill-next =
      record {
        count = count;
        scanned = record { checked = scanned.checked; counts = scanned.counts; room = long; placed = record { placed = placed } };
        inside = h;
        each = on.each;
      }
    where
      placed : (j : ℕ) → j ≤ count - 1 → Placed tree work j
      placed j l =
          let was = scanned.placed.placed j l in
          let few-j = small j (omega arith) in
          record { row = was.row; long = omega (arith, long, few-j); start = on.starts j few-j ∙ was.start }

  pub fill_more : {next : List ℕ} → next ≡ fill_one c tree work i → Filling c tree before next (i + 1)
  unfolding fill_one
  fill_more {next} e = rw e (record { room = room; starts = starts; each = λ j l. each j (eqb j i) refl l })
    where
      mid : List ℕ
      mid = set work (4096 + i) (size_word c tree i)

      mid-long : length (set work (4096 + i) (size_word c tree i)) ≡ 16384
      mid-long = length-set work (4096 + i) (size_word c tree i) ∙ long

      room : length (fill_one c tree work i) ≡ length before
      room = length-set (set work (4096 + i) (size_word c tree i)) (12288 + i) _ ∙ mid-long ∙ sym scanned.room

      starts : (a : ℕ) → a < 4096 → get_or (fill_one c tree work i) a 0 ≡ get_or before a 0
      starts a l =
          get_or-set_other (set work (4096 + i) (size_word c tree i)) (12288 + i) a _ 0 (λ e. omega arith)
          ∙ get_or-set_other work (4096 + i) a (size_word c tree i) 0 (λ e. omega arith) ∙ on.starts a l

      sizes-here : (v : Bool) → size_in (fill_one c tree work i) v i ≡ size_at c tree v i
      sizes-here v =
          size-other (set work (4096 + i) (size_word c tree i)) (12288 + i) (tree_word (subtree_of c (fragment_at tree i))) v i (λ e. omega arith)
          ∙ size_same work (4096 + i) (size_word c tree i) v i refl (omega (arith, long, small i h)) ∙ by_flag v
        where
          more : size_at c tree true i < 4294967296
          more = omega (arith, size_small c rows' true i (omega (arith, scanned.counts)))

          less : size_at c tree false i < 4294967296
          less = omega (arith, size_small c rows' false i (omega (arith, scanned.counts)))

          by_flag : (v : Bool) → size_digit v (size_word c tree i) ≡ size_at c tree v i
          by_flag false = alone-back (size_at c tree false i) (size_at c tree true i) less
          by_flag true = before_back (size_at c tree false i) (size_at c tree true i) less more

      subtree-here : subtree_in (fill_one c tree work i) i ≡ subtree_of c (fragment_at tree i)
      subtree-here =
          subtree-same (set work (4096 + i) (size_word c tree i)) (12288 + i) (tree_word (subtree_of c (fragment_at tree i))) i refl (omega (arith, mid-long, small i h))
          ∙ slot-back (subtree_of c (fragment_at tree i))

      sizes-there : (v : Bool) (j : ℕ) → (j ≡ i → ⊥) → j < 4096 → size_in (fill_one c tree work i) v j ≡ size_in work v j
      sizes-there v j n l =
          size-other (set work (4096 + i) (size_word c tree i)) (12288 + i) (tree_word (subtree_of c (fragment_at tree i))) v j (λ e. omega arith)
          ∙ size-other work (4096 + i) (size_word c tree i) v j (λ e. n (omega arith))

      subtree-there : (j : ℕ) → (j ≡ i → ⊥) → subtree_in (fill_one c tree work i) j ≡ subtree_in work j
      subtree-there j n =
          subtree-other (set work (4096 + i) (size_word c tree i)) (12288 + i) (tree_word (subtree_of c (fragment_at tree i))) j (λ e. n (omega arith))
          ∙ subtree-other work (4096 + i) (size_word c tree i) j (λ e. omega (arith, small i h))

      each : (j : ℕ) (b : Bool) → eqb j i ≡ b → j < i + 1 → Known c tree (fill_one c tree work i) j
      each j true b l =
          let same = eqb-true j i b in
          rw same (record { sizes = sizes-here; subtree = subtree-here })
      each j false b l =
          let n = eqb-false j i b in
          let was = on.each j (omega (arith, n)) in
          record { sizes = λ v. sizes-there v j n (omega (arith, small i h, n)) ∙ was.sizes v; subtree = subtree-there j n ∙ was.subtree }
