-- The bytes of a record's range are those of its fragment. Assumes nothing.
use Prim.Native.Nat.{ℕ, zero, suc, ◌+◌, ◌-◌, ◌≤◌, ◌<◌}
use mathlib.Core.Bool.{Bool, true, false, ◌&&◌}
use mathlib.Core.List.{List, [], ◌∷◌, ◌++◌, append_assoc, append-nil, map}
use mathlib.Core.Logic.{◌⊎◌, inl, inr}
use mathlib.Core.Path.{◌≡◌, refl, sym, ap, subst, ◌∙◌}
use native.Mathlib.Omega.{arith}
use borrow.Author.Tests.{eqb-true, eqb-false}
use lib.Dec.{eqb}
use lib.ListN.{length, get_or, take, drop, length-append, length-map, get_or-map}
use lib.Seq.{take_at, drop_at}
use Rattle.records.specs.Payloads.{children_of}
use Rattle.records.specs.RecordForm.{fragment_payload}
use Rattle.records.specs.Answers.{parts_of}
use Rattle.records.specs.Shapes.{arity}
use Rattle.contexts.specs.declared.Context.{Context}
use Rattle.trees.specs.Fragment.{Fragment}
use Rattle.trees.specs.Tree.{find}
use Rattle.walk.specs.TreeRecords.{record_at, fragment_at, TreeRecord, TreeRecords}
use Rattle.walk.specs.Nodes.{node_of}
use Rattle.walk.specs.Heads.{children_in}
use Rattle.walk.specs.Folds.{every}
use Rattle.walk.proofs.Laws.{node-count, child-is}
use Rattle.walk.proofs.FoldLaws.{children-at}
use Rattle.script_machine.specs.Numbers.{Bytes}
use Rattle.script_machine.specs.Words.{Word, VERIFY}
use Rattle.script_machine.specs.Merged.{Test, equal, num_equal, check_sig, check_multi_sig, plain, combined, Form, other, is_plain, is_combined, form}
use Rattle.script_machine.specs.Merged.{verified, merge_verify, merged}
use Rattle.script_bytes.specs.Tables.{Tables}
use Rattle.script_bytes.specs.Opcodes.{token}
use Rattle.script_bytes.specs.Encoding.{token_bytes, encode, script_bytes}
use Rattle.script_bytes.specs.ScriptOf.{has_entries}
use Rattle.script_bytes.specs.Entries.{own_entries}
use Rattle.script_bytes.specs.Layout.{bytes_of}
use Rattle.script_bytes.proofs.Merging.{encode-append, script-bytes}
use Rattle.script_bytes.proofs.Known.{and_both}
use Rattle.script_bytes.proofs.OwnEntries.{own-and-children}
use Rattle.script_entry.specs.Pieces.{front, after, last, child_verified, place, up_to}
use Rattle.script_entry.proofs.Nodes.{in_pieces}
use Rattle.index_places.specs.Sizes.{size_of}
use Rattle.index_places.specs.Places.{kids_at, kind_at, kid, ahead, size_at, span_at, ahead_at, Stands, root, child}
use Rattle.index_places.proofs.Parents.{kids-row}
use Rattle.index_places.proofs.Sizes.{size_is}
use Rattle.index_places.proofs.Records.{same_ahead}
use Rattle.index_places.proofs.Stands.{count-kids, place_in, stands-inside}

-- ---- bytes that are a part of others

record Part (whole part : Bytes) (at : ℕ) : Type 0 where
  pre : Bytes
  post : Bytes
  is : whole ≡ pre ++ (part ++ post)
  long : length pre ≡ at

part-of-part : {whole mid part : Bytes} {a b : ℕ} → Part whole mid a → Part mid part b → Part whole part (a + b)
part-of-part {whole} {mid} {part} p q =
    record {
      pre = p.pre ++ q.pre;
      post = q.post ++ p.post;
      is = p.is ∙ ap (λ (m : Bytes). p.pre ++ (m ++ p.post)) q.is ∙ simp append_assoc;
      long = length-append p.pre q.pre ∙ omega (arith, p.long, q.long);
    }

part-as : {whole whole' part part' : Bytes} {at at' : ℕ} → whole ≡ whole' → part ≡ part' → at ≡ at' → Part whole part at → Part whole' part' at'
part-as a b d p = rw (← a, ← b, ← d) p

part-taken : {whole part : Bytes} {at : ℕ} → Part whole part at → (n : ℕ) → length part ≡ n → take n (drop at whole) ≡ part
part-taken {whole} {part} {at} p n e =
    ap (λ (w : Bytes). take n (drop at w)) p.is ∙ ap (take n) (drop_at p.pre (part ++ p.post) at p.long) ∙ take_at part p.post n e

-- ---- a VERIFY is merged into the last byte, or follows

merge-or : (c : Context) (t : Tables) (ws : List Word)
    → (merge_verify ws ≡ ws ++ (VERIFY ∷ [])) ⊎ (length (encode c t (merge_verify ws)) ≡ length (encode c t ws))
unfolding merge_verify encode
merge-or c t [] = inl refl
merge-or c t (w ∷ []) = by_form w (form w)
  where
    of_test : (k : Test) → length (encode c t (combined k ∷ [])) ≡ length (encode c t (plain k ∷ []))
    of_test equal = refl
    of_test num_equal = refl
    of_test check_sig = refl
    of_test check_multi_sig = refl

    by_form : (w : Word) (f : Form w) → (verified w f ≡ w ∷ VERIFY ∷ []) ⊎ (length (encode c t (verified w f)) ≡ length (encode c t (w ∷ [])))
    by_form w other = inl refl
    by_form w (is_plain k e) = inr (of_test k ∙ ap (λ (w : Word). length (encode c t (w ∷ []))) (sym e))
    by_form w (is_combined k e) = inl refl
merge-or c t (w ∷ x ∷ ws) = by-rest (merge-or c t (x ∷ ws))
  where
    by-rest : (merge_verify (x ∷ ws) ≡ x ∷ ws ++ (VERIFY ∷ [])) ⊎ (length (encode c t (merge_verify (x ∷ ws))) ≡ length (encode c t (x ∷ ws)))
        → (w ∷ merge_verify (x ∷ ws) ≡ w ∷ x ∷ ws ++ (VERIFY ∷ []))
        ⊎ (length (token_bytes (token c t w) ++ encode c t (merge_verify (x ∷ ws))) ≡ length (token_bytes (token c t w) ++ encode c t (x ∷ ws)))
    by-rest (inl e) = inl (ap (λ (z : List Word). w ∷ z) e)
    by-rest (inr e) =
        inr (length-append (token_bytes (token c t w)) (encode c t (merge_verify (x ∷ ws))) ∙ ap (λ (n : ℕ). length (token_bytes (token c t w)) + n) e
        ∙ sym (length-append (token_bytes (token c t w)) (encode c t (x ∷ ws))))

verify-or : (c : Context) (t : Tables) (f : Fragment)
    → (bytes_of c t true f ≡ bytes_of c t false f ++ (0x69 ∷ [])) ⊎ (length (bytes_of c t true f) ≡ length (bytes_of c t false f))
unfolding bytes_of encode
verify-or c t f = by-words (merge-or c t (merged f))
  where
    by-words : (merge_verify (merged f) ≡ merged f ++ (VERIFY ∷ [])) ⊎ (length (encode c t (merge_verify (merged f))) ≡ length (encode c t (merged f)))
        → (encode c t (merge_verify (merged f)) ≡ encode c t (merged f) ++ (0x69 ∷ [])) ⊎ (length (encode c t (merge_verify (merged f))) ≡ length (encode c t (merged f)))
    by-words (inl e) = inl (ap (encode c t) e ∙ encode-append c t (merged f) (VERIFY ∷ []))
    by-words (inr e) = inr e

-- a part before a VERIFY is one with it merged, or the part alone
settled : (c : Context) (t : Tables) (a : Bool) (f : Fragment) {whole : Bytes} {at : ℕ} → Part whole (bytes_of c t a f) at
    → (v : Bool) × Part whole (bytes_of c t v f) at × (length (bytes_of c t v f) ≡ length (bytes_of c t false f))
settled c t false f p = (false, p, refl)
settled c t true f {whole} {at} p = by_end (verify-or c t f)
  where
    by_end : (bytes_of c t true f ≡ bytes_of c t false f ++ (0x69 ∷ [])) ⊎ (length (bytes_of c t true f) ≡ length (bytes_of c t false f))
        → (v : Bool) × Part whole (bytes_of c t v f) at × (length (bytes_of c t v f) ≡ length (bytes_of c t false f))
    by_end (inr e) = (true, p, e)
    by_end (inl e) = (
      false,
      record {
        pre = p.pre;
        post = 0x69 ∷ p.post;
        is = p.is ∙ ap (λ (m : Bytes). p.pre ++ (m ++ p.post)) e ∙ ap (λ (m : Bytes). p.pre ++ m) (append_assoc (bytes_of c t false f) (0x69 ∷ []) p.post);
        long = p.long;
      },
      refl,
    )

-- ---- a child that another follows is before no VERIFY of its parent

flags : (kind count m : ℕ) (v : Bool) → suc m < arity kind count → child_verified kind m v ≡ child_verified kind m false
unfolding find
flags kind count m v h = by_kind (eqb kind 43) (eqb kind 46) (eqb kind 50) refl refl refl
  where
    by_kind : (a b d : Bool) → eqb kind 43 ≡ a → eqb kind 46 ≡ b → eqb kind 50 ≡ d → child_verified kind m v ≡ child_verified kind m false
    by_kind true b d x y z =
        let is = eqb-true kind 43 x in
        let n : arity kind count ≡ 1 = rw is in
        absurd (omega (arith, n))
    by_kind false true d x y z = rw (x, y)
    by_kind false false true x y z =
        let is = eqb-true kind 50 z in
        let n : arity kind count ≡ 2 = rw is in
        let first : m ≡ 0 = omega (arith, n) in
        rw (x, y, z, first)
    by_kind false false false x y z = rw (x, y, z)

ahead-flags : (v : Bool) (kind : ℕ) (size : Bool → ℕ → ℕ) (j : ℕ) → ((m : ℕ) → m < j → child_verified kind m v ≡ child_verified kind m false)
    → ahead kind v size j ≡ ahead kind false size j
unfolding ahead
ahead-flags v kind size zero e = refl
ahead-flags v kind size (suc j) e = rw (ahead-flags v kind size j (λ m h. e m (omega arith)), e j (omega arith))

module _ (c : Context) (t : Tables) where
  -- ---- a child among its parent's pieces

  module _ (kind : ℕ) (v : Bool) (its : ℕ → Fragment) where
    abbrev piece : ℕ → Bytes
    piece j = bytes_of c t (child_verified kind j v) (its (place kind j))

    up-part : (n j : ℕ) → j < n → (rest : Bytes) × (up_to c t kind v its n ≡ up_to c t kind v its j ++ (piece j ++ rest))
    unfolding up_to
    up-part zero j h = absurd (omega arith)
    up-part (suc n) j h = by-test (eqb j n) refl (λ l. up-part n j l)
      where
        by-test : (b : Bool) → eqb j n ≡ b → (j < n → (rest : Bytes) × (up_to c t kind v its n ≡ up_to c t kind v its j ++ (piece j ++ rest)))
            → (rest : Bytes) × (up_to c t kind v its n ++ (piece n ++ after kind n) ≡ up_to c t kind v its j ++ (piece j ++ rest))
        by-test true b rec =
            let same = eqb-true j n b in
            (after kind n, ap (λ (m : ℕ). up_to c t kind v its m ++ (piece m ++ after kind n)) (sym same))
        by-test false b rec =
            let p = rec (omega (arith, eqb-false j n b)) in
            (p.0 ++ (piece n ++ after kind n), ap (λ (z : Bytes). z ++ (piece n ++ after kind n)) p.1 ∙ simp append_assoc)

    length_up : (n : ℕ) → ((j : ℕ) → j < n → has_entries c t (its (place kind j)) ≡ true)
        → length (front kind) + length (up_to c t kind v its n) ≡ ahead kind v (λ w m. size_of c w (its m)) n
    unfolding up_to ahead
    length_up zero h = omega arith
    length_up (suc n) h =
        rw (length-append (up_to c t kind v its n) (piece n ++ after kind n), length-append (piece n) (after kind n))
        (omega (arith, length_up n (λ j l. h j (omega arith)), size_is c t (child_verified kind n v) (its (place kind n)) (h n (omega arith))))

    child-part : (n j k : ℕ) {whole : Bytes} → j < n → ((j : ℕ) → j < n → has_entries c t (its (place kind j)) ≡ true)
        → whole ≡ front kind ++ (up_to c t kind v its n ++ last kind k v) → Part whole (piece j) (ahead kind v (λ w m. size_of c w (its m)) j)
    child-part n j k {whole} h has e =
        let p = up-part n j h in
        record {
          pre = front kind ++ up_to c t kind v its j;
          post = p.0 ++ last kind k v;
          is = e ∙ ap (λ (z : Bytes). front kind ++ (z ++ last kind k v)) p.1 ∙ simp append_assoc;
          long = length-append (front kind) (up_to c t kind v its j) ∙ length_up j (λ m l. has m (omega arith));
        }

  -- ---- the entries of a child are the tree's

  every-at : (xs : List Fragment) (k : ℕ) (d : Fragment) → k < length xs → every ◌&&◌ true (has_entries c t) xs ≡ true → has_entries c t (get_or xs k d) ≡ true
  unfolding every
  every-at [] k d h e = absurd (omega arith)
  every-at (x ∷ xs) zero d h e = (and_both (has_entries c t x) (every ◌&&◌ true (has_entries c t) xs) e).0
  every-at (x ∷ xs) (suc k) d h e = every-at xs k d (omega arith) (and_both (has_entries c t x) (every ◌&&◌ true (has_entries c t) xs) e).1

  module _ {tree : List ℕ} {i : ℕ} (row : TreeRecord tree i) where
    kid-entries : has_entries c t (fragment_at tree i) ≡ true → (k : ℕ) → k < length (kids_at tree i) → has_entries c t (fragment_at tree (get_or (kids_at tree i) k 0)) ≡ true
    kid-entries e k h =
        let F = fragment_at tree in
        let js = children_of row.payload in
        let all = (and_both (own_entries c t (F i)) (every ◌&&◌ true (has_entries c t) (children_in (F i))) (sym (own-and-children c t (F i)) ∙ e)).1 in
        let those : every ◌&&◌ true (has_entries c t) (map F js) ≡ true = subst (λ (xs : List Fragment). every ◌&&◌ true (has_entries c t) xs ≡ true) (children-at row) all in
        let inside : k < length (map F js) = omega (arith, length-map js F, ap length (kids-row tree row)) in
        let is : get_or (map F js) k (F 0) ≡ F (get_or (kids_at tree i) k 0) = get_or-map F js k 0 ∙ ap (λ (l : List ℕ). F (get_or l k 0)) (sym (kids-row tree row)) in
        ap (has_entries c t) (sym is) ∙ every-at (map F js) k (F 0) inside those

  module _ {tree : List ℕ} {f : Fragment} (r : TreeRecords tree f) where
    -- a child in its parent
    kid-part : (p : ℕ) (v : Bool) (j : ℕ) → p < r.count → j < length (kids_at tree p) → has_entries c t (fragment_at tree p) ≡ true
        → Part (bytes_of c t v (fragment_at tree p)) (bytes_of c t (child_verified (kind_at tree p) j v) (fragment_at tree (kid tree p j))) (ahead_at c tree v p j)
    unfolding ahead_at size_at kid
    kid-part p v j h l e =
        let row = r.row p h in
        let kind = kind_at tree p in
        let F = fragment_at tree in
        let children = (parts_of (fragment_payload (record_at tree p))).children in
        let kids = kids_at tree p in
        let n : length kids ≡ (node_of (record_at tree p)).n = ap length (kids-row tree row) ∙ sym (node-count row) in
        let same : (m : ℕ) → m < length kids → get_or children (place kind m) 0 ≡ get_or kids (place kind m) 0 =
        λ m o. child-is row (place kind m) (omega (arith, n, place_in r p m h o)) ∙ ap (λ (ks : List ℕ). get_or ks (place kind m) 0) (sym (kids-row tree row)) in
        let has : (m : ℕ) → m < (node_of (record_at tree p)).n → has_entries c t (F (get_or children (place kind m) 0)) ≡ true =
        λ m o. ap (λ (x : ℕ). has_entries c t (F x)) (same m (omega (arith, n, o))) ∙ kid-entries row e (place kind m) (place_in r p m h (omega (arith, n, o))) in
        let own = child-part kind v (λ m. F (get_or children m 0)) (node_of (record_at tree p)).n j (node_of (record_at tree p)).k (omega (arith, n, l)) has
        (in_pieces row c t v (omega (arith, n, l))) in
        part-as refl (ap (λ (x : ℕ). bytes_of c t (child_verified kind j v) (F x)) (same j l))
        (same_ahead v kind j (λ w m. size_of c w (F (get_or children m 0))) (λ w m. size_of c w (F (get_or kids m 0)))
        (λ w m o. ap (λ (x : ℕ). size_of c w (F x)) (same m (omega (arith, o, l))))) own

    at-kid : (p j : ℕ) → (h : p < r.count) → j < length (kids_at tree p) → has_entries c t (fragment_at tree p) ≡ true → has_entries c t (fragment_at tree (kid tree p j)) ≡ true
    unfolding kid
    at-kid p j h l e = kid-entries (r.row p h) e (place (kind_at tree p) j) (place_in r p j h l)

    -- what is ahead of a child does not hang on a VERIFY after its parent
    flag-free : (v : Bool) (p j : ℕ) → p < r.count → j < length (kids_at tree p) → ahead_at c tree v p j ≡ ahead_at c tree false p j
    unfolding ahead_at
    flag-free v p j h l =
        let n = count-kids r p h in
        ahead-flags v (kind_at tree p) (λ w m. size_at c tree w (get_or (kids_at tree p) m 0)) j
        (λ m o. flags (kind_at tree p) (parts_of (fragment_payload (record_at tree p))).count m v (omega (arith, n)))

    -- every record in the script
    record Lies (i first : ℕ) : Type 0 where
      verified : Bool
      entries : has_entries c t (fragment_at tree i) ≡ true
      part : Part (script_bytes c t f) (bytes_of c t verified (fragment_at tree i)) first
      same : length (bytes_of c t verified (fragment_at tree i)) ≡ length (bytes_of c t false (fragment_at tree i))

    lies : {i first : ℕ} → has_entries c t f ≡ true → Stands c tree r.count i first → Lies i first
    lies has (root {i} {first} e a) =
        let last : r.count - 1 ≡ i = omega arith in
        let is : f ≡ fragment_at tree i = sym r.root ∙ ap (fragment_at tree) last in
        record {
          verified = false;
          entries = subst (λ (g : Fragment). has_entries c t g ≡ true) is has;
          part = record {
            pre = [];
            post = [];
            is = script-bytes c t f ∙ ap (bytes_of c t false) is ∙ sym (append-nil (bytes_of c t false (fragment_at tree i)));
            long = sym a;
          };
          same = refl;
        }
    lies has (child {i} {first} p at j s l e a) =
        let above = lies has s in
        let h = stands-inside c r s in
        let whole = part-of-part above.part (kid-part p above.verified j h l above.entries) in
        let own = settled c t (child_verified (kind_at tree p) j above.verified) (fragment_at tree (kid tree p j)) whole in
        let here : fragment_at tree (kid tree p j) ≡ fragment_at tree i = ap (fragment_at tree) (sym e) in
        record {
          verified = own.0;
          entries = subst (λ (g : Fragment). has_entries c t g ≡ true) here (at-kid p j h l above.entries);
          part = part-as refl (ap (bytes_of c t own.0) here) (ap (λ (n : ℕ). at + n) (flag-free above.verified p j h l) ∙ sym a) own.1;
          same = subst (λ (g : Fragment). length (bytes_of c t own.0 g) ≡ length (bytes_of c t false g)) here own.2;
        }

    pub own-bytes : (i first : ℕ) → has_entries c t f ≡ true → Stands c tree r.count i first
        → (v : Bool) × (take (span_at c tree i) (drop first (script_bytes c t f)) ≡ bytes_of c t v (fragment_at tree i))
        × (length (bytes_of c t v (fragment_at tree i)) ≡ length (bytes_of c t false (fragment_at tree i)))
    unfolding size_at
    own-bytes i first has s =
        let it = lies has s in (
          it.verified,
          part-taken it.part (size_of c false (fragment_at tree i)) (it.same ∙ size_is c t false (fragment_at tree i) it.entries),
          it.same,
        )

    pub whole-script : has_entries c t f ≡ true → length (script_bytes c t f) ≡ span_at c tree (r.count - 1)
    unfolding size_at
    whole-script has =
        ap length (script-bytes c t f) ∙ size_is c t false f has ∙ ap (size_of c false) (sym r.root)
