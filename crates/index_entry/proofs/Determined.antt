-- The promises determine their outcomes. Assumes nothing.
use Prim.Native.Nat.{ℕ}
use mathlib.Core.List.{List, ◌++◌}
use mathlib.Core.Path.{◌≡◌, refl, sym, ap, subst, ◌∙◌}
use native.Mathlib.Omega.{arith}
use lib.ListN.{length, drop}
use Rattle.types.specs.TypeOrder.{pack}
use Rattle.contexts.specs.declared.Context.{Context}
use Rattle.trees.specs.Fragment.{Fragment}
use Rattle.trees.specs.Reading.{Answer}
use Rattle.trees.specs.TreeCheck.{Typed}
use Rattle.walk.specs.TreeRecords.{TreeRecords}
use Rattle.walk.proofs.Laws.{same_count}
use Rattle.index_places.proofs.Stands.{stands-once, beneath-small}
use Rattle.index_places.proofs.Theorem.{none-past}
use Rattle.index_memory.specs.Entries.{Entry}
use Rattle.index_entry.specs.Index.{EntryOf, IsIndex, Indexed, refuses, fits, too_small, IndexDetermined}
use Rattle.index_entry.specs.Index.{Looked, inside, past, Found, turned_down, looks, another, FindDetermined}
use Rattle.index_memory.proofs.IndexBytes.{entries-long, same_entries}

same-entry : (e e' : Entry) → e.type ≡ e'.type → e.height ≡ e'.height → e.first ≡ e'.first → e.size ≡ e'.size → e ≡ e'
same-entry e e' a b c d =
    ap (λ (t : ℕ). record { type = t; height = e.height; first = e.first; size = e.size }) a
    ∙ ap (λ (h : ℕ). record { type = e'.type; height = h; first = e.first; size = e.size }) b
    ∙ ap (λ (f : ℕ). record { type = e'.type; height = e'.height; first = f; size = e.size }) c
    ∙ ap (λ (s : ℕ). record { type = e'.type; height = e'.height; first = e'.first; size = s }) d

module _ (c : Context) {tree : List ℕ} {f : Fragment} (r : TreeRecords tree f) where
  entry-once : (i : ℕ) (e e' : Entry) → EntryOf c tree r.count i e → EntryOf c tree r.count i e' → e ≡ e'
  entry-once i e e' p q =
      let types : p.ty ≡ q.ty = cc (p.typed, q.typed) in
      let one = stands-once c r p.stands q.stands in
      same-entry e e' (p.packed ∙ ap pack types ∙ sym q.packed) (p.high ∙ sym q.high) one (p.long ∙ sym q.long)

  pub index-once : {bytes bytes' : List ℕ} → IsIndex c tree r.count bytes → IsIndex c tree r.count bytes' → bytes ≡ bytes'
  index-once p q =
      p.are ∙ same_entries p.entry q.entry r.count (λ i h. entry-once i (p.entry i) (q.entry i) (p.each i h) (q.each i h)) ∙ sym q.are

indexed-once : {context : ℕ} {tree out : List ℕ} {t : Answer Typed} {n n' : ℕ} {left left' : List ℕ} {b b' : ℕ}
    → Indexed context tree out t n left b → Indexed context tree out t n' left' b' → (n ≡ n') × (left ≡ left') × (b ≡ b')
indexed-once (refuses n) (refuses m) = (refl, refl, refl)
indexed-once {tree = tree} {out = out} (fits {c} {x} {index} e r p l) (fits {c = c'} {index = index'} e' r' p' l') =
    let same : c' ≡ c = cc (e, e') in
    let there : IsIndex c tree r.count index' =
    subst (λ (d : Context). IsIndex d tree r.count index') same (subst (λ (n : ℕ). IsIndex c' tree n index') (same_count r' r) p') in
    let one = index-once c r p there in
    (refl, ap (λ (i : List ℕ). i ++ drop (length i) out) one, ap length one)
indexed-once {out = out} (fits {index = index} e r p l) (too_small r' h) =
    absurd (omega (arith, h, same_count r r', l, ap length p.are, entries-long p.entry r.count))
indexed-once {out = out} (too_small r h) (fits {index = index} e r' p l) =
    absurd (omega (arith, h, same_count r r', l, ap length p.are, entries-long p.entry r'.count))
indexed-once (too_small r h) (too_small r' h') = (refl, refl, refl)

pub index-determined : IndexDetermined
index-determined context tree out work number number' left left' bytes bytes' after after' p q =
    let same = indexed-once p.gives q.gives in
    (same.0, same.1, same.2, p.clears ∙ sym q.clears)

-- ---- what is found

module _ (c : Context) {tree : List ℕ} {f : Fragment} (r : TreeRecords tree f) where
  looked-once : {at found found' it it' : ℕ} → Looked c tree r.count at found it → Looked c tree r.count at found' it' → (found ≡ found') × (it ≡ it')
  looked-once {at} (inside {i} h least) (inside {i = k} h' least') =
      let a = beneath-small c r at (least k h') in
      let b = beneath-small c r at (least' i h) in
      (refl, omega (arith, a, b))
  looked-once {at} (inside {i} h least) (past l) = absurd (none-past c tree f r at i l h)
  looked-once {at} (past l) (inside {i} h least) = absurd (none-past c tree f r at i l h)
  looked-once (past l) (past l') = (refl, refl)

found-once : {context : ℕ} {tree index : List ℕ} {at : ℕ} {t : Answer Typed} {n n' a a' b b' : ℕ}
    → Found context tree index at t n a b → Found context tree index at t n' a' b' → (n ≡ n') × (a ≡ a') × (b ≡ b')
found-once (turned_down n) (turned_down m) = (refl, refl, refl)
found-once {tree = tree} {at = at} (looks {c} {x} {found} {it} e r p l) (looks {c = c'} {found = found'} {it = it'} e' r' p' l') =
    let same : c' ≡ c = cc (e, e') in
    let there : Looked c tree r.count at found' it' =
    subst (λ (d : Context). Looked d tree r.count at found' it') same (subst (λ (n : ℕ). Looked c' tree n at found' it') (same_count r' r) l') in
    let one = looked-once c r l there in
    (refl, one.0, one.1)
found-once {tree = tree} {index = index} (looks {c} {x} e r p l) (another {c = c'} e' r' h) =
    let same : c ≡ c' = cc (e, e') in
    absurd (h (subst (λ (d : Context). IsIndex d tree r'.count index) same (subst (λ (n : ℕ). IsIndex c tree n index) (same_count r r') p)))
found-once {tree = tree} {index = index} (another {c} e r h) (looks {c = c'} {x} e' r' p l) =
    let same : c' ≡ c = cc (e, e') in
    absurd (h (subst (λ (d : Context). IsIndex d tree r.count index) same (subst (λ (n : ℕ). IsIndex c' tree n index) (same_count r' r) p)))
found-once (another e r h) (another e' r' h') = (refl, refl, refl)

pub find-determined : FindDetermined
find-determined context tree index at work number number' found found' it it' after after' p q =
    let same = found-once p.gives q.gives in
    (same.0, same.1, same.2, p.clears ∙ sym q.clears)
