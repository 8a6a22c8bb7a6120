-- The cheapest entry that suits, from the last entry to the first. Assumes nothing.
use mathlib.Core.Path.{◌≡◌, refl, sym, ◌∙◌, ap}
use mathlib.Core.Bool.{Bool, true, false, cond}
use mathlib.Core.List.{List, [], ◌∷◌}
use Rattle.std.specs.Prelude.{Option, Some, None}
use Prim.Native.Nat.{ℕ, suc, ◌-◌, ◌<◌, ◌≤◌}
use native.Mathlib.Omega.{arith}
use lib.ListN.{length, get_or, drop}
use lib.Seq.{drop-cons, drop-length}
use lib.Ieee.{Float}
use Rattle.costs.specs.declared.Price.{Price}
use Rattle.costs.specs.Price.{at_most}
use Rattle.figures.specs.Bounds.{Small}
use Rattle.types.specs.declared.«Type».{«Type»}
use Rattle.correctness.specs.declared.Base.TheVariants.{B, W}
use Rattle.writing.specs.WellFormed.{AllBelow}
use Rattle.definition.specs.Candidates.{Candidate}
use Rattle.definition.specs.Tables.{Probs, probs, cost_at}
use Rattle.definition.specs.Search.{cheaper, cheapest}
use Rattle.memory.specs.Layout.{node_count}
use Rattle.nodes.specs.Words.{node_at}
use Rattle.nodes.specs.Views.{seen, seen_all}
use Rattle.nodes.proofs.Seen.{seen-fields}
use Rattle.nodes.proofs.Grown.{small_at}
use Rattle.candidates.specs.declared.Candidate as code
use Rattle.candidates.specs.Candidates.{cost_at as code-cost}
use Rattle.cache.specs.Slots.{slot_at}
use Rattle.choice.specs.declared.Want.{Want}
use Rattle.choice.specs.Chosen.{suits_want, chosen_seen, Chooses, suits_as, suits_type, price_at, cheaper_at, next_at}
use Rattle.choice.proofs.Below.{seen-price}

-- ---- one entry

pub node-small : (m : List ℕ) (e : ℕ) {x : code.Candidate} → x ≡ node_at m e → Small x.ext
node-small m e is = rw is (small_at m e)

pub price-is : (m : List ℕ) (e : ℕ) (sat : Float) (dissat : Option Float) {x : code.Candidate} {r : Price} → x ≡ node_at m e
    → r ≡ code-cost x sat dissat → r ≡ price_at m (probs sat dissat) e
price-is m e sat dissat is cost = cost ∙ ap (λ (y : code.Candidate). code-cost y sat dissat) is

module _ (m : List ℕ) (p : Probs) (e : ℕ) where
  pub cheaper-first : {best : Option ℕ} (y : ℕ) {own other : Price} {t : Bool} → best ≡ Some y → own ≡ price_at m p e → other ≡ price_at m p y
      → t ≡ at_most own other → t ≡ true → Some e ≡ cheaper_at m p e best
  cheaper-first y best own other test first =
      let same : true ≡ at_most (price_at m p e) (price_at m p y) = cc in
      rw (best, sym same)

  pub cheaper-second : {best : Option ℕ} (y : ℕ) {own other : Price} {t : Bool} → best ≡ Some y → own ≡ price_at m p e → other ≡ price_at m p y
      → t ≡ at_most own other → t ≡ false → Some y ≡ cheaper_at m p e best
  cheaper-second y best own other test first =
      let same : false ≡ at_most (price_at m p e) (price_at m p y) = cc in
      rw (best, sym same)

  module _ (want : Want) (best : Option ℕ) {t : Bool} (test : t ≡ suits_type want (node_at m e).ty) where
    pub next-suits : {r : Option ℕ} → t ≡ true → r ≡ cheaper_at m p e best → r ≡ next_at m p want e best
    next-suits suits is = is ∙ ap (λ (b : Bool). cond b (cheaper_at m p e best) best) (sym suits ∙ test)

    pub next-other : t ≡ false → best ≡ next_at m p want e best
    next-other suits = ap (λ (b : Bool). cond b (cheaper_at m p e best) best) (sym suits ∙ test)

-- ---- all entries

-- the best of a list of them
unfoldable pub best_of : List ℕ → Probs → Want → List ℕ → Option ℕ
best_of m p want [] = None
best_of m p want (e ∷ es) = next_at m p want e (best_of m p want es)

module _ (m : List ℕ) (p : Probs) where
  -- what is chosen is a node
  abbrev IsNode : Option ℕ → Type 0
  IsNode (Some e) = e < node_count m
  IsNode None = Unit

  node-if : (b : Bool) (x y : Option ℕ) → IsNode x → IsNode y → IsNode (cond b x y)
  node-if true x y h k = h
  node-if false x y h k = k

  cheaper-node : (e : ℕ) (r : Option ℕ) → e < node_count m → IsNode r → IsNode (cheaper_at m p e r)
  cheaper-node e None l h = l
  cheaper-node e (Some y) l h = node-if (at_most (price_at m p e) (price_at m p y)) (Some e) (Some y) l h

  best-node : (want : Want) (es : List ℕ) → AllBelow (node_count m) es → IsNode (best_of m p want es)
  unfolding best_of AllBelow
  best-node want [] h = tt
  best-node want (e ∷ es) h =
      let rest = best-node want es h.1 in
      node-if (suits_type want (node_at m e).ty) (cheaper_at m p e (best_of m p want es)) (best_of m p want es)
      (cheaper-node e (best_of m p want es) h.0 rest) rest

  module _ (pol : List ℕ) where
    suits-seen : (want : Want) (e : ℕ) → e < node_count m → suits_want want (seen pol m e) ≡ suits_type want (node_at m e).ty
    suits-seen Want.E e l = ap (λ (t : «Type»). suits_as B t) (seen-fields pol m e l).ty
    suits-seen Want.W e l = ap (λ (t : «Type»). suits_as W t) (seen-fields pol m e l).ty
    suits-seen Want.Root e l = ap (λ (t : «Type»). suits_type Want.Root t) (seen-fields pol m e l).ty

    seen_if : (b : Bool) (x y : Option Candidate) (u v : Option ℕ) → x ≡ chosen_seen pol m u → y ≡ chosen_seen pol m v
        → cond b x y ≡ chosen_seen pol m (cond b u v)
    seen_if true x y u v h k = h
    seen_if false x y u v h k = k

    some-if : (b : Bool) (x y : Candidate) → Some (cond b x y) ≡ cond b (Some x) (Some y)
    some-if true x y = refl
    some-if false x y = refl

    cheaper-seen : (e : ℕ) (r : Option ℕ) → e < node_count m → IsNode r
        → Some (cheaper p (seen pol m e) (chosen_seen pol m r)) ≡ chosen_seen pol m (cheaper_at m p e r)
    cheaper-seen e None l h = refl
    cheaper-seen e (Some y) l h =
        let own : cost_at p (seen pol m e) ≡ price_at m p e = seen-price pol m p e l in
        let other : cost_at p (seen pol m y) ≡ price_at m p y = seen-price pol m p y h in
        let same : at_most (cost_at p (seen pol m e)) (cost_at p (seen pol m y)) ≡ at_most (price_at m p e) (price_at m p y) = cc in
        ap (λ (b : Bool). Some (cond b (seen pol m e) (seen pol m y))) same
        ∙ some-if (at_most (price_at m p e) (price_at m p y)) (seen pol m e) (seen pol m y)
        ∙ seen_if (at_most (price_at m p e) (price_at m p y)) (Some (seen pol m e)) (Some (seen pol m y)) (Some e) (Some y) refl refl

    best-seen : (want : Want) (es : List ℕ) → AllBelow (node_count m) es
        → cheapest p (suits_want want) (seen_all pol m es) ≡ chosen_seen pol m (best_of m p want es)
    unfolding cheapest best_of AllBelow
    best-seen want [] h = refl
    best-seen want (e ∷ es) h =
        let rest : Option Candidate = cheapest p (suits_want want) (seen_all pol m es) in
        let same : rest ≡ chosen_seen pol m (best_of m p want es) = best-seen want es h.1 in
        ap (λ (b : Bool). cond b (Some (cheaper p (seen pol m e) rest)) rest) (suits-seen want e h.0)
        ∙ seen_if (suits_type want (node_at m e).ty) (Some (cheaper p (seen pol m e) rest)) rest
        (cheaper_at m p e (best_of m p want es)) (best_of m p want es)
        (ap (λ (o : Option Candidate). Some (cheaper p (seen pol m e) o)) same
        ∙ cheaper-seen e (best_of m p want es) h.0 (best-node want es h.1))
        same

-- ---- the loop: the best of the entries from i on is known

pub record Choosing (m : List ℕ) (s : ℕ) (p : Probs) (want : Want) (best : Option ℕ) (i : ℕ) : Type 0 where
  pub few : i ≤ length (slot_at m s).entries
  pub is : best ≡ best_of m p want (drop i (slot_at m s).entries)

there-as : (m : List ℕ) (p : Probs) (r : Option ℕ) → IsNode m p r → (e : ℕ) → r ≡ Some e → e < node_count m
there-as m p (Some y) h e is = let same : y ≡ e = cc in omega arith
there-as m p None h e is = absurd (let z : ◌≡◌ {A = ℕ} 0 1 = cc in omega arith)

pub choosing-starts : (m : List ℕ) (s : ℕ) (p : Probs) (want : Want) {i : ℕ} → i ≡ length (slot_at m s).entries → Choosing m s p want None i
unfolding best_of
choosing-starts m s p want {i} is = record { few = omega arith; is = rw (is, drop-length (slot_at m s).entries) }

before_last : (i : ℕ) → 0 < i → i ≡ suc (i - 1)
before_last i l = omega arith

module _ {m : List ℕ} {s : ℕ} {p : Probs} {want : Want} {best : Option ℕ} {i : ℕ} (h : Choosing m s p want best i) where
  pub choosing-on : 0 < i → {e : ℕ} {r : Option ℕ} → e ≡ get_or (slot_at m s).entries (i - 1) 0 → r ≡ next_at m p want e best
      → Choosing m s p want r (i - 1)
  unfolding best_of
  choosing-on l {e} {r} entry is =
      let es : List ℕ = (slot_at m s).entries in
      record {
        few = omega (arith, h.few);
        is =
            is
            ∙ ap (λ (x : ℕ). next_at m p want x best) entry
            ∙ ap (λ (x : Option ℕ). next_at m p want (get_or es (i - 1) 0) x) (h.is ∙ ap (λ (j : ℕ). best_of m p want (drop j es)) (before_last i l))
            ∙ ap (best_of m p want) (sym (drop-cons es (i - 1) 0 (omega (arith, h.few))));
      }

  pub choosing-ends : i ≡ 0 → AllBelow (node_count m) (slot_at m s).entries → Chooses m s p want best
  choosing-ends z below =
      let is : best ≡ best_of m p want (slot_at m s).entries = rw z at h.is in
      record {
        says = λ pol. best-seen m p pol want (slot_at m s).entries below ∙ ap (chosen_seen pol m) (sym is);
        there = λ e at. there-as m p (best_of m p want (slot_at m s).entries) (best-node m p want (slot_at m s).entries below) e (sym is ∙ at);
      }
