-- A list of node numbers against the candidates that they stand for: what is scanned, sieved and entered is what the definition of insertion
-- scans, filters and enters. Assumes nothing.
use mathlib.Core.Path.{◌≡◌, refl, sym, ◌∙◌, ap}
use mathlib.Core.List.{List, [], ◌∷◌, map}
use mathlib.Core.Bool.{Bool, true, false, not, cond}
use Prim.Native.Nat.{ℕ, ◌<◌, ◌≤◌}
use native.Mathlib.Omega.{arith}
use borrow.Author.Tests.{lt-ltb, le-ltb}
use lib.Dec.{ltb}
use Rattle.writing.specs.WellFormed.{AllBelow}
use Rattle.candidates.specs.declared.Candidate as code
use Rattle.definition.specs.Candidates.{Candidate}
use Rattle.definition.specs.Tables.{Probs, cost_at, key_before, enter}
use Rattle.definition.specs.Insertion.{any, filter, beats}
use Rattle.definition_laws.proofs.Keys.{key_number, before, not-before}
use Rattle.memory.specs.Layout.{node_count}
use Rattle.nodes.specs.Views.{seen, seen_all, seen_as, offered}
use Rattle.nodes.proofs.Seen.{Shows, seen-fields}
use Rattle.table.specs.declared.Priced.{Priced}
use Rattle.table.specs.Rows.{priced_as, price_at, beats_by, key_of, any_of, those, beats_it, stands, enter_at}

-- ---- numbers below a bound

pub below_more : {n k : ℕ} (es : List ℕ) → n ≤ k → AllBelow n es → AllBelow k es
unfolding AllBelow
below_more [] le b = tt
below_more (e ∷ es) le b = (omega (arith, b.0), below_more es le b.1)

pub below-those : (n : ℕ) (q : ℕ → Bool) (es : List ℕ) → AllBelow n es → AllBelow n (those q es)
unfolding AllBelow those
below-those n q [] b = tt
below-those n q (e ∷ es) b = by-test (q e) (below-those n q es b.1)
  where
    by-test : (t : Bool) → AllBelow n (those q es) → AllBelow n (cond t (e ∷ those q es) (those q es))
    by-test true r = (b.0, r)
    by-test false r = r

pub below-enter : {n : ℕ} (m : List ℕ) (p : Probs) (k e : ℕ) (es : List ℕ) → e < n → AllBelow n es → AllBelow n (enter_at m p k e es)
unfolding AllBelow enter_at
below-enter m p k e [] l b = (l, tt)
below-enter {n} m p k e (x ∷ es) l b = by-test (ltb (key_of (price_at m p x)) k) (below-enter m p k e es l b.1)
  where
    by-test : (t : Bool) → AllBelow n (enter_at m p k e es) → AllBelow n (cond t (x ∷ enter_at m p k e es) (e ∷ x ∷ es))
    by-test true r = (b.0, r)
    by-test false r = (l, b)

pub map_below : {n : ℕ} (f g : ℕ → Candidate) (es : List ℕ) → ((e : ℕ) → e < n → f e ≡ g e) → AllBelow n es → map f es ≡ map g es
unfolding AllBelow
map_below f g [] h b = refl
map_below f g (e ∷ es) h b = ap (λ (x : Candidate). x ∷ map f es) (h e b.0) ∙ ap (λ (xs : List Candidate). g e ∷ xs) (map_below f g es h b.1)

-- ---- lists of numbers against lists of what they stand for

module _ {n : ℕ} (f : ℕ → Candidate) (q : Candidate → Bool) (r : ℕ → Bool) (same : (e : ℕ) → e < n → q (f e) ≡ r e) where
  any-map : (es : List ℕ) → AllBelow n es → any q (map f es) ≡ any_of r es
  unfolding any any_of AllBelow
  any-map [] b = refl
  any-map (e ∷ es) b =
      ap (λ (t : Bool). cond t true (any q (map f es))) (same e b.0) ∙ ap (λ (t : Bool). cond (r e) true t) (any-map es b.1)

  filter_map : (es : List ℕ) → AllBelow n es → filter q (map f es) ≡ map f (those r es)
  unfolding filter those AllBelow
  filter_map [] b = refl
  filter_map (e ∷ es) b =
      ap (λ (t : Bool). cond t (f e ∷ filter q (map f es)) (filter q (map f es))) (same e b.0) ∙ by-test (r e) (filter_map es b.1)
    where
      by-test : (t : Bool) → filter q (map f es) ≡ map f (those r es) →
          cond t (f e ∷ filter q (map f es)) (filter q (map f es)) ≡ map f (cond t (e ∷ those r es) (those r es))
      by-test true h = ap (λ (xs : List Candidate). f e ∷ xs) h
      by-test false h = h

module _ {n : ℕ} (m : List ℕ) (p : Probs) (f : ℕ → Candidate) (x : Candidate) (k e₀ : ℕ) (is : f e₀ ≡ x)
    (same : (e : ℕ) → e < n → key_before (f e) x ≡ ltb (key_of (price_at m p e)) k) where
  enter-map : (es : List ℕ) → AllBelow n es → enter x (map f es) ≡ map f (enter_at m p k e₀ es)
  unfolding enter enter_at AllBelow
  enter-map [] b = ap (λ (y : Candidate). y ∷ []) (sym is)
  enter-map (e ∷ es) b =
      ap (λ (t : Bool). cond t (f e ∷ enter x (map f es)) (x ∷ f e ∷ map f es)) (same e b.0)
      ∙ by-test (ltb (key_of (price_at m p e)) k) (enter-map es b.1)
    where
      by-test : (t : Bool) → enter x (map f es) ≡ map f (enter_at m p k e₀ es) →
          cond t (f e ∷ enter x (map f es)) (x ∷ f e ∷ map f es) ≡ map f (cond t (e ∷ enter_at m p k e₀ es) (e₀ ∷ e ∷ es))
      by-test true h = ap (λ (xs : List Candidate). f e ∷ xs) h
      by-test false h = ap (λ (y : Candidate). y ∷ f e ∷ map f es) (sym is)

-- ---- what candidates are compared by

-- a candidate that carries its tree, as a price
abbrev pub priced_of : Probs → Candidate → Priced
priced_of p x = record { ty = x.ty; free_verify = x.ext.has_free_verify; cost = cost_at p x }

before-is : (x y : Candidate) → key_before x y ≡ ltb (key_number x) (key_number y)
before-is x y = by-test (key_before x y) refl
  where
    by-test : (b : Bool) → key_before x y ≡ b → b ≡ ltb (key_number x) (key_number y)
    by-test true h = sym (lt-ltb _ _ (before x y h))
    by-test false h = sym (le-ltb _ _ (not-before x y h))

priced-shows : (p : Probs) {s : Candidate} {x : code.Candidate} → Shows s x → priced_of p s ≡ priced_as p x
priced-shows p {s} {x} h = rw (h.ty, h.ext, h.cost)

priced-seen : (pol m : List ℕ) (p : Probs) (e : ℕ) → e < node_count m → priced_of p (seen pol m e) ≡ price_at m p e
priced-seen pol m p e l = priced-shows p (seen-fields pol m e l)

pub priced-offered : (pol m : List ℕ) (p : Probs) (x : code.Candidate) → priced_of p (offered pol m x) ≡ priced_as p x
unfolding seen_as
priced-offered pol m p x = refl

-- ---- the three loops: the candidate x is compared by y

module _ (pol m : List ℕ) (p : Probs) (x : Candidate) (y : Priced) (priced : priced_of p x ≡ y) (es : List ℕ) (b : AllBelow (node_count m) es) where
  -- some entry beats the candidate
  pub any_seen : any (λ e. beats p e x) (seen_all pol m es) ≡ any_of (beats_it m p y) es
  any_seen = any-map (seen pol m) (λ e. beats p e x) (beats_it m p y) same es b
    where
      same : (e : ℕ) → e < node_count m → beats p (seen pol m e) x ≡ beats_it m p y e
      same e l =
          ap (λ (z : Priced). beats_by z (priced_of p x)) (priced-seen pol m p e l) ∙ ap (λ (z : Priced). beats_by (price_at m p e) z) priced

  -- the entries that the candidate does not beat
  pub filter-seen : filter (λ e. not (beats p x e)) (seen_all pol m es) ≡ seen_all pol m (those (stands m p y) es)
  filter-seen = filter_map (seen pol m) (λ e. not (beats p x e)) (stands m p y) same es b
    where
      same : (e : ℕ) → e < node_count m → not (beats p x (seen pol m e)) ≡ stands m p y e
      same e l =
          ap (λ (z : Priced). not (beats_by (priced_of p x) z)) (priced-seen pol m p e l)
          ∙ ap (λ (z : Priced). not (beats_by z (price_at m p e))) priced

  -- the candidate, which is node e₀, enters
  pub enter-seen : (k e₀ : ℕ) → k ≡ key_of y → seen pol m e₀ ≡ x → enter x (seen_all pol m es) ≡ seen_all pol m (enter_at m p k e₀ es)
  enter-seen k e₀ key is = enter-map m p (seen pol m) x k e₀ is same es b
    where
      same : (e : ℕ) → e < node_count m → key_before (seen pol m e) x ≡ ltb (key_of (price_at m p e)) k
      same e l =
          before-is (seen pol m e) x
          ∙ ap (λ (z : Priced). ltb (key_of z) (key_number x)) (priced-seen pol m p e l)
          ∙ ap (λ (n : ℕ). ltb (key_of (price_at m p e)) n) (ap (λ (z : Priced). key_of z) priced ∙ sym key)
