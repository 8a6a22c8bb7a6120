-- Every search of a policy that can be written gives a proper table, and leaves a proper state that has grown: by induction on the policy.
use mathlib.Core.Bool.{Bool, true, false, cond, ◌&&◌}
use mathlib.Core.List.{List, [], ◌∷◌}
use Rattle.std.specs.Prelude.{Option, None, Some}
use mathlib.Core.Path.{◌≡◌, refl, sym, ap, subst, ◌∙◌}
use Prim.Native.Nat.{ℕ, zero, suc, ◌^◌}
use native.Mathlib.Omega.{arith}
use lib.Dec.{eqb}
use lib.ListN.{length}
use lib.Ieee.{Float}
use Rattle.contexts.specs.declared.Context.{Context}
use Rattle.correctness.specs.declared.Base.TheVariants.{B, W}
use Rattle.costs.specs.Arithmetic.{0·, 1·}
use Rattle.costs.specs.Weights.{weights}
use Rattle.costs.specs.Price.{at_most}
use Rattle.policies.specs.Policy.{Policy, Policies, end, ◌▹◌, to_list, Unsatisfiable, Trivial, Key, Lock, Hash, And, Or, Thresh}
use Rattle.writing.specs.WellFormed.{AllBelow, IsThreshold}
use Rattle.definition.specs.Candidates.{Candidate, Cast, Made, Pair}
use Rattle.definition.specs.Tables.{Probs, Table, cost_at}
use Rattle.definition.specs.Refusals.{Stored, M, lookup, same_probs}
use Rattle.definition.specs.Refusals.{NotACost, LimitsExceeded}
use Rattle.definition.specs.SamePolicy.{same}
use Rattle.definition.specs.Search.{Again, alone, redo, for_each, inserted_if_typed, casts_of, wrapped, wrapped_if_made, binary, ternary}
use Rattle.definition.specs.Search.{cheaper, cheapest, chosen, suits_thresh, Searcher, plain, conjunction, policy_of, search_of, kept, found_or}
use Rattle.definition.specs.Search.{remembering, Body, without, again_at, searching, leaves, and_body, and_ors, Four, four_of, or_body}
use Rattle.definition.specs.Search.{Best, best_of, bests, nth, others_as_w, arranged, key_or, keys_of, multi_of, and_searcher, fold_ands}
use Rattle.definition.specs.Search.{folded_or, thresh_body, searcher, searchers, search}
use Rattle.definition_laws.specs.FormedPolicy.{FormedPolicy, AllFormed}
use Rattle.definition_laws.specs.Laws.{All, nobody, ◌and◌, IfSome, none_is, some_is, IfMade, passed_is, missing_is, made_is}
use Rattle.definition_laws.specs.Laws.{Good, empty, Proper, ProperAt, Keeps}
use Rattle.definition_laws.proofs.Typed.{CastsWell, casts-good, PairsWell, and_b-good, and_v-good, or_b-good, or_d-good, or_c-good, or_i-good}
use Rattle.definition_laws.proofs.Typed.{and_or-good, thresh-good, false-good, true-good, pk_k-good, pk_h-good, lock-good, hash-good, multi-good}
use Rattle.definition_laws.proofs.Sorting.{all_map}
use Rattle.definition_laws.proofs.Keeping.{pure-keeps, refuse-keeps, cond-keeps, bind-keeps, weaken, store_keeps}
use Rattle.definition_laws.proofs.Inserting.{insert_closure-keeps}

-- ---- tables

pub no-entries : {c : Context} {p : Probs} → ProperAt c p []
no-entries = record { proper = record { entries = nobody; sorted = empty; fits = omega arith }; costs = nobody }

pub goods : {c : Context} {t : Table} → Proper c t → All (Good c) t
goods h = all_map (λ x e. e.good) h.entries

-- ---- wrapping

-- what may be asked for again gives a proper table
pub data AgainWell (c : Context) : Again → Type 0 where
  alone_is : AgainWell c alone
  redo_is : {m : M Table} → Keeps c (Proper c) m → AgainWell c (redo m)

pub for_each-keeps : {c : Context} {P : Candidate → Type 0} {Q : Table → Type 0} {f : Candidate → Table → M Table} {xs t : Table} →
    ((x : Candidate) → P x → (t : Table) → Q t → Keeps c Q (f x t)) → All P xs → Q t → Keeps c Q (for_each f xs t)
unfolding for_each
for_each-keeps k nobody h = pure-keeps h
for_each-keeps {t} k (◌and◌ {x} g gs) h = bind-keeps (k x g t h) λ u i. for_each-keeps k gs i

inserted_if_typed-keeps : {c : Context} {p : Probs} {x : Option Candidate} {t : Table} → IfSome (Good c) x → ProperAt c p t →
    Keeps c (ProperAt c p) (inserted_if_typed c p x t)
inserted_if_typed-keeps none_is h = pure-keeps h
inserted_if_typed-keeps (some_is g) h = insert_closure-keeps g h

pub casts_of-keeps : {c : Context} {p : Probs} {m : M Table} {fs : List Cast} {t : Table} → Keeps c (Proper c) m → All (CastsWell c) fs →
    ProperAt c p t → Keeps c (ProperAt c p) (casts_of c p m fs t)
unfolding casts_of
casts_of-keeps a nobody h = pure-keeps h
casts_of-keeps a (f and fs) h =
    bind-keeps a λ xs k.
    bind-keeps (for_each-keeps (λ x g t h. inserted_if_typed-keeps (f x g) h) (goods k) h) λ t h.
    casts_of-keeps a fs h

pub wrapped-keeps : {c : Context} {p : Probs} {g : Again} {x : Candidate} {t : Table} → AgainWell c g → Good c x → ProperAt c p t →
    Keeps c (ProperAt c p) (wrapped c p g x t)
unfolding wrapped
wrapped-keeps alone_is i h = insert_closure-keeps i h
wrapped-keeps {c} (redo_is a) i h = bind-keeps (insert_closure-keeps i h) λ t h. casts_of-keeps a (casts-good c) h

pub wrapped_if_made-keeps : {c : Context} {p : Probs} {g : Again} {m : Made} {t : Table} → AgainWell c g → IfMade (Good c) m → ProperAt c p t →
    Keeps c (ProperAt c p) (wrapped_if_made c p g m t)
wrapped_if_made-keeps a passed_is h = pure-keeps h
wrapped_if_made-keeps a missing_is h = refuse-keeps NotACost (omega arith)
wrapped_if_made-keeps a (made_is i) h = wrapped-keeps a i h

-- ---- pairing

pub binary-keeps : {c : Context} {p : Probs} {g : Again} {f : Pair} {ls rs t : Table} (lw rw : Float) → AgainWell c g → PairsWell c f →
    All (Good c) ls → All (Good c) rs → ProperAt c p t → Keeps c (ProperAt c p) (binary c p g f lw rw ls rs t)
binary-keeps lw rw a w ls rs h =
    for_each-keeps (λ x i t h. for_each-keeps (λ y j t h. wrapped_if_made-keeps a (w lw rw x y i j) h) rs h) ls h

pub ternary-keeps : {c : Context} {p : Probs} {g : Again} {xs ys zs t : Table} (lw rw : Float) → AgainWell c g →
    All (Good c) xs → All (Good c) ys → All (Good c) zs → ProperAt c p t → Keeps c (ProperAt c p) (ternary c p g lw rw xs ys zs t)
ternary-keeps lw rw a xs ys zs h =
    for_each-keeps (λ x i t h. for_each-keeps (λ y j t h. for_each-keeps (λ z k t h.
    wrapped_if_made-keeps a (and_or-good lw rw x y z i j k) h) zs h) ys h) xs h

-- ---- choice

-- the entry that is chosen suits, and is what all entries are
pub record Chosen (P : Candidate → Type 0) (suits : Candidate → Bool) (x : Candidate) : Type 0 where
  pub is : P x
  pub suited : suits x ≡ true

pub cheapest-of : {P : Candidate → Type 0} (p : Probs) (suits : Candidate → Bool) {t : Table} → All P t →
    IfSome (Chosen P suits) (cheapest p suits t)
unfolding cheapest
cheapest-of p suits nobody = none_is
cheapest-of {P} p suits (◌and◌ {x} {xs} g gs) = by-test (suits x) refl (cheapest-of p suits gs)
  where
    of_two : (b : Bool) {y : Candidate} → Chosen P suits x → Chosen P suits y → Chosen P suits (cond b x y)
    of_two true h k = h
    of_two false h k = k

    cheaper-of : {o : Option Candidate} → Chosen P suits x → IfSome (Chosen P suits) o → Chosen P suits (cheaper p x o)
    cheaper-of h none_is = h
    cheaper-of h (some_is {x = y} k) = of_two (at_most (cost_at p x) (cost_at p y)) h k

    by-test : (b : Bool) → suits x ≡ b → IfSome (Chosen P suits) (cheapest p suits xs) →
        IfSome (Chosen P suits) (cond b (Some (cheaper p x (cheapest p suits xs))) (cheapest p suits xs))
    by-test true e r = some_is (cheaper-of (record { is = g; suited = e }) r)
    by-test false e r = r

pub chosen-keeps : {c : Context} {P : Candidate → Type 0} {o : Option Candidate} → IfSome P o → Keeps c P (chosen o)
chosen-keeps none_is = refuse-keeps LimitsExceeded (omega arith)
chosen-keeps (some_is h) = pure-keeps h

-- ---- what is remembered

lookup-proper : {c : Context} (q : Policy) (p : Probs) {ts : List Stored} → All (λ r. Proper c r.table) ts →
    IfSome (Proper c) (lookup q p ts)
unfolding lookup
lookup-proper q p nobody = none_is
lookup-proper {c} q p (◌and◌ {x = t} {xs = ts} h hs) = by-test (same q t.policy && same_probs p t.at) (lookup-proper q p hs)
  where
    by-test : (b : Bool) → IfSome (Proper c) (lookup q p ts) → IfSome (Proper c) (cond b (Some t.table) (lookup q p ts))
    by-test true r = some_is h
    by-test false r = r

kept-keeps : {c : Context} (q : Policy) (p : Probs) (t : Table) → Proper c t → Keeps c (Proper c) (kept q p t)
kept-keeps q p [] h = refuse-keeps LimitsExceeded (omega arith)
kept-keeps q p (x ∷ xs) h = bind-keeps (store_keeps q p (x ∷ xs) h) λ _ _. pure-keeps h

found_or-keeps : {c : Context} {o : Option Table} {m : M Table} → IfSome (Proper c) o → Keeps c (Proper c) m → Keeps c (Proper c) (found_or o m)
found_or-keeps none_is h = h
found_or-keeps (some_is k) h = pure-keeps k

pub remembering-keeps : {c : Context} (q : Policy) (p : Probs) {m : M Table} → Keeps c (Proper c) m → Keeps c (Proper c) (remembering q p m)
unfolding remembering
remembering-keeps q p h = record {
  from = λ s g. (found_or-keeps (lookup-proper q p g.tables) (bind-keeps h λ t k. kept-keeps q p t k)).from s g;
}

-- ---- searches

-- a body gives a proper table, if what it may ask for again does
abbrev pub BodyWell : Context → Body → Type 0
BodyWell c body = (p : Probs) (g : Again) → AgainWell c g → Keeps c (Proper c) (body p g)

again-well : {c : Context} {body : Body} (q : Policy) (p : Probs) (d : Option Float) → BodyWell c body → AgainWell c (again_at q body p d)
again-well q p None h = alone_is
again-well q p (Some d) h = redo_is (remembering-keeps q (without p) (h (without p) alone alone_is))

pub searching-keeps : {c : Context} (q : Policy) {body : Body} → BodyWell c body → (p : Probs) → Keeps c (Proper c) (searching q body p)
unfolding searching
searching-keeps q h p = remembering-keeps q p (h p _ (again-well q p p.dissat h))

-- a searcher of a policy that can be written gives proper tables, and of an And its two sides do too
pub data SearchesWell (c : Context) : Searcher → Type 0 where
  plain_is : {q : Policy} {f : Probs → M Table} → FormedPolicy q → ((p : Probs) → Keeps c (Proper c) (f p)) → SearchesWell c (plain q f)
  conjunction_is : {q : Policy} {f : Probs → M Table} {l r : Searcher} → FormedPolicy q → ((p : Probs) → Keeps c (Proper c) (f p)) →
      SearchesWell c l → SearchesWell c r → SearchesWell c (conjunction q f l r)

pub search-keeps : {c : Context} {s : Searcher} → SearchesWell c s → (p : Probs) → Keeps c (Proper c) (search_of s p)
search-keeps (plain_is w h) p = h p
search-keeps (conjunction_is w h l r) p = h p

policy-formed : {c : Context} {s : Searcher} → SearchesWell c s → FormedPolicy (policy_of s)
policy-formed (plain_is w h) = w
policy-formed (conjunction_is w h l r) = w

-- ---- leaves and And

finished : {c : Context} {p : Probs} {m : M Table} → Keeps c (ProperAt c p) m → Keeps c (Proper c) m
finished h = weaken (λ t k. k.proper) h

pub leaves-well : {c : Context} {xs : Table} → All (Good c) xs → BodyWell c (leaves c xs)
leaves-well gs p g a = finished (for_each-keeps (λ x i t h. wrapped-keeps a i h) gs no-entries)

module _ {c : Context} {l r : Searcher} (lh : SearchesWell c l) (rh : SearchesWell c r) where
  pub and_body-well : BodyWell c (and_body c l r)
  unfolding and_body
  and_body-well p g a =
      bind-keeps (search-keeps lh p) λ left i.
      bind-keeps (search-keeps rh p) λ right j.
      bind-keeps (search-keeps rh (without p)) λ right₀ j₀.
      bind-keeps (search-keeps lh (without p)) λ left₀ i₀.
      finished (
      bind-keeps (binary-keeps 1· 1· a and_b-good (goods i) (goods j) no-entries) λ t h.
      bind-keeps (binary-keeps 1· 1· a and_b-good (goods j) (goods i) h) λ t h.
      bind-keeps (binary-keeps 1· 1· a and_v-good (goods i) (goods j) h) λ t h.
      bind-keeps (binary-keeps 1· 1· a and_v-good (goods j) (goods i) h) λ t h.
      bind-keeps (ternary-keeps 1· 0· a (goods i) (goods j₀) (false-good c and nobody) h) λ t h.
      ternary-keeps 1· 0· a (goods j) (goods i₀) (false-good c and nobody) h)

-- ---- Or

pub and_ors-keeps : {c : Context} {p : Probs} {g : Again} {s other : Searcher} {t : Table} (w v : Float) → AgainWell c g → SearchesWell c s →
    SearchesWell c other → ProperAt c p t → Keeps c (ProperAt c p) (and_ors c p g s other w v t)
unfolding and_ors
and_ors-keeps w v a (plain_is f k) o h = pure-keeps h
and_ors-keeps w v a (conjunction_is f k x y) o h =
    bind-keeps (search-keeps x _) λ a₁ i₁.
    bind-keeps (search-keeps x _) λ a₂ i₂.
    bind-keeps (search-keeps y _) λ b₁ j₁.
    bind-keeps (search-keeps y _) λ b₂ j₂.
    bind-keeps (search-keeps o _) λ z n.
    bind-keeps (ternary-keeps w v a (goods i₁) (goods j₂) (goods n) h) λ t h.
    ternary-keeps w v a (goods j₁) (goods i₂) (goods n) h

pub record FourWell (c : Context) (f : Four) : Type 0 where
  pub both : All (Good c) f.both
  pub other : All (Good c) f.other
  pub own : All (Good c) f.own
  pub none : All (Good c) f.none

pub four_of-keeps : {c : Context} {s : Searcher} (p : Probs) (w v : Float) → SearchesWell c s → Keeps c (FourWell c) (four_of s p w v)
unfolding four_of
four_of-keeps p w v h =
    bind-keeps (search-keeps h _) λ t₀ i₀.
    bind-keeps (search-keeps h _) λ t₁ i₁.
    bind-keeps (search-keeps h _) λ t₂ i₂.
    bind-keeps (search-keeps h _) λ t₃ i₃.
    pure-keeps (record { both = goods i₀; other = goods i₁; own = goods i₂; none = goods i₃ })

pub or_body-well : {c : Context} {l r : Searcher} (lw rw : Float) → SearchesWell c l → SearchesWell c r → BodyWell c (or_body c l r lw rw)
unfolding or_body
or_body-well lw rw lh rh p g a = finished (
    bind-keeps (and_ors-keeps lw rw a lh rh no-entries) λ t h.
    bind-keeps (and_ors-keeps rw lw a rh lh h) λ t h.
    bind-keeps (four_of-keeps p lw rw lh) λ ls i.
    bind-keeps (four_of-keeps p rw lw rh) λ rs j.
    bind-keeps (binary-keeps lw rw a or_b-good i.both j.both h) λ t h.
    bind-keeps (binary-keeps rw lw a or_b-good j.both i.both h) λ t h.
    bind-keeps (binary-keeps lw rw a or_d-good i.both j.own h) λ t h.
    bind-keeps (binary-keeps rw lw a or_d-good j.both i.own h) λ t h.
    bind-keeps (binary-keeps lw rw a or_c-good i.other j.none h) λ t h.
    bind-keeps (binary-keeps rw lw a or_c-good j.other i.none h) λ t h.
    bind-keeps (binary-keeps lw rw a or_i-good i.own j.none h) λ t h.
    bind-keeps (binary-keeps rw lw a or_i-good j.own i.none h) λ t h.
    bind-keeps (binary-keeps lw rw a or_i-good i.none j.own h) λ t h.
    binary-keeps rw lw a or_i-good j.none i.own h)

-- ---- Thresh

pub record BestWell (c : Context) (b : Best) : Type 0 where
  pub e : Good c b.e
  pub w : Good c b.w

pub best_of-keeps : {c : Context} (p : Probs) {s : Searcher} → SearchesWell c s → Keeps c (BestWell c) (best_of p s)
unfolding best_of
best_of-keeps p h =
    bind-keeps (search-keeps h p) λ t k.
    bind-keeps (chosen-keeps (cheapest-of p (suits_thresh B) (goods k))) λ e i.
    bind-keeps (search-keeps h p) λ t k.
    bind-keeps (chosen-keeps (cheapest-of p (suits_thresh W) (goods k))) λ w j.
    pure-keeps (record { e = i.is; w = j.is })

-- as many as were asked for
pub record BestsWell (c : Context) (n : ℕ) (bs : List Best) : Type 0 where
  pub each : All (BestWell c) bs
  pub as_many : length bs ≡ n

pub bests-keeps : {c : Context} (p : Probs) {ss : List Searcher} → All (SearchesWell c) ss → Keeps c (BestsWell c (length ss)) (bests p ss)
unfolding bests
bests-keeps p nobody = pure-keeps (record { each = nobody; as_many = refl })
bests-keeps p (h and hs) =
    bind-keeps (best_of-keeps p h) λ b i.
    bind-keeps (bests-keeps p hs) λ bs is.
    pure-keeps (record { each = i and is.each; as_many = ap suc is.as_many })

nth-well : {c : Context} (n : ℕ) {b : Best} {bs : List Best} → BestWell c b → All (BestWell c) bs → BestWell c (nth n b bs)
nth-well n h nobody = h
nth-well zero h (k and ks) = k
nth-well (suc n) h (k and ks) = nth-well n h ks

others-well : {c : Context} (m place : ℕ) {b : Best} {bs : List Best} → BestWell c b → All (BestWell c) bs →
    All (Good c) (others_as_w b m place bs)
unfolding others_as_w
others-well m place h nobody = nobody
others-well {c} m place h (k and ks) = of_two (eqb place m) h.w k.w and others-well m (suc place) h ks
  where
    of_two : (b : Bool) {x y : Candidate} → Good c x → Good c y → Good c (cond b x y)
    of_two true p q = p
    of_two false p q = q

pub arranged-well : {c : Context} (m : ℕ) {bs : List Best} → All (BestWell c) bs → All (Good c) (arranged m bs)
unfolding arranged
arranged-well m nobody = nobody
arranged-well m (h and hs) = (nth-well m h (h and hs)).e and others-well m 1 h hs

others-length : (b : Best) (m place : ℕ) (bs : List Best) → length (others_as_w b m place bs) ≡ length bs
unfolding others_as_w
others-length b m place [] = refl
others-length b m place (x ∷ xs) = ap suc (others-length b m (suc place) xs)

arranged-length : (m : ℕ) (bs : List Best) → length (arranged m bs) ≡ length bs
unfolding arranged
arranged-length m [] = refl
arranged-length m (b ∷ bs) = ap suc (others-length b m 1 bs)

-- so many keys, each of which can be written
pub record KeysWell (n : ℕ) (keys : List ℕ) : Type 0 where
  pub below : AllBelow (2 ^ 64) keys
  pub as_many : length keys ≡ n

key-or : {n : ℕ} {keys : Option (List ℕ)} (q : Policy) → FormedPolicy q → IfSome (KeysWell n) keys → IfSome (KeysWell (suc n)) (key_or q keys)
unfolding FormedPolicy AllBelow
key-or (Key n) w none_is = none_is
key-or (Key n) w (some_is {x = keys} h) = some_is {x = n ∷ keys} (record { below = (w, h.below); as_many = ap suc h.as_many })
key-or Unsatisfiable w h = none_is
key-or Trivial w h = none_is
key-or (Lock kind n) w h = none_is
key-or (Hash kind n) w h = none_is
key-or (And l r) w h = none_is
key-or (Or l r u v) w h = none_is
key-or (Thresh k xs) w h = none_is

keys-of : {c : Context} {ss : List Searcher} → All (SearchesWell c) ss → IfSome (KeysWell (length ss)) (keys_of ss)
unfolding keys_of AllBelow
keys-of nobody = some_is (record { below = tt; as_many = refl })
keys-of (◌and◌ {x = s} h hs) = key-or (policy_of s) (policy-formed h) (keys-of hs)

multi_of-keeps : {c : Context} {p : Probs} {g : Again} {t : Table} {n : ℕ} (k : ℕ) {keys : Option (List ℕ)} → IsThreshold k n →
    IfSome (KeysWell n) keys → AgainWell c g → ProperAt c p t → Keeps c (ProperAt c p) (multi_of c p g k keys t)
multi_of-keeps k w none_is a h = pure-keeps h
multi_of-keeps {c} k w (some_is {x = keys} i) a h =
    wrapped-keeps a (multi-good c k keys (subst (IsThreshold k) (sym i.as_many) w) i.below) h

and_searcher-well : {c : Context} {l r : Searcher} → SearchesWell c l → SearchesWell c r → SearchesWell c (and_searcher c l r)
unfolding FormedPolicy
and_searcher-well {l} {r} lh rh =
    conjunction_is {q = And (policy_of l) (policy_of r)} (policy-formed lh, policy-formed rh) (searching-keeps _ (and_body-well lh rh)) lh rh

pub fold_ands-well : {c : Context} {s : Searcher} {ss : List Searcher} → SearchesWell c s → All (SearchesWell c) ss →
    SearchesWell c (fold_ands c s ss)
unfolding fold_ands
fold_ands-well h nobody = h
fold_ands-well {c} {s} h (◌and◌ {x} k ks) = fold_ands-well {s = and_searcher c s x} (and_searcher-well h k) ks

folded_or-keeps : {c : Context} {t : Table} (p : Probs) (k : ℕ) {ss : List Searcher} → All (SearchesWell c) ss → Proper c t →
    Keeps c (Proper c) (folded_or c p k ss t)
folded_or-keeps p k nobody h = pure-keeps h
folded_or-keeps p k (◌and◌ {xs = ss} s gs) h =
    cond-keeps (eqb k (suc (length ss))) (λ _. search-keeps (fold_ands-well s gs) p) (λ _. pure-keeps h)

pub thresh_body-well : {c : Context} (k : ℕ) {ss : List Searcher} → IsThreshold k (length ss) → All (SearchesWell c) ss →
    BodyWell c (thresh_body c k ss)
unfolding thresh_body
thresh_body-well k {ss} w hs p g a =
    bind-keeps (bests-keeps _ hs) λ bs is.
    bind-keeps (wrapped_if_made-keeps a (thresh-good k _ (subst (IsThreshold k) (sym (arranged-length _ bs ∙ is.as_many)) w)
    (arranged-well _ is.each)) no-entries) λ t h.
    bind-keeps (multi_of-keeps k w (keys-of hs) a h) λ t h.
    folded_or-keeps p k hs h.proper

-- ---- every policy

as-many-searchers : (c : Context) (xs : Policies) → length (searchers c xs) ≡ length (to_list xs)
unfolding searchers to_list
as-many-searchers c end = refl
as-many-searchers c (x ▹ xs) = ap suc (as-many-searchers c xs)

mutual
  unfolding searcher FormedPolicy

  pub searcher-well : (c : Context) (q : Policy) → FormedPolicy q → SearchesWell c (searcher c q)
  searcher-well c Unsatisfiable w = plain_is w (searching-keeps _ (leaves-well (false-good c and nobody)))
  searcher-well c Trivial w = plain_is w (searching-keeps _ (leaves-well (true-good c and nobody)))
  searcher-well c (Key n) w = plain_is w (searching-keeps _ (leaves-well (pk_h-good c n w and pk_k-good c n w and nobody)))
  searcher-well c (Lock kind n) w = plain_is w (searching-keeps _ (leaves-well (lock-good c kind n w and nobody)))
  searcher-well c (Hash kind n) w = plain_is w (searching-keeps _ (leaves-well (hash-good c kind n w and nobody)))
  searcher-well c (And l r) w =
      conjunction_is w (searching-keeps _ (and_body-well (searcher-well c l w.0) (searcher-well c r w.1)))
      (searcher-well c l w.0) (searcher-well c r w.1)
  searcher-well c (Or l r lw rw) w =
      plain_is w (searching-keeps _ (or_body-well (weights lw rw).lw (weights lw rw).rw (searcher-well c l w.0) (searcher-well c r w.1)))
  searcher-well c (Thresh k xs) w =
      plain_is w (searching-keeps _ (thresh_body-well k (subst (IsThreshold k) (sym (as-many-searchers c xs)) w.0) (searchers-well c xs w.1)))

  pub searchers-well : (c : Context) (xs : Policies) → AllFormed xs → All (SearchesWell c) (searchers c xs)
  searchers-well c end w = nobody
  searchers-well c (x ▹ xs) w = searcher-well c x w.0 and searchers-well c xs w.1

-- the search of a policy that can be written, at whatever probabilities, gives a proper table
pub search-proper : (c : Context) (q : Policy) (p : Probs) → FormedPolicy q → Keeps c (Proper c) (search c q p)
search-proper c q p w = search-keeps (searcher-well c q w) p
