-- The search for a policy's best compilations, from best_compilations, insert_best_wrapped, compile_binary, compile_tern and best in
-- policy/compiler.rs: document 01, "Modules, leaves first", 7 and 8. It is structural on the policy.
use Rattle.std.specs.Prelude.{Bool, true, false, cond, ◌&&◌, List, [], ◌∷◌, map, ℕ, zero, suc, eqb, length, Float, Option, None, Some}
use Rattle.std.specs.Float.{inf}
use Rattle.std.specs.Float.Ieee.{lt}
use Rattle.contexts.specs.declared.Context.{Context}
use Rattle.contexts.specs.Leaves.{LockKind, HashKind}
use Rattle.correctness.specs.declared.Base.{Base}
use Rattle.correctness.specs.declared.Base.TheVariants.{B, W}
use Rattle.correctness.specs.Letters.{base_eq}
use Rattle.malleability.specs.Letters.{is_unique}
use Rattle.costs.specs.Arithmetic.{◌⊕◌, ◌⊖◌, ◌⊗◌, ◌⊘◌, float_of, 0·, 1·}
use Rattle.costs.specs.Price.{at_most, excess}
use Rattle.costs.specs.Weights.{weights}
use Rattle.policies.specs.Policy.{Policy, Policies, end, ◌▹◌, Unsatisfiable, Trivial, Key, Lock, Hash, And, Or, Thresh}
use Rattle.definition.specs.Candidates.{Candidate, Cast, all_casts, Made, passed_over, missing, made, Pair}
use Rattle.definition.specs.Candidates.{false', true', pk_k, pk_h, lock, hash, multi, and_b, and_v, or_b, or_d, or_c, or_i, and_or, thresh_of}
use Rattle.definition.specs.Tables.{Probs, probs, Table, cost_at}
use Rattle.definition.specs.Refusals.{M, State, done, refused, then, ◌>>=◌, pure, refuse, lookup, store, NotACost, LimitsExceeded}
use Rattle.definition.specs.Insertion.{insert_closure}

-- ---- wrapping

-- the search of the same policy with no dissatisfaction, where there is one to ask for
pub data Again : Type 0 where
  alone : Again
  redo : M Table → Again

-- each entry of a table in turn
unfoldable pub for_each : (Candidate → Table → M Table) → Table → Table → M Table
for_each f [] t = pure t
for_each f (x ∷ xs) t = f x t >>= λ t. for_each f xs t

abbrev pub inserted_if_typed : Context → Probs → Option Candidate → Table → M Table
inserted_if_typed c p None t = pure t
inserted_if_typed c p (Some x) t = insert_closure c p x t

-- for each cast the search is asked anew, and each of its entries is cast
unfoldable pub casts_of : Context → Probs → M Table → List Cast → Table → M Table
casts_of c p again [] t = pure t
casts_of c p again (f ∷ fs) t = do
  xs ← again
  t ← for_each (λ x. inserted_if_typed c p (f x)) xs t
  casts_of c p again fs t

-- a candidate with its closure, then each cast of what the search without dissatisfaction found
unfoldable pub wrapped : Context → Probs → Again → Candidate → Table → M Table
wrapped c p alone x t = insert_closure c p x t
wrapped c p (redo again) x t = insert_closure c p x t >>= λ t. casts_of c p again (all_casts c) t

-- what was made of others is wrapped, unless it was passed over
abbrev pub wrapped_if_made : Context → Probs → Again → Made → Table → M Table
wrapped_if_made c p g passed_over t = pure t
wrapped_if_made c p g missing t = refuse NotACost
wrapped_if_made c p g (made x) t = wrapped c p g x t

-- ---- pairing: each entry of one table with each of another

abbrev pub binary : Context → Probs → Again → Pair → Float → Float → Table → Table → Table → M Table
binary c p g f lw rw ls rs t = for_each (λ l. for_each (λ r. wrapped_if_made c p g (f lw rw l r)) rs) ls t

abbrev pub ternary : Context → Probs → Again → Float → Float → Table → Table → Table → Table → M Table
ternary c p g lw rw xs ys zs t =
    for_each (λ x. for_each (λ y. for_each (λ z. wrapped_if_made c p g (and_or lw rw x y z)) zs) ys) xs t

-- ---- choice

abbrev pub cheaper : Probs → Candidate → Option Candidate → Candidate
cheaper p x None = x
cheaper p x (Some y) = cond (at_most (cost_at p x) (cost_at p y)) x y

-- the cheapest entry that suits, the first of them on a tie
unfoldable pub cheapest : Probs → (Candidate → Bool) → Table → Option Candidate
cheapest p suits [] = None
cheapest p suits (x ∷ xs) = cond (suits x) (Some (cheaper p x (cheapest p suits xs))) (cheapest p suits xs)

abbrev pub chosen : Option Candidate → M Candidate
chosen (Some x) = pure x
chosen None = refuse LimitsExceeded

-- an entry of the base that is u and e
abbrev pub suits_thresh : Base → Candidate → Bool
suits_thresh b x = base_eq x.ty.corr.base b && (x.ty.corr.unit && is_unique x.ty.mall.dissat)

abbrev pub is_base_b : Candidate → Bool
is_base_b x = base_eq x.ty.corr.base B

-- ---- the search

-- a policy, its search, and of an And its two sides
pub data Searcher : Type 0 where
  plain : Policy → (Probs → M Table) → Searcher
  conjunction : Policy → (Probs → M Table) → Searcher → Searcher → Searcher

abbrev pub policy_of : Searcher → Policy
policy_of (plain q f) = q
policy_of (conjunction q f l r) = q

abbrev pub search_of : Searcher → Probs → M Table
search_of (plain q f) = f
search_of (conjunction q f l r) = f

-- an empty table is refused, any other is remembered
abbrev pub kept : Policy → Probs → Table → M Table
kept q p [] = refuse LimitsExceeded
kept q p (x ∷ xs) = store q p (x ∷ xs) >>= λ _. pure (x ∷ xs)

abbrev pub found_or : Option Table → M Table → M Table
found_or (Some t) m = pure t
found_or None m = m

-- what is remembered is not searched again
unfoldable pub remembering : Policy → Probs → M Table → M Table
remembering q p body s = found_or (lookup q p s.stored) (body >>= λ t. kept q p t) s

abbrev pub Body : Type 0
Body = Probs → Again → M Table

abbrev pub without : Probs → Probs
without p = probs p.sat None

-- what the body may ask for again: where the policy may be dissatisfied, its search without dissatisfaction
abbrev pub again_at : Policy → Body → Probs → Option Float → Again
again_at q body p None = alone
again_at q body p (Some d) = redo (remembering q (without p) (body (without p) alone))

unfoldable pub searching : Policy → Body → Probs → M Table
searching q body p = remembering q p (body p (again_at q body p p.dissat))

-- candidates that have no children, in turn
abbrev pub leaves : Context → List Candidate → Body
leaves c xs p g = for_each (λ x. wrapped c p g x) xs []

-- ---- And: left, right, then both without dissatisfaction, all of which are searched before anything is paired

unfoldable pub and_body : Context → Searcher → Searcher → Body
and_body c l r p g = do
  left ← search_of l p
  right ← search_of r p
  right₀ ← search_of r (without p)
  left₀ ← search_of l (without p)
  t ← binary c p g and_b 1· 1· left right []
  t ← binary c p g and_b 1· 1· right left t
  t ← binary c p g and_v 1· 1· left right t
  t ← binary c p g and_v 1· 1· right left t
  t ← ternary c p g 1· 0· left right₀ (false' ∷ []) t
  ternary c p g 1· 0· right left₀ (false' ∷ []) t

-- ---- Or

abbrev pub or_none : Option Float → Float
or_none (Some d) = d
or_none None = 0·

-- the two sides of an And beside another policy: the first of the And's sides decides
unfoldable pub and_ors : Context → Probs → Again → Searcher → Searcher → Float → Float → Table → M Table
and_ors c p g (plain q f) other w v t = pure t
and_ors c p g (conjunction q f x y) other w v t = do
  let sat = w ⊗ p.sat
  let dissat = Some (or_none p.dissat ⊕ v ⊗ p.sat)
  a₁ ← search_of x (probs sat dissat)
  a₂ ← search_of x (probs sat None)
  b₁ ← search_of y (probs sat dissat)
  b₂ ← search_of y (probs sat None)
  z ← search_of other (probs (v ⊗ p.sat) p.dissat)
  t ← ternary c p g w v a₁ b₂ z t
  ternary c p g w v b₁ a₂ z t

-- both sides at the weights w and v of theirs and of the other side's: four times, as they may be dissatisfied
pub record Four : Type 0 where
  pub both : Table
  pub other : Table
  pub own : Table
  pub none : Table

unfoldable pub four_of : Searcher → Probs → Float → Float → M Four
four_of s p w v = do
  let sat = w ⊗ p.sat
  t₀ ← search_of s (probs sat (Some (or_none p.dissat ⊕ v ⊗ p.sat)))
  t₁ ← search_of s (probs sat (Some (v ⊗ p.sat)))
  t₂ ← search_of s (probs sat p.dissat)
  t₃ ← search_of s (probs sat None)
  pure (record { both = t₀; other = t₁; own = t₂; none = t₃ })

unfoldable pub or_body : Context → Searcher → Searcher → Float → Float → Body
or_body c l r lw rw p g = do
  t ← and_ors c p g l r lw rw []
  t ← and_ors c p g r l rw lw t
  ls ← four_of l p lw rw
  rs ← four_of r p rw lw
  t ← binary c p g or_b lw rw ls.both rs.both t
  t ← binary c p g or_b rw lw rs.both ls.both t
  t ← binary c p g or_d lw rw ls.both rs.own t
  t ← binary c p g or_d rw lw rs.both ls.own t
  t ← binary c p g or_c lw rw ls.other rs.none t
  t ← binary c p g or_c rw lw rs.other ls.none t
  t ← binary c p g or_i lw rw ls.own rs.none t
  t ← binary c p g or_i rw lw rs.own ls.none t
  t ← binary c p g or_i lw rw ls.none rs.own t
  binary c p g or_i rw lw rs.none ls.own t

-- ---- Thresh

-- the best expression of a child as E and as W
pub record Best : Type 0 where
  pub e : Candidate
  pub w : Candidate

unfoldable pub best_of : Probs → Searcher → M Best
best_of p s = do
  t ← search_of s p
  e ← chosen (cheapest p (suits_thresh B) t)
  t ← search_of s p
  w ← chosen (cheapest p (suits_thresh W) t)
  pure (record { e = e; w = w })

unfoldable pub bests : Probs → List Searcher → M (List Best)
bests p [] = pure []
bests p (s ∷ ss) = do
  b ← best_of p s
  bs ← bests p ss
  pure (b ∷ bs)

-- the child that gains most by being the E: the first whose cost as E exceeds that as W by least, and the first of all where none is below infinity
unfoldable pub most_gaining : Probs → (place best : ℕ) → Float → List Best → ℕ
most_gaining p place best least [] = best
most_gaining p place best least (b ∷ bs) =
    cond (lt (excess (cost_at p b.e) (cost_at p b.w)) least)
    (most_gaining p (suc place) place (excess (cost_at p b.e) (cost_at p b.w)) bs)
    (most_gaining p (suc place) best least bs)

abbrev pub nth : ℕ → Best → List Best → Best
nth n b [] = b
nth zero b (x ∷ xs) = x
nth (suc n) b (x ∷ xs) = nth n b xs

-- the others as W; the first of all stands where the E was
unfoldable pub others_as_w : Best → (gaining place : ℕ) → List Best → List Candidate
others_as_w b m place [] = []
others_as_w b m place (x ∷ xs) = cond (eqb place m) b.w x.w ∷ others_as_w b m (suc place) xs

-- the children of the Thresh: the one that gains most first, as E, in exchange with the first
unfoldable pub arranged : ℕ → List Best → List Candidate
arranged m [] = []
arranged m (b ∷ bs) = (nth m b (b ∷ bs)).e ∷ others_as_w b m 1 bs

-- the keys, if all children are keys
abbrev pub key_or : Policy → Option (List ℕ) → Option (List ℕ)
key_or (Key n) None = None
key_or (Key n) (Some ns) = Some (n ∷ ns)
key_or Unsatisfiable ns = None
key_or Trivial ns = None
key_or (Lock kind n) ns = None
key_or (Hash kind n) ns = None
key_or (And l r) ns = None
key_or (Or l r lw rw) ns = None
key_or (Thresh k xs) ns = None

unfoldable pub keys_of : List Searcher → Option (List ℕ)
keys_of [] = Some []
keys_of (s ∷ ss) = key_or (policy_of s) (keys_of ss)

abbrev pub multi_of : Context → Probs → Again → ℕ → Option (List ℕ) → Table → M Table
multi_of c p g k None t = pure t
multi_of c p g k (Some keys) t = wrapped c p g (multi c k keys) t

-- the Ands that a Thresh with k = n folds to, with their searches
abbrev pub and_searcher : Context → Searcher → Searcher → Searcher
and_searcher c l r =
    conjunction (And (policy_of l) (policy_of r)) (searching (And (policy_of l) (policy_of r)) (and_body c l r)) l r

unfoldable pub fold_ands : Context → Searcher → List Searcher → Searcher
fold_ands c acc [] = acc
fold_ands c acc (s ∷ ss) = fold_ands c (and_searcher c acc s) ss

-- with k = n the table is that of the Ands, although the Thresh and the Multi were searched and inserted
abbrev pub folded_or : Context → Probs → ℕ → List Searcher → Table → M Table
folded_or c p k [] t = pure t
folded_or c p k (s ∷ ss) t = cond (eqb k (suc (length ss))) (search_of (fold_ands c s ss) p) (pure t)

unfoldable pub thresh_body : Context → ℕ → List Searcher → Body
thresh_body c k ss p g = do
  let k_over_n = float_of k ⊘ float_of (length ss)
  let child = probs (p.sat ⊗ k_over_n) (Some (or_none p.dissat ⊕ (1· ⊖ k_over_n) ⊗ p.sat))
  bs ← bests child ss
  t ← wrapped_if_made c p g (thresh_of c k (arranged (most_gaining child 0 0 (inf false) bs) bs)) []
  t ← multi_of c p g k (keys_of ss) t
  folded_or c p k ss t

-- ---- every policy

unfoldable mutual
  pub searcher : Context → Policy → Searcher
  searcher c Unsatisfiable = plain Unsatisfiable (searching Unsatisfiable (leaves c (false' ∷ [])))
  searcher c Trivial = plain Trivial (searching Trivial (leaves c (true' ∷ [])))
  searcher c (Key n) = plain (Key n) (searching (Key n) (leaves c (pk_h c n ∷ pk_k c n ∷ [])))
  searcher c (Lock kind n) = plain (Lock kind n) (searching (Lock kind n) (leaves c (lock kind n ∷ [])))
  searcher c (Hash kind n) = plain (Hash kind n) (searching (Hash kind n) (leaves c (hash kind n ∷ [])))
  searcher c (And l r) = conjunction (And l r) (searching (And l r) (and_body c (searcher c l) (searcher c r))) (searcher c l) (searcher c r)
  searcher c (Or l r lw rw) =
      plain (Or l r lw rw)
      (searching (Or l r lw rw) (or_body c (searcher c l) (searcher c r) (weights lw rw).lw (weights lw rw).rw))
  searcher c (Thresh k xs) = plain (Thresh k xs) (searching (Thresh k xs) (thresh_body c k (searchers c xs)))

  pub searchers : Context → Policies → List Searcher
  searchers c end = []
  searchers c (x ▹ xs) = searcher c x ∷ searchers c xs

-- the best compilations of a policy at given probabilities
abbrev pub search : Context → Policy → Probs → M Table
search c q p = search_of (searcher c q) p
