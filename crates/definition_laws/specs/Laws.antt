-- What the laws of compile speak of: well-typed candidates with the figures of their trees, sorted tables, how the state grows, and the tree check
-- of what is written. The rules of figures are asked in the order of document 01, "Records".
use Rattle.std.specs.Prelude.{Bool, true, List, [], ◌∷◌, ◌≡◌, ℕ, ◌+◌, ◌≤◌, length, Option, None, Some, Ok}
use Rattle.contexts.specs.declared.Context.{Context}
use Rattle.types.specs.declared.«Type».{«Type»}
use Rattle.correctness.specs.declared.Base.TheVariants.{B}
use Rattle.figures.specs.declared.ExtData.{ExtData}
use Rattle.figures.specs.Rules as ext
use Rattle.figures.specs.Validity.{check_local_validity}
use Rattle.thresholds.specs.Threshold.{threshold}
use Rattle.costs.specs.declared.Price.{Price}
use Rattle.costs.specs.Price.{is_price}
use Rattle.trees.specs.Fragment.{Fragment, Fragments, end, ◌▹◌, False, True, PkK, PkH, Lock, Hash}
use Rattle.trees.specs.Fragment.{Alt, Swap, Check, DupIf, Verify, NonZero, ZeroNotEqual}
use Rattle.trees.specs.Fragment.{AndB, AndV, OrB, OrD, OrC, OrI, AndOr, Thresh, Multi, MultiA}
use Rattle.trees.specs.Typing.{type_of}
use Rattle.trees.specs.Height.{max_height, height_of}
use Rattle.trees.specs.Reading as answer
use Rattle.trees.specs.TreeCheck.{Typed, check_of}
use Rattle.definition.specs.Candidates.{Candidate, kind_of, lock_ext, hash_ext, Made, passed_over, missing, made}
use Rattle.definition.specs.Tables.{Probs, cost_at, Table, key_before}
use Rattle.definition.specs.Refusals.{State, Res, done, refused, M, max_accepted, max_entries, max_tables, NodesFull, TopLevelNonSafe}
use Rattle.definition.specs.Insertion.{worthwhile}
use Rattle.writing.specs.Writing.{size, bytes_of_tree}
use Rattle.writing.specs.WellFormed.{AllBelow, WellFormed}
use Rattle.definition.specs.Compile.{max_records, compiled, compile}

-- ---- candidates

-- the figures of a tree
unfoldable mutual
  pub figures_of : Context → Fragment → ExtData
  figures_of c False = ext.false_ext
  figures_of c True = ext.true_ext
  figures_of c (PkK n) = ext.pk_k c
  figures_of c (PkH n) = ext.pk_h c
  figures_of c (Lock kind n) = lock_ext kind n
  figures_of c (Hash kind h) = hash_ext kind
  figures_of c (Alt x) = ext.cast_alt (figures_of c x)
  figures_of c (Swap x) = ext.cast_swap (figures_of c x)
  figures_of c (Check x) = ext.cast_check (figures_of c x)
  figures_of c (DupIf x) = ext.cast_dupif (figures_of c x)
  figures_of c (Verify x) = ext.cast_verify (figures_of c x)
  figures_of c (NonZero x) = ext.cast_nonzero (figures_of c x)
  figures_of c (ZeroNotEqual x) = ext.cast_zeronotequal (figures_of c x)
  figures_of c (AndB x y) = ext.and_b (figures_of c x) (figures_of c y)
  figures_of c (AndV x y) = ext.and_v (figures_of c x) (figures_of c y)
  figures_of c (OrB x y) = ext.or_b (figures_of c x) (figures_of c y)
  figures_of c (OrD x y) = ext.or_d (figures_of c x) (figures_of c y)
  figures_of c (OrC x y) = ext.or_c (figures_of c x) (figures_of c y)
  figures_of c (OrI x y) = ext.or_i (figures_of c x) (figures_of c y)
  figures_of c (AndOr x y z) = ext.and_or (figures_of c x) (figures_of c y) (figures_of c z)
  figures_of c (Thresh k xs) = threshold k (figures_of_all c xs)
  figures_of c (Multi k keys) = ext.multi k (length keys)
  figures_of c (MultiA k keys) = ext.multi_a k (length keys)

  pub figures_of_all : Context → Fragments → List ExtData
  figures_of_all c end = []
  figures_of_all c (x ▹ xs) = figures_of c x ∷ figures_of_all c xs

-- a candidate whose tree has its type and its figures, and can be written; of the cost nothing is said, since it depends on the weights on the
-- way to it
pub record Good (c : Context) (x : Candidate) : Type 0 where
  pub typed : type_of c x.tree ≡ Ok x.ty
  pub figured : x.ext ≡ figures_of c x.tree
  pub formed : WellFormed x.tree

-- ---- of all in a list, of the one in an option, of what was made

infixr 30 ◌and◌
pub data All {A : Type 0} (P : A → Type 0) : List A → Type 0 where
  nobody : All P []
  ◌and◌ : {x : A} {xs : List A} → P x → All P xs → All P (x ∷ xs)

pub data IfSome {A : Type 0} (P : A → Type 0) : Option A → Type 0 where
  none_is : IfSome P None
  some_is : {x : A} → P x → IfSome P (Some x)

pub data IfMade (P : Candidate → Type 0) : Made → Type 0 where
  passed_is : IfMade P passed_over
  missing_is : IfMade P missing
  made_is : {x : Candidate} → P x → IfMade P (made x)

-- ---- tables

-- each key comes before those of all later entries, so no two entries have one key
pub data Sorted : Table → Type 0 where
  empty : Sorted []
  first : {x : Candidate} {xs : Table} → All (λ y. key_before x y ≡ true) xs → Sorted xs → Sorted (x ∷ xs)

-- an entry of a table is well-typed, not malleable, one that its context takes, and not too tall
pub record Entry (c : Context) (x : Candidate) : Type 0 where
  pub good : Good c x
  pub worth : worthwhile c x ≡ true

-- a table that a search gives
pub record Proper (c : Context) (t : Table) : Type 0 where
  pub entries : All (Entry c) t
  pub sorted : Sorted t
  pub fits : length t ≤ max_entries

-- a table under construction at given probabilities: what its entries cost can be compared
pub record ProperAt (c : Context) (p : Probs) (t : Table) : Type 0 where
  pub proper : Proper c t
  pub costs : All (λ x. is_price (cost_at p x) ≡ true) t

-- ---- the state

-- every remembered table is proper, and the counts are within their limits
pub record ProperState (c : Context) (s : State) : Type 0 where
  pub tables : All (λ r. Proper c r.table) s.stored
  pub nodes : s.accepted ≤ max_accepted
  pub slots : length s.stored ≤ max_tables

-- the second list is the first with more in front of it
pub data Onto {A : Type 0} (xs : List A) : List A → Type 0 where
  same : Onto xs xs
  more : {x : A} {ys : List A} → Onto xs ys → Onto xs (x ∷ ys)

-- acceptances are only counted up, and tables are only added
pub record Grown (s s' : State) : Type 0 where
  pub counted : s.accepted ≤ s'.accepted
  pub added : Onto s.stored s'.stored

-- the numbers with which a search, or the choice of its root, refuses
abbrev pub Refusal : ℕ → Type 0
Refusal e = (NodesFull ≤ e) × (e ≤ TopLevelNonSafe)

-- from the state s a refusal, or an answer that is as P says and a proper state that has grown
pub data Gives {A : Type 0} (c : Context) (P : A → Type 0) (s : State) : Res A → Type 0 where
  refuses : {e : ℕ} → Refusal e → Gives c P s (refused e)
  gives : {a : A} {s' : State} → P a → ProperState c s' → Grown s s' → Gives c P s (done a s')

-- a computation gives this from every proper state
pub record Keeps {A : Type 0} (c : Context) (P : A → Type 0) (m : M A) : Type 0 where
  pub from : (s : State) → ProperState c s → Gives c P s (m s)

-- ---- what compile promises

-- the bytes write a tree of at most 4,096 records and 128 levels that is well-typed, of base B, safe, not malleable, and within its context's limits
pub record Sound (c : Context) (room : ℕ) (bytes : List ℕ) (nodes : ℕ) : Type 0 where
  pub tree : Fragment
  pub ty : «Type»
  pub written : bytes ≡ bytes_of_tree tree
  pub within : size tree ≤ max_records
  pub fits : length bytes ≤ room
  pub formed : WellFormed tree
  pub typed : type_of c tree ≡ Ok ty
  pub base : ty.corr.base ≡ B
  pub safe : ty.mall.safe ≡ true
  pub non_malleable : ty.mall.non_malleable ≡ true
  pub valid : check_local_validity c (kind_of tree) (figures_of c tree) ≡ true
  pub low : height_of tree ≤ max_height
  pub counted : nodes ≤ max_accepted + 2

-- the bytes pass the tree check, which finds a tree of base B that is safe and not malleable
pub record Passes (context : ℕ) (bytes : List ℕ) : Type 0 where
  pub found : Typed
  pub passed : check_of context bytes max_records ≡ answer.done found
  pub base : found.type.corr.base ≡ B
  pub safe : found.type.mall.safe ≡ true
  pub non_malleable : found.type.mall.non_malleable ≡ true

-- whatever compile writes for the bytes of a policy passes the tree check in the same context
abbrev pub CompilePasses : Type 0
CompilePasses =
    (context : ℕ) (work_fits : Bool) (policy : List ℕ) (room : ℕ) (bytes : List ℕ) (cost : Price) (nodes : ℕ) → AllBelow 256 policy →
    compile context work_fits policy room ≡ compiled bytes cost nodes → Passes context bytes
