-- Candidates and how they are made, from AstElemExt, Cast and all_casts in policy/compiler.rs: document 01, "Modules, leaves first", 3 and 4.
use Rattle.correctness.specs.declared.TypeError.TheVariants as TypeError
use Rattle.correctness.specs.declared.TypeError.{TypeError}
use Rattle.std.specs.Prelude.{Bool, true, false, cond, List, [], ◌∷◌, map, ℕ, eqb, length, get_or, Float, Option, None, Some, Result, Ok, Err}
use Rattle.contexts.specs.declared.Context.{Context}
use Rattle.contexts.specs.declared.Context.TheVariants.{Segwitv0, Tap}
use Rattle.types.specs.declared.«Type».{«Type»}
use Rattle.types.specs.TypeRules as type
use Rattle.figures.specs.declared.ExtData.{ExtData}
use Rattle.figures.specs.Rules as ext
use Rattle.figures.specs.Validity.{from_ast}
use Rattle.thresholds.specs.Threshold.{threshold}
use Rattle.costs.specs.declared.Cost.{Cost}
use Rattle.costs.specs.declared.SigType.{SigType}
use Rattle.costs.specs.declared.SigType.TheVariants.{Ecdsa, Schnorr}
use Rattle.costs.specs.Rules as cost
use Rattle.contexts.specs.Leaves.{LockKind, After, Older, HashKind, Sha256, Hash256, Ripemd160, Hash160}
use Rattle.trees.specs.Fragment.{Fragment, Fragments, end, ◌▹◌}
use Rattle.trees.specs.Fragment.{False, True, PkK, PkH, Lock, Hash, Alt, Swap, Check, DupIf, Verify, NonZero, ZeroNotEqual}
use Rattle.trees.specs.Fragment.{AndB, AndV, OrB, OrD, OrC, OrI, AndOr, Thresh, Multi, MultiA}

-- a tree with its type, its figures and its cost
pub record Candidate : Type 0 where
  pub tree : Fragment
  pub ty : «Type»
  pub ext : ExtData
  pub cost : Cost

abbrev pub candidate : Fragment → «Type» → ExtData → Cost → Candidate
candidate f t e c = record { tree = f; ty = t; ext = e; cost = c }

-- document 01's number of a fragment's kind, where a context refuses the kind; 0 for all others
abbrev pub kind_of : Fragment → ℕ
kind_of False = 0
kind_of True = 0
kind_of (PkK n) = 0
kind_of (PkH n) = 0
kind_of (Lock kind n) = 0
kind_of (Hash kind h) = 0
kind_of (Alt x) = 0
kind_of (Swap x) = 0
kind_of (Check x) = 0
kind_of (DupIf x) = 0
kind_of (Verify x) = 0
kind_of (NonZero x) = 0
kind_of (ZeroNotEqual x) = 0
kind_of (AndB x y) = 0
kind_of (AndV x y) = 0
kind_of (OrB x y) = 0
kind_of (OrD x y) = 0
kind_of (OrC x y) = 0
kind_of (OrI x y) = 0
kind_of (AndOr x y z) = 0
kind_of (Thresh k xs) = 0
kind_of (Multi k keys) = 57
kind_of (MultiA k keys) = 58

-- ---- leaves

abbrev pub sig_type : Context → SigType
sig_type Segwitv0 = Ecdsa
sig_type Tap = Schnorr

abbrev pub false' : Candidate
false' = candidate False type.FALSE ext.false_ext cost.FALSE

abbrev pub true' : Candidate
true' = candidate True type.TRUE ext.true_ext cost.TRUE

abbrev pub pk_k : Context → ℕ → Candidate
pk_k c n = candidate (PkK n) type.pk_k (ext.pk_k c) (cost.pk_k (sig_type c))

abbrev pub pk_h : Context → ℕ → Candidate
pk_h c n = candidate (PkH n) type.pk_h (ext.pk_h c) (cost.pk_h (sig_type c))

abbrev pub lock_ext : LockKind → ℕ → ExtData
lock_ext After n = ext.after n
lock_ext Older n = ext.older n

abbrev pub lock : LockKind → ℕ → Candidate
lock kind n = candidate (Lock kind n) type.time (lock_ext kind n) cost.time

abbrev pub hash_ext : HashKind → ExtData
hash_ext Sha256 = ext.sha256
hash_ext Hash256 = ext.hash256
hash_ext Ripemd160 = ext.ripemd160
hash_ext Hash160 = ext.hash160

abbrev pub hash : HashKind → ℕ → Candidate
hash kind h = candidate (Hash kind h) type.hash (hash_ext kind) cost.hash

-- k of some keys, in the form that the context has
abbrev pub multi : Context → ℕ → List ℕ → Candidate
multi Segwitv0 k keys = candidate (Multi k keys) type.multi (ext.multi k (length keys)) (cost.multi k (length keys))
multi Tap k keys = candidate (MultiA k keys) type.multi_a (ext.multi_a k (length keys)) (cost.multi_a k (length keys))

-- ---- casts

abbrev pub typed_as : Result «Type» TypeError → Fragment → ExtData → Cost → Option Candidate
typed_as (Ok t) f e c = Some (candidate f t e c)
typed_as (Err TypeError.IllTyped) f e c = None

-- a cast gives a candidate unless it is ill-typed
abbrev pub Cast : Type 0
Cast = Candidate → Option Candidate

abbrev pub cast_check : Cast
cast_check x = typed_as (type.cast_check x.ty) (Check x.tree) (ext.cast_check x.ext) (cost.cast_check x.cost)

abbrev pub cast_dupif : Context → Cast
cast_dupif c x = typed_as (type.cast_dupif c x.ty) (DupIf x.tree) (ext.cast_dupif x.ext) (cost.cast_dupif x.cost)

abbrev pub cast_likely : Cast
cast_likely x = typed_as (type.cast_likely x.ty) (OrI False x.tree) (ext.cast_likely x.ext) (cost.cast_likely x.cost)

abbrev pub cast_unlikely : Cast
cast_unlikely x = typed_as (type.cast_unlikely x.ty) (OrI x.tree False) (ext.cast_unlikely x.ext) (cost.cast_unlikely x.cost)

abbrev pub cast_verify : Cast
cast_verify x = typed_as (type.cast_verify x.ty) (Verify x.tree) (ext.cast_verify x.ext) (cost.cast_verify x.cost)

abbrev pub cast_nonzero : Cast
cast_nonzero x = typed_as (type.cast_nonzero x.ty) (NonZero x.tree) (ext.cast_nonzero x.ext) (cost.cast_nonzero x.cost)

abbrev pub cast_true : Cast
cast_true x = typed_as (type.cast_true x.ty) (AndV x.tree True) (ext.cast_true x.ext) (cost.cast_true x.cost)

abbrev pub cast_swap : Cast
cast_swap x = typed_as (type.cast_swap x.ty) (Swap x.tree) (ext.cast_swap x.ext) (cost.cast_swap x.cost)

abbrev pub cast_alt : Cast
cast_alt x = typed_as (type.cast_alt x.ty) (Alt x.tree) (ext.cast_alt x.ext) (cost.cast_alt x.cost)

abbrev pub cast_zeronotequal : Cast
cast_zeronotequal x =
    typed_as (type.cast_zeronotequal x.ty) (ZeroNotEqual x.tree) (ext.cast_zeronotequal x.ext) (cost.cast_zeronotequal x.cost)

-- the ten casts, in the order in which they are tried
abbrev pub all_casts : Context → List Cast
all_casts c =
    cast_check ∷ cast_dupif c ∷ cast_likely ∷ cast_unlikely ∷ cast_verify
    ∷ cast_nonzero ∷ cast_true ∷ cast_swap ∷ cast_alt ∷ cast_zeronotequal ∷ []

-- the cast of a number, 0 for the first; from 10 on there is none
abbrev pub cast_no : Context → ℕ → Cast
cast_no c n = get_or (all_casts c) n (λ x. None)

-- ---- pairs, triples and thresholds

-- what putting candidates together gives: nothing where they are ill-typed, which is seen before they are costed
pub data Made : Type 0 where
  passed_over : Made
  missing : Made
  made : Candidate → Made

abbrev pub costed_as : Fragment → «Type» → ExtData → Option Cost → Made
costed_as f t e (Some c) = made (candidate f t e c)
costed_as f t e None = missing

abbrev pub made_as : Result «Type» TypeError → Fragment → ExtData → Option Cost → Made
made_as (Ok t) f e c = costed_as f t e c
made_as (Err TypeError.IllTyped) f e c = passed_over

-- a pair is made at the weights of its two sides
abbrev pub Pair : Type 0
Pair = Float → Float → Candidate → Candidate → Made

abbrev pub and_b : Pair
and_b lw rw l r =
    made_as (type.and_b l.ty r.ty) (AndB l.tree r.tree) (ext.and_b l.ext r.ext) (Some (cost.and_b l.cost r.cost))

abbrev pub and_v : Pair
and_v lw rw l r =
    made_as (type.and_v l.ty r.ty) (AndV l.tree r.tree) (ext.and_v l.ext r.ext) (Some (cost.and_v l.cost r.cost))

abbrev pub or_b : Pair
or_b lw rw l r =
    made_as (type.or_b l.ty r.ty) (OrB l.tree r.tree) (ext.or_b l.ext r.ext) (cost.or_b l.cost r.cost lw rw)

abbrev pub or_d : Pair
or_d lw rw l r =
    made_as (type.or_d l.ty r.ty) (OrD l.tree r.tree) (ext.or_d l.ext r.ext) (cost.or_d l.cost r.cost lw rw)

abbrev pub or_c : Pair
or_c lw rw l r =
    made_as (type.or_c l.ty r.ty) (OrC l.tree r.tree) (ext.or_c l.ext r.ext) (cost.or_c l.cost r.cost lw rw)

abbrev pub or_i : Pair
or_i lw rw l r =
    made_as (type.or_i l.ty r.ty) (OrI l.tree r.tree) (ext.or_i l.ext r.ext) (Some (cost.or_i l.cost r.cost lw rw))

-- the pair of a kind's number: document 01, "Records"; of any other number all is passed over
abbrev pub pair_no : ℕ → Pair
pair_no kind =
    cond (eqb kind 49) and_b
    (cond (eqb kind 50) and_v
    (cond (eqb kind 51) or_b
    (cond (eqb kind 52) or_d
    (cond (eqb kind 53) or_c
    (cond (eqb kind 54) or_i
    (λ lw rw l r. passed_over))))))

-- a triple, at the weights of its first two sides and of its third
abbrev pub and_or : Float → Float → Candidate → Candidate → Candidate → Made
and_or lw rw a b c =
    made_as (type.and_or a.ty b.ty c.ty) (AndOr a.tree b.tree c.tree) (ext.and_or a.ext b.ext c.ext)
    (cost.and_or a.cost b.cost c.cost lw rw)

-- the children of a Thresh
unfoldable pub fragments : List Candidate → Fragments
fragments [] = end
fragments (x ∷ xs) = x.tree ▹ fragments xs

abbrev pub if_valid : Bool → Made → Made
if_valid true m = m
if_valid false m = passed_over

-- a Thresh that `from_ast` takes
unfoldable pub thresh_of : Context → ℕ → List Candidate → Made
thresh_of c k xs =
    if_valid (from_ast c 0 (threshold k (map (λ x. x.ext) xs)))
    (made_as (type.threshold k (map (λ x. x.ty) xs)) (Thresh k (fragments xs)) (threshold k (map (λ x. x.ext) xs))
    (cost.threshold k (length xs) (map (λ x. x.cost) xs)))
