-- What the nodes in work memory stand for: candidates that carry their trees, as the definition of compile has them. A leaf holds the number of
-- a record of the policy, and so do Thresh, Multi and MultiA; the children of a Thresh are its row. Assumes nothing.
use Rattle.std.specs.Prelude.{List, [], ◌∷◌, ◌++◌, map, ℕ, zero, suc, length, get_or, Option, None, Some}
use Rattle.contexts.specs.Leaves.{After, Older, Sha256, Hash256, Ripemd160, Hash160}
use Rattle.policies.specs.Policy.{Policy}
use Rattle.policies.specs.Forms.{number_of, k_of, children_of}
use Rattle.policies.specs.Array.{policy_at}
use Rattle.trees.specs.Fragment.{Fragment, False, True, PkK, PkH, Lock, Hash, Alt, Swap, Check, DupIf, Verify, NonZero, ZeroNotEqual}
use Rattle.trees.specs.Fragment.{AndB, AndV, OrB, OrD, OrC, OrI, AndOr, Thresh, Multi, MultiA}
use Rattle.trees.specs.Tree.{Line, ◌is◌, find}
use Rattle.definition.specs.Candidates.{Candidate, candidate, false', fragments}
use Rattle.definition.specs.Tables.{Table}
use Rattle.candidates.specs.declared.Candidate as code
use Rattle.memory.specs.Layout.{node_count}
use Rattle.nodes.specs.Words.{node_at, row_child}

-- the candidate of a number, of those that are there
abbrev pub among : Table → ℕ → Candidate
among xs e = get_or xs e false'

-- the first n children of a row
unfoldable pub row_at : List ℕ → (row n : ℕ) → List ℕ
row_at m row zero = []
row_at m row (suc n) = row_at m row n ++ (row_child m row n ∷ [])

-- ---- the tree of a candidate, its children being among some

-- what a tree is made of: the policy that it holds, the trees of its three children, and those of its row
pub record Parts : Type 0 where
  pub held : Policy
  pub first : Fragment
  pub second : Fragment
  pub third : Fragment
  pub row : Table

abbrev pub keys_of : Policy → List ℕ
keys_of p = map number_of (children_of p)

abbrev pub makers : List (Line (Parts → Fragment))
makers =
    32 is (λ p. False)
    ∷ 33 is (λ p. True)
    ∷ 34 is (λ p. PkK (number_of p.held))
    ∷ 35 is (λ p. PkH (number_of p.held))
    ∷ 36 is (λ p. Lock After (number_of p.held))
    ∷ 37 is (λ p. Lock Older (number_of p.held))
    ∷ 38 is (λ p. Hash Sha256 (number_of p.held))
    ∷ 39 is (λ p. Hash Hash256 (number_of p.held))
    ∷ 40 is (λ p. Hash Ripemd160 (number_of p.held))
    ∷ 41 is (λ p. Hash Hash160 (number_of p.held))
    ∷ 42 is (λ p. Alt p.first)
    ∷ 43 is (λ p. Swap p.first)
    ∷ 44 is (λ p. Check p.first)
    ∷ 45 is (λ p. DupIf p.first)
    ∷ 46 is (λ p. Verify p.first)
    ∷ 47 is (λ p. NonZero p.first)
    ∷ 48 is (λ p. ZeroNotEqual p.first)
    ∷ 49 is (λ p. AndB p.first p.second)
    ∷ 50 is (λ p. AndV p.first p.second)
    ∷ 51 is (λ p. OrB p.first p.second)
    ∷ 52 is (λ p. OrD p.first p.second)
    ∷ 53 is (λ p. OrC p.first p.second)
    ∷ 54 is (λ p. OrI p.first p.second)
    ∷ 55 is (λ p. AndOr p.first p.second p.third)
    ∷ 56 is (λ p. Thresh (k_of p.held) (fragments p.row))
    ∷ 57 is (λ p. Multi (k_of p.held) (keys_of p.held))
    ∷ 58 is (λ p. MultiA (k_of p.held) (keys_of p.held))
    ∷ []

abbrev pub make_by : Option (Parts → Fragment) → Parts → Fragment
make_by (Some maker) p = maker p
make_by None p = False

-- of a candidate in memory m, over candidates that are there, for the policy in the array pol
abbrev pub parts_of : (pol m : List ℕ) → Table → code.Candidate → Parts
parts_of pol m xs x =
    record {
      held = policy_at pol x.first;
      first = (among xs x.first).tree;
      second = (among xs x.second).tree;
      third = (among xs x.third).tree;
      row = map (among xs) (row_at m x.second (length (children_of (policy_at pol x.first))));
    }

unfoldable pub tree_of : (pol m : List ℕ) → Table → code.Candidate → Fragment
tree_of pol m xs x = make_by (find x.kind makers) (parts_of pol m xs x)

unfoldable pub seen_as : (pol m : List ℕ) → Table → code.Candidate → Candidate
seen_as pol m xs x = candidate (tree_of pol m xs x) x.ty x.ext x.cost

-- the candidates of the first n nodes: each is made of those before it
unfoldable pub first_nodes : (pol m : List ℕ) → (n : ℕ) → Table
first_nodes pol m zero = []
first_nodes pol m (suc n) = first_nodes pol m n ++ (seen_as pol m (first_nodes pol m n) (node_at m n) ∷ [])

-- all candidates in memory
abbrev pub all_nodes : (pol m : List ℕ) → Table
all_nodes pol m = first_nodes pol m (node_count m)

-- the candidate of a node's number
abbrev pub seen : (pol m : List ℕ) → ℕ → Candidate
seen pol m e = among (all_nodes pol m) e

-- a table is a list of node numbers
abbrev pub seen_all : (pol m : List ℕ) → List ℕ → Table
seen_all pol m es = map (seen pol m) es

-- what a candidate that is not in memory yet stands for
abbrev pub offered : (pol m : List ℕ) → code.Candidate → Candidate
offered pol m x = seen_as pol m (all_nodes pol m) x
