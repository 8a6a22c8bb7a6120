-- When a context takes a fragment's figures, from src/miniscript/context.rs and limits.rs, and `from_ast` of
-- src/miniscript/mod.rs. Assumes nothing: these are definitions.
use Rattle.figures.specs.declared.SatData.{SatData}
use Rattle.std.specs.Prelude.{Bool, true, false, not, ◌&&◌, ℕ, ◌+◌, leb, eqb, Option, None, Some}
use Rattle.contexts.specs.declared.Context.{Context}
use Rattle.contexts.specs.declared.Context.TheVariants.{Segwitv0, Tap}
use Rattle.figures.specs.declared.ExtData.{ExtData}

-- document 01's numbers of the two kinds that one context refuses
abbrev pub Multi : ℕ
Multi = 57

abbrev pub MultiA : ℕ
MultiA = 58

abbrev pub MAX-OPS-PER-SCRIPT : ℕ
MAX-OPS-PER-SCRIPT = 201

abbrev pub MAX-STANDARD-P2WSH-STACK-ITEMS : ℕ
MAX-STANDARD-P2WSH-STACK-ITEMS = 100

abbrev pub MAX-SCRIPT-SIZE : ℕ
MAX-SCRIPT-SIZE = 10000

abbrev pub MAX-STANDARD-P2WSH-SCRIPT-SIZE : ℕ
MAX-STANDARD-P2WSH-SCRIPT-SIZE = 3600

abbrev pub MAX-STACK-SIZE : ℕ
MAX-STACK-SIZE = 1000

abbrev pub MAX-BLOCK-WEIGHT : ℕ
MAX-BLOCK-WEIGHT = 4000000

abbrev pub MAX-RECURSION-DEPTH : ℕ
MAX-RECURSION-DEPTH = 402

abbrev pub global_consensus : Context → ℕ → ExtData → Bool
global_consensus Segwitv0 kind x = not (eqb kind MultiA) && leb x.pk_cost MAX-SCRIPT-SIZE
global_consensus Tap kind x = not (eqb kind Multi) && leb x.pk_cost MAX-BLOCK-WEIGHT

abbrev pub global_policy : Context → ExtData → Bool
global_policy Segwitv0 x = leb x.pk_cost MAX-STANDARD-P2WSH-SCRIPT-SIZE
global_policy Tap x = true

-- the operations of a satisfaction, executed or not
abbrev pub ops_within : ℕ → Option SatData → Bool
ops_within static None = false
ops_within static (Some d) = leb (static + d.max_exec_op_count) MAX-OPS-PER-SCRIPT

-- the elements of a satisfaction, with those that execution adds
abbrev pub stack_within : Option SatData → Bool
stack_within None = true
stack_within (Some d) = leb (d.max_witness_stack_count + d.max_exec_stack_count) MAX-STACK-SIZE

-- the elements of a satisfaction, with the witness script
abbrev pub items_within : Option SatData → Bool
items_within None = false
items_within (Some d) = leb (d.max_witness_stack_count + 1) MAX-STANDARD-P2WSH-STACK-ITEMS

abbrev pub local_consensus : Context → ExtData → Bool
local_consensus Segwitv0 x = ops_within x.static_ops x.sat_data
local_consensus Tap x = stack_within x.sat_data

abbrev pub local_policy : Context → ExtData → Bool
local_policy Segwitv0 x = items_within x.sat_data
local_policy Tap x = true

unfoldable pub check_global_validity : Context → ℕ → ExtData → Bool
check_global_validity c kind x = global_consensus c kind x && global_policy c x

unfoldable pub check_local_validity : Context → ℕ → ExtData → Bool
check_local_validity c kind x = global_consensus c kind x && global_policy c x && local_consensus c x && local_policy c x

-- whether `from_ast` takes a well-typed fragment
unfoldable pub from_ast : Context → ℕ → ExtData → Bool
from_ast c kind x = leb x.tree_height MAX-RECURSION-DEPTH && check_global_validity c kind x
