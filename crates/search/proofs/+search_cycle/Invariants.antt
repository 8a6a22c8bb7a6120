-- What falls from call to call is `rank`, first the policy's load and then the function's place, and what each loop keeps. Assumes nothing.
use Rattle.std.specs.Prelude.{Ok}
use mathlib.Core.Path.{◌≡◌}
use lib.ListN.{length, take}
use Prim.Native.Nat.{◌≤◌}
use Rattle.definition.specs.Tables.{probs}
use Rattle.definition_laws.specs.Bodies.{again_in}
use Rattle.policies.specs.Array.{policy_at}
use Rattle.definition.specs.Search as definition
use Rattle.search.specs.Searching.{SettledIf}
use Rattle.search.proofs.Wrapping.{CastsOn}
use Rattle.search.proofs.Threshes.{BestsSoFar}
use Rattle.search.proofs.Ranks.{rank}
use Rattle.search.proofs.Staging.{Asking}
use Rattle.search.proofs.Pairing.{PairOn}
use Rattle.search.proofs.Pairing.{PairAllOn}
use Rattle.search.proofs.+search_cycle.Given as goal

abbrev pub decreases-all_bests : goal.decreases-all_bests
decreases-all_bests l = rank l.pol.now l.r l.dissat 13

abbrev pub decreases-and_body : goal.decreases-and_body
decreases-and_body l = rank l.pol.now l.r l.dissat 14

abbrev pub decreases-and_ors : goal.decreases-and_ors
decreases-and_ors l = rank l.pol.now l.r l.dissat 13

abbrev pub decreases-best_of : goal.decreases-best_of
decreases-best_of l = rank l.pol.now l.r l.dissat 17

abbrev pub decreases-body : goal.decreases-body
decreases-body l = rank l.pol.now l.r l.dissat 15

abbrev pub decreases-cast_once : goal.decreases-cast_once
decreases-cast_once l = rank l.pol.now l.r l.dissat 6

abbrev pub decreases-casts_of : goal.decreases-casts_of
decreases-casts_of l = rank l.pol.now l.r l.dissat 7

abbrev pub decreases-folded : goal.decreases-folded
decreases-folded l = rank l.pol.now l.r l.dissat 13

abbrev pub decreases-leaves : goal.decreases-leaves
decreases-leaves l = rank l.pol.now l.r l.dissat 14

abbrev pub decreases-multi : goal.decreases-multi
decreases-multi l = rank l.pol.now l.r l.dissat 13

abbrev pub decreases-or_body : goal.decreases-or_body
decreases-or_body l = rank l.pol.now l.r l.dissat 14

abbrev pub decreases-pair : goal.decreases-pair
decreases-pair l = rank l.pol.now l.r l.dissat 10

abbrev pub decreases-pair_all : goal.decreases-pair_all
decreases-pair_all l = rank l.pol.now l.r l.dissat 11

abbrev pub decreases-search : goal.decreases-search
decreases-search l = rank l.pol.now l.r l.dissat 16

abbrev pub decreases-search_all : goal.decreases-search_all
decreases-search_all l = rank l.pol.now l.r l.dissat 11

abbrev pub decreases-stage : goal.decreases-stage
decreases-stage l = rank l.pol.now l.r l.dissat 12

abbrev pub decreases-thresh_body : goal.decreases-thresh_body
decreases-thresh_body l = rank l.pol.now l.r l.dissat 14

abbrev pub decreases-wrapped : goal.decreases-wrapped
decreases-wrapped l = rank l.pol.now l.r l.dissat 8

abbrev pub decreases-wrapped_if_made : goal.decreases-wrapped_if_made
decreases-wrapped_if_made l = rank l.pol.now l.r l.dissat 9

abbrev pub invariant-all_bests-loop-j : goal.invariant-all_bests-loop-j
invariant-all_bests-loop-j l =
    BestsSoFar l.context (probs l.child_sat l.child_dissat) l.pol (policy_at l.pol l.r) l.j l.es l.ws l.initial.work l.work
    × ((l.j ≤ l.n) × ((length l.es ≡ 16) × (length l.ws ≡ 16)))

abbrev pub invariant-casts_of-loop-number : goal.invariant-casts_of-loop-number
invariant-casts_of-loop-number l =
    CastsOn l.context (probs l.sat l.dissat) (definition.search l.context (policy_at l.pol l.r) (definition.without (probs l.sat l.dissat)))
    l.pol l.initial.done.table l.initial.work l.number l.done.table l.work
    × (l.done.end ≡ Ok tt)

abbrev pub invariant-pair-loop-i : goal.invariant-pair-loop-i
invariant-pair-loop-i l =
    PairOn l.context (probs l.sat l.dissat) (again_in l.context (policy_at l.pol l.r) (probs l.sat l.dissat)) l.pol l.r l.dissat l.a l.slots l.initial.done l.initial.work l.i l.done l.work
    × (l.i ≤ l.many) × SettledIf l.settled l.context l.pol l.r l.sat l.dissat l.done l.work

abbrev pub invariant-pair_all-loop-i : goal.invariant-pair_all-loop-i
invariant-pair_all-loop-i l =
    PairAllOn l.context (probs l.sat l.dissat) (again_in l.context (policy_at l.pol l.r) (probs l.sat l.dissat)) l.pol l.r l.dissat
    (take l.k l.pairings) l.slots l.initial.done l.initial.work l.i l.done l.work
    × ((l.i ≤ l.k) × ((length l.pairings ≡ 10) × (length l.slots ≡ 8)))
    × SettledIf l.settled l.context l.pol l.r l.sat l.dissat l.done l.work

abbrev pub invariant-search_all-loop-j : goal.invariant-search_all-loop-j
invariant-search_all-loop-j l =
    Asking l.context l.pol l.asks l.n l.initial.work l.j l.slots l.work × ((l.j ≤ l.n) × (length l.slots ≡ 8))
