-- The functions that call one another in a search meet their contracts. Each answer cites a lemma of proofs/ on what the calls before it leave.
-- A call asks first that `rank` falls, and then what the callee requires. Assumes nothing.
use Rattle.std.specs.Prelude.{Ok}
use Rattle.std.proofs.Common.{rules}
use Rattle.std.proofs.lemmas.Result.{err_from_is_err_and}
use mathlib.Core.Path.{refl, sym, ◌≡◌, ◌∙◌}
use native.Mathlib.Omega.{arith}
use lib.ListN.{length-set, length, take}
use Rattle.definition.specs.Tables.{probs}
use Rattle.definition_laws.specs.Bodies.{again_in}
use Rattle.policies.specs.Array.{policy_at}
use Rattle.nodes.proofs.Leaves.{pk-h-offers, pk-k-offers}
use Rattle.policies.proofs.Forms.{two-and, two-or}
use Rattle.definition.specs.Search as definition
use Rattle.search.proofs.Asking.{going_more, going-again}
use Rattle.search.proofs.Wrapping.{stays, doing-next, doing-going, made-wrapped, passed_over}
use Rattle.search.proofs.Wrapping.{missing-refused, wrapped-doing, wrapped-plain, wrapped-casts, wrapped-settled}
use Rattle.search.proofs.Wrapping.{unsettled, settled_on, settled-from}
use Rattle.search.proofs.Passing.{small-if-made, leaves-passes, pair-moves}
use Rattle.search.proofs.Wrapping.{flag-some, cast-refused, cast-ready, cast-done, casts-begin, casts-going}
use Rattle.search.proofs.Wrapping.{casts-end, casts-stop, casts-go-on}
use Rattle.search.proofs.Threshes.{searched-slot, bests-begin, best-chosen, best-refused}
use Rattle.search.proofs.Tabling.{fold_stays, thresh-offers, body-thresh}
use Rattle.search.proofs.ThreshAnswers.{going-small, doing-small, multi-yes, multi-no, fold-falls-to, fold-going}
use Rattle.search.proofs.ThreshAnswers.{folded-no, folded-yes, gaining-asks, made_asks, made-doing, gaining-less}
use Rattle.search.proofs.ThreshAnswers.{thresh-no}
use Rattle.search.proofs.Ranks.{below}
use Rattle.search.proofs.Steps.{tabled-well}
use Rattle.offers.proofs.Ends.{end-done}
use Rattle.search.proofs.StageAnswers.{no_ask, no_pairing, ask-falls}
use Rattle.search.proofs.Staging.{asking-begins, asking-ends, asking-going, asking-refused}
use Rattle.search.proofs.Staging.{asking-goes-on, stage-refused, stage-doing, stage-paired, stage-done}
use Rattle.search.proofs.Pairing.{pair-begins, pair-makes, pair-offers, pair-goes-on, pair_ends}
use Rattle.search.proofs.Pairing.{pair-all-begins, pair-all-ends, pair-all-pairs, pair-all-goes-on}
use Rattle.search.proofs.BestAnswers.{again-rank, few-children, child-rank, child-going, first-refused}
use Rattle.search.proofs.BestAnswers.{second-going, second-refused, both_found, all_found}
use Rattle.search.proofs.BodyAnswers.{named-low, head-kind, head-other, head-or, head-thresh, head-leaf}
use Rattle.search.proofs.BodyAnswers.{head-low, thresh-k-low, offers-as, two-under, and-asks-lighter}
use Rattle.search.proofs.BodyAnswers.{or-asks-lighter, and-or-asks-lighter, and-pairings-placed}
use Rattle.search.proofs.BodyAnswers.{or-pairings-placed, and-or-pairings-placed, weights-left, weights-right}
use Rattle.search.proofs.BodyAnswers.{back, leaf-key, tabled-one, or-weights}
use Rattle.search.proofs.Bodies.{empty-doing, search-found, search-made, body-key, body-leaf, body-and, body-or}
use Rattle.search.proofs.Bodies.{and-ors-plain, and-ors-and, all-or-asks, all-or-pairings}
use Rattle.search.proofs.+search_cycle.Goals.{pair-then-not-leaves_all+then-not-settled, pair-then-not-leaves_all+else-not-settled, pair-else-not-leaves_all}
use Rattle.search.proofs.+search_cycle.Goals as goal

pub all_bests-loop-j-init : goal.all_bests-loop-j-init
all_bests-loop-j-init t c = (
  bests-begin c.args.context (probs c.args.child_sat c.args.child_dissat) (policy_at c.args.pol.now c.args.r) _ _
      c.requires.0.ready,
  (omega arith, (refl, refl)),
)

pub all_bests-best_of-requires : goal.all_bests-best_of-requires
all_bests-best_of-requires t c =
    let p = probs c.args.child_sat c.args.child_dissat in (
      below
          (child-rank c.args.context p c.requires.0 c.requires.1.1 c.loop-j.invariant.0 c.loop-j-test.true c.child-a.ensures
          c.args.child_dissat) c.decreases,
      child-going c.args.context p c.requires.0 c.requires.1.1 c.loop-j.invariant.0 c.loop-j-test.true c.child-a.ensures
          c.args.child_dissat,
    )

pub all_bests-returns-in_err-es : goal.all_bests-returns-in_err-es
all_bests-returns-in_err-es t c =
    let p = err_from_is_err_and c.from_residual.result c.from_residual.ensures.1 in
    rw (p.1, p.2)
    (first-refused c.args.context (probs c.args.child_sat c.args.child_dissat) c.requires.0 c.requires.1.1 c.loop-j.invariant.0
    c.loop-j-test.true c.child-a.ensures c.best_of.ensures c.in_err-es.was)

pub all_bests-offset_bounds-es-j : goal.all_bests-offset_bounds-es-j
all_bests-offset_bounds-es-j t c = omega (arith, few-children c.requires.0 c.requires.1.0 c.requires.1.1, c.loop-j-test.true)

pub all_bests-bounds-es-j : goal.all_bests-bounds-es-j
all_bests-bounds-es-j t c = omega (arith, few-children c.requires.0 c.requires.1.0 c.requires.1.1, c.loop-j-test.true)

pub all_bests-best_of-requires-in-loop-j : goal.all_bests-best_of-requires-in-loop-j
all_bests-best_of-requires-in-loop-j t c =
    let p = probs c.args.child_sat c.args.child_dissat in (
      below
          (child-rank c.args.context p c.requires.0 c.requires.1.1 c.loop-j.invariant.0 c.loop-j-test.true c.child-a.ensures
          c.args.child_dissat) c.decreases,
      second-going c.args.context p c.requires.0 c.requires.1.1 c.loop-j.invariant.0 c.loop-j-test.true c.child-a.ensures
          c.best_of.ensures c.in_ok-es.was c.args.child_dissat,
    )

pub all_bests-returns-in_err-ws : goal.all_bests-returns-in_err-ws
all_bests-returns-in_err-ws t c =
    let p = err_from_is_err_and c.from_residual-in_err-ws.result c.from_residual-in_err-ws.ensures.1 in
    rw (p.1, p.2)
    (second-refused c.args.context (probs c.args.child_sat c.args.child_dissat) c.requires.0 c.requires.1.1 c.loop-j.invariant.0
    c.loop-j-test.true c.child-a.ensures c.best_of.ensures c.in_ok-es.was c.best_of-in-loop-j.ensures c.in_err-ws.was)

pub all_bests-offset_bounds-ws-j : goal.all_bests-offset_bounds-ws-j
all_bests-offset_bounds-ws-j t c = omega (arith, few-children c.requires.0 c.requires.1.0 c.requires.1.1, c.loop-j-test.true)

pub all_bests-bounds-ws-j : goal.all_bests-bounds-ws-j
all_bests-bounds-ws-j t c = omega (arith, few-children c.requires.0 c.requires.1.0 c.requires.1.1, c.loop-j-test.true)

pub all_bests-loop-j-preserved : goal.all_bests-loop-j-preserved
all_bests-loop-j-preserved t c = both_found c.args.context (probs c.args.child_sat c.args.child_dissat) c.requires.0 c.requires.1.1 c.loop-j.invariant.0
    c.loop-j-test.true c.child-a.ensures c.best_of.ensures c.in_ok-es.was c.best_of-in-loop-j.ensures c.in_ok-ws.was
    (few-children c.requires.0 c.requires.1.0 c.requires.1.1) c.loop-j.invariant.1.1.0 c.loop-j.invariant.1.1.1

pub all_bests-returns : goal.all_bests-returns
all_bests-returns t c = all_found c.args.context (probs c.args.child_sat c.args.child_dissat) (policy_at c.args.pol.now c.args.r)
    c.loop-j.invariant.0 c.requires.1.1 c.loop-j-test.false c.loop-j.invariant.1.0

pub and_body-stage-requires : goal.and_body-stage-requires
and_body-stage-requires t c = (
  below (omega arith) c.decreases,
  (
    empty-doing c.empty.ensures c.requires.0,
    (
      omega arith,
      (
        and-asks-lighter c.args.sat c.args.dissat c.child-l.result c.child-q.result c.and_asks-asks.ensures
            (two-under c.requires.0.classed.good c.requires.0.named c.requires.0.formed c.child-l.ensures c.child-q.ensures
            (two-and (policy_at c.args.pol.now c.args.r) c.requires.1)),
        (omega arith, and-pairings-placed c.and_pairings-pairings.ensures),
      ),
    ),
  ),
)

pub and_body-returns : goal.and_body-returns
and_body-returns t c = body-and c.args.context c.requires.0.classed.good c.requires.0.named c.args.sat c.args.dissat c.requires.1
    c.child-l.ensures c.child-q.ensures c.and_asks-asks.ensures c.and_pairings-pairings.ensures c.empty.ensures c.stage.ensures

pub and_ors-returns-then-head-ne-AND : goal.and_ors-returns-then-head-ne-AND
and_ors-returns-then-head-ne-AND t c =
    let p = probs c.args.sat c.args.dissat in
    let q = policy_at c.args.pol.now c.args.r in
    let again = again_in c.args.context q p in
    and-ors-plain c.args.context c.requires.0.classed.good again c.args.sat c.args.dissat c.args.w c.args.v c.args.a
    c.args.other c.args.c (head-other (policy_at c.args.pol.now c.args.a) c.head_of-head.ensures c.if-head-ne-AND.true)
    c.requires.0.ready c.requires.0.table

pub and_ors-stage-requires : goal.and_ors-stage-requires
and_ors-stage-requires t c = (
  below (omega arith) c.decreases,
  (
    c.requires.0,
    (
      omega arith,
      (
        and-or-asks-lighter c.args.sat c.args.dissat c.child-x.result c.child-y.result c.args.other c.args.w c.args.v
            c.and_or_asks-asks.ensures c.requires.1.0
            (two-under c.requires.0.classed.good c.requires.1.0.named c.requires.1.0.formed c.child-x.ensures
            c.child-y.ensures
            (two-and (policy_at c.args.pol.now c.args.a)
            (head-kind (policy_at c.args.pol.now c.args.a) c.head_of-head.ensures c.if-head-ne-AND.false))) c.requires.1.1,
        (omega arith, and-or-pairings-placed c.args.w c.args.v c.and_or_pairings-pairings.ensures),
      ),
    ),
  ),
)

pub and_ors-returns : goal.and_ors-returns
and_ors-returns t c =
    let p = probs c.args.sat c.args.dissat in
    let q = policy_at c.args.pol.now c.args.r in
    let again = again_in c.args.context q p in
    and-ors-and c.args.context c.requires.0.classed.good again c.args.sat c.args.dissat c.args.w c.args.v c.args.a
    c.args.other c.args.c c.requires.1.0.named
    (head-kind (policy_at c.args.pol.now c.args.a) c.head_of-head.ensures c.if-head-ne-AND.false) c.child-x.ensures c.child-y.ensures
    c.and_or_asks-asks.ensures c.and_or_pairings-pairings.ensures c.stage.ensures

pub best_of-search-requires : goal.best_of-search-requires
best_of-search-requires t c = (below (omega arith) c.decreases, c.requires)

pub best_of-choose-requires : goal.best_of-choose-requires
best_of-choose-requires t c = searched-slot c.search.ensures _ c.in_ok-s.was

pub best_of-returns-in_err-s : goal.best_of-returns-in_err-s
best_of-returns-in_err-s t c =
    let p = err_from_is_err_and c.from_residual.result c.from_residual.ensures.1 in
    rw (p.1, p.2)
    (best-refused c.args.context (policy_at c.args.pol.now c.args.r) (probs c.args.sat c.args.dissat) c.args.want
    c.search.ensures _ c.in_err-s.was)

pub best_of-returns : goal.best_of-returns
best_of-returns t c = rw c.ok_or.ensures.value
    (best-chosen c.args.context (policy_at c.args.pol.now c.args.r) (probs c.args.sat c.args.dissat) c.args.want
    c.search.ensures _ c.in_ok-s.was c.choose.ensures)

pub body-and_body-requires : goal.body-and_body-requires
body-and_body-requires t c = (below (omega arith) c.decreases, (c.requires, head-kind (policy_at c.args.pol.now c.args.r) c.head_of-head.ensures c.in-10.is))

pub body-returns-in-10 : goal.body-returns-in-10
body-returns-in-10 t c = tabled-one c.and_body.ensures

pub body-overflow_cast-head : goal.body-overflow_cast-head
body-overflow_cast-head t c =
    let q = policy_at c.args.pol.now c.args.r in
    omega
    (arith, (head-low q c.head_of-head.ensures (or-weights q c.requires.formed (head-kind q c.head_of-head.ensures c.in-11.is))).0)

pub body-overflow_cast-head-in-11 : goal.body-overflow_cast-head-in-11
body-overflow_cast-head-in-11 t c =
    let q = policy_at c.args.pol.now c.args.r in
    omega
    (arith, (head-low q c.head_of-head.ensures (or-weights q c.requires.formed (head-kind q c.head_of-head.ensures c.in-11.is))).1)

pub body-or_body-requires : goal.body-or_body-requires
body-or_body-requires t c = (
  below (omega arith) c.decreases,
  (c.requires, head-or (policy_at c.args.pol.now c.args.r) c.head_of-head.ensures c.in-11.is refl refl),
)

pub body-returns-in-11 : goal.body-returns-in-11
body-returns-in-11 t c = tabled-one c.or_body.ensures

pub body-overflow_cast-head-in-12 : goal.body-overflow_cast-head-in-12
body-overflow_cast-head-in-12 t c = omega (arith, thresh-k-low c.requires.classed.good c.requires.named c.requires.formed c.head_of-head.ensures c.in-12.is)

pub body-thresh_body-requires : goal.body-thresh_body-requires
body-thresh_body-requires t c = (
  below (omega arith) c.decreases,
  (c.requires, head-thresh (policy_at c.args.pol.now c.args.r) c.head_of-head.ensures c.in-12.is refl refl),
)

pub body-returns-in-12 : goal.body-returns-in-12
body-returns-in-12 t c = c.thresh_body.ensures

pub body-leaves-requires : goal.body-leaves-requires
body-leaves-requires t c =
    let no = c.in_default.in_default-own.rest in (
      below (omega arith) c.decreases,
      (c.requires, head-leaf (policy_at c.args.pol.now c.args.r) c.head_of-head.ensures no.0.0.1 no.0.1 no.1),
    )

pub body-returns-in_default : goal.body-returns-in_default
body-returns-in_default t c = tabled-one c.leaves.ensures

pub cast_once-search-requires : goal.cast_once-search-requires
cast_once-search-requires t c = (
  below (again-rank c.args.pol.now c.args.r c.args.dissat c.requires.1.0) c.decreases,
  going-again c.requires.0.0 c.requires.1.0,
)

pub cast_once-cast_entries-requires : goal.cast_once-cast_entries-requires
cast_once-cast_entries-requires t c =
    let p = probs c.args.sat c.args.dissat in
    let q = policy_at c.args.pol.now c.args.r in
    let plain = definition.search c.args.context q (definition.without p) in
    let ready = cast-ready c.args.context p plain c.args.number c.requires.0.0.ready c.requires.0.1 c.search.ensures c.in-Ok.is in
    (ready.0, (ready.1, c.requires.1.1))

pub cast_once-returns-in-Err : goal.cast_once-returns-in-Err
cast_once-returns-in-Err t c =
    let p = probs c.args.sat c.args.dissat in
    let q = policy_at c.args.pol.now c.args.r in
    let plain = definition.search c.args.context q (definition.without p) in
    cast-refused c.args.context p plain c.args.number c.requires.0.0.ready c.requires.0.1 c.search.ensures c.in-Err.is

pub cast_once-returns-in-Ok : goal.cast_once-returns-in-Ok
cast_once-returns-in-Ok t c =
    let p = probs c.args.sat c.args.dissat in
    let q = policy_at c.args.pol.now c.args.r in
    let plain = definition.search c.args.context q (definition.without p) in
    cast-done c.args.context p plain c.args.number c.requires.0.0.ready c.requires.0.1 c.search.ensures c.in-Ok.is
    c.cast_entries.ensures

pub casts_of-returns-then-is_err : goal.casts_of-returns-then-is_err
casts_of-returns-then-is_err t c = stays c.requires.0 _ (sym c.is_err.ensures.value ∙ c.if-is_err.true)

pub casts_of-loop-number-init : goal.casts_of-loop-number-init
casts_of-loop-number-init t c =
    let p = probs c.args.sat c.args.dissat in
    let q = policy_at c.args.pol.now c.args.r in
    let plain = definition.search c.args.context q (definition.without p) in
    let well = end-done _ (sym c.is_err.ensures.value ∙ c.if-is_err.false) in
    (casts-begin c.args.context p plain c.requires.0 well, well)

pub casts_of-cast_once-done-requires : goal.casts_of-cast_once-done-requires
casts_of-cast_once-done-requires t c =
    let p = probs c.args.sat c.args.dissat in
    let q = policy_at c.args.pol.now c.args.r in
    let plain = definition.search c.args.context q (definition.without p) in
    let well = end-done _ (sym c.is_err.ensures.value ∙ c.if-is_err.false) in (
      below (omega arith) c.decreases,
      (
        (casts-going c.args.context p plain c.requires.0 well c.loop-number.invariant.0, c.loop-number.invariant.0.table),
        (c.requires.1, c.loop-number-test.true),
      ),
    )

pub casts_of-returns-then-is_err-2 : goal.casts_of-returns-then-is_err-2
casts_of-returns-then-is_err-2 t c =
    let p = probs c.args.sat c.args.dissat in
    let q = policy_at c.args.pol.now c.args.r in
    let plain = definition.search c.args.context q (definition.without p) in
    casts-stop c.args.context p plain c.requires.0 (end-done _ (sym c.is_err.ensures.value ∙ c.if-is_err.false)) c.loop-number.invariant.0 c.loop-number-test.true
    c.cast_once-done.ensures (sym c.is_err-in-loop-number.ensures.value ∙ c.if-is_err-2.true)

pub casts_of-loop-number-preserved : goal.casts_of-loop-number-preserved
casts_of-loop-number-preserved t c =
    let p = probs c.args.sat c.args.dissat in
    let q = policy_at c.args.pol.now c.args.r in
    let plain = definition.search c.args.context q (definition.without p) in
    let next = end-done _ (sym c.is_err-in-loop-number.ensures.value ∙ c.if-is_err-2.false) in
    (casts-go-on c.args.context p plain c.requires.0 (end-done _ (sym c.is_err.ensures.value ∙ c.if-is_err.false)) c.loop-number.invariant.0 c.loop-number-test.true c.cast_once-done.ensures next, next)

pub casts_of-returns : goal.casts_of-returns
casts_of-returns t c =
    let p = probs c.args.sat c.args.dissat in
    let q = policy_at c.args.pol.now c.args.r in
    let plain = definition.search c.args.context q (definition.without p) in
    tabled-well c.loop-number.invariant.1
    (casts-end c.args.context p plain c.requires.0 (end-done _ (sym c.is_err.ensures.value ∙ c.if-is_err.false)) c.loop-number.invariant.0 c.loop-number-test.false c.loop-number.auto.number-end)

pub folded-returns-then-k-n : goal.folded-returns-then-k-n
folded-returns-then-k-n t c = fold_stays c.args.context _ c.requires.1 c.args.c c.if-k-n.true c.requires.0.ready c.requires.0.table

pub folded-returns-then-is_err : goal.folded-returns-then-is_err
folded-returns-then-is_err t c = stays c.requires.0 _ (sym c.is_err.ensures.value ∙ c.if-is_err.true)

pub folded-folded_of-f-requires : goal.folded-folded_of-f-requires
folded-folded_of-f-requires t c = ((doing-small c.requires.0 c.requires.1).stored, (doing-small c.requires.0 c.requires.1).few)

pub folded-search-requires : goal.folded-search-requires
folded-search-requires t c = (
  fold-falls-to c.requires.0 c.requires.1 c.folded_of-f.ensures c.decreases,
  fold-going c.requires.0 c.requires.1 c.folded_of-f.ensures (end-done _ (sym c.is_err.ensures.value ∙ c.if-is_err.false)),
)

pub folded-table_of-requires : goal.folded-table_of-requires
folded-table_of-requires t c = (c.search.ensures.ready.tables, (searched-slot c.search.ensures _ c.in-Ok.is).1.0)

pub folded-returns-in-Err : goal.folded-returns-in-Err
folded-returns-in-Err t c = folded-no c.requires.0 c.requires.1 c.folded_of-f.ensures c.args.context c.args.sat c.if-k-n.false (end-done _ (sym c.is_err.ensures.value ∙ c.if-is_err.false))
    c.search.ensures c.in-Err.is

pub folded-returns-in-Ok : goal.folded-returns-in-Ok
folded-returns-in-Ok t c = folded-yes c.requires.0 c.requires.1 c.folded_of-f.ensures c.args.context c.args.sat c.if-k-n.false (end-done _ (sym c.is_err.ensures.value ∙ c.if-is_err.false))
    c.search.ensures c.in-Ok.is c.table_of.ensures

pub leaves-overflow_cast-r : goal.leaves-overflow_cast-r
leaves-overflow_cast-r t c = omega (arith, named-low c.requires.0.classed.good c.requires.0.named)

pub leaves-wrapped-c-requires : goal.leaves-wrapped-c-requires
leaves-wrapped-c-requires t c = (
  below (omega arith) c.decreases,
  (
    empty-doing c.empty.ensures c.requires.0,
    offers-as c.pk_h-h.ensures (pk-h-offers c.args.work.now c.args.context c.args.r),
    unsettled,
  ),
)

pub leaves-settles-settled-requires : goal.leaves-settles-settled-requires
leaves-settles-settled-requires t c = (c.requires.0.classed, (c.requires.0.named, c.wrapped-c.ensures.ready))

pub leaves-overflow_cast-r-then-kind-eq-KEY : goal.leaves-overflow_cast-r-then-kind-eq-KEY
leaves-overflow_cast-r-then-kind-eq-KEY t c = omega (arith, named-low c.requires.0.classed.good c.requires.0.named)

pub leaves-wrapped-requires : goal.leaves-wrapped-requires
leaves-wrapped-requires t c =
    let p = probs c.args.sat c.args.dissat in
    let q = policy_at c.args.pol.now c.args.r in
    let again = again_in c.args.context q p in
    let doing = empty-doing c.empty.ensures c.requires.0 in (
      below (omega arith) c.decreases,
      (
        doing-next doing _ c.wrapped-c.ensures,
        offers-as c.pk_k.ensures (pk-k-offers c.wrapped-c.new.work c.args.context c.args.r),
        settled-from c.args.context c.args.sat doing (Ok c.pk_h-h.result)
            (made-wrapped c.args.context p again doing refl c.wrapped-c.ensures) c.settles-settled.ensures,
      ),
    )

pub leaves-returns-then-kind-eq-KEY : goal.leaves-returns-then-kind-eq-KEY
leaves-returns-then-kind-eq-KEY t c = body-key c.args.context c.args.sat c.args.dissat (leaf-key c.requires.1 c.if-kind-eq-KEY.true) c.pk_h-h.ensures c.pk_k.ensures
    c.empty.ensures c.wrapped-c.ensures c.wrapped.ensures

pub leaves-overflow_cast-r-2 : goal.leaves-overflow_cast-r-2
leaves-overflow_cast-r-2 t c = omega (arith, named-low c.requires.0.classed.good c.requires.0.named)

pub leaves-wrapped-requires-2 : goal.leaves-wrapped-requires-2
leaves-wrapped-requires-2 t c = (below (omega arith) c.decreases, (empty-doing c.empty-2.ensures c.requires.0, c.leaf_of.ensures.offers c.args.work.now, unsettled))

pub leaves-returns : goal.leaves-returns
leaves-returns t c = body-leaf c.args.context c.args.sat c.args.dissat c.leaf_of.ensures c.requires.1 c.requires.0.formed c.if-kind-eq-KEY.false
    c.empty-2.ensures c.wrapped-2.ensures

pub multi-all_keys-requires : goal.multi-all_keys-requires
multi-all_keys-requires t c = (c.requires.0.classed.good, ((doing-small c.requires.0 c.requires.1).stored, (c.requires.1.is_thresh, sym c.requires.1.is_n)))

pub multi-overflow_cast-r : goal.multi-overflow_cast-r
multi-overflow_cast-r t c = omega (arith, (doing-small c.requires.0 c.requires.1).stored)

pub multi-overflow_cast-n : goal.multi-overflow_cast-n
multi-overflow_cast-n t c = omega (arith, (doing-small c.requires.0 c.requires.1).few)

pub multi-multi_of-x-requires : goal.multi-multi_of-x-requires
multi-multi_of-x-requires t c = ((doing-small c.requires.0 c.requires.1).one, (doing-small c.requires.0 c.requires.1).most)

pub multi-wrapped-requires : goal.multi-wrapped-requires
multi-wrapped-requires t c = (
  below (omega arith) c.decreases,
  (c.requires.0, c.multi_of-x.ensures.offers c.args.work.now (doing-small c.requires.0 c.requires.1).few, unsettled),
)

pub multi-returns-then-all_keys : goal.multi-returns-then-all_keys
multi-returns-then-all_keys t c = multi-yes c.args.context c.args.sat c.requires.0 c.requires.1 c.all_keys.ensures c.if-all_keys.true c.multi_of-x.ensures
    c.wrapped.ensures

pub multi-returns : goal.multi-returns
multi-returns t c = multi-no c.args.context c.args.sat c.requires.0 c.requires.1 c.all_keys.ensures c.if-all_keys.false

pub or_body-and_ors-left-requires : goal.or_body-and_ors-left-requires
or_body-and_ors-left-requires t c = (
  below (omega arith) c.decreases,
  (
    empty-doing c.empty.ensures c.requires.0,
    two-under c.requires.0.classed.good c.requires.0.named c.requires.0.formed c.child-l.ensures c.child-q.ensures
        (two-or (policy_at c.args.pol.now c.args.r) c.requires.1.is_or),
  ),
)

pub or_body-and_ors-both-requires : goal.or_body-and_ors-both-requires
or_body-and_ors-both-requires t c = (
  below (omega arith) c.decreases,
  (
    doing-next (empty-doing c.empty.ensures c.requires.0) _ c.and_ors-left.ensures,
    back
        (two-under c.requires.0.classed.good c.requires.0.named c.requires.0.formed c.child-l.ensures c.child-q.ensures
        (two-or (policy_at c.args.pol.now c.args.r) c.requires.1.is_or)),
  ),
)

pub or_body-stage-requires : goal.or_body-stage-requires
or_body-stage-requires t c = (
  below (omega arith) c.decreases,
  (
    doing-next (doing-next (empty-doing c.empty.ensures c.requires.0) _ c.and_ors-left.ensures) _ c.and_ors-both.ensures,
    (
      omega arith,
      (
        or-asks-lighter c.args.sat c.args.dissat c.child-l.result c.child-q.result c.weights-w.result.lw
            c.weights-w.result.rw c.or_asks-asks.ensures
            (two-under c.requires.0.classed.good c.requires.0.named c.requires.0.formed c.child-l.ensures c.child-q.ensures
            (two-or (policy_at c.args.pol.now c.args.r) c.requires.1.is_or)),
        (omega arith, or-pairings-placed c.weights-w.result.lw c.weights-w.result.rw c.or_pairings-pairings.ensures),
      ),
    ),
  ),
)

pub or_body-returns : goal.or_body-returns
or_body-returns t c = body-or c.args.context c.requires.0.classed.good c.requires.0.named c.args.sat c.args.dissat c.requires.1
    c.child-l.ensures c.child-q.ensures (weights-left c.args.left_weight c.args.right_weight c.weights-w.ensures)
    (weights-right c.args.left_weight c.args.right_weight c.weights-w.ensures)
    (all-or-asks c.child-l.result c.child-q.result c.args.sat c.args.dissat c.weights-w.result.lw c.weights-w.result.rw
    c.or_asks-asks.ensures) (all-or-pairings c.weights-w.result.lw c.weights-w.result.rw c.or_pairings-pairings.ensures) c.empty.ensures
    c.and_ors-left.ensures c.and_ors-both.ensures c.stage.ensures

pub pair-count-many-requires : goal.pair-count-many-requires
pair-count-many-requires t c = c.requires.1

pub pair-loop-i-init : goal.pair-loop-i-init
pair-loop-i-init t c =
    let p = probs c.args.sat c.args.dissat in
    let q = policy_at c.args.pol.now c.args.r in
    let again = again_in c.args.context q p in
    (pair-begins c.args.context p again c.requires.1 c.requires.0, omega arith, c.requires.2)

pub pair-made-x-requires : goal.pair-made-x-requires
pair-made-x-requires t c =
    let p = probs c.args.sat c.args.dissat in
    let q = policy_at c.args.pol.now c.args.r in
    let again = again_in c.args.context q p in
    pair-makes c.args.context p again c.requires.1 c.count-many.ensures c.loop-i.i c.loop-i.invariant.0 c.loop-i-test.true

pub pair-leaves_all-requires : goal.pair-leaves_all-requires
pair-leaves_all-requires t c =
    let p = probs c.args.sat c.args.dissat in
    let q = policy_at c.args.pol.now c.args.r in
    let again = again_in c.args.context q p in
    let long : length c.loop-i.done.table.entries ≡ 128 = search rules in (
      c.loop-i.invariant.0.doing.ready.nodes.long,
      (
        omega (arith, long, c.loop-i.invariant.0.doing.table.few),
        small-if-made (pair-offers c.args.context p again c.requires.1 c.count-many.ensures c.loop-i.i c.loop-i.invariant.0 c.made-x.ensures),
      ),
    )

pub pair-wrapped_if_made-done-requires : goal.pair-wrapped_if_made-done-requires
pair-wrapped_if_made-done-requires t c =
    let p = probs c.args.sat c.args.dissat in
    let q = policy_at c.args.pol.now c.args.r in
    let again = again_in c.args.context q p in (
      below (omega arith) c.decreases,
      (
        c.loop-i.invariant.0.doing,
        pair-offers c.args.context p again c.requires.1 c.count-many.ensures c.loop-i.i c.loop-i.invariant.0 c.made-x.ensures,
        c.loop-i.invariant.2,
      ),
    )

pub pair-settles-settled-requires : goal.pair-settles-settled-requires
pair-settles-settled-requires t c = (c.loop-i.invariant.0.doing.classed, (c.loop-i.invariant.0.doing.named, c.wrapped_if_made-done.ensures.ready))

pub pair-loop-i-preserved : goal.pair-loop-i-preserved
pair-loop-i-preserved t c =
    let p = probs c.args.sat c.args.dissat in
    let q = policy_at c.args.pol.now c.args.r in
    let again = again_in c.args.context q p in
    elim c.if-not-leaves_all.branch [
      | pair-then-not-leaves_all+then-not-settled w ↦
          let on = pair-moves c.args.context c.args.sat w.work-is w.done-is w.settled-is
          (pair-goes-on c.args.context p again c.requires.1 c.count-many.ensures c.loop-i.i c.loop-i.invariant.0 c.loop-i-test.true c.made-x.ensures
          w.wrapped_if_made-done.ensures)
          (settled-from c.args.context c.args.sat c.loop-i.invariant.0.doing c.made-x.result w.wrapped_if_made-done.ensures w.settles-settled.ensures) in
          (on.0, omega (arith, c.loop-i-test.true), on.1)
      | pair-then-not-leaves_all+else-not-settled w ↦
          let on = pair-moves c.args.context c.args.sat w.work-is w.done-is w.settled-is
          (pair-goes-on c.args.context p again c.requires.1 c.count-many.ensures c.loop-i.i c.loop-i.invariant.0 c.loop-i-test.true c.made-x.ensures
          w.wrapped_if_made-done.ensures)
          (settled_on c.args.context c.args.sat c.loop-i.invariant.0.doing c.made-x.result w.wrapped_if_made-done.ensures refl c.loop-i.invariant.2) in
          (on.0, omega (arith, c.loop-i-test.true), on.1)
      | pair-else-not-leaves_all w ↦
          let on = pair-moves c.args.context c.args.sat w.work-is w.done-is w.settled-is
          (pair-goes-on c.args.context p again c.requires.1 c.count-many.ensures c.loop-i.i c.loop-i.invariant.0 c.loop-i-test.true c.made-x.ensures
          (leaves-passes c.args.context c.args.sat c.loop-i.invariant.0.doing c.loop-i.invariant.2 c.made-x.result
          (sym c.leaves_all.ensures ∙ w.if-not-leaves_all.false)))
          c.loop-i.invariant.2 in
          (on.0, omega (arith, c.loop-i-test.true), on.1)
    ]

pub pair-returns : goal.pair-returns
pair-returns t c =
    let eight : length c.args.slots ≡ 8 = search rules in
    let p = probs c.args.sat c.args.dissat in
    let q = policy_at c.args.pol.now c.args.r in
    let again = again_in c.args.context q p in (
      pair_ends c.args.context p again c.requires.1 c.count-many.ensures c.loop-i.i c.loop-i.invariant.0 eight c.loop-i-test.false
          c.loop-i.invariant.1,
      c.loop-i.invariant.2,
    )

pub pair_all-loop-i-init : goal.pair_all-loop-i-init
pair_all-loop-i-init t c =
    let long : length c.args.pairings ≡ 10 = search rules in
    let eight : length c.args.slots ≡ 8 = search rules in
    let p = probs c.args.sat c.args.dissat in
    let q = policy_at c.args.pol.now c.args.r in
    let again = again_in c.args.context q p in (
      pair-all-begins c.args.context p again c.args.pairings c.args.k c.args.slots c.requires.1.1 c.requires.0,
      (omega arith, (long, eight)),
      unsettled,
    )

pub pair_all-bounds-pairings-i : goal.pair_all-bounds-pairings-i
pair_all-bounds-pairings-i t c = omega (arith, c.loop-i-test.true, c.requires.1.0)

pub pair_all-pair-next-requires : goal.pair_all-pair-next-requires
pair_all-pair-next-requires t c =
    let p = probs c.args.sat c.args.dissat in
    let q = policy_at c.args.pol.now c.args.r in
    let again = again_in c.args.context q p in (
      below (omega arith) c.decreases,
      (
        c.loop-i.invariant.0.doing,
        pair-all-pairs c.args.context p again c.args.pairings c.args.k c.args.slots c.requires.1.1
            (omega (arith, c.loop-i.invariant.1.1.0, c.requires.1.0)) c.loop-i.i c.loop-i.invariant.0 c.loop-i-test.true no_pairing refl,
        c.loop-i.invariant.2,
      ),
    )

pub pair_all-loop-i-preserved : goal.pair_all-loop-i-preserved
pair_all-loop-i-preserved t c =
    let p = probs c.args.sat c.args.dissat in
    let q = policy_at c.args.pol.now c.args.r in
    let again = again_in c.args.context q p in (
      pair-all-goes-on c.args.context p again c.args.pairings c.args.k c.args.slots c.requires.1.1
          (omega (arith, c.loop-i.invariant.1.1.0, c.requires.1.0)) c.loop-i.i c.loop-i.invariant.0 c.loop-i-test.true no_pairing refl
          c.loop-i.invariant.1.1.1 c.pair-next.ensures.0,
      (omega (arith, c.loop-i-test.true), c.loop-i.invariant.1.1),
      c.pair-next.ensures.1,
    )

pub pair_all-returns : goal.pair_all-returns
pair_all-returns t c =
    let p = probs c.args.sat c.args.dissat in
    let q = policy_at c.args.pol.now c.args.r in
    let again = again_in c.args.context q p in
    pair-all-ends c.args.context p again c.args.pairings c.args.k c.args.slots c.requires.1.1
    (omega (arith, c.loop-i.invariant.1.1.0, c.requires.1.0)) c.loop-i.i c.loop-i.invariant.0 c.loop-i-test.false c.loop-i.invariant.1.0

pub search-recall-requires : goal.search-recall-requires
search-recall-requires t c = (c.requires.classed, (c.requires.named, c.requires.ready))

pub search-body-c-requires : goal.search-body-c-requires
search-body-c-requires t c = (below (omega arith) c.decreases, c.requires)

pub search-remember-requires : goal.search-remember-requires
search-remember-requires t c = (c.requires.classed, (c.requires.named, (c.body-c.ensures.ready, c.body-c.ensures.table)))

pub search-returns-in-Some : goal.search-returns-in-Some
search-returns-in-Some t c = search-found c.args.context c.requires.ready c.in-Some.s c.in-Some.is c.recall.ensures

pub search-returns-in-None : goal.search-returns-in-None
search-returns-in-None t c = search-made c.args.context c.requires.ready c.in-None.is c.recall.ensures c.body-c.ensures c.remember.ensures

pub search_all-loop-j-init : goal.search_all-loop-j-init
search_all-loop-j-init t c = (asking-begins c.args.context c.args.asks c.args.n c.requires.0.ready _, (omega arith, refl))

pub search_all-bounds-asks-j : goal.search_all-bounds-asks-j
search_all-bounds-asks-j t c = omega (arith, c.loop-j-test.true, c.requires.1.0)

pub search_all-search-requires : goal.search_all-search-requires
search_all-search-requires t c =
    let long : length c.args.asks ≡ 8 = search rules in (
      below
          (ask-falls c.args.pol.now c.args.r c.args.dissat c.args.asks c.args.n (omega (arith, long, c.requires.1.0))
          c.requires.1.1 c.loop-j.j c.loop-j-test.true no_ask 16 11 (omega arith)) c.decreases,
      asking-going c.args.context c.args.asks c.args.n (omega (arith, long, c.requires.1.0)) c.loop-j.j c.loop-j.slots
          c.loop-j.invariant.0 c.loop-j-test.true no_ask refl c.requires.0 c.requires.1.1,
    )

pub search_all-returns-in_err-slots : goal.search_all-returns-in_err-slots
search_all-returns-in_err-slots t c =
    let long : length c.args.asks ≡ 8 = search rules in
    let p = err_from_is_err_and c.from_residual.result c.from_residual.ensures.1 in
    rw (p.1, p.2)
    (asking-refused c.args.context c.args.asks c.args.n (omega (arith, long, c.requires.1.0)) c.loop-j.j c.loop-j.slots
    c.loop-j.invariant.0 c.loop-j-test.true no_ask refl c.search.ensures c.in_err-slots.was)

pub search_all-bounds-slots-j : goal.search_all-bounds-slots-j
search_all-bounds-slots-j t c = omega (arith, c.loop-j-test.true, c.requires.1.0)

pub search_all-loop-j-preserved : goal.search_all-loop-j-preserved
search_all-loop-j-preserved t c =
    let long : length c.args.asks ≡ 8 = search rules in (
      asking-goes-on c.args.context c.args.asks c.args.n (omega (arith, long, c.requires.1.0)) c.loop-j.j c.loop-j.slots
          c.loop-j.invariant.0 c.loop-j-test.true no_ask refl c.search.ensures
          (omega (arith, c.loop-j.invariant.1.1, c.loop-j-test.true, c.requires.1.0)) c.in_ok-slots.was,
      (omega (arith, c.loop-j-test.true), simp length-set c.loop-j.invariant.1.1),
    )

pub search_all-returns : goal.search_all-returns
search_all-returns t c =
    let long : length c.args.asks ≡ 8 = search rules in
    asking-ends c.args.context c.args.asks c.args.n (omega (arith, long, c.requires.1.0)) c.loop-j.j c.loop-j.slots c.loop-j.invariant.0
    c.loop-j-test.false c.loop-j.invariant.1.0

pub stage-returns-then-is_err : goal.stage-returns-then-is_err
stage-returns-then-is_err t c = stays c.requires.0 _ (sym c.is_err.ensures.value ∙ c.if-is_err.true)

pub stage-search_all-requires : goal.stage-search_all-requires
stage-search_all-requires t c = (below (omega arith) c.decreases, (doing-going c.requires.0 (end-done _ (sym c.is_err.ensures.value ∙ c.if-is_err.false)), (c.requires.1.0, c.requires.1.1.0)))

pub stage-pair_all-requires : goal.stage-pair_all-requires
stage-pair_all-requires t c =
    let long : length c.in-Ok.slots ≡ 8 = search rules in
    let p = probs c.args.sat c.args.dissat in
    let q = policy_at c.args.pol.now c.args.r in
    let again = again_in c.args.context q p in
    let well = end-done _ (sym c.is_err.ensures.value ∙ c.if-is_err.false) in (
      below (omega arith) c.decreases,
      (
        stage-doing c.args.context p again c.requires.0 well c.args.asks c.args.n
            (take c.args.k c.args.pairings) c.search_all.ensures c.in-Ok.is,
        (
          c.requires.1.1.1.0,
          stage-paired c.args.context p again c.requires.0 well c.args.asks c.args.n
              (take c.args.k c.args.pairings) c.search_all.ensures c.in-Ok.is (omega (arith, long, c.requires.1.0))
              c.requires.1.1.1.1 c.requires.1.0,
        ),
      ),
    )

pub stage-returns-in-Err : goal.stage-returns-in-Err
stage-returns-in-Err t c =
    let p = probs c.args.sat c.args.dissat in
    let q = policy_at c.args.pol.now c.args.r in
    let again = again_in c.args.context q p in
    stage-refused c.args.context p again c.requires.0 (end-done _ (sym c.is_err.ensures.value ∙ c.if-is_err.false)) c.args.asks c.args.n
    (take c.args.k c.args.pairings) c.search_all.ensures c.in-Err.is

pub stage-returns-in-Ok : goal.stage-returns-in-Ok
stage-returns-in-Ok t c =
    let long : length c.in-Ok.slots ≡ 8 = search rules in
    let p = probs c.args.sat c.args.dissat in
    let q = policy_at c.args.pol.now c.args.r in
    let again = again_in c.args.context q p in
    stage-done c.args.context p again c.requires.0 (end-done _ (sym c.is_err.ensures.value ∙ c.if-is_err.false)) c.args.asks c.args.n
    (take c.args.k c.args.pairings) c.search_all.ensures c.in-Ok.is (omega (arith, long, c.requires.1.0))
    c.requires.1.1.1.1 c.pair_all.ensures

pub thresh_body-overflow_cast-ratio : goal.thresh_body-overflow_cast-ratio
thresh_body-overflow_cast-ratio t c = omega (arith, (going-small c.requires.0 c.requires.1).few)

pub thresh_body-all_bests-requires : goal.thresh_body-all_bests-requires
thresh_body-all_bests-requires t c = (below (omega arith) c.decreases, (going_more c.requires.0, (c.requires.1.is_thresh, c.requires.1.is_n)))

pub thresh_body-returns-in-Err : goal.thresh_body-returns-in-Err
thresh_body-returns-in-Err t c = thresh-no c.args.context c.args.pol.now c.args.r c.args.sat c.args.dissat c.requires.1 c.child_dissat-child_dissat.ensures
    c.all_bests.ensures c.in-Err.is c.empty.ensures

pub thresh_body-most_gaining-gaining-requires : goal.thresh_body-most_gaining-gaining-requires
thresh_body-most_gaining-gaining-requires t c = gaining-asks c.requires.0 c.requires.1 c.all_bests.ensures c.in-Ok.is

pub thresh_body-arrange-row-requires : goal.thresh_body-arrange-row-requires
thresh_body-arrange-row-requires t c = ((going-small c.requires.0 c.requires.1).few, gaining-less (going-small c.requires.0 c.requires.1) c.most_gaining-gaining.ensures)

pub thresh_body-overflow_cast-r : goal.thresh_body-overflow_cast-r
thresh_body-overflow_cast-r t c = omega (arith, (going-small c.requires.0 c.requires.1).stored)

pub thresh_body-overflow_cast-n : goal.thresh_body-overflow_cast-n
thresh_body-overflow_cast-n t c = omega (arith, (going-small c.requires.0 c.requires.1).few)

pub thresh_body-thresh_made-x-requires : goal.thresh_body-thresh_made-x-requires
thresh_body-thresh_made-x-requires t c = made_asks c.requires.0 c.requires.1 c.all_bests.ensures c.in-Ok.is c.arrange-row.ensures

pub thresh_body-wrapped_if_made-one-requires : goal.thresh_body-wrapped_if_made-one-requires
thresh_body-wrapped_if_made-one-requires t c = (
  below (omega arith) c.decreases,
  (
    made-doing c.requires.0 c.requires.1 c.all_bests.ensures c.in-Ok.is c.thresh_made-x.ensures
        c.empty-2.ensures,
    thresh-offers c.thresh_made-x.ensures,
    unsettled,
  ),
)

pub thresh_body-multi-two-requires : goal.thresh_body-multi-two-requires
thresh_body-multi-two-requires t c = (
  below (omega arith) c.decreases,
  (
    doing-next
        (made-doing c.requires.0 c.requires.1 c.all_bests.ensures c.in-Ok.is c.thresh_made-x.ensures c.empty-2.ensures)
        _ c.wrapped_if_made-one.ensures,
    c.requires.1,
  ),
)

pub thresh_body-folded-requires : goal.thresh_body-folded-requires
thresh_body-folded-requires t c = (
  below (omega arith) c.decreases,
  (
    doing-next
        (doing-next
        (made-doing c.requires.0 c.requires.1 c.all_bests.ensures c.in-Ok.is c.thresh_made-x.ensures c.empty-2.ensures)
        _ c.wrapped_if_made-one.ensures) _ c.multi-two.ensures,
    c.requires.1,
  ),
)

pub thresh_body-returns : goal.thresh_body-returns
thresh_body-returns t c = body-thresh c.args.context c.args.pol.now c.args.r c.args.sat c.args.dissat c.requires.1 refl c.child_dissat-child_dissat.ensures
    c.all_bests.ensures c.in-Ok.is c.most_gaining-gaining.ensures c.arrange-row.ensures c.thresh_made-x.ensures
    c.empty-2.ensures c.wrapped_if_made-one.ensures c.multi-two.ensures c.folded.ensures

pub wrapped-insert_closure-closed-requires : goal.wrapped-insert_closure-closed-requires
wrapped-insert_closure-closed-requires t c = (c.requires.0.ready.nodes, (c.requires.0.table, c.requires.1))

pub wrapped-casts_of-requires : goal.wrapped-casts_of-requires
wrapped-casts_of-requires t c = (
  below (omega arith) c.decreases,
  (wrapped-doing c.args.context c.args.sat c.requires.0 (end-done _ (sym c.is_err.ensures.value ∙ c.if-is_err.false)) c.insert_closure-closed.ensures, flag-some c.in-Some.is),
)

pub wrapped-returns-then-settled : goal.wrapped-returns-then-settled
wrapped-returns-then-settled t c = wrapped-settled c.args.context c.args.sat c.requires.0 (end-done _ (sym c.is_err.ensures.value ∙ c.if-is_err.false)) c.insert_closure-closed.ensures c.in-Some.is
    c.if-settled.true c.requires.2

pub wrapped-returns-in-None : goal.wrapped-returns-in-None
wrapped-returns-in-None t c = wrapped-plain c.args.context c.args.sat c.requires.0 (end-done _ (sym c.is_err.ensures.value ∙ c.if-is_err.false)) c.insert_closure-closed.ensures c.in-None.is

pub wrapped-returns-else-settled : goal.wrapped-returns-else-settled
wrapped-returns-else-settled t c = wrapped-casts c.args.context c.args.sat c.requires.0 (end-done _ (sym c.is_err.ensures.value ∙ c.if-is_err.false)) c.insert_closure-closed.ensures c.in-Some.is
    c.casts_of.ensures

pub wrapped-returns-then-is_err : goal.wrapped-returns-then-is_err
wrapped-returns-then-is_err t c = stays c.requires.0 _ (sym c.is_err.ensures.value ∙ c.if-is_err.true)

pub wrapped_if_made-wrapped-requires : goal.wrapped_if_made-wrapped-requires
wrapped_if_made-wrapped-requires t c = (below (omega arith) c.decreases, (c.requires.0, c.requires.1.offers _ c.in-Ok.is, c.requires.2))

pub wrapped_if_made-returns-in-Ok : goal.wrapped_if_made-returns-in-Ok
wrapped_if_made-returns-in-Ok t c =
    let p = probs c.args.sat c.args.dissat in
    let q = policy_at c.args.pol.now c.args.r in
    let again = again_in c.args.context q p in
    made-wrapped c.args.context p again c.requires.0 c.in-Ok.is c.wrapped.ensures

pub wrapped_if_made-returns-in-Err-PassedOver : goal.wrapped_if_made-returns-in-Err-PassedOver
wrapped_if_made-returns-in-Err-PassedOver t c =
    let p = probs c.args.sat c.args.dissat in
    let q = policy_at c.args.pol.now c.args.r in
    let again = again_in c.args.context q p in
    passed_over c.args.context p again c.requires.0 (rw c.in-Err-PassedOver.is at c.in-Err-PassedOver.field-0-is) c.in-Err-PassedOver.is

pub wrapped_if_made-returns-in-Err-Missing : goal.wrapped_if_made-returns-in-Err-Missing
wrapped_if_made-returns-in-Err-Missing t c =
    let p = probs c.args.sat c.args.dissat in
    let q = policy_at c.args.pol.now c.args.r in
    let again = again_in c.args.context q p in
    rw c.«and».ensures (missing-refused c.args.context p again c.requires.0 (rw c.in-Err-Missing.is at c.in-Err-Missing.field-0-is) c.in-Err-Missing.is)
