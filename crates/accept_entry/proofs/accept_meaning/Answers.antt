use mathlib.Core.Path.{refl}
use Rattle.policies.specs.Array.{policy_at}
use Rattle.accept_entry.proofs.Judging.{gathered-both, too_many_lem, alike, not_alike}
use Rattle.accept_entry.proofs.accept_meaning.Goals as goal

pub add_policy-second-requires : goal.add_policy-second-requires
add_policy-second-requires c = (c.requires.0.0, (c.requires.0.1, c.none_yet-first.ensures.roomy))

pub returns-then-all : goal.returns-then-all
returns-then-all c = record {
  verdict = too_many_lem (gathered-both (policy_at c.args.pol.now c.args.root) c.none_yet-first.ensures.gathered c.add_policy-second.ensures.gathered c.add_tree-all.ensures.gathered) c.add_tree-all.ensures.roomy c.if-all.true;
  work_len_unchanged = refl;
}

pub alike-requires : goal.alike-requires
alike-requires c = (c.requires.0, (c.requires.1.0, (c.requires.1.1, c.add_tree-all.ensures.roomy)))

pub returns-then-not-alike : goal.returns-then-not-alike
returns-then-not-alike c = record {
  verdict = not_alike (gathered-both (policy_at c.args.pol.now c.args.root) c.none_yet-first.ensures.gathered c.add_policy-second.ensures.gathered c.add_tree-all.ensures.gathered) c.add_tree-all.ensures.roomy c.if-all.false c.alike.ensures.says c.if-not-alike.true;
  work_len_unchanged = c.alike.ensures.work_len_unchanged;
}

pub returns : goal.returns
returns c = record {
  verdict = alike (gathered-both (policy_at c.args.pol.now c.args.root) c.none_yet-first.ensures.gathered c.add_policy-second.ensures.gathered c.add_tree-all.ensures.gathered) c.add_tree-all.ensures.roomy c.if-all.false c.alike.ensures.says c.if-not-alike.false;
  work_len_unchanged = c.alike.ensures.work_len_unchanged;
}
