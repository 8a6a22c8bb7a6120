-- `cache::store` meets its contract: a row, a key and the count are written, or nothing. Assumes nothing.
use Rattle.std.proofs.Common.{arith, rules, ◌≡◌, refl, ◌+◌, ◌*◌, ◌-◌, length, get_or}
use Rattle.cache.specs.Answers.{full}
use Rattle.cache.proofs.Storing.{stored}
use Rattle.cache.proofs.store.Goals as goal

pub returns-then-s-ge-MAX_TABLES : goal.returns-then-s-ge-MAX_TABLES
returns-then-s-ge-MAX_TABLES c = full (omega (arith, c.requires.0.few)) refl

pub returns : goal.returns
returns c =
    let a = 546824 + 32 * get_or c.args.work.now 1 0 in
    let all : length c.args.entries ≡ 128 = search rules in
    stored c.args.work.now c.put_entries.new.row c.args.entries c.args.number c.args.sat c.args.dissat c.args.len
    (a + 32 - a) c.put_key.new.work c.requires.0 c.if-s-ge-MAX_TABLES.false c.requires.1 all (omega arith)
    c.put_entries.ensures c.put_key.ensures
