-- `spend_leaves::run_numbered` meets its contract, a kind at a time. Assumes nothing.
use native.Mathlib.Omega.{arith}
use Rattle.contexts.specs.Leaves.{After, Older, Sha256, Hash256, Ripemd160, Hash160}
use Rattle.spend_log.specs.Places.{tables_in}
use Rattle.script_leaves.proofs.Leaves.{is_false, is_true, is-pk-k, is-pk-h, is-after, is-older, is-sha256, is-hash256, is-ripemd160, is-hash160}
use Rattle.spend_leaves.proofs.Ranges.{hash-reaches, hash-in}
use Rattle.spend_leaves.proofs.Pieces.{named, false-runs, true-runs, pk-k-runs, pk-k-ready, pk-h-ready, hash-ready}
use Rattle.spend_leaves.proofs.run_numbered.Goals as goal

pub push_number-requires : goal.push_number-requires
push_number-requires c = c.requires.0

pub push_key-requires : goal.push_key-requires
push_key-requires c = let its-tables = tables_in c.args.log.now c.args.head in
    (c.requires.0, pk-k-ready c.args.context its-tables c.args.n c.requires.1 (is-pk-k c.args.kind c.args.n c.in-34.is))

pub run_pk_h-requires : goal.run_pk_h-requires
run_pk_h-requires c = let its-tables = tables_in c.args.log.now c.args.head in
    (c.requires.0, pk-h-ready c.args.context its-tables c.args.n c.requires.1 (is-pk-h c.args.kind c.args.n c.in-35.is))

pub overflow_cast-n : goal.overflow_cast-n
overflow_cast-n c = omega (arith, c.requires.2 (omega (arith, c.in-36.is)) (omega (arith, c.in-36.is)))

pub run_lock-requires : goal.run_lock-requires
run_lock-requires c = c.requires.0

pub overflow_cast-n-in-37 : goal.overflow_cast-n-in-37
overflow_cast-n-in-37 c = omega (arith, c.requires.2 (omega (arith, c.in-37.is)) (omega (arith, c.in-37.is)))

pub run_lock-requires-in-37 : goal.run_lock-requires-in-37
run_lock-requires-in-37 c = c.requires.0

pub run_hash-requires : goal.run_hash-requires
run_hash-requires c = let its-tables = tables_in c.args.log.now c.args.head in (
  c.requires.0,
  hash-reaches c.args.log.now c.args.head c.args.n Sha256 (hash-ready c.args.context its-tables c.args.n c.requires.1 Sha256
      (is-sha256 c.args.kind c.args.n c.in-38.is)),
)

pub run_hash-requires-in-39 : goal.run_hash-requires-in-39
run_hash-requires-in-39 c = let its-tables = tables_in c.args.log.now c.args.head in (
  c.requires.0,
  hash-reaches c.args.log.now c.args.head c.args.n Hash256 (hash-ready c.args.context its-tables c.args.n c.requires.1 Hash256
      (is-hash256 c.args.kind c.args.n c.in-39.is)),
)

pub run_hash-requires-in-40 : goal.run_hash-requires-in-40
run_hash-requires-in-40 c = let its-tables = tables_in c.args.log.now c.args.head in (
  c.requires.0,
  hash-reaches c.args.log.now c.args.head c.args.n Ripemd160 (hash-ready c.args.context its-tables c.args.n c.requires.1 Ripemd160
      (is-ripemd160 c.args.kind c.args.n c.in-40.is)),
)

pub run_hash-requires-in-41 : goal.run_hash-requires-in-41
run_hash-requires-in-41 c = let its-tables = tables_in c.args.log.now c.args.head in (
  c.requires.0,
  hash-reaches c.args.log.now c.args.head c.args.n Hash160 (hash-ready c.args.context its-tables c.args.n c.requires.1 Hash160
      (is-hash160 c.args.kind c.args.n c.in-41.is)),
)

pub push_number-requires-in_default : goal.push_number-requires-in_default
push_number-requires-in_default c = c.requires.0

pub shape_of-main-in-33 : goal.shape_of-main-in-33
shape_of-main-in-33 c = c.push_number.ensures.same

pub returns-in-33 : goal.returns-in-33
returns-in-33 c = let its-tables = tables_in c.args.log.now c.args.head in
    named c.args.context its-tables (is_true c.args.kind c.args.n c.in-33.is) (true-runs c.args.context its-tables c.push_number.ensures)

pub shape_of-main-in-34 : goal.shape_of-main-in-34
shape_of-main-in-34 c = c.push_key.ensures.same

pub returns-in-34 : goal.returns-in-34
returns-in-34 c = let its-tables = tables_in c.args.log.now c.args.head in
    named c.args.context its-tables (is-pk-k c.args.kind c.args.n c.in-34.is) (pk-k-runs c.args.context its-tables c.args.n c.push_key.ensures)

pub returns-in-35 : goal.returns-in-35
returns-in-35 c = let its-tables = tables_in c.args.log.now c.args.head in
    named c.args.context its-tables (is-pk-h c.args.kind c.args.n c.in-35.is) (c.run_pk_h.ensures c.args.context)

pub returns-in-36 : goal.returns-in-36
returns-in-36 c = let its-tables = tables_in c.args.log.now c.args.head in
    named c.args.context its-tables (is-after c.args.kind c.args.n c.in-36.is) (c.run_lock.ensures c.args.context its-tables After)

pub returns-in-37 : goal.returns-in-37
returns-in-37 c = let its-tables = tables_in c.args.log.now c.args.head in
    named c.args.context its-tables (is-older c.args.kind c.args.n c.in-37.is) (c.run_lock-in-37.ensures c.args.context its-tables Older)

pub returns-in-38 : goal.returns-in-38
returns-in-38 c = let its-tables = tables_in c.args.log.now c.args.head in
    named c.args.context its-tables (is-sha256 c.args.kind c.args.n c.in-38.is) (c.run_hash.ensures c.args.context its-tables Sha256 (hash-in
    c.args.log.now c.args.head c.args.n Sha256 (hash-ready c.args.context its-tables c.args.n c.requires.1 Sha256 (is-sha256 c.args.kind c.args.n
    c.in-38.is))))

pub returns-in-39 : goal.returns-in-39
returns-in-39 c = let its-tables = tables_in c.args.log.now c.args.head in
    named c.args.context its-tables (is-hash256 c.args.kind c.args.n c.in-39.is) (c.run_hash-in-39.ensures c.args.context its-tables Hash256 (hash-in
    c.args.log.now c.args.head c.args.n Hash256 (hash-ready c.args.context its-tables c.args.n c.requires.1 Hash256 (is-hash256 c.args.kind c.args.n
    c.in-39.is))))

pub returns-in-40 : goal.returns-in-40
returns-in-40 c = let its-tables = tables_in c.args.log.now c.args.head in
    named c.args.context its-tables (is-ripemd160 c.args.kind c.args.n c.in-40.is) (c.run_hash-in-40.ensures c.args.context its-tables Ripemd160 (hash-in
    c.args.log.now c.args.head c.args.n Ripemd160 (hash-ready c.args.context its-tables c.args.n c.requires.1 Ripemd160 (is-ripemd160 c.args.kind c.args.n
    c.in-40.is))))

pub returns-in-41 : goal.returns-in-41
returns-in-41 c = let its-tables = tables_in c.args.log.now c.args.head in
    named c.args.context its-tables (is-hash160 c.args.kind c.args.n c.in-41.is) (c.run_hash-in-41.ensures c.args.context its-tables Hash160 (hash-in
    c.args.log.now c.args.head c.args.n Hash160 (hash-ready c.args.context its-tables c.args.n c.requires.1 Hash160 (is-hash160 c.args.kind c.args.n
    c.in-41.is))))

pub shape_of-main-in_default : goal.shape_of-main-in_default
shape_of-main-in_default c = c.push_number-in_default.ensures.same

pub returns-in_default : goal.returns-in_default
returns-in_default c = let its-tables = tables_in c.args.log.now c.args.head in
    named c.args.context its-tables (is_false c.args.kind c.args.n c.in_default.in_default-own.rest.0.0.0.0.0.0.0.0.1 c.in_default.in_default-own.rest.0.0.0.0.0.0.0.1
    c.in_default.in_default-own.rest.0.0.0.0.0.0.1 c.in_default.in_default-own.rest.0.0.0.0.0.1 c.in_default.in_default-own.rest.0.0.0.0.1 c.in_default.in_default-own.rest.0.0.0.1 c.in_default.in_default-own.rest.0.0.1
    c.in_default.in_default-own.rest.0.1 c.in_default.in_default-own.rest.1) (false-runs c.args.context its-tables c.push_number-in_default.ensures)
