-- `script_leaves::lay_numbered` meets its contract, a kind at a time. Assumes nothing.
use native.Mathlib.Omega.{arith}
use Rattle.contexts.specs.Leaves.{After, Older, Sha256, Hash256, Ripemd160, Hash160}
use Rattle.script_bytes.proofs.Merging.{bytes-false, bytes-true, bytes-pk_k, bytes-pk_h, bytes-lock, bytes-hash}
use Rattle.script_leaves.specs.Lent.{lent}
use Rattle.script_leaves.proofs.Laws.{keeps-length}
use Rattle.script_leaves.proofs.Leaves.{laid_leaf, pk-k-ready, pk-h-ready, hash-ready, is_false, is_true, is-pk-k, is-pk-h}
use Rattle.script_leaves.proofs.Leaves.{is-after, is-older, is-sha256, is-hash256, is-ripemd160, is-hash160}
use Rattle.script_leaves.proofs.lay_numbered.Goals as goal

pub overflow_cast-n : goal.overflow_cast-n
overflow_cast-n c = omega (arith, c.requires.1 (omega (arith, c.in-36.is)) (omega (arith, c.in-36.is)))

pub overflow_cast-n-in-37 : goal.overflow_cast-n-in-37
overflow_cast-n-in-37 c = omega (arith, c.requires.1 (omega (arith, c.in-37.is)) (omega (arith, c.in-37.is)))

pub shape_of-out-in-33 : goal.shape_of-out-in-33
shape_of-out-in-33 c = keeps-length c.put_op.ensures

pub shape_of-out-in-34 : goal.shape_of-out-in-34
shape_of-out-in-34 c = keeps-length c.lay_pk_k.ensures

pub shape_of-out-in-35 : goal.shape_of-out-in-35
shape_of-out-in-35 c = keeps-length c.lay_pk_h.ensures

pub shape_of-out-in-36 : goal.shape_of-out-in-36
shape_of-out-in-36 c = keeps-length c.lay_lock.ensures

pub shape_of-out-in-37 : goal.shape_of-out-in-37
shape_of-out-in-37 c = keeps-length c.lay_lock-in-37.ensures

pub shape_of-out-in-38 : goal.shape_of-out-in-38
shape_of-out-in-38 c = keeps-length c.lay_hash.ensures

pub shape_of-out-in-39 : goal.shape_of-out-in-39
shape_of-out-in-39 c = keeps-length c.lay_hash-in-39.ensures

pub shape_of-out-in-40 : goal.shape_of-out-in-40
shape_of-out-in-40 c = keeps-length c.lay_hash-in-40.ensures

pub shape_of-out-in-41 : goal.shape_of-out-in-41
shape_of-out-in-41 c = keeps-length c.lay_hash-in-41.ensures

pub shape_of-out-in_default : goal.shape_of-out-in_default
shape_of-out-in_default c = keeps-length c.put_op-in_default.ensures

pub lay_pk_k-requires : goal.lay_pk_k-requires
lay_pk_k-requires c = let t = lent c.args.tables in
    pk-k-ready c.args.context t c.args.n c.requires.0 (is-pk-k c.args.kind c.args.n c.in-34.is)

pub lay_pk_h-requires : goal.lay_pk_h-requires
lay_pk_h-requires c = let t = lent c.args.tables in
    pk-h-ready c.args.context t c.args.n c.requires.0 (is-pk-h c.args.kind c.args.n c.in-35.is)

pub lay_hash-requires : goal.lay_hash-requires
lay_hash-requires c = let t = lent c.args.tables in
    hash-ready c.args.context t c.args.n c.requires.0 Sha256 (is-sha256 c.args.kind c.args.n c.in-38.is)

pub lay_hash-requires-in-39 : goal.lay_hash-requires-in-39
lay_hash-requires-in-39 c = let t = lent c.args.tables in
    hash-ready c.args.context t c.args.n c.requires.0 Hash256 (is-hash256 c.args.kind c.args.n c.in-39.is)

pub lay_hash-requires-in-40 : goal.lay_hash-requires-in-40
lay_hash-requires-in-40 c = let t = lent c.args.tables in
    hash-ready c.args.context t c.args.n c.requires.0 Ripemd160 (is-ripemd160 c.args.kind c.args.n c.in-40.is)

pub lay_hash-requires-in-41 : goal.lay_hash-requires-in-41
lay_hash-requires-in-41 c = let t = lent c.args.tables in
    hash-ready c.args.context t c.args.n c.requires.0 Hash160 (is-hash160 c.args.kind c.args.n c.in-41.is)

pub returns-in-33 : goal.returns-in-33
returns-in-33 c = let t = lent c.args.tables in
    laid_leaf c.args.context t c.args.verified (is_true c.args.kind c.args.n c.in-33.is) (bytes-true c.args.context t c.args.verified)
    c.put_op.ensures

pub returns-in-34 : goal.returns-in-34
returns-in-34 c = let t = lent c.args.tables in
    laid_leaf c.args.context t c.args.verified (is-pk-k c.args.kind c.args.n c.in-34.is)
    (bytes-pk_k c.args.context t c.args.verified c.args.n) c.lay_pk_k.ensures

pub returns-in-35 : goal.returns-in-35
returns-in-35 c = let t = lent c.args.tables in
    laid_leaf c.args.context t c.args.verified (is-pk-h c.args.kind c.args.n c.in-35.is)
    (bytes-pk_h c.args.context t c.args.verified c.args.n) c.lay_pk_h.ensures

pub returns-in-36 : goal.returns-in-36
returns-in-36 c = let t = lent c.args.tables in
    laid_leaf c.args.context t c.args.verified (is-after c.args.kind c.args.n c.in-36.is)
    (bytes-lock c.args.context t c.args.verified After c.args.n) c.lay_lock.ensures

pub returns-in-37 : goal.returns-in-37
returns-in-37 c = let t = lent c.args.tables in
    laid_leaf c.args.context t c.args.verified (is-older c.args.kind c.args.n c.in-37.is)
    (bytes-lock c.args.context t c.args.verified Older c.args.n) c.lay_lock-in-37.ensures

pub returns-in-38 : goal.returns-in-38
returns-in-38 c = let t = lent c.args.tables in
    laid_leaf c.args.context t c.args.verified (is-sha256 c.args.kind c.args.n c.in-38.is)
    (bytes-hash c.args.context t c.args.verified Sha256 c.args.n) c.lay_hash.ensures

pub returns-in-39 : goal.returns-in-39
returns-in-39 c = let t = lent c.args.tables in
    laid_leaf c.args.context t c.args.verified (is-hash256 c.args.kind c.args.n c.in-39.is)
    (bytes-hash c.args.context t c.args.verified Hash256 c.args.n) c.lay_hash-in-39.ensures

pub returns-in-40 : goal.returns-in-40
returns-in-40 c = let t = lent c.args.tables in
    laid_leaf c.args.context t c.args.verified (is-ripemd160 c.args.kind c.args.n c.in-40.is)
    (bytes-hash c.args.context t c.args.verified Ripemd160 c.args.n) c.lay_hash-in-40.ensures

pub returns-in-41 : goal.returns-in-41
returns-in-41 c = let t = lent c.args.tables in
    laid_leaf c.args.context t c.args.verified (is-hash160 c.args.kind c.args.n c.in-41.is)
    (bytes-hash c.args.context t c.args.verified Hash160 c.args.n) c.lay_hash-in-41.ensures

pub returns-in_default : goal.returns-in_default
returns-in_default c = let t = lent c.args.tables in
    laid_leaf c.args.context t c.args.verified
    (is_false c.args.kind c.args.n (λ e. omega arith) (λ e. omega arith) (λ e. omega arith) (λ e. omega arith)
    (λ e. omega arith) (λ e. omega arith) (λ e. omega arith) (λ e. omega arith) (λ e. omega arith)) (bytes-false c.args.context t c.args.verified) c.put_op-in_default.ensures
