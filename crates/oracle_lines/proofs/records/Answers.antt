-- `oracle_lines::records` meets its contract: by its length, and a lone sign by what it is. Assumes nothing.
use Rattle.oracle_lines.proofs.Pairs.{no_word, no-records, lone-sign, read_as, records-are-bytes}
use Rattle.oracle_lines.proofs.records.Goals as goal

pub returns-then-word-eq0 : goal.returns-then-word-eq0
returns-then-word-eq0 c = no_word c.args.word.now c.args.room.now c.if-word-eq0.true

pub returns-then-word-eq-DASH : goal.returns-then-word-eq-DASH
returns-then-word-eq-DASH c = no-records c.args.word.now c.args.room.now c.if-word-eq1.true c.if-word-eq-DASH.true

pub returns-then-word-eq1 : goal.returns-then-word-eq1
returns-then-word-eq1 c = lone-sign c.args.word.now c.args.room.now c.if-word-eq1.true c.if-word-eq-DASH.false

pub returns : goal.returns
returns c = read_as (records-are-bytes c.args.word.now c.if-word-eq0.false c.if-word-eq1.false) c.bytes.ensures
