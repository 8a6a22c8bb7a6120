-- `oracle_lines::six_words` meets its contract: one word after the other. Assumes nothing.
use Rattle.oracle_lines.proofs.Splits.{one_word, two-words, three-words, four-words, five-words, many-words, six-words}
use Rattle.oracle_lines.proofs.six_words.Goals as goal

pub returns-then-a-line : goal.returns-then-a-line
returns-then-a-line c = one_word c.args.line.now _ c.end_of-a.ensures c.if-a-line.true

pub returns-then-b-line : goal.returns-then-b-line
returns-then-b-line c = two-words c.args.line.now _ c.end_of-a.ensures c.if-a-line.false _ c.end_of-b.ensures c.if-b-line.true

pub returns-then-c-line : goal.returns-then-c-line
returns-then-c-line c = three-words c.args.line.now _ c.end_of-a.ensures c.if-a-line.false _ c.end_of-b.ensures c.if-b-line.false _ c.end_of-c.ensures
    c.if-c-line.true

pub returns-then-d-line : goal.returns-then-d-line
returns-then-d-line c = four-words c.args.line.now _ c.end_of-a.ensures c.if-a-line.false _ c.end_of-b.ensures c.if-b-line.false _ c.end_of-c.ensures c.if-c-line.false
    _ c.end_of-d.ensures c.if-d-line.true

pub returns-then-e-line : goal.returns-then-e-line
returns-then-e-line c = five-words c.args.line.now _ c.end_of-a.ensures c.if-a-line.false _ c.end_of-b.ensures c.if-b-line.false _ c.end_of-c.ensures c.if-c-line.false
    _ c.end_of-d.ensures c.if-d-line.false _ c.end_of-e.ensures c.if-e-line.true

pub returns-then-f-line : goal.returns-then-f-line
returns-then-f-line c = six-words c.args.line.now _ c.end_of-a.ensures c.if-a-line.false _ c.end_of-b.ensures c.if-b-line.false _ c.end_of-c.ensures c.if-c-line.false
    _ c.end_of-d.ensures c.if-d-line.false _ c.end_of-e.ensures c.if-e-line.false _ c.end_of-f.ensures c.if-f-line.true

pub returns : goal.returns
returns c = many-words c.args.line.now _ c.end_of-a.ensures c.if-a-line.false _ c.end_of-b.ensures c.if-b-line.false _ c.end_of-c.ensures c.if-c-line.false
    _ c.end_of-d.ensures c.if-d-line.false _ c.end_of-e.ensures c.if-e-line.false _ c.end_of-f.ensures c.if-f-line.false
