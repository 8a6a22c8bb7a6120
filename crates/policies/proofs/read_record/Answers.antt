-- `policies::read_record` meets its contract. Assumes nothing.
use Rattle.policies.proofs.Records.{record-broken, record-whole}
use Rattle.policies.proofs.read_record.Goals as goal

pub returns-in_default : goal.returns-in_default
returns-in_default c = record-broken c.args.bytes.now c.args.at c.args.pol.now _ c.args.i c.length_at.ensures c.in_default.is

pub returns : goal.returns
returns c = record-whole c.args.bytes.now c.args.at c.args.pol.now _ c.args.i _ c.length_at.ensures c.in-Some.is c.read_whole.ensures
