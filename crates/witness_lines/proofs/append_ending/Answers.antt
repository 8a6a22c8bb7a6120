-- `witness_lines::append_ending` meets its contract: by the outcome. Assumes nothing.
use Rattle.witness_lines.proofs.Blocks.{bytes-shown, none-shown, refused-shown}
use Rattle.witness_lines.proofs.append_ending.Goals as goal

pub returns-in-Bytes : goal.returns-in-Bytes
returns-in-Bytes c = bytes-shown c.in-Bytes.is c.append_number-first.ensures c.append_number-second.ensures c.append.ensures

pub returns-in-NoWay : goal.returns-in-NoWay
returns-in-NoWay c = none-shown c.in-NoWay.is c.append-in-NoWay.ensures

pub returns-in-Refused : goal.returns-in-Refused
returns-in-Refused c = refused-shown c.in-Refused.is c.append-first.ensures c.append_number-second-in-Refused.ensures c.append-in-Refused.ensures
