-- What the tables that a caller lends hold.
use Rattle.script_bytes.specs.Tables as spec
use Rattle.script_leaves.specs.declared.Tables.{Tables}

abbrev pub lent : Tables → spec.Tables
lent t = spec.tables t.keys.now t.key_hashes.now t.hashes32.now t.hashes20.now
