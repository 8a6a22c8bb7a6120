-- `spends::replay_in` is safe: the reports lie in their room. Assumes nothing.
use Rattle.spends.proofs.Rooms.{reports-within}
use Rattle.spends.proofs.replay_in.Goals as goal

pub show_reports-requires : goal.show_reports-requires
show_reports-requires g c = reports-within _ _ _ c.claspwillow_replay-number.ensures
