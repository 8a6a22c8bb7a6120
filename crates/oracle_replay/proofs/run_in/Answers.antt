-- `oracle_replay::run_in` is safe: what was loaded leaves a byte of the room. Assumes nothing.
use Rattle.std.proofs.Common.{rules}
use mathlib.Core.Path.{◌≡◌, ◌∙◌}
use lib.ListN.{length}
use Rattle.files.proofs.Loads.{loaded-within, loaded-few}
use Rattle.oracle_replay.proofs.run_in.Goals as goal

pub slice_bounds-run-end : goal.slice_bounds-run-end
slice_bounds-run-end g c = loaded-within c.load_word.new.room c.load_word.ensures c.in-Some.is

pub run-requires : goal.run-requires
run-requires g c = let same : length c.load_word.new.room ≡ length c.args.room.now = search rules in
    loaded-few c.load_word.new.room c.load_word.ensures c.in-Some.is 524288 (same ∙ c.requires)
