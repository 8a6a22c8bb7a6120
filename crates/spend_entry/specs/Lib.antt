-- What the contracts of this crate cite; the entry's promise stands in `spend_replay`, specs/Replay.antt.
pub mod Results
