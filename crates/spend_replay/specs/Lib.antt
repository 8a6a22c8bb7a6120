-- What a user of the replay must believe, in reading order.
pub mod Replay
pub mod Laws
