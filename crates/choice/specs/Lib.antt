-- What a reader of this crate must believe, in reading order.
pub mod Chosen
pub mod Arranged
pub mod Keys
pub mod Threshes
