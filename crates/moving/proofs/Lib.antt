pub mod Keys
pub mod Records
pub mod Outcomes
pub mod OneKey
pub mod ReadMoved
pub mod RoundTrips
pub mod KeysOver
