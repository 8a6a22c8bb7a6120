-- Why the contracts hold, and that what stands at an entry's places is the entry that is read there.
pub mod Readings
pub mod Entries
pub mod Loops
pub mod Judging
