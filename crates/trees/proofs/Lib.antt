-- Why the tree check is right.
pub mod Slots
pub mod Rules
pub mod Heights
pub mod Joint
pub mod Theorem
pub mod ByKind
pub mod InMemory
pub mod Subtrees
pub mod Counting
pub mod RecordLaws
pub mod StepLaws
pub mod LoopLaws
