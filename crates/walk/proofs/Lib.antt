-- Why the walk visits the tree that the check read. Crates above cite Laws, KindLaws, HeadLaws and FoldLaws.
pub mod ReadRecords
pub mod KindLaws
pub mod Laws
pub mod HeadLaws
pub mod FoldLaws
-- for the functions
pub mod Reading
pub mod Scanning
