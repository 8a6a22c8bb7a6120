pub mod Numbers
pub mod KindRanges
pub mod Forms
pub mod Widths
pub mod Laws
pub mod Arities
pub mod Cases
