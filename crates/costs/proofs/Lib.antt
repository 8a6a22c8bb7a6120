pub mod Sums
pub mod Told
pub mod PriceLaws
pub mod Figures
