-- What a reader has to believe of the smallest design.
pub mod Order
pub mod Optimum
