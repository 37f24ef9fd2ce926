-- What a reader has to believe of the counts.
pub mod Count
pub mod Inputs
