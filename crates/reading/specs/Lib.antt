-- What a reader has to believe of the call that reads lines.
pub mod ReadLine
pub mod Inputs
