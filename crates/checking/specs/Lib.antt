-- What a reader has to believe of the check.
pub mod Check
