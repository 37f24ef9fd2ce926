-- What a reader has to believe of the counts and the check.
pub mod Agreement
