-- What a reader has to believe of table sets: the refusals that every call over them shares, and the sums and words that they give.
pub mod Set
pub mod Lookup
pub mod Sum
pub mod Inputs
