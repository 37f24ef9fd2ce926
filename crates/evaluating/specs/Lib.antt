-- What a reader has to believe of the evaluation of a word and of a batch; what its inner calls promise each other.
pub mod Evaluate
pub mod Batch
pub mod Range
