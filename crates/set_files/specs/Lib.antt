-- What a reader has to believe of files of sets.
pub mod Whole
