-- What a reader has to believe of sets that programs read and write.
pub mod Reading
pub mod Writing
