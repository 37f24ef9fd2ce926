-- What a reader has to believe of what programs read and write.
pub mod Blocks
pub mod Counts
pub mod Reading
pub mod Writing
pub mod Folding
pub mod Resuming
