-- What a reader has to believe of a set's lines.
pub mod Slots
pub mod Lines
pub mod Inputs
