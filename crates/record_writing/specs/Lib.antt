-- What a reader has to believe of the call that writes records.
pub mod WriteRecord
pub mod Inputs
