-- What a reader has to believe of the entries that the fill writes.
pub mod Inputs
pub mod Entries
pub mod Signs
pub mod Meaning
