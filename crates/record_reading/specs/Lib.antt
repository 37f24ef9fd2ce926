-- What a reader has to believe of the call that reads records.
pub mod Storing
pub mod ReadRecord
pub mod Inputs
