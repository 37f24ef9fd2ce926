-- What a reader has to believe of a set's Intel HEX records.
pub mod IntelHex
pub mod SetBytes
pub mod Record
pub mod Inputs
