-- What a reader has to believe of the calls that C and Rust link.
pub mod Numbers
pub mod Behind
