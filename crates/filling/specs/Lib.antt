-- What a reader has to believe of the call `fill`, and of the calls that it is made of.
pub mod Fill
pub mod Segment
pub mod Inputs
