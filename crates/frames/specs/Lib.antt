-- What a reader has to believe of lines and frames.
pub mod Hex
pub mod Line
pub mod Inputs
pub mod DesignFrame
pub mod DesignText
