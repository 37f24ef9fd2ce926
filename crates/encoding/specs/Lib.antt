-- What a reader has to believe of frames and lines that are written.
pub mod Bytes
pub mod Encode
pub mod DesignBytes
pub mod Inputs
