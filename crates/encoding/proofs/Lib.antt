-- Laws of frames and lines that are written, one file a subject.
-- What is written is read back, and the other way round:
pub mod HexBack
pub mod NumberBack
pub mod ComplementBack
pub mod SumBack
pub mod LineBack
pub mod DesignBack
-- What the functions do, step by step:
pub mod NumberBytes
pub mod SignedBytes
pub mod DesignLaws
pub mod Putting
