-- Laws of lines and frames, one file a subject.
pub mod HexLaws
pub mod DecodedLaws
pub mod Decoding
pub mod LineLaws
pub mod FrameLaws
pub mod DesignLaws
