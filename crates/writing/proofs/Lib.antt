-- Laws of the writer.
pub mod WriteLaws
pub mod GivenLaws
