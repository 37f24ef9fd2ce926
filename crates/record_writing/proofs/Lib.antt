-- Laws of the writer of records.
pub mod FitsLaws
pub mod WindowLaws
pub mod ColonLaws
pub mod AskedLaws
pub mod GivenLaws
pub mod LengthLaws
