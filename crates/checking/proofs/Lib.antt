-- Laws of the check, one file a subject.
pub mod CheckLaws
pub mod SearchLaws
