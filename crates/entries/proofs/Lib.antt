-- Laws of the entries, one file a subject.
pub mod SignLaws
pub mod MeaningLaws
pub mod EntryBounds
pub mod ByArithmetic
pub mod Opened
