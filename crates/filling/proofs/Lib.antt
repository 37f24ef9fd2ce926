-- Laws of the fill, one file a subject.
pub mod EntryLaws
pub mod PartLaws
pub mod SegmentLaws
pub mod TableLaws
pub mod FillLaws
