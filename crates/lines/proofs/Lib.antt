-- Laws of a set's lines, one file a subject.
pub mod SlotLaws
pub mod TableLaws
pub mod FrameLaws
