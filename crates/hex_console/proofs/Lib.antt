-- Laws of sets that programs read from records and write as records.
pub mod TextLaws
pub mod LoadLaws
pub mod StepLaws
pub mod RecordLaws
