-- What a reader has to believe of sets that programs read from records.
pub mod LineTexts
pub mod Loaded
