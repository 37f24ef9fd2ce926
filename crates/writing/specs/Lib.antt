-- What a reader has to believe of the writer.
pub mod Write
