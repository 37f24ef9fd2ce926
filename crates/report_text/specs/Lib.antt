-- What a reader has to believe of the report.
pub mod Words
pub mod Report
