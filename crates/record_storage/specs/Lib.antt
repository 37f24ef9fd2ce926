-- What a reader has to believe of sets that are stored as records.
pub mod Loading
pub mod RecordFile
pub mod RecordStorage
pub mod LinesAndRecords
