-- How the statement on stored records is proved, one file a subject.
-- The law of records, from the text to the data and back:
pub mod RecordBack
pub mod Taking
pub mod AfterRecords
pub mod Texts
-- Inductions over records:
pub mod Feeding
pub mod ReadingBack
pub mod Uniqueness
pub mod InOrder
-- The writer, and what the fill writes:
pub mod Giving
pub mod LinesAndRecords
-- The statement, all together:
pub mod RecordStored
