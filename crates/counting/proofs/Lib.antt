-- Laws of the counts, one file a subject.
pub mod CountLaws
pub mod IntervalRuns
