-- Laws of the reader of records, one file a subject.
pub mod StateLaws
pub mod WindowLaws
pub mod StoreSteps
pub mod TakeLaws
pub mod ReadLaws
pub mod PaddedLaws
pub mod ReadSteps
pub mod StoringLaws
pub mod WholeSets
