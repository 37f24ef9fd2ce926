-- Laws of the reader, one file a subject.
pub mod BeginsLaws
pub mod ReadLaws
pub mod LineSteps
pub mod ReadSteps
