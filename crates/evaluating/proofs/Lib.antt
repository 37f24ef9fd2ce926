-- Laws of the evaluation, one file a subject.
pub mod WordLaws
pub mod BatchLaws
pub mod BatchTold
pub mod RangeLaws
