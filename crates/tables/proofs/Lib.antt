-- Laws of table sets, one file a subject.
pub mod SetLaws
pub mod LookupLaws
pub mod SumLaws
pub mod WordLaws
pub mod IntervalLaws
pub mod RunLaws
pub mod Opened
