-- Laws of the search.
pub mod BestLaws
pub mod PrefixLaws
pub mod AdmittedLaws
pub mod OpenLaws
pub mod SmallLaws
pub mod TableLaws
pub mod RestLaws
pub mod TurnLaws
pub mod BeginLaws
pub mod VerdictLaws
