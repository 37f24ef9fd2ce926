-- Laws of sums, tests and lists, one file a subject.
pub mod Tests
pub mod Sums
pub mod FirstLaws
pub mod ListLaws
pub mod JoinedLaws
pub mod WritingLaws
pub mod SignedLaws
pub mod OverLists
