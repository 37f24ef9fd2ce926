-- Laws of sets that programs read and write.
pub mod FeedLaws
pub mod LineLaws
pub mod ShortLaws
pub mod PutLaws
