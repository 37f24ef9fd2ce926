-- Laws of what is read and written through blocks.
pub mod CountLaws
pub mod LineLaws
pub mod TakeLaws
pub mod BlockLaws
pub mod PutLaws
pub mod FoldLaws
pub mod ResumeLaws
