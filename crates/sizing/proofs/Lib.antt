-- Laws of sizes, one file a subject.
pub mod BitsLaws
pub mod WidthLaws
pub mod GrowthLaws
pub mod SizeLaws
pub mod FewestLaws
pub mod Opened
