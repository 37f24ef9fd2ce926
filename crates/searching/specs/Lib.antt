-- What a reader has to believe of the search for the smallest design.
pub mod Designs
pub mod Best
pub mod Search
