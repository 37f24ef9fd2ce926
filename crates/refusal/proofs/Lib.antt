-- Laws of checks, and of what a verdict leads to.
pub mod Checks
pub mod Answers
