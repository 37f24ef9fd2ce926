-- What a reader has to believe of designs.
pub mod Limits
pub mod Cut
pub mod Stored
pub mod Same
pub mod Legal
pub mod Budget
pub mod Answers
