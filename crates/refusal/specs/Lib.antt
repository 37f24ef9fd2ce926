-- What a reader has to believe of refusals.
pub mod Numbers
pub mod Verdict
pub mod Checks
pub mod Told
