-- What a reader has to believe of the error bound, demand 3.
pub mod ErrorBound
