-- The proof that counts and check agree.
pub mod Landing
pub mod Agrees
