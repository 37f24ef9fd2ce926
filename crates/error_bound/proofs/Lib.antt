-- The proof of the error bound, demand 3, from a single step to the whole statement.
pub mod Steps
pub mod Climb
pub mod Enclosed
pub mod Path
pub mod Totals
pub mod Offsets
pub mod SumBound
pub mod WordBound
pub mod Holds
