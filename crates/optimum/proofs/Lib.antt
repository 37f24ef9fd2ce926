-- The proof that the design that is handed back is the first of the smallest.
pub mod BestIs
pub mod OrderLaws
pub mod Listed
pub mod Sorted
pub mod Optimal
pub mod Examples
