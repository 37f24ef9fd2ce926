-- Laws that the proofs of the linked calls cite, and that designs and their numbers are inverse.
pub mod NumbersBack
pub mod WordCount
