-- What a reader has to believe of the size in bits.
pub mod Width
pub mod Size
pub mod Fewest
pub mod Widest
