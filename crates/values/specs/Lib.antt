-- What a reader has to believe of values and slopes.
pub mod Rows
pub mod Exact
pub mod Room
pub mod Parts
pub mod Newton
pub mod Inputs
pub mod Floor
pub mod Faithful
pub mod Document
pub mod WholeAt
pub mod Slopes
pub mod Widths
pub mod Value
