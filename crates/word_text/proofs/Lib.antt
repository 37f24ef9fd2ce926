-- Laws of input words in decimal.
pub mod DecimalLaws
