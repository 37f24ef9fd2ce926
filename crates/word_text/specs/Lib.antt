-- What a reader has to believe of input words in decimal.
pub mod Decimal
