-- What a reader has to believe of sums, tests and lists over the numbers below a bound, of binary digits, and of tables that are written.
pub mod Below
pub mod Digits
pub mod Lists
