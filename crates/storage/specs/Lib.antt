-- What a reader has to believe of stored sets, and of pairs that are not read.
pub mod Sets
pub mod File
pub mod Feeding
pub mod Storage
pub mod Several
pub mod Unread
