-- What is computed, then document 01's starred examples.
pub mod Opened
pub mod Starred
-- Other examples.
pub mod Worked
