-- Laws of values and slopes, one file a subject.
pub mod Powers
pub mod ExactLaws
pub mod PartLaws
pub mod FaithfulLaws
pub mod FloorLaws
pub mod NewtonLaws
pub mod SlopeLaws
pub mod Bounds
pub mod WidthLaws
pub mod Document
pub mod WholeWhere
pub mod Opened
