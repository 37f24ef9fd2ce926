-- Laws of designs, one file a subject.
pub mod LegalLaws
pub mod CutLaws
pub mod StoredLaws
pub mod BudgetLaws
pub mod SameLaws
pub mod Opened
pub mod AdmittedLaws
