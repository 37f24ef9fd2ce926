-- Laws of the report's text.
pub mod ReportLaws
pub mod TextLaws
pub mod DecimalLaws
