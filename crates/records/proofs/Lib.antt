-- Laws of records.
pub mod CountLaws
pub mod BytesLaws
pub mod ExtentLaws
pub mod AddressLaws
pub mod RecordLaws
