pub mod Numbers
pub mod Shapes
pub mod Payloads
pub mod RecordForm
pub mod Answers
