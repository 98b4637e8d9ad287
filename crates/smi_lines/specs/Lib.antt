pub mod Line
pub mod LineErrorText
pub mod Answers
