pub mod Receipts
pub mod Told
pub mod Reports
pub mod Rests
