pub mod Blocks
pub mod Conditions
pub mod Items
pub mod Words
