pub mod Found
pub mod Others
