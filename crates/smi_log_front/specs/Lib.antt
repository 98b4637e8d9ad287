pub mod Sums
pub mod Front
pub mod FrontText
pub mod Suits
pub mod Reading
pub mod Faults
pub mod Laws
