pub mod Status
pub mod Judgement
pub mod Ruling
pub mod Paths
pub mod Refused
pub mod Performed
pub mod States
pub mod Printed
