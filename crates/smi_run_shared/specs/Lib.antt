pub mod Crews
pub mod Faults
pub mod Jobs
pub mod Keeping
pub mod Notices
pub mod Works
