pub mod Promise
pub mod Refusal
pub mod Arms
pub mod Faults
