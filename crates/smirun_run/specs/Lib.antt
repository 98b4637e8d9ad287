pub mod Unplanned
pub mod Outcomes
pub mod Ends
pub mod Running
pub mod Summary
pub mod Told
