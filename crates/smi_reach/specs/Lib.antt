pub mod Falling
pub mod States
pub mod Places
pub mod Ways
pub mod Found
pub mod Reach
pub mod Unreached
