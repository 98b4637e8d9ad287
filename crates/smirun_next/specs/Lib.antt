pub mod Kills
pub mod NextFront
pub mod NextLogs
