pub mod Numbered
pub mod Cuts
pub mod Names
pub mod Counts
pub mod Counted
pub mod Places
pub mod OnceLines
mod Named
mod Longest
