pub mod Sessions
pub mod Posts
pub mod Opening
pub mod Closing
