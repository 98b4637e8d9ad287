pub mod Lists
pub mod Moves
pub mod Keeping
pub mod Boards
pub mod Turns
pub mod Operators
pub mod Opening
pub mod Closing
mod Ordering
