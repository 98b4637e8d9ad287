pub mod Broken
pub mod Tracked
pub mod Followed
pub mod Adding
pub mod Begun
pub mod Unsplit
pub mod OneMore
pub mod OneLine
