pub mod Picked
pub mod Blocks
pub mod Naming
pub mod Showing
pub mod Asking
pub mod Arguments
pub mod KindsKept
pub mod LeftKept
pub mod Parameters
pub mod Journals
pub mod StatesKnown
pub mod ValuesKept
mod Worked
pub mod Readings
pub mod There
pub mod Leaving
pub mod Numbered
pub mod Tested
pub mod Within
pub mod Silence
pub mod Sparing
pub mod Quieted
pub mod Inside
mod Old
