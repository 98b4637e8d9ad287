pub mod Spans
pub mod Numbers
pub mod Strings
pub mod Fronts
pub mod Streams
pub mod Fits
pub mod Writes
pub mod Decimals
