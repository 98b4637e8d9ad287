pub mod Made
pub mod Alike
pub mod Fitting
pub mod Sounds
