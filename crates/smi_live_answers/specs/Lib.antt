pub mod EndWords
pub mod Naming
