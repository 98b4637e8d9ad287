pub mod Falls
pub mod Stays
pub mod Spots
pub mod Tables
pub mod Lists
pub mod Spread
pub mod Begun
pub mod Left
