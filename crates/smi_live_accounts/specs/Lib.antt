pub mod Accounts
pub mod Requested
pub mod Laws
