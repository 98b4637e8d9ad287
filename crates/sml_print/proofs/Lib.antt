pub mod Instrs
pub mod Tolds
