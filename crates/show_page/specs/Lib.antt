pub mod Escapes
pub mod Pages
pub mod Laws
