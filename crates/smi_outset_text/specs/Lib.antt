pub mod OutsetText
pub mod Lines
pub mod Reading
pub mod Laws
