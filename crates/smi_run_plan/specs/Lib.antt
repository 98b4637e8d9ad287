pub mod Says
pub mod Devices
pub mod Plans
pub mod ErrorText
