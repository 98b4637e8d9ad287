pub mod Mails
pub mod Counts
pub mod Numbers
pub mod Boxes
