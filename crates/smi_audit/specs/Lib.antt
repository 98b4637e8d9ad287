pub mod Views
pub mod Tracks
pub mod Judges
pub mod Splitting
pub mod Lines
pub mod Audit
pub mod Pasts
pub mod JudgementText
