mod Openings
mod Planned
mod Lines
mod Receipts
