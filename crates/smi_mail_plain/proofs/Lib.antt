mod Walks
mod Senders
mod Kept
mod Boxes
