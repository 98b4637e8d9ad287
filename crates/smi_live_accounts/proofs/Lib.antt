mod Adding
mod Accounting
mod Pairing
mod Answering
mod Putting
mod Counting
