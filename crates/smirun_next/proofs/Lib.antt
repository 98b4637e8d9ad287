mod Ranges
mod Nexts
mod Wholes
