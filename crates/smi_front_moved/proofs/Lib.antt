mod Ranges
mod Tabled
mod Telling
