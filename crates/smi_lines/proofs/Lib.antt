mod Fronts
mod Tolds
mod Wholes
