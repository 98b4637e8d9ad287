mod Shows
mod Tolds
