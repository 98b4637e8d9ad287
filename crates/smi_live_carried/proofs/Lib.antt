mod Ends
mod Over
mod Recalling
mod Taking
