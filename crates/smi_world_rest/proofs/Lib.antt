mod Totals
mod Measure
mod Written
mod Ways
mod Counting
mod Going
mod Spending
