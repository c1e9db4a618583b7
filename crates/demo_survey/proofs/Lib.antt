mod Counts
mod Adding
