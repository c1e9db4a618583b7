mod Lining
mod Walked
