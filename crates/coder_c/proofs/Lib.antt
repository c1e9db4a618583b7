mod Weights
mod Slots
mod Asked
mod Chosen
mod Planned
mod Direct
mod PutBack
