mod Fronts
mod Levels
mod Settles
