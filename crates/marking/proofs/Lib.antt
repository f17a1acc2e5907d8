mod Lengths
mod Fronts
mod Inputs
