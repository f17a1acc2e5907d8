mod NewtonSteps
mod Expansion
mod Joining
mod Interpolating
