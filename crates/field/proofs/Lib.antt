mod Ones
mod Remainders
