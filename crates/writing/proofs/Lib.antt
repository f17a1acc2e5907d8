mod Powers
mod Filling
