mod Products
mod Blocks
