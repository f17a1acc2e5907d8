mod Chunks
mod Filled
