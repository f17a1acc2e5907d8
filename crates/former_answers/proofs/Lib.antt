pub mod LaterBases
pub mod LongInputs
