pub mod LayerPlaces
pub mod Carried
