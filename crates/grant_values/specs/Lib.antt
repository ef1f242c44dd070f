pub mod PlaceValues
