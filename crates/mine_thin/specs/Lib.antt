pub mod KeptPlacesLaws
pub mod PlaceVisitLaws
