pub mod ByMap
pub mod RecordedClaims
pub mod Headline
pub mod FramePlacesAfterPages
