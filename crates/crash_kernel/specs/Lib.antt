pub mod Total
pub mod Request
pub mod Places
pub mod Reservation
pub mod ReservedArea
