pub mod Hull
pub mod HullSlots
pub mod Slots
pub mod Spans
