pub mod EarlyInputs
pub mod Memory
pub mod FirstItems
