mod Examples
pub mod HullLaws
pub mod RuleLaws
pub mod SpanLaws
pub mod SlotLaws
pub mod TableLaws
