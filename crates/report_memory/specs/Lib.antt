pub mod JournalText
pub mod Lines
pub mod MapText
pub mod OptionsText
pub mod OwnersText
pub mod RecordsText
pub mod TablesText
