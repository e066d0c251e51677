pub mod PagesView
pub mod Forms
pub mod FramePlaces
pub mod Pages
pub mod Reading
pub mod Spelling
