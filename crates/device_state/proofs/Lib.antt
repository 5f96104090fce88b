pub mod Pieces
pub mod Texts
pub mod LinesTaken
pub mod Utf8Lines
pub mod StateBack
