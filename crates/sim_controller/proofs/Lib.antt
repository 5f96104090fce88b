pub mod GivenInOrder
pub mod HeardFrames
pub mod Pieces
pub mod ReadWhole
