-- Streams of frames, in pieces.
pub mod Headers
pub mod Cuts
pub mod Pieces
pub mod Feeding
