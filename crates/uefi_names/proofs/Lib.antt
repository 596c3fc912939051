-- what the proofs of functions use
pub mod Texts
mod Chars
mod Left
mod Standard
mod Cuts
mod Bodies
mod Arguments
mod Finds
mod Pieces
mod Exact
mod Back
mod StandardRead
mod Only
mod NearestNames
