-- Lemmas.
pub mod FirstTo
