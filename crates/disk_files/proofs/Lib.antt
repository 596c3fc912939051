-- Lemmas.
mod Searches
mod Disks
