mod Each
mod Faults
mod Texts
