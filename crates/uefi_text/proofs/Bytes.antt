-- Bytes, digits and GUIDs, and the text that the printer writes of them.
pub mod Octets
pub mod Hexadecimal
pub mod Digits
pub mod Guids
pub mod Printer
