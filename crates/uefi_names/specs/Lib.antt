-- what public contracts cite
pub mod Table
pub mod Standard
pub mod Shown
pub mod Named
pub mod Cut
pub mod Spelled
pub mod Read
pub mod SpelledFields
pub mod Reading
-- what the contracts of private functions cite
pub mod Nearest
