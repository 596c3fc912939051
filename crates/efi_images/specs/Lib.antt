-- what public contracts cite
pub mod Checks
pub mod Words
pub mod InPlace
pub mod Digest
pub mod Signatures
pub mod Certificates
pub mod SecureBoot
-- what they rest on, and private contracts cite
pub mod Bytes
pub mod Headers
pub mod Sections
pub mod Loaded
pub mod Debug
pub mod CodeView
pub mod Resources
pub mod Relocations
pub mod Check
pub mod Der
pub mod Names
pub mod X509
pub mod Signers
pub mod Leads
