pub mod Issuable
