-- The definitions that the contracts of keys and locators cite.

-- ---- keys, and signatures by them
pub mod Octets
pub mod RsaKeys
pub mod RsaSignatures
pub mod Moduli
pub mod Curve
pub mod KeyForms
pub mod RsaNumbers
-- ---- numbers of many limbs
pub mod Limbs
pub mod Columns
-- ---- trust anchor locators
pub mod Digits
pub mod Locators
pub mod LocatorFaults
pub mod TalErrors
pub mod Sections
