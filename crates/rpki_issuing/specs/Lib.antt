-- The definitions that the contracts of issuing cite.

-- ---- issuing where the key is elsewhere
pub mod IssuingErrors
pub mod Roles
pub mod Readiness
pub mod NextLists
pub mod ListReadiness
pub mod CheckedSigners
-- ---- values as texts
pub mod OnlyValues
pub mod ValueTexts
pub mod BlockTexts
-- ---- what is wanted
pub mod AskedFields
pub mod Issuers
pub mod IssuingRules
pub mod Acceptance
pub mod PreparedOctets
pub mod WantedLists
