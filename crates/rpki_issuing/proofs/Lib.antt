-- Lemmas of the proofs about issuing.

-- ---- issuing where the key is elsewhere
pub mod ReadSigned
pub mod SignatureAlone
pub mod ListSignatures
pub mod NextEntries
pub mod TwentyOctets
-- ---- values as texts
pub mod OnlyParts
pub mod ZippedTexts
pub mod PrefixesRead
-- ---- what is wanted
pub mod Accepted
mod CertifiedKeys
pub mod RouterNames
pub mod SameRoles
pub mod SignedLists
mod ToldFaults
mod ToldLists
pub mod WantedEntries
pub mod WholeOctets
