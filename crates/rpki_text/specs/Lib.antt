-- The definitions that the contracts of texts for a person cite.

-- ---- certificates and lists as text
pub mod MomentTexts
pub mod Counts
pub mod IdentifierTexts
pub mod Periods
pub mod BlockLines
pub mod KeyTexts
pub mod CertificateTexts
-- ---- notes and facts
pub mod Notes
pub mod Qualifiers
pub mod NoteTexts
pub mod FaultSearch
pub mod Facts
-- ---- the command line
pub mod WordParts
pub mod CommandLines
pub mod Misuses
pub mod MisuseTexts
