-- The definitions that the contracts of answers cite.
pub mod Outcomes
pub mod VerdictTexts
pub mod TreeRows
pub mod UnreadNames
pub mod TreeDocuments
pub mod TreeLaws
pub mod JsonTexts
pub mod ToldValues
pub mod RejectionDetails
pub mod Verdicts
pub mod ShownCertificates
pub mod ShownLists
pub mod ShownFiles
pub mod AnswerTexts
