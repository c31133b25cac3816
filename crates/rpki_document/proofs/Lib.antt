-- Lemmas of the proofs about documents.
mod Joined
mod CharacterTexts
mod RowTexts
pub mod WholeValues
pub mod Built
