-- Lemmas of the proofs about answers.
mod FlaggedItems
mod PartsOfEach
mod PrintedAs
mod ShownFiles
mod GrownLists
mod SingleOutcomes
mod WholeValues
mod WholeItems
mod TreeRowsInOrder
mod TreeRowLaws
mod AddedNodes
