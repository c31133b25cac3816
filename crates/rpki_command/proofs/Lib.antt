-- Lemmas of the command's proofs.
mod EndedRuns
mod ListedNames
mod ListsAmong
mod NamedFiles
mod NamedObjects
mod PassedFiles
mod PemLines
mod WholeAnswers
mod WholeSources
mod WrittenTexts
