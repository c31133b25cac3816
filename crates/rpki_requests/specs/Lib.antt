-- The definitions that the contracts of requests cite.
pub mod RequestWords
pub mod ExpectedValues
pub mod RequestMisuses
pub mod OptionValues
pub mod RequestFiles
pub mod Fulfilment
pub mod Refusals
pub mod ToldRefusals
pub mod RefusedErrands
