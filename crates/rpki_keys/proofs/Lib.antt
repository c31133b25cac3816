-- Lemmas of the proofs about keys and locators.

-- ---- keys, and signatures by them
pub mod OctetNumbers
pub mod KeyFrames
pub mod ValidSignatures
pub mod Field
pub mod Points
pub mod Sizes
pub mod RsaKeyReads
pub mod OneForm
pub mod UsableForms
-- ---- numbers of many limbs
pub mod Values
pub mod Corners
pub mod Steps
pub mod Estimates
pub mod Products
pub mod Forms
pub mod Exponents
-- ---- trust anchor locators
mod KeysRead
mod LinesRead
mod OneLocator
mod SectionsRead
mod DigitsRead
