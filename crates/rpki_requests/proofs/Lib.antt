-- Lemmas of the proofs about requests.
mod AcceptedFiles
mod AddedFiles
mod AskedLists
mod AskedSources
mod GivenValues
mod GivenWants
mod JudgedIssuers
mod KindsApart
mod OneErrand
mod OneFields
mod OneIssuers
mod OnlyAnswers
mod PlaceByPlace
pub mod RefusalCases
mod RequestParts
mod RevokedFiles
mod Settings
mod WrongRequests
