pub mod PathShares
pub mod ToldWalks
