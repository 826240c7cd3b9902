-- The lemmas that several proofs share.
pub mod Growing
pub mod Bursts
pub mod Serving
pub mod SlotWalks
pub mod BoardRanges
pub mod Fronts
pub mod TableBursts
pub mod Advancing
pub mod Taking
pub mod LineOrder
pub mod Strobes
pub mod Sparing
