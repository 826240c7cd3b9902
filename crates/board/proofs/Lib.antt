-- The lemmas that several proofs share.
pub mod FirstFault
pub mod Sums
pub mod SlotWalks
