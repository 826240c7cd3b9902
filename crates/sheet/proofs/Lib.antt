-- The lemmas that the answers cite.
pub mod Cutting
pub mod Numbers
