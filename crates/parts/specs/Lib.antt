-- The definitions that the contracts cite.
pub mod Service
pub mod Pending
pub mod Waiting
pub mod Phases
pub mod Grants
