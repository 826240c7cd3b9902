-- The definitions that the contracts cite.
pub mod Desks
pub mod Once
pub mod Players
pub mod Playing
pub mod Sessions
