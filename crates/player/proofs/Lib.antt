-- Lemmas of the crate.
mod Turning
mod Progress
mod Telling
mod Sessions
mod OneTurn
