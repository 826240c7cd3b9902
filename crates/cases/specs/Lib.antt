-- The definitions that the contracts cite.
pub mod ExampleBoard
pub mod Planning
pub mod Runs
pub mod Worked
