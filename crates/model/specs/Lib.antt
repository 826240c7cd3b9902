-- The definitions that the contracts cite.
pub mod Counting
pub mod Limits
pub mod Calls
pub mod Refusals
pub mod Texts
pub mod Board
pub mod Monitor
pub mod Curve
pub mod Demand
pub mod Tick
pub mod Tape
pub mod Bits
pub mod Core
pub mod Run
pub mod Seen
pub mod Laws
pub mod Once
