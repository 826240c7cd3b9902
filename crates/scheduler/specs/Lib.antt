-- The definitions that the contracts cite.
pub mod Stretches
pub mod Slots
pub mod Strips
pub mod View
pub mod Works
pub mod Ticking
pub mod Seen
pub mod Words
pub mod Spending
