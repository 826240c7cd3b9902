-- The definitions that the contracts cite, and the laws that an impl gives as a ghost member.
pub mod Meanings
pub mod OneLine
pub mod Part
pub mod Pair
pub mod Joint
pub mod Joining
