-- The definitions that the contracts cite, and the laws that an impl gives as a ghost member.
pub mod Single
pub mod Sporadic
pub mod Jitter
pub mod Pair
pub mod Bounds
pub mod Laws
