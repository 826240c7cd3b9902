-- The definitions that the contracts cite, and the laws that an impl gives as a ghost member.
pub mod Distance
pub mod View
pub mod Distances
