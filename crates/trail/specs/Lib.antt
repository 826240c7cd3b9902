-- The definitions that the contracts cite, and the laws that an impl gives as a ghost member.
pub mod Trail
pub mod View
pub mod Trails
pub mod Least
