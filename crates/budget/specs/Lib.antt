-- The definitions that the contracts cite, and the laws that an impl gives as a ghost member.
pub mod Budget
pub mod View
pub mod Budgets
