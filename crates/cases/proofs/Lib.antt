-- The lemmas that the proofs stand on.
mod RunsWorked
mod Smallest
