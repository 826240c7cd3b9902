-- The definitions that the contracts cite.
pub mod Cursor
pub mod Faults
pub mod Firsts
pub mod Pieces
pub mod Reading
pub mod Scan
pub mod Words
pub mod Worked
