-- A child's row while a later row is filled (`Kept`).
pub mod Kept
