-- The tests of a recording, and the refusals that come before a margin.
pub mod Recording
pub mod Refusals
