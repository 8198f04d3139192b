-- The tests of the predicates that a requirement names.
pub mod Predicates
