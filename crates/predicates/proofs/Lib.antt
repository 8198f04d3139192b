-- Each test of the predicates says what its sentence says (`Predicates`).
pub mod Predicates
