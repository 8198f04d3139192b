-- Tables, predicates and requirements' places as flat numbers (`Tables`, `Predicates`, `Places`), and scales with the setup that they belong to (`Scales`).
pub mod Tables
pub mod Predicates
pub mod Places
pub mod Scales
