-- Refusal 16: on requirements and its test (`Nesting`), and what the test notes of a node's operands (`Operands`).
pub mod Nesting
pub mod Operands
