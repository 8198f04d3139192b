-- The test of refusal 16 says what its sentence says (`Nesting`); what it notes of a node comes from what it noted of the node's operands (`Noted`).
pub mod Nesting
pub mod Noted
