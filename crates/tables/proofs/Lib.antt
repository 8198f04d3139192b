-- What holds of every kind's number (`EveryKind`); each test of a table's rules says what its sentence says (`Rules`); the requirement of a node comes from those
-- of its children (`Trees`); which windows are refused as empty, and what a mark means (`Windows`).
pub mod EveryKind
pub mod Rules
pub mod Trees
pub mod Windows
