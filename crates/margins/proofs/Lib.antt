-- Each kind's row holds the margins of the node (`Nodes`); all rows together (`Filled`); the refusal, the answer and the cells (`Answers`); what the
-- contract promises, sentence by sentence (`Promises`).
pub mod Nodes
pub mod Filled
pub mod Answers
pub mod Promises
