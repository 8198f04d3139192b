-- What one node's row is filled from; the margin's answer, refusals included, and the cells it leaves.
pub mod Nodes
pub mod Answers
