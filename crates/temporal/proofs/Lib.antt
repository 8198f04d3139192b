-- Until and release place by place (`Along`); the edges of a window (`Edges`); what slides along with them (`Slid`); the row before a place (`Row`) and the turn that
-- fills it (`Turn`).
pub mod Along
pub mod Edges
pub mod Slid
pub mod Row
pub mod Turn
