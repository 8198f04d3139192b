-- In the order of document 01's "Strengthening and the verdict": the cells, one row of them, and what is handed back, refusals included.
pub mod Cells
pub mod Rows
pub mod Answer
