-- The answer and the slices (`Answer`), what is asked before anything is stored (`Room`), and examples (`Examples`).
pub mod Answer
pub mod Room
pub mod Examples
