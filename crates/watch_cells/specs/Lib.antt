-- How a watch lies in two slices (`State`), and what a row does to its nodes' cells (`Taking`).
pub mod State
pub mod Taking
