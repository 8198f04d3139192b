-- Measures from the measures of children (`Measures`), and a node's text in the pieces that are printed (`Nodes`); a table that obeys (`Tables`), its refusals (`Refusals`), and the array its text is written into (`Arrays`); and what is promised (`Promises`).
pub mod Measures
pub mod Nodes
pub mod Tables
pub mod Refusals
pub mod Arrays
pub mod Promises
