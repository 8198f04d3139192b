-- The loops that store (`Storing`), the reader's number (`Numbers`), what its contract promises (`Promises`), and the examples.
pub mod Storing
pub mod Numbers
pub mod Promises
pub mod Examples
