-- What the contract promises, sentence by sentence.
pub mod Promises
