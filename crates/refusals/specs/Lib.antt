-- A refusal is the first of a list of conditions that does not hold (`First`); the papers' number of each (`Number`).
pub mod First
pub mod Number
