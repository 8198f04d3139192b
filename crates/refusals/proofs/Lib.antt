-- Where each test is exact, a refusal is the first condition that does not hold (`First`); an answer's number (`Number`).
pub mod First
pub mod Number
