-- What refuses a making, a row and the margin (`Refusals`); how a recording's margins grow with each row that is accepted (`Growth`), and that it stays as document 01
-- asks for it, but for the count of rows (`Fitting`); and each sentence of the definitions by itself (`Promises`).
pub mod Refusals
pub mod Growth
pub mod Fitting
pub mod Promises
