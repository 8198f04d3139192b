-- Laws of the answers: their figures (`Figures`), the order of refusals (`Runs`), the parts of a text (`Rows`, `Wholes`, `Parts`), what is promised (`Promises`), what is printed (`Printed`), and the same in the paper's
-- relations (`Relations`).
pub mod Figures
pub mod Parts
pub mod Printed
pub mod Promises
pub mod Relations
pub mod Rows
pub mod Runs
pub mod Wholes
