-- What is handed back (`Written`); and how it is found: measures of trees (`Measures`), and what an inner function asks for (`Ruled`).
pub mod Written
pub mod Measures
pub mod Ruled
