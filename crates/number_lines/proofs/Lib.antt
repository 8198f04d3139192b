-- What is read is what is written (`Written`).
pub mod Written
