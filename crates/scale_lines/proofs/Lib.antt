-- The lines one by one (`Steps`), eight places for scales (`Eight`), and that what is read is what is written (`Written`, `Exact`).
pub mod Steps
pub mod Eight
pub mod Written
pub mod Exact
