-- The lines one by one (`Rest`), that what is read is what is written (`Written`, `Exact`), the order of the lines (`Rising`) and what they set (`Sets`).
pub mod Written
pub mod Rest
pub mod Exact
pub mod Rising
pub mod Sets
