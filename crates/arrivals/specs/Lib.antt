-- Rows as they arrive: which are accepted, the recording made of them, and what is answered of it (`Arrivals`); what such a recording has, however long it is (`Fits`).
pub mod Arrivals
pub mod Fits
