-- The lines that are printed for a sheet's outcomes.
pub mod Printed
