-- The rules keep a window's ends short (`Ends`).
pub mod Ends
