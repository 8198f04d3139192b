-- Extrema over runs of places (`Over`); a run whose ends move, over any places (`Moves`); the cells that hold its extrema (`Suffixes`).
pub mod Over
pub mod Moves
pub mod Suffixes
