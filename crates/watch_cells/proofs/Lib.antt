-- What one node is worked out from (`Points`), what a row adds to it (`Steps`), that it writes its own cells alone (`Own`), and that it then has taken the row (`Taken`).
pub mod Points
pub mod Steps
pub mod Own
pub mod Taken
pub mod Chunks
