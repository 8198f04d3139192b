-- The loops that lay numbers out (`Laid`), slices that give the same table (`Padded`), what is read back (`Back`), and how scales are judged (`Scales`).
pub mod Laid
pub mod Padded
pub mod Back
pub mod Scales
