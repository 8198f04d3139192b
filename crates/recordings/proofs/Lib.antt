-- What the definitions say of each other. `Distances` and `Nearest`: a distance is what its words say, and its sign is the predicate's truth. `Margins`: so is a
-- margin's, and none is zero or beyond the top. `Strengthened`: strengthening only lowers. `Between`: it carries past the samples. `Verdicts`: demand 3.
pub mod Distances
pub mod Nearest
pub mod Margins
pub mod Strengthened
pub mod Between
pub mod Verdicts
pub mod Examples
