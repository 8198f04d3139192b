-- The mathematics of the reading. `Witness` and `Words`: the truth of the temporal operators in plain words. `Steps`: a relation that the operations keep is kept
-- by every reading. `Duality`: "not" pushed down changes nothing. `Margins`: whole numbers against truth.
-- `Extremes`: the larger and the smaller of two do not depend on order or repetition. `Beaten`: what may be left out of an extremum, and so of until and release.
-- `Windows`, `Line`, `Carry`, `Crossing`: what is read at samples carries over to all seconds near them.
pub mod Witness
pub mod Words
pub mod Steps
pub mod Duality
pub mod Windows
pub mod Carry
pub mod Line
pub mod Crossing
pub mod Margins
pub mod Beaten
pub mod Extremes
