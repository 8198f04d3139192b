-- `Promises` has what the customer asks of the verdict function, demand 3 among it. `Strong` and `Rows`: a node's two rows come from its children's. `Entry`: the answer
-- by the number that the tests found.
pub mod Promises
pub mod Strong
pub mod Rows
pub mod Entry
