-- The test of the order is exact (`Tests`), and the order is strict and total (`Laws`); lists in such an order (`Sorted`) and insertion into them (`Insertion`);
-- the one arrangement (`Arrangements`), which sorted keys give (`Keys`), over zeros (`Padded`); the example computed (`Examples`).
pub mod Tests
pub mod Laws
pub mod Sorted
pub mod Insertion
pub mod Arrangements
pub mod Keys
pub mod Padded
pub mod Examples
