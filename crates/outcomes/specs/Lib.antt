-- An outcome as the papers have it (`Outcome`), the order in which a card's outcomes come (`Order`), their arrangement (`Arrangement`), and an example (`Examples`); what the code sorts by (`Key`).
pub mod Outcome
pub mod Order
pub mod Arrangement
pub mod Examples
pub mod Key
