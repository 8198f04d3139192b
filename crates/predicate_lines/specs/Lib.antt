-- The form of predicate lines (`Form`), the customer's sentence on their order (`Rising`), and their reading from a place on (`Reading`).
pub mod Form
pub mod Rising
pub mod Reading
