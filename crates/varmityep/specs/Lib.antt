-- What the C functions take and hand back, as flat numbers (`Places`). What is written into a slice, and predicates and tables as flat numbers, are `flat`'s and `building`'s.
pub mod Places
