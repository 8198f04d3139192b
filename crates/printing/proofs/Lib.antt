-- Laws of printed bytes (`Printed`), also when they are then written into a lent slice (`Lent`), and of decimal digits (`Decimal`, `Numerals`, `Lengths`).
pub mod Printed
pub mod Decimal
pub mod Numerals
pub mod Lengths
pub mod Lent
