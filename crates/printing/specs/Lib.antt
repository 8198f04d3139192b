-- Numbers in decimal digits (`Decimal`), and bytes printed into a lent slice (`Output`).
pub mod Decimal
pub mod Output
