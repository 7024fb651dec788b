pub mod Hexadecimal
pub mod Decimal
