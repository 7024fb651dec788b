mod Decimals
mod Hexadecimals
