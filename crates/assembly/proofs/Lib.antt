mod Digits
mod Extended
