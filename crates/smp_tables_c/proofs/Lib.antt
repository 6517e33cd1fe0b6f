pub mod AsBox
mod Bits
mod Filling
mod Outside
mod Refusals
