mod Cuts
mod Decimals
mod Lines
