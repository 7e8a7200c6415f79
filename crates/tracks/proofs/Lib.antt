mod Fairness
mod Standing
mod Tellings
mod Tells
