mod Filling
mod Same
