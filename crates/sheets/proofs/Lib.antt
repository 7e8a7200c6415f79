mod Plans
mod Rows
