mod Sums
mod Words
mod Along
mod Checked
