mod Follows
mod Lengths
mod Checked
mod FastSteps
