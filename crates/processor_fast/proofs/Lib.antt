mod Acceptance
mod Leading
mod Rows
mod Turning
mod Written
