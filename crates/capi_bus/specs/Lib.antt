pub mod Answers
pub mod TimerLines
pub mod Lists
pub mod Misuse
