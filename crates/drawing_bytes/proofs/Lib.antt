-- `Listings` has addresses written one list after the other, `Covering` which world or object covers a pixel, `Sources` where a
-- world's source lies, `Worlds` and `Drawn` what is left of the two loops, and `Answers` what the call gives by each test.
mod Listings
mod Covering
mod Sources
mod Worlds
mod Drawn
mod Answers
