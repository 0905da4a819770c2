-- What the proofs of several functions use.
mod Scan
mod Passes
mod Past
mod Apart
mod Events
mod Twins
mod Props
mod Kids
