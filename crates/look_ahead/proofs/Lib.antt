-- What the proofs of several functions use.
mod Names
mod Looks
