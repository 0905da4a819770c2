-- What the proofs of several functions use.
mod Bytes
mod Pairs
