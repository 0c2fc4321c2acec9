mod Runs
mod Nops
mod Labels
mod Ill
mod PlainNaN
mod Encode
mod Rewritten
mod Sample
