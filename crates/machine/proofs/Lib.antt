-- Laws that several functions' proofs share.
mod Refusals
mod ClaimLaws
mod Accesses
mod Calls
mod SetLaws
