-- What stands between the code and the definitions of `coherence`.
pub mod Through
