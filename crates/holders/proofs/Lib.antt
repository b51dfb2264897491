pub mod HoldersTold
pub mod Examples
