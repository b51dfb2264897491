-- What stands between the test of the sets of holders and its rule.
pub mod Sets
