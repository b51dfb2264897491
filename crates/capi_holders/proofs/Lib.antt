pub mod HoldersLaws
