-- The laws of commands, of flags and of refusals.
pub mod CommandLaws
pub mod FlagLaws
pub mod RefusalLaws
