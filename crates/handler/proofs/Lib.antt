-- The laws of the handler.
pub mod RoundRobin
pub mod Allowed
pub mod StateParts
pub mod GrantCases
pub mod HandlerLaws
pub mod Lists
pub mod WaitingCall
pub mod WaitingLaws
pub mod WaitingExamples
pub mod RuleLaws
pub mod ToldLaws
