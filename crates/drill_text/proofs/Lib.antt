-- The laws of a drill.
pub mod WritingLaws
pub mod LineLaws
pub mod StepLaws
pub mod RecordLaws
pub mod Underway
pub mod DrillLaws
