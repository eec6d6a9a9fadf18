mod AtOnce
mod Bands
mod Checks
mod Consequences
mod Counting
mod Edits
mod Examples
mod Execution
mod Forging
mod Gaining
mod Halting
mod Inputs
pub mod Outcomes
mod ReplayLaws
mod RunExamples
mod Running
mod ShownModels
mod Soundness
mod StopExamples
mod Tasks
pub mod Theorems
mod UndoExamples
mod Undoing
mod Waiting
mod WaitingExamples
mod WorkSums
mod Writing
