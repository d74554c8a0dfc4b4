-- The two runs, and how they are checked.

-- Scripts of steps, and how they are checked
pub mod Performing
pub mod Checking
pub mod Finding
pub mod Allowing
pub mod Playing
-- The runs
pub mod HandOverRun
pub mod LateWriteRun
