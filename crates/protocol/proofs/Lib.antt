-- The proof that the law holds, in the order to read it.

-- The facts of a run, what holds of them at every point, and that a step keeps it
pub mod History
pub mod Invariant
pub mod Lasting
pub mod Configurations
pub mod NodesKept
pub mod RequestsKept
pub mod AnswersKept
pub mod LaterKept
pub mod InvariantKept
-- What follows: the quorum argument, and the order of answers as facts
pub mod CarriedOver
pub mod FactOrder
-- What a system stands for, and that each move is a step
pub mod Standing
pub mod NodeSteps
pub mod SoundAfter
pub mod Shared
pub mod NodeMoves
pub mod StartMoves
pub mod RowMoves
pub mod ProposalMoves
pub mod SoundRuns
-- What the moves say of rows and moments, without any facts
pub mod RowChanges
pub mod RowsStay
pub mod Moments
-- The law
pub mod LineHolds
pub mod OrderHolds
