-- What the host's tables are in the words of the protocol
pub mod Terms
pub mod Represents
pub mod Sets
pub mod Settings
pub mod Tags
-- What the calls share
pub mod Entries
pub mod Contents
pub mod Sending
pub mod Standing
pub mod Moving
pub mod NotRefused
pub mod Lawfulness
-- Opening, and the calls that start an operation
pub mod Opening
pub mod StartsMet
pub mod Beginning
pub mod Starting
-- Deliveries, kind by kind
pub mod Following
pub mod Receiving
pub mod Asked
pub mod Counting
pub mod Counted
pub mod HeldOut
pub mod Joined
pub mod Planned
pub mod Delivered
-- The calls that hand over, and those that end something
pub mod Deciding
pub mod Settling
pub mod RowsInside
pub mod ProposeMet
pub mod Proposing
pub mod Working
pub mod Ending
