pub mod Lookup
pub mod Invariant
pub mod Meeting
pub mod Synod
pub mod SynodLaws
pub mod Ballots
pub mod Played
