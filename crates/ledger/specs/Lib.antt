pub mod Ledger
pub mod LedgerLaws
