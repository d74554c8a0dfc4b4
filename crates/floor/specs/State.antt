-- All that a call on a floor can see: what the floor keeps, and the host's tables.
use Rattle.std.specs.Prelude.{ℕ, List}
use Rattle.tables.specs.declared.records.NodeRecord.{NodeRecord}
use Rattle.tables.specs.declared.records.OperationRow.{OperationRow}
use Rattle.tables.specs.declared.records.ProposalRow.{ProposalRow}
use Rattle.desk.specs.declared.desk.Desk.{Desk}
use Rattle.desk.specs.Tables.{Tables, tables}
use Rattle.floor.specs.declared.floor.Floor.{Floor}

pub record State (Q S : Type 0) : Type 0 where
  pub desk : Desk
  pub rule : Q
  pub chooser : S
  pub t : Tables

-- what a floor keeps
abbrev pub desk_of : {C Q S : Type 0} → Floor C Q S → Desk
desk_of floor = floor.desk

abbrev pub rule_of : {C Q S : Type 0} → Floor C Q S → Q
rule_of floor = floor.rule

abbrev pub chooser_of : {C Q S : Type 0} → Floor C Q S → S
chooser_of floor = floor.chooser

-- a floor with these tables
abbrev pub state : {C Q S : Type 0} → Floor C Q S → List NodeRecord → List OperationRow → List ℕ → List ProposalRow → State Q S
state floor nodes operations frames proposals =
    record { desk = desk_of floor; rule = rule_of floor; chooser = chooser_of floor; t = tables nodes operations frames proposals }
