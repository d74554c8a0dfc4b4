-- Tables in which everything is 0 or empty.
use Rattle.std.specs.Prelude.{ℕ, ◌*◌, false, [], replicate}
use Rattle.frame.specs.declared.message.Tag.{Tag}
use Rattle.frame.specs.Limits.{slot_size}
use Rattle.tables.specs.declared.copy.SheetCopy.{SheetCopy}
use Rattle.tables.specs.declared.records.NodeRecord.{NodeRecord}
use Rattle.tables.specs.declared.records.OperationKind.TheVariants.{Read}
use Rattle.tables.specs.declared.records.OperationRow.{OperationRow}
use Rattle.tables.specs.declared.records.OperationState.TheVariants.{Open}
use Rattle.tables.specs.declared.records.ProposalRow.{ProposalRow}
use Rattle.tables.specs.declared.records.Status.TheVariants.{Idle}
use Rattle.tables.specs.Members.{list_of}
use Rattle.desk.specs.Limits.{node_records}
use Rattle.desk.specs.Tables.{Tables, tables}
use Rattle.host.specs.declared.TableLengths.{TableLengths}

-- no write's tag
abbrev pub no_tag : Tag
no_tag = record { version = 0; node = 0 }

abbrev pub blank_copy : SheetCopy
blank_copy = record { tag = no_tag; content = replicate 16 0 }

abbrev pub blank_record : NodeRecord
blank_record = record {
  status = Idle;
  stopped = false;
  configuration = record { number = 0; members = list_of []; opening = no_tag };
  stored = blank_copy;
  served = blank_copy;
  newest = 0;
}

abbrev pub blank_operation : OperationRow
blank_operation = record { kind = Read; node = 0; number = 0; copy = blank_copy; members = list_of []; set = 0; state = Open; start = 0; answer = 0 }

abbrev pub blank_proposal : ProposalRow
blank_proposal = record { number = 0; members = list_of []; copy = blank_copy }

-- sixteen node records, and rows and slots as many as asked for
abbrev pub fresh : TableLengths → Tables
fresh lengths =
    tables (replicate node_records blank_record) (replicate lengths.operations blank_operation) (replicate (lengths.slots * slot_size) 0)
    (replicate lengths.proposals blank_proposal)
