-- What a chooser decided since it was asked last.
use Rattle.std.specs.Prelude.{ℕ, List, slice_get, Option, Some, None}
use Rattle.chooser.specs.Meaning.{Decisions, decision_at}
use Rattle.tables.specs.declared.records.ProposalRow.{ProposalRow}
use Rattle.chart.specs.declared.step.Decision.{Decision}

abbrev pub decision_for : ℕ → ℕ → Option ProposalRow → Option Decision
decision_for number proposal (Some row) = Some (record { number = number; proposal = proposal; row = row })
decision_for number proposal None = None

-- the decision under a number where there was none before
abbrev pub newly : ℕ → List ProposalRow → Option ℕ → Option ℕ → Option Decision
newly number proposals None (Some proposal) = decision_for number proposal (slice_get proposals proposal)
newly number proposals None None = None
newly number proposals (Some decided) now = None

abbrev pub decided : Option ℕ → Decisions → ℕ → List ProposalRow → Option Decision
decided before decisions number proposals = newly number proposals before (decision_at decisions number)
