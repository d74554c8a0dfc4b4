-- What the law over runs stands on: the laws that a broker's parts keep, and that calls are moves of the protocol.
use Rattle.std.proofs.Common.{◌≡◌, ℕ, ◌≤◌, true, false, List, length, Result, Ok}
use Rattle.calls.specs.declared.call.Answer.{Answer}
use Rattle.calls.specs.declared.call.Answer.TheVariants.{Number}
use Rattle.calls.specs.declared.call.Call.{Call}
use Rattle.calls.specs.declared.call.Call.TheVariants as made
use Rattle.chooser.specs.Laws.{Offered, Worked}
use Rattle.chooser.specs.Limits.{numbers}
use Rattle.chooser.specs.Meaning.{OfferLists}
use Rattle.chooser.specs.Meaning as chooser
use Rattle.content.specs.Bytes.{padded, widest}
use Rattle.desk.specs.LawfulTables.{LawfulTables}
use Rattle.fault.specs.declared.Fault.{Fault}
use Rattle.floor.specs.State.{State}
use Rattle.frame.proofs.Laws.{Laws}
use Rattle.link.proofs.Represents.{Represents}
use Rattle.link.proofs.RowsInside.{RowsInside}
use Rattle.link.proofs.Settings.{RuleLaws}
use Rattle.protocol.specs.Moves.{Opens, Later}
use Rattle.protocol.specs.State.{Content, System, Setting}
use Rattle.law.specs.Runs.{Parts, Step}
use Rattle.tables.specs.declared.members.Members.{Members}
use Rattle.tables.specs.Members.{listed}

-- What is used of a kind of content, a quorum rule and a chooser.
pub record PartsLaws {C Q S : Type 0} (parts : Parts C Q S) : Type 0 where
  pub content_laws : Laws parts.width parts.meaning parts.from_bytes
  pub rule_laws : (rule : Q) → RuleLaws (parts.winning rule)
  pub offers : S → OfferLists
  pub sixteen_decisions : (s : S) → length (parts.decided s) ≡ numbers
  pub offering_is_lawful : (s t : S) (number value : ℕ) (answer : chooser.Answer) → parts.offering s number value answer t
      → Offered (parts.decided s) (offers s) number value answer (parts.decided t) (offers t)
  pub working_is_lawful : (s t : S) (number step ballot set : ℕ) (answer : chooser.Answer) → parts.working s number step ballot set answer t
      → Worked (parts.decided s) (offers s) number answer (parts.decided t) (offers t)

-- A system stands for a state whose tables are lawful, and whose operations are of nodes of the floor.
pub record Stands {C Q S : Type 0} (parts : Parts C Q S) (state : State Q S) (system : System) : Type 0 where
  pub represents : Represents parts.width parts.meaning parts.from_bytes (parts.decided state.chooser) state.desk state.t system
  pub lawful : LawfulTables parts.meaning state.desk state.t
  pub inside : RowsInside state.desk state.t

-- That calls are moves of the protocol, in the setting that the rule makes with the members and the content of an opening.
pub record Linked {C Q S : Type 0} (parts : Parts C Q S) : Type 0 where
  pub narrow : parts.width ≤ widest
  pub setting : Q → List ℕ → Content → Setting
  pub same_content : (rule : Q) (members : List ℕ) (content : Content) → (setting rule members content).content ≡ content
  -- a call on an open floor, whatever it was opened with
  pub step_stands : (members : List ℕ) (content : Content) (before after : State Q S) (call : Call C) (answer : Result Answer Fault) (system : System)
      → Stands parts before system → before.desk.is_open ≡ true → Step parts before call answer after
      → (system' : System) × Later (setting before.rule members content) system system' × Stands parts after system'
  -- an opening that is taken
  pub opening_stands : (before after : State Q S) (count : ℕ) (members : Members) (content : C)
      → before.desk.is_open ≡ false → Step parts before (made.Open count members content) (Ok (Number 0)) after
      → (system : System) × Opens (setting before.rule (listed members) (padded (parts.meaning content))) system × Stands parts after system
