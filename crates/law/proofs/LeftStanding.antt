-- When what a call left has a system that stands for it, to which the protocol goes.
use Rattle.std.proofs.Common.{◌≡◌, ℕ, List, Result, sym, ap, subst}
use Rattle.calls.specs.declared.call.Answer.{Answer}
use Rattle.desk.specs.LawfulTables.{LawfulTables}
use Rattle.fault.specs.declared.Fault.{Fault}
use Rattle.floor.specs.State.{State}
use Rattle.law.proofs.Linked.{PartsLaws, Stands}
use Rattle.law.specs.Runs.{Parts}
use Rattle.link.proofs.Represents.{GoesTo}
use Rattle.link.proofs.RowsInside.{RowsInside, rows_stay_inside}
use Rattle.link.proofs.Settings.{setting_of}
use Rattle.protocol.specs.Moves.{Later}
use Rattle.protocol.specs.State.{Content, System, Setting}

module _ {C Q S : Type 0} (parts : Parts C Q S) (laws : PartsLaws parts) where
  -- the setting that a rule makes, with the members and the content of an opening
  abbrev pub setting_in : Q → List ℕ → Content → Setting
  setting_in rule members content = setting_of (parts.winning rule) (laws.rule_laws rule) members content

  module _ (members : List ℕ) (content : Content) (before : State Q S) (system : System) (stands : Stands parts before system) where
    -- the protocol goes to a system that stands for this state
    abbrev pub LeftStanding : State Q S → Type 0
    LeftStanding after = (system' : System) × Later (setting_in before.rule members content) system system' × Stands parts after system'

    abbrev pub Goes : State Q S → Type 0
    Goes after = GoesTo parts.width parts.meaning parts.from_bytes (setting_in before.rule members content) system (parts.decided after.chooser) after.desk after.t

    abbrev pub Lawful : State Q S → Type 0
    Lawful after = LawfulTables parts.meaning after.desk after.t

    pub left_standing : (after : State Q S) → Goes after → Lawful after → RowsInside after.desk after.t → LeftStanding after
    left_standing after (system', later, represents) lawful inside = (system', later, record { represents = represents; lawful = lawful; inside = inside })

    -- where no node and no operation is added
    pub counts_kept : (after : State Q S) → Goes after → Lawful after → after.desk.node_count ≡ before.desk.node_count → after.desk.operations_used ≡ before.desk.operations_used
        → LeftStanding after
    counts_kept after goes lawful same_nodes same_used = left_standing after goes lawful (rows_stay_inside stands.represents goes same_nodes same_used stands.inside)

    -- where the state is what the step of a call says
    pub by_step : {left : Result Answer Fault × State Q S} (answer : Result Answer Fault) (after : State Q S) → (answer, after) ≡ left → LeftStanding left.1 → LeftStanding after
    by_step answer after is standing = subst LeftStanding (sym (ap (λ (left : Result Answer Fault × State Q S). left.1) is)) standing
