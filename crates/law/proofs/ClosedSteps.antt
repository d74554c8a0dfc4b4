-- What a call does on a closed floor: an opening may be taken, and all else is refused and changes nothing.
use Rattle.std.proofs.Common.{◌≡◌, ℕ, true, false, ◌⊎◌, inl, inr, refl, ap, ◌∙◌, subst, Result, Ok, Err}
use Rattle.calls.specs.declared.call.Answer.{Answer}
use Rattle.calls.specs.declared.call.Answer.TheVariants.{Number}
use Rattle.calls.specs.declared.call.Call.{Call}
use Rattle.calls.specs.declared.call.Call.TheVariants.{Open, Read, Write, Regroup, Propose, Settle, Work, Deliver, Lose, GiveUp, Stop, Look}
use Rattle.desk.specs.declared.desk.Desk.{Desk}
use Rattle.desk.specs.Asking.{served}
use Rattle.desk.specs.Opening.{may_open, opened, opened_nodes, opening_copy}
use Rattle.desk.specs.Tables.{Tables}
use Rattle.fault.specs.declared.Fault.{Fault}
use Rattle.fault.specs.declared.Fault.TheVariants.{Closed}
use Rattle.floor.specs.State.{State}
use Rattle.floor.specs.Steps.{leaving}
use Rattle.law.proofs.Outcomes.{Outcome, answer_of, state_of, Refused, refused_by}
use Rattle.law.proofs.OpenedServes.{opened_serves}
use Rattle.law.specs.Runs.{Parts, Step, telling, zero_told}
use Rattle.tables.specs.declared.members.Members.{Members}

-- a closed floor serves no call
pub not_served : (desk : Desk) (t : Tables) → desk.is_open ≡ false → served desk t ≡ Err Closed
not_served desk t is_closed = rw is_closed refl

-- a state is its desk, rule, chooser and tables
same_state : {Q S : Type 0} (one other : State Q S) → one.desk ≡ other.desk → one.rule ≡ other.rule → one.chooser ≡ other.chooser → one.t ≡ other.t → one ≡ other
same_state one other desk rule chooser t i = record { desk = desk i; rule = rule i; chooser = chooser i; t = t i }

-- The call opened the floor.
pub record OpensFloor {C Q S : Type 0} (parts : Parts C Q S) (before : State Q S) (call : Call C) (answer : Result Answer Fault) (after : State Q S) : Type 0 where
  pub count : ℕ
  pub members : Members
  pub content : C
  pub opens : call ≡ Open count members content
  pub taken : answer ≡ Ok (Number 0)
  pub step : Step parts before (Open count members content) (Ok (Number 0)) after
  pub is_open : after.desk.is_open ≡ true
  pub serves : served after.desk after.t ≡ Ok tt
  pub unused : after.desk.operations_used ≡ 0
  pub counted : after.desk.node_count ≡ count
  pub same_rule : after.rule ≡ before.rule
  pub nodes : after.t.nodes ≡ opened_nodes before.t.nodes count members (opening_copy (parts.meaning content))

module _ {C Q S : Type 0} (parts : Parts C Q S) (before after : State Q S) (answer : Result Answer Fault) (is_closed : before.desk.is_open ≡ false) where
  abbrev Opens : Call C → Type 0
  Opens call = OpensFloor parts before call answer after

  -- an opening, by the first ground on which it stops, if there is one
  opening : (count : ℕ) (members : Members) (content : C) (may : Result (Unit {0}) Fault) → Step parts before (Open count members content) answer after
      → may_open before.desk before.t count members ≡ may → Opens (Open count members content) ⊎ Refused before answer after
  opening count members content (Ok _) step may =
      let is : ◌≡◌ {A = Outcome Q S} (answer, after) (telling zero_told (leaving before (opened before.desk before.t count members (parts.meaning content) (Ok tt)))) = rw may at step in
      let taken : answer ≡ Ok (Number 0) = answer_of is in
      inl
      (record {
        count = count;
        members = members;
        content = content;
        opens = refl;
        taken = taken;
        step = subst (λ told. Step parts before (Open count members content) told after) taken step;
        is_open = ap (λ (s : State Q S). s.desk.is_open) (state_of is);
        serves = ap (λ (s : State Q S). served s.desk s.t) (state_of is) ∙ opened_serves before.desk before.t count members (parts.meaning content) may;
        unused = ap (λ (s : State Q S). s.desk.operations_used) (state_of is);
        counted = ap (λ (s : State Q S). s.desk.node_count) (state_of is);
        same_rule = ap (λ (s : State Q S). s.rule) (state_of is);
        nodes = ap (λ (s : State Q S). s.t.nodes) (state_of is);
      })
  opening count members content (Err fault) step may = inr (refused_by before after answer fault (rw may at step))

  none_served : served before.desk before.t ≡ Err Closed
  none_served = not_served before.desk before.t is_closed

  -- The chooser is not asked.
  proposing : (operation : ℕ) → Step parts before (Propose operation) answer after → Refused before answer after
  proposing operation (row, (proposes, rule), told) =
      let (left, asked) = rw none_served at proposes in
      let refuses : row ≡ Err Closed = ap (λ (o : Result ℕ Fault × Desk × Tables). o.0) left in
      record {
        fault = Closed;
        says = rw refuses at told;
        nothing = same_state after before (ap (λ (o : Result ℕ Fault × Desk × Tables). o.1) left) rule asked (ap (λ (o : Result ℕ Fault × Desk × Tables). o.2) left);
      }

  working : (number step ballot set : ℕ) → Step parts before (Work number step ballot set) answer after → Refused before answer after
  working number step ballot set (taken, (works, left), told) =
      let (refuses, asked) = rw none_served at works in
      record { fault = Closed; says = rw refuses at told; nothing = left ∙ ap (λ chooser. record before { chooser = chooser }) asked }

  looking : (operation : ℕ) → Step parts before (Look operation) answer after → Refused before answer after
  looking operation (told, left) = record { fault = Closed; says = rw none_served at told; nothing = left }

  pub closed_step : (call : Call C) → Step parts before call answer after → Opens call ⊎ Refused before answer after
  closed_step (Open count members content) step = opening count members content (may_open before.desk before.t count members) step refl
  closed_step (Read node) step = inr (refused_by before after answer Closed (rw none_served at step))
  closed_step (Write node content) step = inr (refused_by before after answer Closed (rw none_served at step))
  closed_step (Regroup node members) step = inr (refused_by before after answer Closed (rw none_served at step))
  closed_step (Propose operation) step = inr (proposing operation step)
  closed_step (Settle node) step = inr (refused_by before after answer Closed (rw none_served at step))
  closed_step (Work number phase ballot set) step = inr (working number phase ballot set step)
  closed_step (Deliver slot) step = inr (refused_by before after answer Closed (rw none_served at step))
  closed_step (Lose slot) step = inr (refused_by before after answer Closed (rw none_served at step))
  closed_step (GiveUp operation) step = inr (refused_by before after answer Closed (rw none_served at step))
  closed_step (Stop node) step = inr (refused_by before after answer Closed (rw none_served at step))
  closed_step (Look operation) step = inr (looking operation step)
