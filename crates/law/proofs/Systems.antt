-- The systems that stand for the states of a run from its opening on: each is later than those before it.
use Rattle.std.proofs.Common.{◌≡◌, ℕ, suc, ◌<◌, ◌≤◌, inl, inr, List, sym, ◌∙◌, subst, arith}
use Rattle.content.specs.Bytes.{padded}
use Rattle.floor.specs.State.{State}
use Rattle.protocol.specs.Moves.{Reached, AtOpening, Later, Now, AfterMove}
use Rattle.protocol.specs.State.{System, Setting}
use Rattle.protocol.proofs.Moments.{reached_later}
use Rattle.law.specs.Runs.{Parts, Entry}
use Rattle.law.proofs.Linked.{Linked, Stands}
use Rattle.law.proofs.Opening.{FromClosed, OpensAt, IsOpen, StaysOpen, stays_open}
use Rattle.law.proofs.Places.{state_at, GoesOrEnded, goes_or_ended, upwards}
use Rattle.tables.specs.Members.{listed}

-- what is later than a later one is later
later_on : (setting : Setting) (early between late : System) → Later setting early between → Later setting between late → Later setting early late
later_on setting early between late first Now = first
later_on setting early between late first (AfterMove {between = last} second move) = AfterMove (later_on setting early between last first second) move

module _ {C Q S : Type 0} {parts : Parts C Q S} {calls : List (Entry C Q S)} {end : State Q S} (link : Linked parts) (ran : FromClosed parts calls end)
    (opening : ℕ) (opens : OpensAt ran opening) where
  -- the setting that the opening makes
  abbrev pub setting : Setting
  setting = link.setting (state_at ran.start calls opening).rule (listed opens.opens.members) (padded (parts.meaning opens.opens.content))

  abbrev StandsAt : ℕ → System → Type 0
  StandsAt place system = Stands parts (state_at ran.start calls place) system

  -- a system later than an early one that stands for the state at a place
  record Onward (early : System) (place : ℕ) : Type 0 where
    late : System
    stands : StandsAt place late
    later : Later setting early late

  open_after : (place : ℕ) → opening < place → StaysOpen ran (suc opening) place
  open_after place behind = stays_open ran (suc opening) place (omega (arith, behind)) opens.opens.is_open

  pub is_open_after : (place : ℕ) → opening < place → IsOpen ran place
  is_open_after place behind = (open_after place behind).is_open

  -- the rule is that of the opening
  same_rule : (place : ℕ) → opening < place → (state_at ran.start calls place).rule ≡ (state_at ran.start calls opening).rule
  same_rule place behind = (open_after place behind).same_rule ∙ opens.opens.same_rule

  goes_on : (early : System) (place : ℕ) → opening < place → Onward early place → GoesOrEnded parts ran.start calls place → Onward early (suc place)
  goes_on early place behind so_far (inl (entry, there, goes)) =
      let members = listed opens.opens.members in
      let content = padded (parts.meaning opens.opens.content) in
      let (late, later, stands) =
      link.step_stands members content (state_at ran.start calls place) (state_at ran.start calls (suc place)) entry.call entry.answer so_far.late so_far.stands (is_open_after place behind) goes.step in
      record {
        late = late;
        stands = stands;
        later = later_on setting early so_far.late late so_far.later (subst (λ rule. Later (link.setting rule members content) so_far.late late) (same_rule place behind) later);
      }
  goes_on early place behind so_far (inr ended) = record { late = so_far.late; stands = subst (λ (s : State Q S). Stands parts s so_far.late) (sym ended) so_far.stands; later = so_far.later }

  onward : (early : System) (place : ℕ) → opening < place → StandsAt place early → (late : ℕ) → place ≤ late → Onward early late
  onward early place behind stands late below =
      upwards (Onward early) place (record { late = early; stands = stands; later = Now })
      (λ between from so_far. goes_on early between (omega (arith, behind, from)) so_far (goes_or_ended parts ran.start end calls ran.run between)) late below

  -- Two points of the run, behind its opening: systems that stand for the states there.
  pub record Points (early late : ℕ) : Type 0 where
    pub first : System
    pub second : System
    pub first_stands : StandsAt early first
    pub second_stands : StandsAt late second
    pub reached : Reached setting first
    pub later : Later setting first second

  pub points : (early late : ℕ) → opening < early → early ≤ late → Points early late
  points early late behind below =
      let (system, protocol_opens, stands) =
      link.opening_stands (state_at ran.start calls opening) (state_at ran.start calls (suc opening)) opens.opens.count opens.opens.members opens.opens.content opens.was_closed opens.opens.step in
      let to_early = onward system (suc opening) (omega arith) stands early (omega (arith, behind)) in
      let to_late = onward to_early.late early behind to_early.stands late below in
      record {
        first = to_early.late;
        second = to_late.late;
        first_stands = to_early.stands;
        second_stands = to_late.stands;
        reached = reached_later setting system to_early.late (AtOpening protocol_opens) to_early.later;
        later = to_late.later;
      }
