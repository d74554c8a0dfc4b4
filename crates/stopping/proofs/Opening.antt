-- The call open stops rightly.
use Rattle.std.proofs.Common.{◌≡◌, ◌⊎◌, inl, inr, ℕ, ◌<◌, true, false, not, Result, Ok, Err, refl, arith}
use Rattle.std.specs.Prelude.{IfErr, nat_le}
use Rattle.std.proofs.lemmas.Bool.Decides.{nat_tests}
use Rattle.calls.specs.declared.call.Answer.{Answer}
use Rattle.calls.specs.declared.call.Answer.TheVariants.{Number}
use Rattle.calls.specs.declared.call.Call.{Call}
use Rattle.calls.specs.declared.call.Call.TheVariants as call
use Rattle.desk.specs.Limits.{node_records}
use Rattle.desk.specs.Lists.{is_lawful}
use Rattle.desk.specs.Opening.{may_open, opened}
use Rattle.desk.specs.Tables.{one_to, allowed_lengths}
use Rattle.fault.specs.declared.Fault.{Fault}
use Rattle.fault.specs.declared.Fault.TheVariants.{Closed, AlreadyOpen, TableLength, NodeCount, Unlawful, Chooser}
use Rattle.floor.specs.State.{State}
use Rattle.floor.specs.Steps.{leaving}
use Rattle.law.proofs.Outcomes.{Outcome, answer_of}
use Rattle.law.specs.Runs.{Parts, Step, telling, zero_told}
use Rattle.tables.specs.declared.members.Members.{Members}
use Rattle.stopping.specs.Grounds.{Holds, StopsRightly}
use Rattle.stopping.proofs.Asked.{not_true, one_fails, both_fail}
use Rattle.stopping.proofs.Chains.{UpTo, if_holds, if_stops, if_next_stops}
use Rattle.stopping.proofs.Judged.{Judged, StopsAtEach, stopped, went_on, rightly}

-- a count that is not one to the highest
outside : (highest n : ℕ) → one_to highest n ≡ false → (n ≡ 0) ⊎ (highest < n)
outside highest n is = elim (one_fails (nat_le 1 n) (nat_le n highest) is) [ inl none ↦ inl (grind (arith, nat_tests)) | inr above ↦ inr (grind (arith, nat_tests)) ]

-- and the other way round
not_inside : (highest n : ℕ) → (n ≡ 0) ⊎ (highest < n) → not (one_to highest n) ≡ true
not_inside highest n (inl none) = let fails = both_fail (nat_le 1 n) (nat_le n highest) (inl (grind (arith, nat_tests))) in rw fails refl
not_inside highest n (inr above) = let fails = both_fail (nat_le 1 n) (nat_le n highest) (inr (grind (arith, nat_tests))) in rw fails refl

module _ {C Q S : Type 0} (parts : Parts C Q S) (before : State Q S) (answer : Result Answer Fault) (after : State Q S) (count : ℕ) (members : Members) (content : C) where
  abbrev opens : Call C
  opens = call.Open count members content

  abbrev OpenGround : Fault → Type 0
  OpenGround = Holds parts before opens after.chooser

  -- the questions of the call
  abbrev asks : Result (Unit {0}) Fault
  asks = may_open before.desk before.t count members

  -- Each question stops on its own ground.
  open_grounded : IfErr asks OpenGround
  open_grounded =
      if_holds OpenGround before.desk.is_open _ AlreadyOpen (λ is. is) (λ _.
      if_holds OpenGround (not (allowed_lengths before.t)) _ TableLength (λ is. inl (not_true _ is)) (λ _.
      if_holds OpenGround (not (one_to node_records count)) _ NodeCount (λ is. outside node_records count (not_true _ is)) (λ _.
      if_holds OpenGround (not (is_lawful members count)) (Ok tt) Unlawful (λ is. not_true _ is) (λ _. tt))))

  -- It stops where a ground holds: what is asked before has a lower number.
  open_each : StopsAtEach parts before opens answer after asks
  open_each Closed low holds = let none = holds.0 in absurd (cc)
  open_each AlreadyOpen low holds = if_stops (UpTo 1) before.desk.is_open _ AlreadyOpen holds (omega arith)
  open_each TableLength low (inl not_allowed) =
      if_next_stops (UpTo 2) before.desk.is_open _ AlreadyOpen (omega arith) (λ _.
      if_stops (UpTo 2) (not (allowed_lengths before.t)) _ TableLength (rw not_allowed refl) (omega arith))
  open_each TableLength low (inr differs) = let none = differs.0 in absurd (cc)
  open_each NodeCount low holds =
      if_next_stops (UpTo 7) before.desk.is_open _ AlreadyOpen (omega arith) (λ _.
      if_next_stops (UpTo 7) (not (allowed_lengths before.t)) _ TableLength (omega arith) (λ _.
      if_stops (UpTo 7) (not (one_to node_records count)) _ NodeCount (not_inside node_records count holds) (omega arith)))
  open_each Unlawful low holds =
      if_next_stops (UpTo 13) before.desk.is_open _ AlreadyOpen (omega arith) (λ _.
      if_next_stops (UpTo 13) (not (allowed_lengths before.t)) _ TableLength (omega arith) (λ _.
      if_next_stops (UpTo 13) (not (one_to node_records count)) _ NodeCount (omega arith) (λ _.
      if_stops (UpTo 13) (not (is_lawful members count)) (Ok tt) Unlawful (rw holds refl) (omega arith))))
  open_each (Chooser refusal) low holds = absurd (cc)
  open_each _ low holds = absurd holds

  -- It answers 0, or the fault.
  opened_by : (may : Result (Unit {0}) Fault) → asks ≡ may
      → ◌≡◌ {A = Outcome Q S} (answer, after) (telling zero_told (leaving before (opened before.desk before.t count members (parts.meaning content) may))) → Judged parts before opens answer after
  opened_by (Ok nothing) is step = went_on parts before opens answer after asks open_grounded open_each nothing is (Number 0) (answer_of step) refl
  opened_by (Err fault) is step = stopped parts before opens answer after asks open_grounded open_each fault is step

  pub open_rightly : Step parts before opens answer after → StopsRightly parts before opens answer after
  open_rightly step = rightly parts before opens answer after (opened_by asks refl step)
