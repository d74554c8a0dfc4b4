-- A call stops rightly, by how it comes out: it stops on a ground that holds, of which no lower one does, or it goes on where none holds.
use Rattle.std.proofs.Common.{◌≡◌, ◌<◌, ◌≤◌, ◌⊎◌, inl, inr, Result, Ok, Err, refl, subst, ap, arith}
use Rattle.std.specs.Prelude.{IfErr}
use Rattle.calls.specs.declared.call.Answer.{Answer}
use Rattle.calls.specs.declared.call.Call.{Call}
use Rattle.fault.specs.declared.Fault.{Fault}
use Rattle.fault.specs.declared.Fault.TheVariants.{Chooser}
use Rattle.fault.specs.Faults.{number}
use Rattle.floor.specs.State.{State}
use Rattle.law.proofs.Outcomes.{Outcome, answer_of, state_of}
use Rattle.law.specs.Runs.{Parts}
use Rattle.stopping.specs.Grounds.{Holds, Chose, StopsRightly, chooser_refused}
use Rattle.stopping.proofs.Chains.{Stops}

-- No ground has a higher number than the chooser's.
before_or_last : (fault : Fault) → (number fault < chooser_refused) ⊎ (number fault ≡ chooser_refused)
before_or_last (Chooser refusal) = inr refl
before_or_last _ = inl (omega arith)

highest : (fault : Fault) → number fault ≤ chooser_refused
highest fault = elim (before_or_last fault) [ inl below ↦ omega arith | inr is ↦ omega arith ]

module _ {C Q S : Type 0} (parts : Parts C Q S) (before : State Q S) (call : Call C) (answer : Result Answer Fault) (after : State Q S) where
  -- a ground of the call
  abbrev pub Ground : Fault → Type 0
  Ground fault = Holds parts before call after.chooser fault

  -- wherever a ground holds that is asked before the chooser, the chain stops, on it or on a lower one
  abbrev pub StopsAtEach : {A : Type 0} → Result A Fault → Type 0
  StopsAtEach may = (other : Fault) → number other < chooser_refused → Ground other → Stops (number other) may

  pub record StopsOn : Type 0 where
    pub fault : Fault
    pub says : answer ≡ Err fault
    pub holds : Ground fault
    pub lowest : (other : Fault) → number other < chooser_refused → Ground other → number fault ≤ number other
    pub nothing : (after.desk ≡ before.desk) × (after.t ≡ before.t) × (after.rule ≡ before.rule)
    pub chooser_stays : number fault < chooser_refused → after.chooser ≡ before.chooser

  pub record GoesOn : Type 0 where
    pub value : Answer
    pub says : answer ≡ Ok value
    pub none : (other : Fault) → number other < chooser_refused → Ground other → ⊥
    pub taken : Chose parts before call (Ok tt) after.chooser

  abbrev pub Judged : Type 0
  Judged = StopsOn ⊎ GoesOn

  -- The chooser's ground has the highest number of all.
  lowest_of : (stops : StopsOn) (other : Fault) → Ground other → number stops.fault ≤ number other
  lowest_of stops other there = elim (before_or_last other) [ inl below ↦ stops.lowest other below there | inr is ↦ let last = highest stops.fault in omega arith ]

  -- An answer is a fault or a value, and only one of them.
  pub rightly : Judged → StopsRightly parts before call answer after
  rightly (inl stops) = record {
    holds = λ fault says. let said = stops.says in let same : stops.fault ≡ fault = cc in subst Ground same stops.holds;
    lowest = λ fault other says there. let said = stops.says in let same : stops.fault ≡ fault = cc in subst (λ f. number f ≤ number other) same (lowest_of stops other there);
    only_then = λ value says other below there. let said = stops.says in absurd (cc);
    taken = λ value says. let said = stops.says in absurd (cc);
    changes_nothing = λ fault says. stops.nothing;
    chooser_stays = λ fault says below. let said = stops.says in let same : fault ≡ stops.fault = cc in stops.chooser_stays (subst (λ f. number f < chooser_refused) same below);
  }
  rightly (inr goes) = record {
    holds = λ fault says. let said = goes.says in absurd (cc);
    lowest = λ fault other says there. let said = goes.says in absurd (cc);
    only_then = λ value says other below there. goes.none other below there;
    taken = λ value says. goes.taken;
    changes_nothing = λ fault says. let said = goes.says in absurd (cc);
    chooser_stays = λ fault says below. let said = goes.says in absurd (cc);
  }

  module _ {A : Type 0} (may : Result A Fault) (grounded : IfErr may Ground) (each : StopsAtEach may) where
    -- The chain stopped, and the call left all as it was.
    pub stopped : (fault : Fault) → may ≡ Err fault → ◌≡◌ {A = Outcome Q S} (answer, after) (Err fault, before) → Judged
    stopped fault is left =
        let state : after ≡ before = state_of left in
        inl
        (record {
          fault = fault;
          says = answer_of left;
          holds = rw is at grounded;
          lowest = λ other below there. rw is at (each other below there);
          nothing = (ap (λ (s : State Q S). s.desk) state, ap (λ (s : State Q S). s.t) state, ap (λ (s : State Q S). s.rule) state);
          chooser_stays = λ below. ap (λ (s : State Q S). s.chooser) state;
        })

    -- The chain went to its end.
    pub went_on : (found : A) → may ≡ Ok found → (value : Answer) → answer ≡ Ok value → Chose parts before call (Ok tt) after.chooser → Judged
    went_on found is value says taken = inr (record { value = value; says = says; none = λ other below there. absurd (rw is at (each other below there)); taken = taken })
