-- What every call but open asks first: whether the floor is open, and whether the tables have the lengths of the opening.
use Rattle.std.proofs.Common.{◌≡◌, ◌≤◌, inl, inr, ℕ, None, Result}
use Rattle.std.specs.Prelude.{IfErr}
use Rattle.std.specs.Result.{result_and}
use Rattle.calls.specs.declared.call.Call.{Call}
use Rattle.desk.specs.Asking.{served}
use Rattle.fault.specs.declared.Fault.{Fault}
use Rattle.fault.specs.declared.Fault.TheVariants.{Closed, TableLength}
use Rattle.floor.specs.State.{State}
use Rattle.law.specs.Runs.{Parts}
use Rattle.stopping.specs.Grounds.{Holds, opening}
use Rattle.stopping.proofs.Asked.{served_holds, served_up_to, closed_stops, lengths_stop}
use Rattle.stopping.proofs.Chains.{UpTo, Stops, and_holds, and_first_stops, and_next_stops}

module _ {C Q S : Type 0} (parts : Parts C Q S) (before : State Q S) (call : Call C) (after : S) (other : opening call ≡ None) where
  -- a ground of the call
  abbrev Ground : Fault → Type 0
  Ground = Holds parts before call after

  -- What it stops on holds of the call: it is none that opens.
  pub served_grounded : IfErr (served before.desk before.t) Ground
  served_grounded = served_holds before.desk before.t Ground (λ is. (other, is)) (λ fails. elim fails [ inl is ↦ inl is | inr is ↦ inr (other, is) ])

  -- A closed floor stops the call.
  pub closed_so : Ground Closed → Stops 1 (served before.desk before.t)
  closed_so (_, is) = closed_stops before.desk before.t is

  -- So does a table of another length.
  pub lengths_so : Ground TableLength → Stops 2 (served before.desk before.t)
  lengths_so (inl is) = lengths_stop before.desk before.t (inl is)
  lengths_so (inr (_, is)) = lengths_stop before.desk before.t (inr is)

  -- the questions of a call: these first, then the rest
  module _ {A : Type 0} (rest : Result A Fault) where
    abbrev asks : Result A Fault
    asks = result_and (served before.desk before.t) rest

    -- What the call stops on holds, if that is so of the rest.
    pub all_grounded : IfErr rest Ground → IfErr asks Ground
    all_grounded holds = and_holds Ground (served before.desk before.t) rest served_grounded holds

    -- These two grounds are asked first,
    pub stops_closed : Ground Closed → Stops 1 asks
    stops_closed holds = and_first_stops (UpTo 1) (served before.desk before.t) rest (closed_so holds)

    pub stops_lengths : Ground TableLength → Stops 2 asks
    stops_lengths holds = and_first_stops (UpTo 2) (served before.desk before.t) rest (lengths_so holds)

    -- and stop on 2 at the most, so a ground of the rest stops the call, too.
    pub rest_stops : (n : ℕ) → 2 ≤ n → Stops n rest → Stops n asks
    rest_stops n low stops = and_next_stops (UpTo n) (served before.desk before.t) rest (served_up_to before.desk before.t n low) stops
