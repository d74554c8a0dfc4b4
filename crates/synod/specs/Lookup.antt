-- How the tables of a synod are read, and what they begin with.
use Rattle.std.specs.Prelude.{ℕ, ◌^◌, Bool, false, List, [], map, None, get_or}
use Rattle.std.specs.List.{range_with_len}
use Rattle.ballots.specs.declared.instance.Instance.{Instance}
use Rattle.ballots.specs.Limits.{acceptors}

-- a rule's answers for the 32 sets
abbrev pub rule_answers : (ℕ → Bool) → List Bool
rule_answers winning = map winning (range_with_len 0 (2 ^ acceptors))

-- the answer that is kept for a set; other sets lose
abbrev pub won : List Bool → ℕ → Bool
won wins set = get_or wins set false

-- where there is no number there is no instance
abbrev pub no_instance : Instance
no_instance = record { acceptors = []; values = []; decision = None }

-- the instance of a number
abbrev pub instance_at : List Instance → ℕ → Instance
instance_at instances number = get_or instances number no_instance
