-- What is kept under one number, and what work does to it, exactly.
use Rattle.std.specs.Prelude.{ℕ, ◌+◌, ◌^◌, max, Bool, not, ◌&&◌, ◌==◌, nat_lt, nat_le, if◌then◌else◌, List, length, replicate, filter, slice_get, slice_set, get_or, Option, Some, None, is_some, Ok, Err}
use Rattle.std.specs.List.{enumerate_from, list_all, fold}
use Rattle.chooser.specs.declared.refusal.ChooserRefusal.TheVariants.{NotAllowed}
use Rattle.chooser.specs.Meaning.{Answer}
use Rattle.quorum.specs.Sets.{member}
use Rattle.ballots.specs.declared.instance.Acceptor.{Acceptor}
use Rattle.ballots.specs.declared.instance.Instance.{Instance}
use Rattle.ballots.specs.Limits.{acceptors, last_ballot, owner}

-- ballots are 1 to 15, and a set has no other places than those of the acceptors
abbrev pub within : ℕ → ℕ → Bool
within ballot set = nat_le 1 ballot && (nat_le ballot last_ballot && nat_lt set (2 ^ acceptors))

-- an acceptor that has promised and accepted nothing
abbrev pub fresh : Acceptor
fresh = record { promised = 0; accepted = 0 }

-- an instance at the start: no ballot has a value
abbrev pub blank : Instance
blank = record { acceptors = replicate acceptors fresh; values = replicate (last_ballot + 1) None; decision = None }

-- what an acceptor keeps
abbrev pub acceptor_at : Instance → ℕ → Acceptor
acceptor_at x acceptor = get_or x.acceptors acceptor fresh

-- the value of a ballot, if it is fixed
abbrev pub value_at : Instance → ℕ → Option ℕ
value_at x ballot = get_or x.values ballot None

-- the acceptors of a set, each with its place
abbrev pub members_of : Instance → ℕ → List (ℕ × Acceptor)
members_of x set = filter (λ p. member p.0 set) (enumerate_from 0 x.acceptors)

-- every acceptor of the set has promised just this ballot
abbrev pub all_promised : Instance → ℕ → ℕ → Bool
all_promised x ballot set = list_all (λ p. p.1.promised == ballot) (members_of x set)

-- every acceptor of the set accepted this ballot last
abbrev pub all_accepted : Instance → ℕ → ℕ → Bool
all_accepted x ballot set = list_all (λ p. p.1.accepted == ballot) (members_of x set)

-- the highest ballot that an acceptor of the set accepted last; 0 if none accepted any
abbrev pub highest_accepted : Instance → ℕ → ℕ
highest_accepted x set = fold (λ highest p. max p.1.accepted highest) 0 (members_of x set)

-- the acceptor of a set that has only one
abbrev pub sole : ℕ → Option ℕ
sole set =
    if set == 1 then Some 0 else
    if set == 2 then Some 1 else
    if set == 4 then Some 2 else
    if set == 8 then Some 3 else
    if set == 16 then Some 4 else None

-- Step 1, promise. The set is one acceptor, the ballot's offer exists, the acceptor's promise is below the ballot: it becomes the ballot.
abbrev pub promise_by : Instance → List ℕ → ℕ → Option ℕ → Option Instance
promise_by x offers ballot None = None
promise_by x offers ballot (Some acceptor) =
    if nat_lt (owner ballot) (length offers) && nat_lt (acceptor_at x acceptor).promised ballot
    then Some (record x { acceptors = slice_set x.acceptors acceptor (record (acceptor_at x acceptor) { promised = ballot }) })
    else None

abbrev pub promise_step : Instance → List ℕ → ℕ → ℕ → Option Instance
promise_step x offers ballot set = promise_by x offers ballot (sole set)

-- Step 2, fix. The ballot has no value yet, every acceptor of the set has promised it, the set wins: it takes over the value of the highest ballot that they accepted, or gets its own offer.
abbrev pub value_for : Instance → List ℕ → ℕ → ℕ → Option ℕ
value_for x offers ballot set =
    if highest_accepted x set == 0 then slice_get offers (owner ballot) else value_at x (highest_accepted x set)

abbrev pub fix_step : Instance → List ℕ → ℕ → ℕ → Bool → Option Instance
fix_step x offers ballot set wins =
    if not (is_some (value_at x ballot)) && (all_promised x ballot set && wins)
    then Some (record x { values = slice_set x.values ballot (value_for x offers ballot set) })
    else None

-- Step 3, accept. The set is one acceptor, the ballot has a value and is not below the acceptor's promise: it is promised and accepted.
abbrev pub accept_by : Instance → ℕ → Option ℕ → Option Instance
accept_by x ballot None = None
accept_by x ballot (Some acceptor) =
    if is_some (value_at x ballot) && nat_le (acceptor_at x acceptor).promised ballot
    then Some (record x { acceptors = slice_set x.acceptors acceptor (record { promised = ballot; accepted = ballot }) })
    else None

abbrev pub accept_step : Instance → ℕ → ℕ → Option Instance
accept_step x ballot set = accept_by x ballot (sole set)

-- Step 4, count. Every acceptor of the set accepted the ballot last, the set wins: the ballot's value is decided.
abbrev pub count_step : Instance → ℕ → ℕ → Bool → Option Instance
count_step x ballot set wins =
    if all_accepted x ballot set && wins then Some (record x { decision = value_at x ballot }) else None

-- The instance after a step; none if the step is not allowed.
abbrev pub work_step : Instance → List ℕ → ℕ → ℕ → ℕ → Bool → Option Instance
work_step x offers step ballot set wins =
    if step == 1 then promise_step x offers ballot set else
    if step == 2 then fix_step x offers ballot set wins else
    if step == 3 then accept_step x ballot set else
    if step == 4 then count_step x ballot set wins else None

-- Work: a step on a ballot from 1 to 15, for a set of the five acceptors; none if it is not allowed.
abbrev pub after_work : Instance → List ℕ → ℕ → ℕ → ℕ → Bool → Option Instance
after_work x offers step ballot set wins = if within ballot set then work_step x offers step ballot set wins else None

-- what is answered: taken if the step is allowed, else refused with 3
abbrev pub answer_of : Option Instance → Answer
answer_of None = Err NotAllowed
answer_of (Some after) = Ok tt

-- an instance that may have changed
abbrev pub or_same : Option Instance → Instance → Instance
or_same None before = before
or_same (Some after) before = after
