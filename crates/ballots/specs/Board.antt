-- What holds of ballots at all times under one number. A reader need not believe it: it is what the proof that no two values are decided rests on.
use Rattle.std.specs.Prelude.{◌≡◌, ℕ, ◌<◌, ◌≤◌, ◌≢◌, Bool, true, List, length, Option, Some, None, is_some}
use Rattle.chooser.specs.Meaning.{one_of}
use Rattle.quorum.specs.Sets.{member, Share}
use Rattle.ballots.specs.Limits.{acceptors, owner}

-- What is kept under one number, by acceptor and by ballot. Ballot 0 stands for none.
pub record Board : Type 0 where
  pub promised : ℕ → ℕ  -- by acceptor: the ballot that it promised
  pub accepted : ℕ → ℕ  -- by acceptor: the ballot that it accepted last
  pub value : ℕ → Option ℕ  -- by ballot: the value that it is fixed at
  pub offers : List ℕ
  pub decision : Option ℕ

-- each acceptor of the set
abbrev pub Each : ℕ → (ℕ → Type 0) → Type 0
Each set P = (acceptor : ℕ) → acceptor < acceptors → member acceptor set ≡ true → P acceptor

-- a set that may fix a ballot and one that may count a ballot share an acceptor
abbrev pub Meet : (ℕ → Bool) → (ℕ → Bool) → Type 0
Meet fixing counting = (f c : ℕ) → fixing f ≡ true → counting c ≡ true → Share acceptors f c

-- The ballot can be counted no more, now or later: of no counting set have all that promised a higher ballot accepted this one last.
abbrev pub Dead : (ℕ → Bool) → Board → ℕ → Type 0
Dead counting x ballot =
    (set : ℕ) → counting set ≡ true → Each set (λ a. ballot < x.promised a → x.accepted a ≡ ballot) → ⊥

-- a fixing set has promised the ballot or a higher one
pub record Backed (fixing : ℕ → Bool) (x : Board) (ballot : ℕ) : Type 0 where
  pub set : ℕ
  pub wins : fixing set ≡ true
  pub promised : Each set (λ a. ballot ≤ x.promised a)

-- The value is chosen: each of some counting set accepted last a ballot of this value or a higher one, and no ballot from that one on has another value.
pub record Chosen (counting : ℕ → Bool) (x : Board) (value : ℕ) : Type 0 where
  pub ballot : ℕ
  pub fixed : x.value ballot ≡ Some value
  pub higher : (b v : ℕ) → ballot ≤ b → x.value b ≡ Some v → v ≡ value
  pub set : ℕ
  pub wins : counting set ≡ true
  pub accepted : Each set (λ a. ballot ≤ x.accepted a)

-- What holds at all times.
pub record Sound (fixing counting : ℕ → Bool) (x : Board) : Type 0 where
  -- who accepts a ballot promises it
  pub accepted_is_promised : (a : ℕ) → x.accepted a ≤ x.promised a
  -- only fixed ballots are accepted
  pub accepted_is_fixed : (a : ℕ) → x.accepted a ≢ 0 → is_some (x.value (x.accepted a)) ≡ true
  -- no ballot is numbered 0
  pub zero_is_no_ballot : x.value 0 ≡ None
  -- only ballots whose offer exists are promised
  pub promised_has_offer : (a : ℕ) → x.promised a ≢ 0 → owner (x.promised a) < length x.offers
  -- and only these are fixed
  pub fixed_has_offer : (b v : ℕ) → x.value b ≡ Some v → owner b < length x.offers
  -- a ballot's value is one of the offers
  pub value_is_offered : (b v : ℕ) → x.value b ≡ Some v → one_of x.offers v ≡ true
  -- a ballot is fixed when a fixing set has promised it, and promises only grow
  pub fixed_is_backed : (b v : ℕ) → x.value b ≡ Some v → Backed fixing x b
  -- a ballot whose value a higher one did not take over can be counted no more
  pub passed_over_is_dead : (b higher v w : ℕ) → b < higher → x.value b ≡ Some v → x.value higher ≡ Some w → v ≢ w → Dead counting x b
  -- only a chosen value is decided
  pub decided_is_chosen : (v : ℕ) → x.decision ≡ Some v → Chosen counting x v
