-- What an instance keeps at all times, whatever happens to it. A reader need not believe it, as for the board.
use Rattle.std.specs.Prelude.{◌≡◌, ℕ, ◌+◌, Bool, true, List, length}
use Rattle.ballots.specs.declared.instance.Instance.{Instance}
use Rattle.quorum.specs.Sets.{everyone}
use Rattle.ballots.specs.Limits.{acceptors, last_ballot}
use Rattle.ballots.specs.Board.{Board, Meet, Sound}
use Rattle.ballots.specs.Instance.{acceptor_at, value_at}

-- an instance and its offers as a board
abbrev pub board : Instance → List ℕ → Board
board x offers = record {
  promised = λ acceptor. (acceptor_at x acceptor).promised;
  accepted = λ acceptor. (acceptor_at x acceptor).accepted;
  value = λ ballot. value_at x ballot;
  offers = offers;
  decision = x.decision;
}

-- five acceptors, a place for each ballot's value, and a sound board
pub record Kept (fixing counting : ℕ → Bool) (offers : List ℕ) (x : Instance) : Type 0 where
  pub five : length x.acceptors ≡ acceptors
  pub sixteen : length x.values ≡ last_ballot + 1
  pub sound : Sound fixing counting (board x offers)

-- Work keeps all this, for every family of fixing and every family of counting sets, if each fixing set meets each counting set and all acceptors together are one of both; a set that wins has to be a fixing set at step 2 only, and a counting set at step 4 only.
abbrev pub StaysKept : Instance → List ℕ → ℕ → ℕ → Bool → Instance → Type 0
StaysKept before offers step set wins after =
    (fixing counting : ℕ → Bool) → Meet fixing counting → fixing (everyone acceptors) ≡ true → counting (everyone acceptors) ≡ true
    → (step ≡ 2 → wins ≡ true → fixing set ≡ true) → (step ≡ 4 → wins ≡ true → counting set ≡ true)
    → Kept fixing counting offers before → Kept fixing counting offers after
