-- What a synod keeps at all times. A reader need not believe it: it is what the proof that no two values are ever decided rests on.
use Rattle.std.specs.Prelude.{◌≡◌, ℕ, ◌<◌, Bool, true, List}
use Rattle.chooser.specs.Limits.{numbers}
use Rattle.chooser.specs.Meaning.{OfferLists, offers_at}
use Rattle.quorum.specs.Sets.{Share}
use Rattle.ballots.specs.declared.instance.Instance.{Instance}
use Rattle.ballots.specs.Limits.{acceptors}
use Rattle.ballots.specs.Kept.{Kept}
use Rattle.synod.specs.Lookup.{instance_at}

-- no fixing set and no counting set are apart
abbrev pub NeverApart : (ℕ → Bool) → (ℕ → Bool) → Type 0
NeverApart fixing counting = (f c : ℕ) → fixing f ≡ true → counting c ≡ true → (Share acceptors f c → ⊥) → ⊥

-- each number's instance is kept
abbrev pub AllKept : (ℕ → Bool) → (ℕ → Bool) → OfferLists → List Instance → Type 0
AllKept fixing counting lists instances =
    (number : ℕ) → number < numbers → ∥ Kept fixing counting (offers_at lists number) (instance_at instances number) ∥₁
