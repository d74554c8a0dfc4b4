-- Whether two sets share a place can be found out, so sets that are never apart share one.
use Rattle.std.specs.Prelude.{◌≡◌, ℕ, zero, suc, Bool, true, false, ◌&&◌, ◌⊎◌, refl}
use Rattle.std.proofs.Common.{sym, inl, inr, ⊎_elim, arith}
use Rattle.std.proofs.lemmas.Bool.{cases_eq, and_parts}
use Rattle.quorum.specs.Sets.{member, Share}
use Rattle.ballots.specs.Limits.{acceptors}
use Rattle.ballots.specs.Board.{Meet}
use Rattle.synod.specs.Invariant.{NeverApart}

-- where the first places share none and the next is not in both sets, no place is shared
none_more : (size a b : ℕ) → (Share size a b → ⊥) → (member size a && member size b) ≡ false → Share (suc size) a b → ⊥
none_more size a b apart not_both (place, below, in_a, in_b) =
    ⊎_elim
    (λ (same : place ≡ size). let both : (member size a && member size b) ≡ true = rw (sym same) (grind (arith, in_a, in_b)) in cc)
    (λ other. apart (place, omega arith, in_a, in_b))
    (cases_eq place size)

-- one place more: it is in both sets, or it is not
next_place : (size a b : ℕ) (both : Bool) → (member size a && member size b) ≡ both → (Share size a b → ⊥) → Share (suc size) a b ⊎ (Share (suc size) a b → ⊥)
next_place size a b true is apart = let (in_a, in_b) = and_parts (member size a) (member size b) is in inl (size, omega arith, in_a, in_b)
next_place size a b false is apart = inr (none_more size a b apart is)

-- the places one after the other: either both sets have one, or none is shared
share_or_not : (size a b : ℕ) → Share size a b ⊎ (Share size a b → ⊥)
share_or_not zero a b = inr (λ (place, below, in_a, in_b). omega arith)
share_or_not (suc size) a b =
    ⊎_elim
    (λ (place, below, in_a, in_b). inl (place, omega arith, in_a, in_b))
    (next_place size a b (member size a && member size b) refl)
    (share_or_not size a b)

-- so where sets are never apart, the place that they share can be named
pub meeting : (fixing counting : ℕ → Bool) → NeverApart fixing counting → Meet fixing counting
meeting fixing counting never_apart f c fixes counts = ⊎_elim (λ share. share) (λ apart. absurd (never_apart f c fixes counts apart)) (share_or_not acceptors f c)
