-- A synod at its making.
use Rattle.std.proofs.Common.{◌≡◌, ℕ, Bool, true, false, [], replicate, sym, ◌∙◌, ⊎_elim, arith}
use Rattle.std.proofs.lemmas.Bool.{cases_lt}
use Rattle.std.proofs.lemmas.List.{get_or_past, get_or-replicate}
use Rattle.std.proofs.lemmas.List.FromFn.{length-map-range_with_len, get_or-map-range_with_len}
use Rattle.chooser.specs.Limits.{numbers}
use Rattle.chooser.specs.Meaning.{OfferLists, no_offers, offers_at}
use Rattle.quorum.specs.Sets.{Share}
use Rattle.ballots.specs.Limits.{acceptors}
use Rattle.ballots.specs.Instance.{blank}
use Rattle.ballots.proofs.KeptLaws.{blank_is_kept}
use Rattle.synod.specs.Lookup.{rule_answers, won, no_instance, instance_at}
use Rattle.synod.specs.Invariant.{NeverApart, AllKept}

-- a set that wins by the answers wins by the rule
rule_agrees : (winning : ℕ → Bool) (set : ℕ) → won (rule_answers winning) set ≡ true → winning set ≡ true
rule_agrees winning set wins =
    ⊎_elim
    (λ below. sym (get_or-map-range_with_len winning 0 32 set set false below (omega arith)) ∙ wins)
    (λ above.
    let none : won (rule_answers winning) set ≡ false = get_or_past (rule_answers winning) set false (omega (arith, length-map-range_with_len winning 0 32)) in
    absurd cc)
    (cases_lt set 32)

-- so no two of them are apart
pub start_never_apart : (winning : ℕ → Bool) → ((a b : ℕ) → winning a ≡ true → winning b ≡ true → Share acceptors a b)
    → NeverApart (won (rule_answers winning)) (won (rule_answers winning))
start_never_apart winning meet a b a_wins b_wins apart = apart (meet a b (rule_agrees winning a a_wins) (rule_agrees winning b b_wins))

-- every number is blank, without offers
pub start_all_kept : (fixing counting : ℕ → Bool) (lists : OfferLists) → lists ≡ no_offers → AllKept fixing counting lists (replicate numbers blank)
start_all_kept fixing counting lists none number inside =
    let no_offers : offers_at no_offers number ≡ [] = get_or-replicate numbers number [] [] inside in
    let fresh : instance_at (replicate numbers blank) number ≡ blank = get_or-replicate numbers number blank no_instance inside in
    rw (none, no_offers, fresh) (∣ blank_is_kept fixing counting ∣₁)
