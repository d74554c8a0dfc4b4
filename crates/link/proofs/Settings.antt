-- The setting of the protocol that a quorum rule makes: its winning sets both answer and freeze.
use Rattle.std.proofs.Common.{◌≡◌, ℕ, ◌<◌, ◌∙◌, Bool, true, List, sym, arith}
use Rattle.std.proofs.lemmas.Bool.Decides.{nat_tests}
use Rattle.quorum.specs.Limits.{largest_group}
use Rattle.quorum.specs.Sets.{in_bounds, Share}
use Rattle.protocol.specs.State.{Content, Places, Setting}
use Rattle.link.proofs.Sets.{bits_of, member_of_bits}

-- What is used of a rule.
pub record RuleLaws (winning : ℕ → ℕ → Bool) : Type 0 where
  pub in_bounds : (size set : ℕ) → winning size set ≡ true → in_bounds size set ≡ true
  pub meet : (size one other : ℕ) → winning size one ≡ true → winning size other ≡ true → Share size one other

-- A rule that keeps its laws, the first members and the first content.
module _ (winning : ℕ → ℕ → Bool) (laws : RuleLaws winning) where
  -- two winning sets share a place, which is below seven
  pub winning_sets_share : (size : ℕ) (answering freezing : Places) → winning size (bits_of answering) ≡ true → winning size (bits_of freezing) ≡ true
      → (place : ℕ) × (answering place ≡ true) × (freezing place ≡ true)
  winning_sets_share size answering freezing answers freezes =
      let (place, below, in_answering, in_freezing) = laws.meet size (bits_of answering) (bits_of freezing) answers freezes in
      let bounded = laws.in_bounds size (bits_of answering) answers in
      let below_seven : place < largest_group = grind (arith, nat_tests) in
      (place, sym (member_of_bits answering place below_seven) ∙ in_answering, sym (member_of_bits freezing place below_seven) ∙ in_freezing)

  abbrev pub setting_of : List ℕ → Content → Setting
  setting_of members content = record {
    answers = λ size places. winning size (bits_of places);
    freezes = λ size places. winning size (bits_of places);
    share = winning_sets_share;
    members = members;
    content = content;
  }
