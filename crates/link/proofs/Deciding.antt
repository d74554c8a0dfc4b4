-- What a chooser may make of its decisions is a move of the protocol, or none.
use Rattle.std.proofs.Common.{◌≡◌, ◌≢◌, ℕ, List, Option, Some, None, refl, sym, ap, ◌∙◌, inl, inr}
use Rattle.std.proofs.lemmas.Bool.{cases_eq}
use Rattle.std.proofs.lemmas.List.{get_or-set_other}
use Rattle.chooser.specs.Laws.{Deciding}
use Rattle.chooser.specs.Meaning.{Decisions, Answer, decision_at}
use Rattle.desk.specs.declared.desk.Desk.{Desk}
use Rattle.desk.specs.Tables.{Tables}
use Rattle.protocol.specs.State.{System, Setting}
use Rattle.protocol.specs.Changes.{proposal_decided}
use Rattle.protocol.specs.Moves.{Decide, Now}
use Rattle.protocol.proofs.Shared.{replaced, replaced_here, replaced_elsewhere}
use Rattle.link.proofs.Represents.{Represents, GoesTo}
use Rattle.link.proofs.Moving.{by_one_move}

module _ (decided after : Decisions) (number : ℕ) (answer : Answer) (deciding : Deciding decided number answer after) where
  -- the decisions under other numbers stay
  others_stay : (other : ℕ) → other ≢ number → decision_at after other ≡ decision_at decided other
  others_stay other apart = ap (λ decisions. decision_at decisions other) deciding.own_number_only ∙ get_or-set_other decided number other (decision_at after number) None apart

  -- where the one under this number is as before, all are
  pub all_stay : decision_at after number ≡ decision_at decided number → (other : ℕ) → decision_at after other ≡ decision_at decided other
  all_stay same other = elim (cases_eq other number) [ inl here ↦ rw here same | inr apart ↦ others_stay other apart ]

  -- and where one came to be, that is all that did
  pub one_came : (decisions : ℕ → Option ℕ) (proposal : ℕ) → ((other : ℕ) → decisions other ≡ decision_at decided other) → decision_at after number ≡ Some proposal
      → (other : ℕ) → replaced decisions number (Some proposal) other ≡ decision_at after other
  one_came decisions proposal stand came other = elim (cases_eq other number) [
    | inl here ↦ rw here (replaced_here decisions number (Some proposal) ∙ sym came)
    | inr apart ↦ replaced_elsewhere decisions number (Some proposal) other apart ∙ stand other ∙ sym (others_stay other apart)
  ]

module _ {C : Type 0} {width : ℕ} {meaning : C → List ℕ} {reads : List ℕ → Option C} (setting : Setting) {before : System} {decided : Decisions} {desk : Desk} {t : Tables}
    (stands : Represents width meaning reads decided desk t before) where
  -- a system stands for the same tables, and for other decisions, if it has these
  with_decisions : (after : Decisions) (decisions : ℕ → Option ℕ) → ((number : ℕ) → decisions number ≡ decision_at after number) → Represents width meaning reads after desk t (record before { decisions = decisions })
  with_decisions after decisions same = record {
    nodes = stands.nodes;
    operations_counted = stands.operations_counted;
    operations = stands.operations;
    proposals_counted = stands.proposals_counted;
    proposals = stands.proposals;
    decisions = same;
    frames = stands.frames;
    frames_lawful = stands.frames_lawful;
  }

  -- A decision that stands stays; one that came to be is a move.
  pub deciding_goes : (after : Decisions) (number : ℕ) (answer : Answer) → Deciding decided number answer after → GoesTo width meaning reads setting before after desk t
  deciding_goes after number answer deciding = go (decision_at decided number) (decision_at after number) refl refl
    where
      unchanged : decision_at after number ≡ decision_at decided number → GoesTo width meaning reads setting before after desk t
      unchanged same = (before, Now, with_decisions after before.decisions (λ other. stands.decisions other ∙ sym (all_stay decided after number answer deciding same other)))

      go : (old new : Option ℕ) → decision_at decided number ≡ old → decision_at after number ≡ new → GoesTo width meaning reads setting before after desk t
      go (Some value) new was is = unchanged (deciding.decision_stays value was ∙ sym was)
      go None None was is = unchanged (is ∙ sym was)
      go None (Some proposal) was is =
          by_one_move setting (proposal_decided number proposal) (Decide number proposal (stands.decisions number ∙ was))
          (with_decisions after (replaced before.decisions number (Some proposal)) (one_came decided after number answer deciding before.decisions proposal stands.decisions is))
