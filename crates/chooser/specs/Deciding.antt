-- How a chooser shows that it keeps to the rules for decisions; a reader need not believe this file.
use Rattle.std.specs.Prelude.{◌≡◌, ℕ, ◌<◌, length, slice_set, Option, None, Some, Ok, refl}
use Rattle.std.proofs.Common.{sym, ap, ◌∙◌, ⊎_elim}
use Rattle.std.proofs.lemmas.List.{set-get_or, get_or-set_same, get_or-set_other}
use Rattle.std.proofs.lemmas.Bool.{cases_eq}
use Rattle.chooser.specs.Meaning.{Decisions, Answer, decision_at}
use Rattle.chooser.specs.Laws.{Deciding}
use Rattle.chooser.specs.Runs.{DecisionsStay}

-- where no decision changes
pub nothing_decided : (decided : Decisions) (number : ℕ) (answer : Answer) → Deciding decided number answer decided
nothing_decided decided number answer = record {
  own_number_only = sym (set-get_or decided number None);
  decision_stays = λ value stands. stands;
  refused_decides_nothing = λ why refused. refl;
}

-- where one number's decision becomes another, and what stands there stays
pub one_decided : (decided after : Decisions) (number : ℕ) (decision : Option ℕ) → number < length decided
    → after ≡ slice_set decided number decision → ((value : ℕ) → decision_at decided number ≡ Some value → decision ≡ Some value) → Deciding decided number (Ok tt) after
one_decided decided after number decision inside is stays =
    let here : decision_at after number ≡ decision = ap (λ ds. decision_at ds number) is ∙ get_or-set_same decided number decision None inside in
    record {
      own_number_only = is ∙ ap (slice_set decided number) (sym here);
      decision_stays = λ value stands. here ∙ stays value stands;
      refused_decides_nothing = λ why refused. cc;
    }

-- what stands under any number stays
pub deciding_stays : (before after : Decisions) (number : ℕ) (answer : Answer) → Deciding before number answer after → DecisionsStay before after
deciding_stays before after number answer deciding other value stands =
    ⊎_elim
    (λ same. rw same (deciding.decision_stays value (rw same at stands)))
    (λ apart. ap (λ decided. decision_at decided other) deciding.own_number_only ∙ get_or-set_other before number other (decision_at after number) None apart ∙ stands)
    (cases_eq other number)
