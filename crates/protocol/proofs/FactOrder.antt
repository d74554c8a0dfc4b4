-- The order of answers, as facts: what the order law says of a run follows from it.
use Rattle.std.proofs.Common.{◌≡◌, ℕ, ◌<◌, ◌≤◌, true, false, ◌≢◌, ◌⊎◌, inl, inr, ⊎_elim, sym, ◌∙◌, ap, subst, arith}
use Rattle.std.proofs.lemmas.Bool.{cases_Bool, cases_lt}
use Rattle.protocol.specs.State.{Copy, Configuration, Setting}
use Rattle.protocol.proofs.History.{Request, WasStarted, WasAnswered, WasDecided, History, WrittenBy, Genuine, AnsweredWrite}
use Rattle.protocol.proofs.Invariant.{Before, SoundAnswer, Invariant}
use Rattle.protocol.proofs.CarriedOver.{answer_is_carried_over, late_start_is_never_answered}

-- the write, answered or not, wrote the copy, and an answered read has its tag
pub record WasReturned (h : History) (write : Request) (copy : Copy) : Type 0 where
  pub written : WrittenBy h write copy
  pub read : Request
  pub answer : Copy
  pub moment : ℕ
  pub answered : h.known (WasAnswered read answer moment)
  pub reads : read.writes ≡ false
  pub same_tag : answer.tag ≡ copy.tag

-- the request was answered with the copy, or wrote the copy and was returned
abbrev pub TookEffectWith : History → Request → Copy → Type 0
TookEffectWith h request copy = ((moment : ℕ) × h.known (WasAnswered request copy moment)) ⊎ WasReturned h request copy

-- what holds of the facts at every point of a run
pub record FactOrder (setting : Setting) (h : History) : Type 0 where
  -- An answer has the first copy, or one that a write wrote; and writes are told apart by their tags.
  pub answers_are_genuine : (request : Request) (copy : Copy) (moment : ℕ) → h.known (WasAnswered request copy moment) → Genuine setting h copy
  pub tags_differ : (one other : Request) → h.known (WasStarted one) → h.known (WasStarted other) → one.writes ≡ true → other.writes ≡ true → one.copy.tag ≡ other.copy.tag → one ≡ other
  -- What was answered before another request started has no higher tag than that one, and a lower tag if that one is a write.
  pub never_higher : (first : Request) (copy : Copy) (moment : ℕ) (second : Request) (copy' : Copy) → h.known (WasAnswered first copy moment) → TookEffectWith h second copy' → moment < second.start
      → copy.tag ≤ copy'.tag
  pub writes_are_higher : (first : Request) (copy : Copy) (moment : ℕ) (second : Request) (copy' : Copy) → h.known (WasAnswered first copy moment) → TookEffectWith h second copy' → moment < second.start
      → second.writes ≡ true → copy.tag < copy'.tag
  -- One configuration is decided for each number, and each node is in a decided one. It opens with a tag no lower than all answers under lower numbers.
  pub one_for_each_number : (one other : Configuration) → h.known (WasDecided one) → h.known (WasDecided other) → one.number ≡ other.number → one ≡ other
  pub node_is_decided : (node : ℕ) → h.known (WasDecided (h.joined node))
  pub carried_over : (request : Request) (copy : Copy) (moment : ℕ) (later : Configuration) → h.known (WasAnswered request copy moment) → h.known (WasDecided later)
      → request.configuration.number < later.number → copy.tag ≤ later.copy.tag

module _ {setting : Setting} {h : History} (invariant : Invariant setting h) where
  -- an answer to the first, and a second that starts later
  module _ (first : Request) (copy : Copy) (moment : ℕ) (second : Request) (answered : h.known (WasAnswered first copy moment)) (in_time : moment < second.start) where
    before_started : h.known (WasStarted second) → Before h first copy moment second
    before_started started = record { answered = answered; started = started; in_time = in_time }

    -- the second is answered too
    module _ (copy' : Copy) (moment' : ℕ) (second_answered : h.known (WasAnswered second copy' moment')) where
      answer : SoundAnswer setting h second copy' moment'
      answer = invariant.answers second copy' moment' second_answered

      -- What one primary answers does not fall: a later write has a higher version, and a later read what is served by then.
      same_number_is_not_lower : first.configuration.number ≡ second.configuration.number → copy.tag ≤ copy'.tag
      same_number_is_not_lower same_number =
          ⊎_elim
          (λ writes.
          let higher = invariant.later_write_is_higher first copy moment second (before_started answer.started) writes same_number in
          omega (arith, higher, ap (λ c. c.tag) (answer.write writes)))
          (λ reads. invariant.later_read_is_not_lower first copy moment second copy' moment' answered second_answered reads same_number (omega (arith, answer.after_start)))
          (cases_Bool second.writes)

      -- Under a higher number the opening copy is no lower, as the answer was carried over; under a lower one the second would not be answered.
      later_answer_is_not_lower : copy.tag ≤ copy'.tag
      later_answer_is_not_lower = go (cases_lt first.configuration.number second.configuration.number) (cases_lt second.configuration.number first.configuration.number)
        where
          go : (first.configuration.number < second.configuration.number) ⊎ (second.configuration.number ≤ first.configuration.number)
              → (second.configuration.number < first.configuration.number) ⊎ (first.configuration.number ≤ second.configuration.number) → copy.tag ≤ copy'.tag
          go (inl higher) _ =
              let decided = (invariant.requests second answer.started).decided in
              omega (arith, answer_is_carried_over invariant first copy moment second.configuration answered decided higher, answer.above_opening)
          go (inr _) (inl lower) = absurd (late_start_is_never_answered invariant first copy moment second copy' moment' (before_started answer.started) lower second_answered)
          go (inr not_higher) (inr not_lower) = same_number_is_not_lower (omega arith)

    -- The second is a write. It has another tag than the answer, so it is higher where it is not lower.
    module _ (started : h.known (WasStarted second)) (writes : second.writes ≡ true) where
      other_tag : copy.tag ≢ second.copy.tag
      other_tag = invariant.answers_have_other_tags first copy moment second (before_started started) writes

      answered_write_is_higher : (copy' : Copy) (moment' : ℕ) → h.known (WasAnswered second copy' moment') → copy.tag < second.copy.tag
      answered_write_is_higher copy' moment' second_answered =
          let same = (invariant.answers second copy' moment' second_answered).write writes in
          omega (arith, later_answer_is_not_lower copy' moment' second_answered, other_tag, ap (λ c. c.tag) same)

      -- A configuration that opens with the write comes after the answer's, as those up to it have other tags.
      opening_write_is_higher : (configuration : Configuration) → h.known (WasDecided configuration) → configuration.copy.tag ≡ second.copy.tag → copy.tag < second.copy.tag
      opening_write_is_higher configuration decided same_tag = go (cases_lt first.configuration.number configuration.number)
        where
          go : (first.configuration.number < configuration.number) ⊎ (configuration.number ≤ first.configuration.number) → copy.tag < second.copy.tag
          go (inl higher) = omega (arith, answer_is_carried_over invariant first copy moment configuration answered decided higher, same_tag, other_tag)
          go (inr not_higher) = absurd (invariant.openings_have_other_tags first copy moment second (before_started started) writes configuration decided not_higher same_tag)

      -- What a read returns is what its configuration opens with, or a write that was answered; and that is the second, as writes are told apart by their tags.
      returned_write_is_higher : (read : Request) (answer : Copy) (moment' : ℕ) → h.known (WasAnswered read answer moment') → read.writes ≡ false → answer.tag ≡ second.copy.tag
          → copy.tag < second.copy.tag
      returned_write_is_higher read answer moment' read_answered reads same_tag = go (sound.read reads)
        where
          sound : SoundAnswer setting h read answer moment'
          sound = invariant.answers read answer moment' read_answered

          go : (answer.tag ≡ read.configuration.copy.tag) ⊎ AnsweredWrite h read.configuration.number answer.tag → copy.tag < second.copy.tag
          go (inl opening) = opening_write_is_higher read.configuration (invariant.requests read sound.started).decided (sym opening ∙ same_tag)
          go (inr source) =
              let write = invariant.answers source.write source.copy source.moment source.answered in
              let tag : source.write.copy.tag ≡ second.copy.tag = omega (arith, ap (λ c. c.tag) (write.write source.writes), source.same, same_tag) in
              let is_second = invariant.tags_differ source.write second write.started started source.writes writes tag in
              answered_write_is_higher source.copy source.moment (subst (λ request. h.known (WasAnswered request source.copy source.moment)) is_second source.answered)

    -- A write took effect if it was answered or returned; a read, if it was answered.
    effect_is_higher : (copy' : Copy) → TookEffectWith h second copy' → second.writes ≡ true → copy.tag < copy'.tag
    effect_is_higher copy' (inl (moment', second_answered)) writes =
        let answer = invariant.answers second copy' moment' second_answered in
        omega (arith, answered_write_is_higher answer.started writes copy' moment' second_answered, ap (λ c. c.tag) (answer.write writes))
    effect_is_higher copy' (inr returned) writes =
        let tag = ap (λ c. c.tag) returned.written.same in
        let higher = returned_write_is_higher returned.written.started writes returned.read returned.answer returned.moment returned.answered returned.reads (returned.same_tag ∙ sym tag) in
        omega (arith, tag, higher)

    effect_is_not_lower : (copy' : Copy) → TookEffectWith h second copy' → copy.tag ≤ copy'.tag
    effect_is_not_lower copy' (inl (moment', second_answered)) = later_answer_is_not_lower copy' moment' second_answered
    effect_is_not_lower copy' (inr returned) = omega (arith, effect_is_higher copy' (inr returned) returned.written.writes)

pub fact_order : (setting : Setting) (h : History) → Invariant setting h → FactOrder setting h
fact_order setting h invariant =
    record {
      answers_are_genuine = λ request copy moment answered. (invariant.answers request copy moment answered).genuine;
      tags_differ = invariant.tags_differ;
      never_higher = λ first copy moment second copy' answered effect in_time. effect_is_not_lower invariant first copy moment second answered in_time copy' effect;
      writes_are_higher = λ first copy moment second copy' answered effect in_time. effect_is_higher invariant first copy moment second answered in_time copy' effect;
      one_for_each_number = invariant.one_for_each_number;
      node_is_decided = λ node. (invariant.nodes node).decided;
      carried_over = answer_is_carried_over invariant;
    }
