-- After a step the invariant still says what it says of an answer and of what started, or was answered, later.
use Rattle.std.proofs.Common.{◌≡◌, ℕ, suc, ◌*◌, ◌<◌, ◌≤◌, true, false, ◌≢◌, ◌⊎◌, ⊎_elim, sym, ◌∙◌, ap, arith}
use mathlib.Core.Logic.{⊎_map}
use Rattle.protocol.specs.State.{Copy, Configuration, Setting, version_of, primary}
use Rattle.protocol.proofs.History.{Request, WasStarted, WasAnswered, WasDecided, History, position, Quorum, NewStart, NewAnswer, Step}
use Rattle.protocol.proofs.Invariant.{LeftBelow, SoundAnswer, Before, LeftOut, Invariant}
use Rattle.protocol.proofs.Lasting.{quorum_map, old_or_new, known_before, acknowledged_before, every_lower_number_is_decided, next_follows, decided_is_genuine}
use Rattle.protocol.proofs.Configurations.{one_for_each_number_kept}
use Rattle.protocol.proofs.RequestsKept.{acknowledged_was_started, new_write_takes_next_version, requests_kept, no_genuine_copy_has_new_tag}
use Rattle.protocol.proofs.AnswersKept.{answers_kept}

module _ {setting : Setting} {h h' : History} (invariant : Invariant setting h) (step : Step setting h h') where
  -- Requests of one number were started at one node: the primary of the one configuration of that number.
  one_node_for_each_number : (one other : Request) → h'.known (WasStarted one) → h'.known (WasStarted other) → one.configuration.number ≡ other.configuration.number → one.node ≡ other.node
  one_node_for_each_number one other started other_started same_number =
      let sound = requests_kept invariant step one started in
      let other_sound = requests_kept invariant step other other_started in
      let same = one_for_each_number_kept invariant step one.configuration other.configuration sound.decided other_sound.decided same_number in
      sound.by_primary ∙ ap (λ c. primary c.members) same ∙ sym other_sound.by_primary

  -- At or below a decided number all are decided already, and none is decided twice.
  decided_before : (configuration higher : Configuration) → h'.known (WasDecided configuration) → h.known (WasDecided higher) → configuration.number ≤ higher.number → h.known (WasDecided configuration)
  decided_before configuration higher decided higher_decided below =
      let (lower, lower_decided, same_number) = every_lower_number_is_decided invariant configuration.number higher higher_decided below in
      known_before step (WasDecided configuration) (λ new. new.none_yet lower lower_decided same_number) decided

  -- A new answer has the last moment.
  answered_before : (request : Request) (copy : Copy) (moment : ℕ) → h'.known (WasAnswered request copy moment) → moment < h'.moment → h.known (WasAnswered request copy moment)
  answered_before request copy moment answered in_time = known_before step (WasAnswered request copy moment) (λ new. omega (arith, new.now, new.ticks)) answered

  module _ (first : Request) (copy : Copy) (moment : ℕ) (second : Request) where
    -- A second request of the same number is at the same node, which serves nothing lower than the answer while it stays.
    served_at_second : h.known (WasAnswered first copy moment) → h'.known (WasStarted second) → first.configuration.number ≡ second.configuration.number
        → second.configuration.number ≡ (h.joined second.node).number → copy.tag ≤ (h.nodes second.node).served.tag
    served_at_second answered started same_number still_under =
        let answer = invariant.answers first copy moment answered in
        let same_node = one_node_for_each_number first second (step.grows (WasStarted first) answer.started) started same_number in
        let served = answer.served (omega (arith, same_number, still_under, ap (λ node. (h.joined node).number) same_node)) in
        omega (arith, served, ap (λ node. (h.nodes node).served.tag) same_node)

    -- A new answer to a read is what its node serves.
    pub later_read_is_not_lower_kept : (copy' : Copy) (moment' : ℕ) → h'.known (WasAnswered first copy moment) → h'.known (WasAnswered second copy' moment') → second.writes ≡ false
        → first.configuration.number ≡ second.configuration.number → moment < moment' → copy.tag ≤ copy'.tag
    later_read_is_not_lower_kept copy' moment' answered second_answered reads same_number in_time =
        let in_the_past = (answers_kept invariant step second copy' moment' second_answered).in_the_past in
        let first_answered = answered_before first copy moment answered (omega arith) in
        ⊎_elim
        (λ old. invariant.later_read_is_not_lower first copy moment second copy' moment' first_answered old reads same_number in_time)
        (λ (new : NewAnswer setting h h' second copy' moment').
        let served = served_at_second first_answered (step.grows (WasStarted second) new.started) same_number (sym new.still_under) in
        omega (arith, served, ap (λ c. c.tag) (new.read reads)))
        (old_or_new step (WasAnswered second copy' moment') second_answered)

    module _ (before : Before h' first copy moment second) where
      -- The first is an old one, as the second started after it.
      first_was_answered : h.known (WasAnswered first copy moment)
      first_was_answered = answered_before first copy moment before.answered (omega (arith, before.in_time, (requests_kept invariant step second before.started).in_the_past))

      -- So the second is new, or all this was so before the step.
      before_or_new : Before h first copy moment second ⊎ NewStart h h' second
      before_or_new = ⊎_map (λ started. record { answered = first_was_answered; started = started; in_time = before.in_time }) (λ new. new) (old_or_new step (WasStarted second) before.started)

      first_is_sound : SoundAnswer setting h first copy moment
      first_is_sound = invariant.answers first copy moment first_was_answered

      configuration_is_decided : h.known (WasDecided first.configuration)
      configuration_is_decided = (invariant.requests first first_is_sound.started).decided

      -- A new write's version is above all that its node serves.
      pub later_write_is_higher_kept : second.writes ≡ true → first.configuration.number ≡ second.configuration.number → version_of copy.tag < version_of second.copy.tag
      later_write_is_higher_kept writes same_number =
          ⊎_elim (λ old. invariant.later_write_is_higher first copy moment second old writes same_number)
          (λ (new : NewStart h h' second).
          let served = served_at_second first_was_answered before.started same_number (ap (λ c. c.number) new.under) in
          omega (arith, served, (invariant.nodes second.node).served_below_newest, new_write_takes_next_version invariant step second new writes))
          before_or_new

      -- The number after the second's was decided, so a freezing set had left the second's own. Its nodes have not acknowledged what starts only now.
      late_start_is_left_out : NewStart h h' second → second.configuration.number < first.configuration.number → Quorum setting.freezes second.configuration (LeftOut h' second)
      late_start_is_left_out new lower =
          let (next, next_decided, next_number) = every_lower_number_is_decided invariant (suc second.configuration.number) first.configuration configuration_is_decided lower in
          let decided : h.known (WasDecided second.configuration) = rw new.under (invariant.nodes second.node).decided in
          quorum_map left_out (next_follows invariant second.configuration next decided next_decided next_number).left
        where
          left_out : {tag : ℕ} (node : ℕ) → LeftBelow h second.configuration.number tag node → LeftOut h' second node
          left_out node left =
              record {
                past = omega (arith, left.past, (step.node node).position_grows);
                not_acknowledged = λ acknowledged. omega (arith, new.now, (invariant.requests second (acknowledged_was_started invariant step second node acknowledged)).in_the_past);
              }

      -- They never will, having left.
      left_out_lasts : (node : ℕ) → LeftOut h second node → LeftOut h' second node
      left_out_lasts node old =
          let past : 2 * second.configuration.number < position (h'.nodes node) = omega (arith, old.past, (step.node node).position_grows) in
          record { past = past; not_acknowledged = λ acknowledged. old.not_acknowledged (acknowledged_before step second node past acknowledged) }

      -- A freezing set leaves it out when it starts, and from then on.
      pub late_starts_are_left_out_kept : second.configuration.number < first.configuration.number → Quorum setting.freezes second.configuration (LeftOut h' second)
      late_starts_are_left_out_kept lower =
          ⊎_elim (λ old. quorum_map left_out_lasts (invariant.late_starts_are_left_out first copy moment second old lower)) (λ new. late_start_is_left_out new lower) before_or_new

      -- The answer is genuine, and was there before a new write.
      pub answers_have_other_tags_kept : second.writes ≡ true → copy.tag ≢ second.copy.tag
      answers_have_other_tags_kept writes =
          ⊎_elim (λ old. invariant.answers_have_other_tags first copy moment second old writes)
          (λ (new : NewStart h h' second). no_genuine_copy_has_new_tag invariant step copy second first_is_sound.genuine new writes)
          before_or_new

      -- So were the copies of all configurations up to the answer's.
      pub openings_have_other_tags_kept : second.writes ≡ true → (configuration : Configuration) → h'.known (WasDecided configuration) → configuration.number ≤ first.configuration.number
          → configuration.copy.tag ≢ second.copy.tag
      openings_have_other_tags_kept writes configuration decided below =
          let old_decided = decided_before configuration first.configuration decided configuration_is_decided below in
          ⊎_elim (λ old. invariant.openings_have_other_tags first copy moment second old writes configuration old_decided below)
          (λ (new : NewStart h h' second). no_genuine_copy_has_new_tag invariant step configuration.copy second (decided_is_genuine setting h invariant configuration old_decided) new writes)
          before_or_new
