-- An answering and a freezing set share a node. So each configuration opens with a tag no lower than any answer of those before it, and what starts late is never answered.
use Rattle.std.proofs.Common.{◌≡◌, ℕ, zero, suc, ◌+◌, ◌-◌, ◌<◌, ◌≤◌, true, ◌⊎◌, length, inl, inr, ⊎_elim, refl, ap, arith}
use Rattle.std.proofs.lemmas.Bool.{cases_Bool}
use Rattle.protocol.specs.State.{Copy, Configuration, Setting, node_at}
use Rattle.protocol.proofs.History.{Request, WasAnswered, WasDecided, History, AnsweredWrite, Quorum}
use Rattle.protocol.proofs.Invariant.{Before, Invariant}
use Rattle.protocol.proofs.Lasting.{Follows, decided_above_0_is_sound, next_follows}

-- The two sets share a place, so what either says holds of the node at that place. Of the two families of sets no more than this is needed.
share_a_node : (setting : Setting) {configuration : Configuration} {Answering Freezing : ℕ → Type 0}
    → Quorum setting.answers configuration Answering → Quorum setting.freezes configuration Freezing → (node : ℕ) × Answering node × Freezing node
share_a_node setting {configuration} answering freezing =
    let (place, answers, freezes) = setting.share (length configuration.members) answering.set freezing.set answering.winning freezing.winning in
    (node_at configuration.members place, answering.each place answers, freezing.each place freezes)

module _ {setting : Setting} {h : History} (invariant : Invariant setting h) where
  -- The request's own configuration is decided too, so the next one was proposed after it.
  next_follows_request : (request : Request) (copy : Copy) (moment : ℕ) (next : Configuration) → h.known (WasAnswered request copy moment) → h.known (WasDecided next)
      → next.number ≡ suc request.configuration.number → Follows setting h request.configuration next
  next_follows_request request copy moment next answered decided number =
      let answer = invariant.answers request copy moment answered in
      next_follows invariant request.configuration next (invariant.requests request answer.started).decided decided number

  -- The heart of the proof. An answering set has acknowledged the write, and a freezing set has acknowledged nothing above the tag that the next configuration opens with. They share a node, so the write's tag is no higher.
  answered_write_is_carried_to_next : (write : Request) (copy : Copy) (moment : ℕ) (next : Configuration) → h.known (WasAnswered write copy moment) → write.writes ≡ true
      → h.known (WasDecided next) → next.number ≡ suc write.configuration.number → copy.tag ≤ next.copy.tag
  answered_write_is_carried_to_next write copy moment next answered writes decided number =
      let answer = invariant.answers write copy moment answered in
      let follows = next_follows_request write copy moment next answered decided number in
      let (node, acknowledged, left) = share_a_node setting answer.acknowledged follows.left in
      omega (arith, left.below write acknowledged writes refl, ap (λ c. c.tag) (answer.write writes))

  -- A read's answer is the opening copy or that of an answered write.
  answer_is_carried_to_next : (request : Request) (copy : Copy) (moment : ℕ) (next : Configuration) → h.known (WasAnswered request copy moment)
      → h.known (WasDecided next) → next.number ≡ suc request.configuration.number → copy.tag ≤ next.copy.tag
  answer_is_carried_to_next request copy moment next answered decided number =
      ⊎_elim (λ writes. answered_write_is_carried_to_next request copy moment next answered writes decided number)
      (λ reads. read ((invariant.answers request copy moment answered).read reads)) (cases_Bool request.writes)
    where
      read : (copy.tag ≡ request.configuration.copy.tag) ⊎ AnsweredWrite h request.configuration.number copy.tag → copy.tag ≤ next.copy.tag
      read (inl opening) = omega (arith, opening, (next_follows_request request copy moment next answered decided number).opening_grows)
      read (inr source) =
          let carried = answered_write_is_carried_to_next source.write source.copy source.moment next source.answered source.writes decided (omega (arith, source.under)) in
          omega (arith, source.same, carried)

  -- From one configuration to the next, opening tags only grow.
  pub answer_is_carried_over : (request : Request) (copy : Copy) (moment : ℕ) (later : Configuration) → h.known (WasAnswered request copy moment)
      → h.known (WasDecided later) → request.configuration.number < later.number → copy.tag ≤ later.copy.tag
  answer_is_carried_over request copy moment later answered decided higher = go (later.number - suc request.configuration.number) later decided (omega arith)
    where
      go : (distance : ℕ) (to : Configuration) → h.known (WasDecided to) → to.number ≡ suc request.configuration.number + distance → copy.tag ≤ to.copy.tag
      go zero to decided far = answer_is_carried_to_next request copy moment to answered decided (omega arith)
      go (suc distance) to decided far =
          let proposal = decided_above_0_is_sound invariant to decided (omega arith) in
          omega (arith, proposal.opening_grows, go distance proposal.previous proposal.decided (omega (arith, proposal.follows)))

  -- What starts after an answer of a higher number is left out by a freezing set, so no answering set acknowledges it.
  pub late_start_is_never_answered : (first : Request) (copy : Copy) (moment : ℕ) (second : Request) (copy' : Copy) (moment' : ℕ) → Before h first copy moment second
      → second.configuration.number < first.configuration.number → h.known (WasAnswered second copy' moment') → ⊥
  late_start_is_never_answered first copy moment second copy' moment' before lower answered =
      let answering = (invariant.answers second copy' moment' answered).acknowledged in
      let freezing = invariant.late_starts_are_left_out first copy moment second before lower in
      let (node, acknowledged, left_out) = share_a_node setting answering freezing in
      left_out.not_acknowledged acknowledged
