-- The order law, from what is known at two points of a run.
use Rattle.std.proofs.Common.{◌≡◌, ℕ, ◌<◌, ◌≤◌, ◌≢◌, if◌then◌else◌, ◌⊎◌, sym, ap, ◌∙◌, subst, inl, inr, arith}
use Rattle.std.proofs.lemmas.Bool.{cases_lt}
use Rattle.protocol.specs.State.{Kind, Read, Write, Regroup, System, Setting, first_of, first_tag, tag_of, version_of}
use Rattle.protocol.specs.Moves.{Reached, Later}
use Rattle.protocol.specs.Law.{tag_in, IsAnswered, IsWrite, IsAnsweredRead, TookEffect, AnsweredBefore, OrderLaw, OrderHolds, TagsCompare}
use Rattle.protocol.specs.Line.{Linearizable}
use Rattle.protocol.proofs.History.{Fact, WasAnswered, WasDecided, History, Genuine}
use Rattle.protocol.proofs.Standing.{history_of, ReadStands, WriteStands, StandsAs, Sound}
use Rattle.protocol.proofs.FactOrder.{TookEffectWith, FactOrder, fact_order}
use Rattle.protocol.proofs.SoundRuns.{remembering, sound_when_reached, sound_later}
use Rattle.protocol.proofs.RowsStay.{requests_stay, answers_stay}
use Rattle.protocol.proofs.Moments.{starts_rise, starts_first, moments_tell, reached_later}
use Rattle.protocol.proofs.LineHolds.{line_holds}

-- What a sound system's rows say of answers and writes, as facts.
module _ {setting : Setting} {Earlier : Fact → Type 0} {system : System} (sound : Sound setting Earlier system) where
  abbrev h : History
  h = history_of system sound.joined sound.known

  order : FactOrder setting h
  order = fact_order setting h sound.invariant

  was_answered : (operation : ℕ) → IsAnswered system operation → sound.known (WasAnswered (sound.request operation) (system.operations.row operation).copy (system.operations.row operation).answer)
  was_answered operation is_answered = go (system.operations.row operation).kind (sound.rows operation is_answered.is_started).by_kind
    where
      go : (kind : Kind) → StandsAs setting h (system.operations.row operation) (sound.request operation) kind
          → sound.known (WasAnswered (sound.request operation) (system.operations.row operation).copy (system.operations.row operation).answer)
      go Read stands = stands.answered is_answered.answered
      go Write stands = stands.answered is_answered.answered
      go Regroup stands = absurd (stands.not_answered is_answered.answered)

  pub only_reads_and_writes : (operation : ℕ) → IsAnswered system operation → (system.operations.row operation).kind ≢ Regroup
  only_reads_and_writes operation is_answered is_regroup =
      let stands = subst (λ k. StandsAs setting h (system.operations.row operation) (sound.request operation) k) is_regroup (sound.rows operation is_answered.is_started).by_kind in
      stands.not_answered is_answered.answered

  write_stands : (write : ℕ) → IsWrite system write → WriteStands h (system.operations.row write) (sound.request write)
  write_stands write is_write = subst (λ k. StandsAs setting h (system.operations.row write) (sound.request write) k) is_write.write (sound.rows write is_write.is_started).by_kind

  read_stands : (read : ℕ) → IsAnsweredRead system read → ReadStands h (system.operations.row read) (sound.request read)
  read_stands read is_read = subst (λ k. StandsAs setting h (system.operations.row read) (sound.request read) k) is_read.read (sound.rows read is_read.answered.is_started).by_kind

  -- (a) A genuine copy is the first one, or is found in the row of a write.
  pub reads : (read : ℕ) → IsAnsweredRead system read
      → ((system.operations.row read).copy ≡ (first_of setting).copy) ⊎ ((write : ℕ) × IsWrite system write × ((system.operations.row write).copy ≡ (system.operations.row read).copy))
  reads read is_read = go (order.answers_are_genuine (sound.request read) (system.operations.row read).copy (system.operations.row read).answer (was_answered read is_read.answered))
    where
      go : Genuine setting h (system.operations.row read).copy
          → ((system.operations.row read).copy ≡ (first_of setting).copy) ⊎ ((write : ℕ) × IsWrite system write × ((system.operations.row write).copy ≡ (system.operations.row read).copy))
      go (inl opening) = inl opening
      go (inr (request, written)) =
          let found = sound.back request written.started in
          let is_write : IsWrite system found.operation = record { is_started = found.is_started; write = found.kind ∙ ap (λ w. if w then Write else Read) written.writes } in
          inr (found.operation, is_write, sym (write_stands found.operation is_write).copy ∙ ap (λ r. r.copy) found.here ∙ written.same)

  -- Two writes of one tag are one request, which knows its row.
  pub tags_differ : (one other : ℕ) → IsWrite system one → IsWrite system other → tag_in system one ≡ tag_in system other → one ≡ other
  tags_differ one other is_write other_is_write same =
      let stands = write_stands one is_write in
      let other_stands = write_stands other other_is_write in
      let same_request = order.tags_differ (sound.request one) (sound.request other) stands.started other_stands.started stands.writes other_stands.writes (omega (arith, ap (λ c. c.tag) stands.copy, ap (λ c. c.tag) other_stands.copy, same)) in
      sym (sound.rows one is_write.is_started).same_operation ∙ ap (λ r. r.operation) same_request ∙ (sound.rows other other_is_write.is_started).same_operation

  -- A write is above the opening tag of its configuration, so above 0.
  pub tags_are_above : (write : ℕ) → IsWrite system write → first_tag < tag_in system write
  tags_are_above write is_write =
      let stands = write_stands write is_write in
      omega (arith, ap (λ c. c.tag) stands.copy, ((sound.invariant.requests (sound.request write) stands.started).write stands.writes).above_opening)

  -- A write's node gave its version out, and is below 32.
  pub tags_name_nodes : (write : ℕ) → IsWrite system write → ((system.operations.row write).node < 32) × (version : ℕ) × (tag_in system write ≡ tag_of version (system.operations.row write).node)
  tags_name_nodes write is_write =
      let stands = write_stands write is_write in
      let by_node = ((sound.invariant.requests (sound.request write) stands.started).write stands.writes).by_node in
      let same_node = (sound.rows write is_write.is_started).same_node in
      let tag = ap (λ c. c.tag) stands.copy in
      (omega (arith, by_node, same_node), version_of (tag_in system write), omega (arith, by_node, same_node, tag))

  -- (b) What took effect is an answer or was returned, as a fact.
  took_effect : (operation : ℕ) → TookEffect system operation → TookEffectWith h (sound.request operation) (system.operations.row operation).copy
  took_effect operation (inl is_answered) = inl ((system.operations.row operation).answer, was_answered operation is_answered)
  took_effect operation (inr returned) =
      let stands = write_stands operation returned.write in
      inr
      (record {
        written = record { started = stands.started; writes = stands.writes; same = stands.copy };
        read = sound.request returned.read;
        answer = (system.operations.row returned.read).copy;
        moment = (system.operations.row returned.read).answer;
        answered = was_answered returned.read returned.is_read.answered;
        reads = (read_stands returned.read returned.is_read).reads;
        same_tag = returned.same_tag;
      })

  is_started : (operation : ℕ) → TookEffect system operation → operation < system.operations.count
  is_started operation (inl is_answered) = is_answered.is_started
  is_started operation (inr returned) = returned.write.is_started

  -- an answer, and an operation that took effect and started at a higher moment
  module _ (first second : ℕ) (answered : IsAnswered system first) (effect : TookEffect system second) (later : (system.operations.row first).answer < (system.operations.row second).start) where
    in_time : (system.operations.row first).answer < (sound.request second).start
    in_time = omega (arith, later, (sound.rows second (is_started second effect)).same_start)

    pub not_higher : tag_in system first ≤ tag_in system second
    not_higher =
        order.never_higher (sound.request first) (system.operations.row first).copy (system.operations.row first).answer (sound.request second) (system.operations.row second).copy
        (was_answered first answered) (took_effect second effect) in_time

    pub write_is_higher : (system.operations.row second).kind ≡ Write → tag_in system first < tag_in system second
    write_is_higher write =
        order.writes_are_higher (sound.request first) (system.operations.row first).copy (system.operations.row first).answer (sound.request second) (system.operations.row second).copy
        (was_answered first answered) (took_effect second effect) in_time (write_stands second (record { is_started = is_started second effect; write = write })).writes

-- (c) A configuration that a node was in at the early point is still known to be decided at the late one, where one is decided for each number.
module _ {setting : Setting} {early late : System} {Earlier : Fact → Type 0} (sound : Sound setting Earlier early) (sound' : Sound setting sound.known late) where
  was_decided : (node : ℕ) → sound'.known (WasDecided (sound.joined node))
  was_decided node = sound'.earlier (WasDecided (sound.joined node)) (sound.invariant.nodes node).decided

  joined_same : (one other : ℕ) → (early.nodes one).number ≡ (late.nodes other).number → sound.joined one ≡ sound'.joined other
  joined_same one other same =
      (order sound').one_for_each_number (sound.joined one) (sound'.joined other) (was_decided one) ((order sound').node_is_decided other)
      ((sound.invariant.nodes one).matches.number ∙ same ∙ sym (sound'.invariant.nodes other).matches.number)

  pub same_members : (one other : ℕ) → (early.nodes one).number ≡ (late.nodes other).number → (early.nodes one).members ≡ (late.nodes other).members
  same_members one other same =
      sym (sound.invariant.nodes one).matches.members ∙ ap (λ c. c.members) (joined_same one other same) ∙ (sound'.invariant.nodes other).matches.members

  pub same_opening : (one other : ℕ) → (early.nodes one).number ≡ (late.nodes other).number → (early.nodes one).opening ≡ (late.nodes other).opening
  same_opening one other same =
      sym (sound.invariant.nodes one).matches.opening ∙ ap (λ c. c.copy.tag) (joined_same one other same) ∙ (sound'.invariant.nodes other).matches.opening

  pub carried_over : (operation node : ℕ) → IsAnswered late operation → (late.operations.row operation).number < (early.nodes node).number
      → tag_in late operation ≤ (early.nodes node).opening
  carried_over operation node is_answered lower =
      let matches = (sound.invariant.nodes node).matches in
      omega (
        arith,
        matches.opening,
        (order sound').carried_over (sound'.request operation) (late.operations.row operation).copy (late.operations.row operation).answer (sound.joined node)
            (was_answered sound' operation is_answered) (was_decided node)
            (omega (arith, lower, matches.number, (sound'.rows operation is_answered.is_started).same_number)),
      )

-- What is known at the early point is known at the late one. What was answered at the early point was answered at a lower moment than that at which anything starts later.
module _ (setting : Setting) (early late : System) (reached : Reached setting early) (later : Later setting early late) where
  sound_early : Sound setting (λ fact. ⊥) early
  sound_early = sound_when_reached setting early reached

  sound_late : Sound setting sound_early.known late
  sound_late = sound_later (remembering sound_early) later

  -- an answer given before the second operation started, at the late point
  module _ (first second : ℕ) (before : AnsweredBefore early first second) (effect : TookEffect late second) where
    answered : IsAnswered late first
    answered = (answers_stay setting early late later first before.0).0

    in_order : (late.operations.row first).answer < (late.operations.row second).start
    in_order = moments_tell setting early late reached later first second before (is_started sound_late second effect)

  pub order_law : OrderLaw setting early late
  order_law = record {
    reads = reads sound_late;
    tags_differ = tags_differ sound_late;
    tags_are_above = tags_are_above sound_late;
    tags_name_nodes = tags_name_nodes sound_late;
    never_higher = λ first second before effect. not_higher sound_late first second (answered first second before effect) effect (in_order first second before effect);
    writes_are_higher = λ first second before effect. write_is_higher sound_late first second (answered first second before effect) effect (in_order first second before effect);
    same_members = same_members sound_early sound_late;
    same_opening = same_opening sound_early sound_late;
    carried_over = carried_over sound_early sound_late;
    requests_stay = requests_stay setting early late later;
    answers_stay = answers_stay setting early late later;
    only_reads_and_writes = only_reads_and_writes sound_late;
    starts_rise = starts_rise setting late (reached_later setting early late reached later);
    starts_first = starts_first setting late (reached_later setting early late reached later);
    moments_tell = moments_tell setting early late reached later;
  }

pub order_holds : OrderHolds
order_holds setting early late reached later = order_law setting early late reached later

-- Linearizability is the order law, read as a line.
pub linearizable : Linearizable
linearizable setting early late reached later = line_holds setting early late (order_law setting early late reached later)

-- Nodes are below 32, so a higher version outweighs any node.
pub tags_compare : TagsCompare
tags_compare version node version' node' below below' = (λ lower. grind (arith, cases_lt version version', cases_lt version' version), λ lower. omega (arith, lower))
