-- By the order law the operations that took effect stand in one line: by tag, a write before the reads of its tag, and those by when they started.
use Rattle.std.proofs.Common.{◌≡◌, ℕ, ◌⊎◌, inl, inr, sym, ◌∙◌, ap, arith}
use Rattle.std.proofs.lemmas.Bool.{cases_order}
use Rattle.protocol.specs.State.{System, Setting, first_of}
use Rattle.protocol.specs.Law.{tag_in, IsWrite, IsAnsweredRead, TookEffect, OrderLaw}
use Rattle.protocol.specs.Line.{Ahead, LastWrite, NoWrite, Line}

module _ (setting : Setting) (early late : System) (law : OrderLaw setting early late) where
  -- of a read of the first copy: all writes have higher tags
  no_write_ahead : (read : ℕ) → (late.operations.row read).copy ≡ (first_of setting).copy → NoWrite setting late read
  no_write_ahead read first = grind (arith, law.tags_are_above)

  -- of a read of a write's copy: any write ahead of the read has a lower tag than that write, or is the same one
  last_write_ahead : (read write : ℕ) → IsAnsweredRead late read → IsWrite late write → (late.operations.row write).copy ≡ (late.operations.row read).copy → LastWrite late read write
  last_write_ahead read write is_read is_write same = grind (arith, cases_order, law.tags_differ)

  reads_the_last_write : (read : ℕ) → IsAnsweredRead late read → NoWrite setting late read ⊎ ((write : ℕ) × LastWrite late read write)
  reads_the_last_write read is_read =
      elim (law.reads read is_read) [
        | inl first ↦ inl (no_write_ahead read first)
        | inr (write, is_write, same) ↦ inr (write, last_write_ahead read write is_read is_write same)
      ]

  -- An answer stays as it was given. So does what a write writes, and the read that returned it.
  effect_stays : (operation : ℕ) → TookEffect early operation
      → TookEffect late operation × (tag_in late operation ≡ tag_in early operation) × ((late.operations.row operation).kind ≡ (early.operations.row operation).kind)
  effect_stays operation (inl given) = let (answered, same) = law.answers_stay operation given in (inl answered, ap (λ row. row.copy.tag) same, ap (λ row. row.kind) same)
  effect_stays operation (inr returned) =
      let (started, asked) = law.requests_stay operation returned.write.is_started in
      let (answered, same) = law.answers_stay returned.read returned.is_read.answered in
      let tag : tag_in late operation ≡ tag_in early operation = ap (λ copy. copy.tag) (asked.written returned.write.write) in (
        inr
            (record {
              write = record { is_started = started; write = asked.kind ∙ returned.write.write };
              read = returned.read;
              is_read = record { answered = answered; read = ap (λ row. row.kind) same ∙ returned.is_read.read };
              same_tag = ap (λ row. row.copy.tag) same ∙ returned.same_tag ∙ sym tag;
            }),
        tag,
        asked.kind,
      )

  -- So two of them stand as they stood.
  stays : (one other : ℕ) → TookEffect early one → TookEffect early other → Ahead early one other → TookEffect late one × TookEffect late other × Ahead late one other
  stays one other took_effect other_took_effect ahead =
      let (effect, tag, kind) = effect_stays one took_effect in
      let (other_effect, other_tag, other_kind) = effect_stays other other_took_effect in
      (effect, other_effect, grind arith)

  pub line_holds : Line setting early late
  line_holds =
      record {
        not_ahead_of_itself = λ one ahead. grind arith;
        goes_on = λ one other third ahead still_ahead. grind arith;
        -- two of one tag are a write and a read, or two reads, of which one started sooner; two writes would be the same one
        orders_any_two = λ one other took_effect other_took_effect differ.
            grind (arith, cases_order (tag_in late one) (tag_in late other), cases_order one other, law.tags_differ one other, law.only_reads_and_writes one, law.only_reads_and_writes other);
        -- if the tags are the same, the second is a read; and if the first is one too, it started sooner, for it was there when the second was not
        keeps_real_time = λ first second before took_effect.
            grind (arith, law.never_higher first second, law.writes_are_higher first second, law.answers_stay first, law.only_reads_and_writes first, law.only_reads_and_writes second);
        stays = stays;
        reads_the_last_write = reads_the_last_write;
      }
