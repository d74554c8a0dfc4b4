-- Each answered read gives what the last counted write before it wrote, or the opening content if there is none.
use Rattle.std.proofs.Common.{◌≡◌, ℕ, ◌⊎◌, inl, inr, true, List, length, ap, sym, ◌∙◌, arith}
use Rattle.content.specs.Bytes.{padded}
use Rattle.floor.specs.State.{State}
use Rattle.link.proofs.Terms.{kind_said}
use Rattle.protocol.specs.Law as law
use Rattle.protocol.specs.Line as line
use Rattle.protocol.specs.State as said
use Rattle.law.specs.Law.{ShownAtEnd, IsAnswered, Counted, WriteAhead, NoWrite, LastWrite, Ahead}
use Rattle.law.specs.Runs.{Parts, Entry}
use Rattle.law.proofs.AtEnd.{open_at_end, EndPoints, end_points, line_at, begun_kind, begun_content}
use Rattle.law.proofs.Effects.{here, answer_said, counted_of}
use Rattle.law.proofs.Linked.{Linked}
use Rattle.law.proofs.Looks.{Seen, seen_by_look}
use Rattle.law.proofs.Opening.{FromClosed, OpensAt, was_opened, behind_the_opening}
use Rattle.law.proofs.Order.{begun_row, ahead_said, ahead_of}
use Rattle.law.proofs.RowFacts.{RowIn}
use Rattle.law.proofs.RowsSaid.{is_write, row_of, same_kind, same_content, said_write}
use Rattle.law.proofs.Systems.{setting}
use Rattle.law.proofs.Told.{wrote_of}
use Rattle.tables.specs.declared.records.OperationKind.TheVariants.{Read, Write}
use Rattle.tables.specs.declared.records.OperationRow.{OperationRow}

-- A counted operation is seen at the end.
pub counted_looks : {C Q S : Type 0} (parts : Parts C Q S) (calls : List (Entry C Q S)) (end : State Q S) (operation : ℕ) (row : OperationRow) → Counted parts calls end operation row
    → ShownAtEnd parts calls end operation row
counted_looks parts calls end operation row (inl answered) = answered.shown
counted_looks parts calls end operation row (inr returned) = returned.shown

-- the read, seen at the end of a run that an opening began
module _ {C Q S : Type 0} {parts : Parts C Q S} {calls : List (Entry C Q S)} {end : State Q S} (link : Linked parts) (ran : FromClosed parts calls end) (opening : ℕ) (opens : OpensAt ran opening)
    (early : ℕ) (two : EndPoints link ran opening opens early) (read : ℕ) (row : OperationRow) (seen : Seen end read row) where
  abbrev system : said.System
  system = two.second

  -- a write ahead of the read is so in the line
  module _ (other : ℕ) (row' : OperationRow) (ahead : WriteAhead parts calls end other row' read row) where
    other_here : RowIn end other row'
    other_here = here link ran opening opens early two other row' (counted_looks parts calls end other row' ahead.counted)

    other_write : law.IsWrite system other
    other_write = said_write parts end system two.second_stands other row' other_here ahead.is_write

    other_ahead : line.Ahead system other read
    other_ahead = ahead_said link ran opening opens seen.is_open early two other read row' row other_here seen.row_in ahead.ahead

  none_before : line.NoWrite (setting link ran opening opens) system read → NoWrite parts calls end read row
  none_before none = record {
    none = λ other row' ahead. none.none other (other_write other row' ahead) (other_ahead other row' ahead);
    content = opens.opens.content;
    at = opening;
    count = opens.opens.count;
    members = opens.opens.members;
    opened = record { entry = opens.entry; there = opens.there; opens = opens.opens.opens; taken = opens.opens.taken };
    gives = sym (same_content parts end system two.second_stands read row seen.row_in) ∙ none.first_content ∙ link.same_content _ _ (padded (parts.meaning opens.opens.content));
  }

  -- the last write, with the call that wrote what the read gives
  module _ (write : ℕ) (is_last : line.LastWrite system read write) (written : OperationRow) (found : RowIn end write written) where
    is_write_row : written.kind ≡ Write
    is_write_row = is_write written.kind (sym (same_kind parts end system two.second_stands write written found) ∙ is_last.is_write.write)

    write_ahead : WriteAhead parts calls end write written read row
    write_ahead = record {
      counted = counted_of link ran opening opens early two seen.serves seen.is_open write written found is_last.took_effect;
      is_write = is_write_row;
      ahead = ahead_of link ran opening opens seen.is_open early two write read written row found seen.row_in is_last.ahead;
    }

    others_before : (other : ℕ) (row' : OperationRow) → WriteAhead parts calls end other row' read row → (other ≡ write) ⊎ Ahead parts calls end other row' write written
    others_before other row' ahead = elim (is_last.last other (other_write other row' ahead) (other_ahead other row' ahead)) [
      | inl same ↦ inl same
      | inr before ↦ inr (ahead_of link ran opening opens seen.is_open early two other write row' written (other_here other row' ahead) found before)
    ]

    last_before : LastWrite parts calls end read row
    last_before =
        let (place, begun) = begun_row link ran opening opens seen.is_open write written found in
        let begun_write : begun.starts.row.kind ≡ Write = is_write begun.starts.row.kind (sym (begun_kind link ran opening opens write place begun written found) ∙ ap kind_said is_write_row) in
        let (content, wrote, same) = wrote_of ran write place begun begun_write in
        record {
          write = write;
          written = written;
          ahead = write_ahead;
          last = others_before;
          content = content;
          at = place;
          wrote = wrote;
          gives = sym (same_content parts end system two.second_stands read row seen.row_in) ∙ is_last.same_content ∙ same_content parts end system two.second_stands write written found
              ∙ begun_content link ran opening opens write place begun written found begun_write ∙ same;
        }

module _ {C Q S : Type 0} {parts : Parts C Q S} {calls : List (Entry C Q S)} {end : State Q S} (link : Linked parts) (ran : FromClosed parts calls end) where
  -- An open end was opened, and is a point of the run.
  pub opened_end : end.desk.is_open ≡ true → (opening : ℕ) × (opens : OpensAt ran opening) × EndPoints link ran opening opens (length calls)
  opened_end is_open =
      let at_end = open_at_end ran is_open in
      let (opening, opens) = was_opened ran (length calls) at_end in
      (opening, opens, end_points link ran opening opens (length calls) (behind_the_opening ran opening (length calls) opens at_end) (omega arith))

  pub reads : (read : ℕ) (row : OperationRow) → IsAnswered parts calls end read row → row.kind ≡ Read → NoWrite parts calls end read row ⊎ LastWrite parts calls end read row
  reads read row answered is_read =
      let seen = seen_by_look end read row answered.shown in
      let (opening, opens, two) = opened_end seen.is_open in
      let answered_read : law.IsAnsweredRead two.second read =
      record { answered = answer_said link ran opening opens (length calls) two read row answered; read = same_kind parts end two.second two.second_stands read row seen.row_in ∙ ap kind_said is_read } in
      elim ((line_at link ran opening opens (length calls) two).reads_the_last_write read answered_read) [
        | inl none ↦ inl (none_before link ran opening opens (length calls) two read row seen none)
        | inr (write, is_last) ↦
            let (written, found) = row_of parts end two.second two.second_stands write is_last.is_write.is_started in
            inr (last_before link ran opening opens (length calls) two read row seen write is_last written found)
      ]
