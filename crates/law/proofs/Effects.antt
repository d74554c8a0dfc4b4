-- The law's counted operations are those that took effect in the system at the end, and stand in the same order.
use Rattle.std.proofs.Common.{◌≡◌, ℕ, inl, inr, true, List, Ok, ap, sym, ◌∙◌}
use Rattle.desk.specs.Asking.{served}
use Rattle.floor.specs.State.{State}
use Rattle.link.proofs.Terms.{kind_said, tag_said}
use Rattle.protocol.specs.Law as law
use Rattle.protocol.specs.State as said
use Rattle.law.specs.Law.{ShownAtEnd, IsAnswered, Counted}
use Rattle.law.specs.Runs.{Parts, Entry}
use Rattle.law.proofs.AtEnd.{answered_at_end, answered_before_end, EndPoints}
use Rattle.law.proofs.Linked.{Linked}
use Rattle.law.proofs.Looks.{seen_by_look, look_answers}
use Rattle.law.proofs.Opening.{FromClosed, OpensAt}
use Rattle.law.proofs.RowFacts.{RowIn}
use Rattle.law.proofs.RowsSaid.{is_read, is_write, row_of, same_kind, same_tag, lawful_tag, said_answered, row_answered, said_write}
use Rattle.law.proofs.Tags.{node_bounded, same_said}
use Rattle.law.proofs.Told.{answered_at, answered_of}
use Rattle.tables.specs.declared.records.OperationRow.{OperationRow}

module _ {C Q S : Type 0} {parts : Parts C Q S} {calls : List (Entry C Q S)} {end : State Q S} (link : Linked parts) (ran : FromClosed parts calls end) (opening : ℕ) (opens : OpensAt ran opening)
    (early : ℕ) (two : EndPoints link ran opening opens early) where
  abbrev system : said.System
  system = two.second

  -- a row at the end
  abbrev Here : ℕ → OperationRow → Type 0
  Here operation row = RowIn end operation row

  pub here : (operation : ℕ) (row : OperationRow) → ShownAtEnd parts calls end operation row → Here operation row
  here operation row looks = (seen_by_look end operation row looks).row_in

  -- What is answered, in the law's words and in the system.
  pub answer_said : (operation : ℕ) (row : OperationRow) → IsAnswered parts calls end operation row → law.IsAnswered system operation
  answer_said operation row answered =
      let found = here operation row answered.shown in
      said_answered parts end system two.second_stands operation row found
      (answered_at_end ran operation answered.at row (answered_at ran operation answered.at answered.answered) found)

  pub took_effect : (operation : ℕ) (row : OperationRow) → Counted parts calls end operation row → law.TookEffect system operation
  took_effect operation row (inl answered) = inl (answer_said operation row answered)
  took_effect operation row (inr returned) =
      let found = here operation row returned.shown in
      let read_found = here returned.read returned.given returned.is_answered.shown in
      inr
      (record {
        write = said_write parts end system two.second_stands operation row found returned.write;
        read = returned.read;
        is_read = record {
          answered = answer_said returned.read returned.given returned.is_answered;
          read = same_kind parts end system two.second_stands returned.read returned.given read_found ∙ ap kind_said returned.is_read;
        };
        same_tag = same_tag parts end system two.second_stands returned.read returned.given read_found ∙ ap tag_said returned.same_tag
            ∙ sym (same_tag parts end system two.second_stands operation row found);
      })

  -- two tags at the end that are said alike are alike
  pub tags_alike : (one other : ℕ) (row row' : OperationRow) → Here one row → Here other row' → law.tag_in system one ≡ law.tag_in system other → row.copy.tag ≡ row'.copy.tag
  tags_alike one other row row' found found' same =
      same_said row.copy.tag row'.copy.tag (node_bounded row.copy.tag (lawful_tag parts end system two.second_stands one row found))
      (node_bounded row'.copy.tag (lawful_tag parts end system two.second_stands other row' found'))
      (sym (same_tag parts end system two.second_stands one row found) ∙ same ∙ same_tag parts end system two.second_stands other row' found')

  -- The other way round, where the tables are those that the floor serves.
  module _ (serves : served end.desk end.t ≡ Ok tt) (is_open : end.desk.is_open ≡ true) where
    answer_of : (operation : ℕ) (row : OperationRow) → Here operation row → law.IsAnswered system operation → IsAnswered parts calls end operation row
    answer_of operation row found answered =
        let (place, by_call) = answered_before_end ran operation row is_open found (row_answered parts end system two.second_stands operation row found answered) in
        record {
          shown = look_answers end operation row serves found;
          at = place;
          answered = answered_of ran operation place by_call;
        }

    pub counted_of : (operation : ℕ) (row : OperationRow) → Here operation row → law.TookEffect system operation → Counted parts calls end operation row
    counted_of operation row found (inl answered) = inl (answer_of operation row found answered)
    counted_of operation row found (inr returned) =
        let (given, read_found) = row_of parts end system two.second_stands returned.read returned.is_read.answered.is_started in
        inr
        (record {
          shown = look_answers end operation row serves found;
          write = is_write row.kind (sym (same_kind parts end system two.second_stands operation row found) ∙ returned.write.write);
          read = returned.read;
          given = given;
          is_answered = answer_of returned.read given read_found returned.is_read.answered;
          is_read = is_read given.kind (sym (same_kind parts end system two.second_stands returned.read given read_found) ∙ returned.is_read.read);
          same_tag = tags_alike returned.read operation given row read_found found returned.same_tag;
        })
