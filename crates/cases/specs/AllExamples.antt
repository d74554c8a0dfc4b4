-- The worked examples, all of them, as one list: the eight that a reader should know first, then the longer lists of the pages.
use Rattle.std.specs.Prelude.{◌≡◌, ℕ, ◌*◌, ◌<◌, true, false, List, ◌∷◌, [], ◌++◌, length, replicate, Some, Err, slice_set, count_ones}
use Rattle.std.specs.Option.{option_map}
use Rattle.chooser.specs.declared.calls.Call.TheVariants.{Work}
use Rattle.chooser.specs.Meaning.{no_offers, decision_at}
use Rattle.ledger.specs.Ledger.{firsts}
use Rattle.quorum.specs.Rules.{more_than_half, outweighs_half}
use Rattle.quote.specs.Quote.{quote_of, quote_bytes}
use Rattle.frame.specs.declared.fault.Cause.TheVariants.{Kind, Field}
use Rattle.frame.specs.Bytes.{bytes_of}
use Rattle.frame.specs.Faults.{fault}
use Rattle.frame.specs.Messages.{get}
use Rattle.cases.specs.Examples.{WorkedExamples, weights_from}
use Rattle.cases.specs.FrameExamples.{FrameExamples, a_put, from_1_to_2, quote_checked}
use Rattle.cases.specs.ChooserExamples.{ChooserExamples, lists_after, two_ballots, contested, ballot_after, decided_after}
use Rattle.cases.specs.TableExamples.{TableExamples}
use Rattle.cases.specs.NodeExamples.{NodeExamples}
use Rattle.cases.specs.CallExamples.{CallExamples}

pub record AllExamples : Type 0 where
  -- Majority at size 4: two places lose, three win.
  pub two_of_four_lose : (set : ℕ) → set < 16 → count_ones set ≡ 2 → more_than_half 4 set ≡ false
  pub three_of_four_win : (set : ℕ) → set < 16 → count_ones set ≡ 3 → more_than_half 4 set ≡ true
  -- Weights 3, 1, 1 at size 3: the first alone wins; no set of the others does.
  pub first_alone_wins : outweighs_half (weights_from 3 1 1) 3 0b001 ≡ true
  pub others_lose : (set : ℕ) → set < 4 → outweighs_half (weights_from 3 1 1) 3 (2 * set) ≡ false
  -- The quote 500, 510 has these bytes.
  pub quote_written : option_map quote_bytes (quote_of 500 510) ≡ Some (0x00 ∷ 0x00 ∷ 0x01 ∷ 0xF4 ∷ 0x00 ∷ 0x00 ∷ 0x01 ∷ 0xFE ∷ [])
  -- A get from node 1 to node 2, with number 0 and operation 1: six bytes, then zeros.
  pub get_written : bytes_of (get from_1_to_2 1) ≡ (0x01 ∷ 0x02 ∷ 0x01 ∷ 0x00 ∷ 0x00 ∷ 0x01 ∷ []) ++ replicate 26 0
  -- A slot of kind 8 is no frame, by its byte 0.
  pub kind_eight : (rest : List ℕ) → length rest ≡ 31 → quote_checked (8 ∷ rest) ≡ Err (fault Kind 0)
  -- Nor is a put with version 0 and node 1, by the field at byte 8.
  pub version_0_of_node_1 : quote_checked (slice_set a_put 7 0) ≡ Err (fault Field 8)
  -- A ledger that is offered 4 and then 9 decides 4.
  pub ledger_decides_4 : decision_at (firsts (lists_after (4 ∷ 9 ∷ []) no_offers)) 0 ≡ Some 4
  -- A synod is offered 4, 9 and 6. Acceptors 0, 1 and 2 promise ballot 1 and fix it, and 2 accepts it; 2, 3 and 4 promise ballot 2: it fixes 9. The whole contested ballot decides 9.
  pub second_ballot_fixes_9 : ballot_after (two_ballots ++ (Work 0 2 2 0b11100 ∷ [])) 2 ≡ Some 9
  pub synod_decides_9 : decided_after contested ≡ Some 9
  -- The longer lists.
  pub contents_and_rules : WorkedExamples
  pub frames : FrameExamples
  pub choosers : ChooserExamples
  pub tables : TableExamples
  pub nodes : NodeExamples
  pub calls : CallExamples
