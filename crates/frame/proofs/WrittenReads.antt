-- Reading what was written of a lawful message gives that message; of any other, a fault.
use Rattle.std.proofs.Common.{◌≡◌, ℕ, ◌<◌, ◌≤◌, true, List, length, drop, Ok, Option, refl, ap, arith}
use Rattle.std.proofs.lemmas.List.{length-append, length-replicate}
use Rattle.std.proofs.lemmas.Bool.Decides.{nat_tests}
use Rattle.content.specs.Bytes.{AllBytes}
use Rattle.quorum.specs.Limits.{largest_group}
use Rattle.frame.specs.Bytes.{taken, filled, bytes_of, kind_of, fits, WordsFit}
use Rattle.frame.specs.Check.{checked, kind_runs, kind_takes}
use Rattle.frame.specs.Fields.{all_zero, members_of, member_passes, member_fields}
use Rattle.frame.specs.Kinds.{kind_number}
use Rattle.frame.specs.Lawful.{Lawful, ReadsBack}
use Rattle.frame.specs.Limits.{slot_size}
use Rattle.frame.specs.Messages.{Said, put, held, update, reading}
use Rattle.frame.proofs.Members.{member_passes_lawful}
use Rattle.frame.proofs.Copies.{content_size, copy_passes}
use Rattle.frame.proofs.Laws.{Laws}
use Rattle.frame.proofs.Passing.{Holds, found_from_holds}
use Rattle.frame.proofs.Checked.{checked_from_holds}
use Rattle.frame.proofs.Places.{word_of_bytes}
use Rattle.frame.proofs.ReadWritten.{answer_was_written}
use Rattle.frame.proofs.Runs.{Pass, PassAll}
use Rattle.frame.proofs.ToldBack.{first_byte, update_parts, told_back, nothing_else_is_read}

-- bytes that have room in a slot, and the zeros behind them, fill it
pub filled_length : (bytes : List ℕ) → length bytes ≤ slot_size → length (filled bytes) ≡ slot_size
filled_length bytes room = simp (length-append, length-replicate) (omega arith)

module _ {C : Type 0} (width : ℕ) (meaning : C → List ℕ) (reads : List ℕ → Option C) (laws : Laws width meaning reads) where
  -- what was written fills the slot, so long as the parts have their lengths
  pub bytes_fill_a_slot : (message : Said) → fits width message ≡ true → length (bytes_of message) ≡ slot_size
  bytes_fill_a_slot message fitting =
      let bounded = laws.bounded in
      filled_length (taken message) (grind (arith, nat_tests, length-append {A = ℕ}))

  -- a lawful message: its parts have their lengths, its numbers have 16 bits, and its bytes hold a frame of its kind
  pub lawful_fits : (message : Said) → Lawful meaning message → fits width message ≡ true
  lawful_fits message lawful = grind (arith, nat_tests, content_size width meaning reads laws)

  lawful_words : (message : Said) → Lawful meaning message → WordsFit message
  lawful_words message lawful = grind arith

  fields_pass : (message : Said) → Lawful meaning message
      → let slot = bytes_of message in PassAll (kind_runs width reads slot (kind_of message)) × (all_zero (drop (kind_takes width (kind_of message)) slot) ≡ true)
  fields_pass (put head operation tag content) lawful =
      let copy = copy_passes width meaning reads laws (bytes_of (put head operation tag content)) 6 tag content _ refl lawful.tag_lawful lawful.content_lawful in
      grind (arith, nat_tests, word_of_bytes)
  fields_pass (held head operation tag content) lawful =
      let copy = copy_passes width meaning reads laws (bytes_of (held head operation tag content)) 6 tag content _ refl lawful.tag_lawful lawful.content_lawful in
      grind (arith, nat_tests, word_of_bytes)
  fields_pass (update head count members tag content) lawful =
      let slot = bytes_of (update head count members tag content) in
      let group = lawful.members_lawful in
      let (members_is, behind) = update_parts head count members tag content group.seven in
      let member : (i : ℕ) → i < largest_group → member_passes (members_of slot) count i ≡ true = λ i inside. rw members_is (member_passes_lawful count members group i inside) in
      let each : Pass (member_fields slot) = search (arith, member) in
      let copy = copy_passes width meaning reads laws slot 12 tag content _ behind lawful.tag_lawful lawful.content_lawful in
      grind (arith, nat_tests)
  fields_pass message lawful = grind (arith, nat_tests, word_of_bytes)

  lawful_holds : (message : Said) → Lawful meaning message → Holds width reads (bytes_of message) (kind_of message)
  lawful_holds message lawful =
      let (pass, rest) = fields_pass message lawful in
      record { long = bytes_fill_a_slot message (lawful_fits message lawful); first = first_byte message; pass = pass; rest = rest }

  -- so it is checked as its kind, and as so many bytes
  pub lawful_checked : (message : Said) → Lawful meaning message → checked width reads (bytes_of message) ≡ Ok (kind_number (kind_of message), kind_takes width (kind_of message))
  lawful_checked message lawful = checked_from_holds width reads (bytes_of message) (kind_of message) (lawful_holds message lawful)

  pub written_reads_back : (message : Said) → Lawful meaning message → reading width reads (bytes_of message) ≡ Ok message
  written_reads_back message lawful =
      let told_so = told_back width message (lawful_fits message lawful) (lawful_words message lawful) in
      rw (found_from_holds width reads (bytes_of message) (kind_of message) (lawful_holds message lawful)) (ap Ok told_so)

  -- the same of a slot that holds those bytes; a message that is not lawful is not read of it, since what is read is lawful
  pub slot_reads_back : (message : Said) (slot : List ℕ) → fits width message ≡ true → WordsFit message → AllBytes slot → slot ≡ bytes_of message → ReadsBack width meaning reads message slot
  slot_reads_back message slot fitting small bytes same = record {
    lawful_is_read = λ lawful. rw same (written_reads_back message lawful);
    only_lawful_is_read = λ other is.
        let alike = nothing_else_is_read width reads message other fitting small (rw (← same) is) in
        let (lawful, written) = answer_was_written width meaning reads laws slot (reading width reads slot) bytes refl other is in
        (rw (← alike) lawful, alike);
  }
