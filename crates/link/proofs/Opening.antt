-- What an opening leaves stands for a system at its opening.
use Rattle.std.proofs.Common.{◌≡◌, ℕ, zero, suc, ◌<◌, ◌≤◌, ◌*◌, ◌==◌, Bool, true, false, if◌then◌else◌, List, [], ◌∷◌, ◌++◌, map, drop, length, replicate, slice_get, Option, Some, None, is_some, Result, Ok, Err, nat_lt, refl, sym, ap, ◌∙◌, arith}
use Rattle.std.specs.List.{range_with_len, list_any, position_or_len}
use Rattle.std.proofs.lemmas.Bool.{cases_Bool}
use Rattle.std.proofs.lemmas.Bool.Decides.{nat_tests}
use Rattle.std.proofs.lemmas.List.{drop-replicate, get_or-take, get_or_append_left}
use Rattle.std.proofs.lemmas.List.FromFn.{get_or-map-range_with_len, length-map-range_with_len}
use Rattle.std.proofs.lemmas.Option.{get_or_from_slice_get, none-some}
use Rattle.chooser.specs.Meaning.{Decisions, decision_at}
use Rattle.content.specs.Bytes.{padded}
use Rattle.fault.specs.declared.Fault.{Fault}
use Rattle.frame.specs.Fields.{byte_at}
use Rattle.frame.specs.Limits.{slot_size}
use Rattle.frame.specs.Messages.{Said, reading}
use Rattle.writer.specs.Table.{slot_of}
use Rattle.tables.specs.declared.members.Members.{Members}
use Rattle.tables.specs.declared.records.NodeRecord.{NodeRecord}
use Rattle.tables.specs.declared.records.Status.TheVariants as status
use Rattle.tables.specs.Members.{listed, place_of}
use Rattle.desk.specs.declared.desk.Desk.{Desk}
use Rattle.desk.specs.Tables.{Tables}
use Rattle.desk.specs.Asking.{record_of}
use Rattle.desk.specs.Opening as calls
use Rattle.desk.specs.Opening.{may_open, opening_copy, opening_record, opened_nodes, open_step}
use Rattle.protocol.specs.State.{Idle, Active, nowhere, Read, Open, System, Setting, first_of}
use Rattle.protocol.specs.Moves.{opened, Opens}
use Rattle.link.proofs.Terms.{status_said, node_said}
use Rattle.link.proofs.Represents.{Represents}
use Rattle.link.proofs.Sending.{nothing_read}

-- Frames

first_of_zeros : (n : ℕ) → byte_at (replicate n 0) 0 ≡ 0
first_of_zeros zero = refl
first_of_zeros (suc n) = refl

-- nothing can be read of a table of zeros
nothing_under_way : {C : Type 0} (width : ℕ) (reads : List ℕ → Option C) (n slot : ℕ) (message : Said) → reading width reads (slot_of (replicate n 0) slot) ≡ Ok message → ⊥
nothing_under_way width reads n slot message is = nothing_read width reads (slot_of (replicate n 0) slot) message zero_first is
  where
    zero_first : byte_at (slot_of (replicate n 0) slot) 0 ≡ 0
    zero_first = get_or-take slot_size (drop (slot * slot_size) (replicate n 0)) 0 0 (omega arith) ∙ rw drop-replicate (first_of_zeros _)

-- Records

-- what is found among the first of a list is what was put there
made_first : {A : Type 0} (make : ℕ → A) (rest : List A) (count place : ℕ) (found : A) → place < count → slice_get (map make (range_with_len 0 count) ++ rest) place ≡ Some found → found ≡ make place
made_first make rest count place found inside is =
    sym (get_or_from_slice_get (map make (range_with_len 0 count) ++ rest) place found found is)
    ∙ get_or_append_left (map make (range_with_len 0 count)) rest found place (rw (length-map-range_with_len make 0 count) inside)
    ∙ get_or-map-range_with_len make 0 count place place found inside (omega arith)

pub found_at_opening : (nodes : List NodeRecord) (count node : ℕ) (members : Members) (content : List ℕ) (found : NodeRecord) → node ≤ count
    → record_of (opened_nodes nodes count members (opening_copy content)) node ≡ Some found → found ≡ opening_record members (opening_copy content) node
found_at_opening nodes count zero members content found below is = absurd (none-some found is)
found_at_opening nodes count (suc place) members content found below is =
    made_first (λ place. opening_record members (opening_copy content) (suc place)) (drop count nodes) count place found (omega arith) is

-- a place is found exactly if some element passes
found_if_any : {A : Type 0} (test : A → Bool) (list : List A) → list_any test list ≡ nat_lt (position_or_len test list) (length list)
found_if_any test [] = refl
found_if_any test (first ∷ list) = grind (arith, nat_tests, cases_Bool (test first), found_if_any test list)

status_by : (test : Bool) (place : ℕ) → (if test then Active else Idle) ≡ status_said (if is_some (if test then Some place else None) then status.Active else status.Idle)
status_by true place = refl
status_by false place = refl

same_status : (members : Members) (node : ℕ) → (if list_any (λ member. member == node) (listed members) then Active else Idle) ≡ status_said (if is_some (place_of members node) then status.Active else status.Idle)
same_status members node =
    ap (λ (test : Bool). if test then Active else Idle) (found_if_any (λ member. member == node) (listed members))
    ∙ status_by (nat_lt (position_or_len (λ member. member == node) (listed members)) (length (listed members))) (position_or_len (λ member. member == node) (listed members))

-- A setting with the members and the content of the opening.
module _ (setting : Setting) (members : Members) (content : List ℕ) (same_members : setting.members ≡ listed members) (same_content : setting.content ≡ padded content) where
  opening_said : (node : ℕ) → opened setting node ≡ node_said (opening_record members (opening_copy content) node)
  opening_said node = λ k. record {
    status = (ap (λ (list : List ℕ). if list_any (λ member. member == node) list then Active else Idle) same_members ∙ same_status members node) k;
    stopped = false;
    number = 0;
    members = same_members k;
    opening = 0;
    stored = record { tag = 0; content = same_content k };
    served = record { tag = 0; content = same_content k };
    newest = 0;
  }

  -- the system at the opening; there are no rows yet, so it does not matter what they would be
  abbrev at_opening : Decisions → System
  at_opening decided = record {
    nodes = opened setting;
    operations = record {
      count = 0;
      row = λ operation. record { kind = Read; node = 0; number = 0; copy = (first_of setting).copy; members = []; set = nowhere; stage = Open; start = 0; answer = 0 };
    };
    proposals = record { count = 0; row = λ proposal. first_of setting };
    decisions = decision_at decided;
    frames = [];
    moment = 0;
  }

  opens : (decided : Decisions) → Opens setting (at_opening decided)
  opens decided = record { nodes = λ node. refl; no_operations = refl; no_proposals = refl; no_frames = refl; moment = refl }

  module _ {C : Type 0} (width : ℕ) (meaning : C → List ℕ) (reads : List ℕ → Option C) (decided : Decisions) (desk : Desk) (t : Tables) (count : ℕ) where
    abbrev Stands : Desk → Tables → Type 0
    Stands desk_after t_after = (system : System) × Opens setting system × Represents width meaning reads decided desk_after t_after system

    stands_at_opening : let left = calls.opened desk t count members content (Ok tt) in Stands left.1 left.2
    stands_at_opening = (
      at_opening decided,
      opens decided,
      record {
        nodes = λ node found below is. opening_said node ∙ ap node_said (sym (found_at_opening t.nodes count node members content found below is));
        operations_counted = refl;
        operations = λ operation below. absurd (omega arith);
        proposals_counted = refl;
        proposals = λ proposal below. absurd (omega arith);
        decisions = λ number. refl;
        frames = λ slot message is. absurd (nothing_under_way width reads (length t.frames) slot message is);
        frames_lawful = λ slot message is. absurd (nothing_under_way width reads (length t.frames) slot message is);
      },
    )

    -- An opening that is not refused leaves tables that stand for a system at its opening, whatever was decided before.
    pub opening_represented : let left = open_step desk t count members content in left.0 ≡ Ok tt → Stands left.1 left.2
    opening_represented = go (may_open desk t count members)
      where
        go : (answer : Result (Unit {0}) Fault) → let left = calls.opened desk t count members content answer in left.0 ≡ Ok tt → Stands left.1 left.2
        go (Err fault) is = absurd (cc)
        go (Ok _) is = stands_at_opening
