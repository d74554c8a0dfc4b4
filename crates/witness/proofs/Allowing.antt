-- When moves are allowed, checked.
use Rattle.std.proofs.Common.{ℕ, zero, suc, ◌==◌, inr, if◌then◌else◌, List, [], ◌∷◌, length}
use Rattle.protocol.specs.State.{Places, Node, Kind, Regroup, node_at, primary, IsMember, Configuration, System, Setting}
use Rattle.protocol.specs.Conditions.{Leads, TakesPart, Obeys, MayJoin, IsOpen, Counts, CountsAck, Proposes, IsDecided}
use Rattle.witness.proofs.Checking.{Check, says, ◌given◌, is_true, is_false, equal, below, is_active, is_not_idle, same_kind, is_open, is_some}

abbrev pub leads : (node : ℕ) (state : Node) → Check (Leads node state)
leads node state =
    says (λ running active is_primary below_32. record { running = running; active = active; is_primary = is_primary; below_32 = below_32 })
    given is_false state.stopped given is_active state.status given equal node (primary state.members) given below node 32

abbrev pub takes_part : (state : Node) → Check (TakesPart state)
takes_part state = says (λ running not_idle. record { running = running; not_idle = not_idle }) given is_false state.stopped given is_not_idle state.status

abbrev pub obeys : (state : Node) (sender number : ℕ) → Check (Obeys state sender number)
obeys state sender number =
    says (λ running still_active same_number is_primary. record { running = running; still_active = still_active; same_number = same_number; is_primary = is_primary })
    given is_false state.stopped given is_active state.status given equal state.number number given equal sender (primary state.members)

abbrev pub waits : (system : System) (operation : ℕ) → Check (IsOpen system operation)
waits system operation =
    says (λ is_started still_open. record { is_started = is_started; still_open = still_open })
    given below operation system.operations.count given is_open (system.operations.row operation).stage

abbrev pub counts : (system : System) (kind : Kind) (receiver sender number operation place : ℕ) → Check (Counts system kind receiver sender number operation place)
counts system kind receiver sender number operation place =
    let state = system.nodes receiver in
    let row = system.operations.row operation in
    says (λ same_number waits of_kind here under is_place is_sender. record {
      same_number = same_number;
      waits = waits;
      of_kind = of_kind;
      here = here;
      under = under;
      is_place = is_place;
      is_sender = is_sender;
    })
    given equal state.number number given waits system operation given same_kind row.kind kind given equal row.node receiver
    given equal row.number number given below place (length state.members) given equal (node_at state.members place) sender

abbrev pub counts_ack : (system : System) (kind : Kind) (receiver sender number operation place : ℕ) → Check (CountsAck system kind receiver sender number operation place)
counts_ack system kind receiver sender number operation place = let state = system.nodes receiver in
    says (λ running active counts. record { running = running; active = active; counts = counts })
    given is_false state.stopped given is_active state.status given counts system kind receiver sender number operation place

abbrev pub proposes : (setting : Setting) (system : System) (operation : ℕ) → Check (Proposes setting system operation)
proposes setting system operation =
    let row = system.operations.row operation in
    let state = system.nodes row.node in
    says (λ waits is_regroup running under freezes. record { waits = waits; is_regroup = is_regroup; running = running; under = under; freezes = freezes })
    given waits system operation given same_kind row.kind Regroup given is_false state.stopped given equal state.number row.number
    given is_true (setting.freezes (length state.members) row.set)

abbrev pub is_decided : (system : System) (number proposal : ℕ) → Check (IsDecided system number proposal)
is_decided system number proposal =
    says (λ decision is_there follows. record { decision = decision; is_there = is_there; follows = follows })
    given is_some (system.decisions number) proposal given below proposal system.proposals.count given equal (system.proposals.row proposal).number (suc number)

-- the first place of a node among members, if it has one
abbrev pub place_of : ℕ → List ℕ → ℕ
place_of node [] = 0
place_of node (member ∷ members) = if member == node then 0 else suc (place_of node members)

abbrev pub is_member : (node : ℕ) (members : List ℕ) → Check (IsMember node members)
is_member node members = let place = place_of node members in says (λ is_place here. (place, is_place, here)) given below place (length members) given equal (node_at members place) node

-- a node that joins from a lower number, as an idle one does too
abbrev pub may_join : (node : ℕ) (state : Node) (next : Configuration) → Check (MayJoin node state next)
may_join node state next =
    says (λ running member lower. record { running = running; is_member = member; idle_or_lower = inr lower })
    given is_false state.stopped given is_member node next.members given below state.number next.number

-- the last place below a size that is in a set, if there is one
abbrev pub place_in : Places → ℕ → ℕ
place_in set zero = 0
place_in set (suc size) = if set size then size else place_in set size
