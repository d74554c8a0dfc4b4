use Rattle.std.proofs.Common.{◌≡◌}
use Rattle.reader.proofs.Steps.{members_from}
use Rattle.reader.proofs.fields.members.Given as goal

-- the members that are left decide
abbrev pub invariant-loop-i : goal.invariant-loop-i
invariant-loop-i l = members_from l.slot l.i ≡ members_from l.slot 0
