-- So far, each number that was seen is what it may be.
use Rattle.std.proofs.Common.{◌≡◌}
use Rattle.desk.proofs.LawfulLists.{pass_before}
use Rattle.desk.proofs.lists.all_pass.Given as goal

abbrev pub invariant-loop-place : goal.invariant-loop-place
invariant-loop-place l = l.all ≡ pass_before l.members l.highest l.place
