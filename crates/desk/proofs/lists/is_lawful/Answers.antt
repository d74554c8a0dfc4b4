-- The array's type has the seven numbers, and the list was taken for lawful.
use Rattle.std.proofs.Common.{sym, ◌∙◌}
use Rattle.desk.proofs.LawfulLists.{takes, taken_is_lawful, members_bounded, lawful_pass, lawful_are_counted}
use Rattle.desk.proofs.lists.is_lawful.Goals as goal

pub returns-then-all_pass-clause-lawful : goal.returns-then-all_pass-clause-lawful
returns-then-all_pass-clause-lawful c = λ bounded counted.
    let taken = takes c.args.members.now c.args.highest c.all_pass.ensures.seven (sym c.all_pass.ensures.is ∙ c.if-all_pass.true) (sym c.is_counted.ensures ∙ counted) in
    taken_is_lawful c.args.members.now c.args.highest bounded taken

pub returns-then-all_pass-clause-bounded : goal.returns-then-all_pass-clause-bounded
returns-then-all_pass-clause-bounded c = λ place counted inside.
    let taken = takes c.args.members.now c.args.highest c.all_pass.ensures.seven (sym c.all_pass.ensures.is ∙ c.if-all_pass.true) (sym c.is_counted.ensures ∙ counted) in
    members_bounded c.args.members.now c.args.highest place taken inside

pub returns-then-all_pass-clause-only_others_fail : goal.returns-then-all_pass-clause-only_others_fail
returns-then-all_pass-clause-only_others_fail c = λ lawful bounded. c.is_counted.ensures ∙ lawful_are_counted c.args.members.now lawful

pub returns-else-all_pass-clause-only_others_fail : goal.returns-else-all_pass-clause-only_others_fail
returns-else-all_pass-clause-only_others_fail c = λ lawful bounded. c.all_pass.ensures.is ∙ lawful_pass c.args.members.now c.args.highest lawful bounded
