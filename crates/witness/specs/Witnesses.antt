-- Two runs that exist, so that the law is not about nothing: a change of group, and the hardest case.
use Rattle.std.specs.Prelude.{◌≡◌, ℕ, suc, ◌<◌, ◌≢◌, [], ◌∷◌}
use Rattle.protocol.specs.State.{Open, System, Setting}
use Rattle.protocol.specs.Moves.{Reached, Later}
use Rattle.protocol.specs.Law.{tag_in, IsWrite, IsAnsweredRead, AnsweredBefore}
use Rattle.witness.specs.Majorities.{majority_of}

-- more than half of the places answer and freeze; the first members are 1 to 3, or 1 to 5, and the first content has no bytes
abbrev pub three_nodes : Setting
three_nodes = majority_of (1 ∷ 2 ∷ 3 ∷ []) []

abbrev pub five_nodes : Setting
five_nodes = majority_of (1 ∷ 2 ∷ 3 ∷ 4 ∷ 5 ∷ []) []

-- A write was answered in one group. After that a read started in the next group, which has other members, and it was answered with what the write wrote.
pub record HandedOver (setting : Setting) (early late : System) : Type 0 where
  pub reached : Reached setting early
  pub later : Later setting early late
  pub write : ℕ
  pub read : ℕ
  pub is_write : IsWrite late write
  pub in_time : AnsweredBefore early write read
  pub was_read : IsAnsweredRead late read
  pub same_copy : (late.operations.row read).copy ≡ (late.operations.row write).copy
  pub next_group : (late.operations.row read).number ≡ suc (late.operations.row write).number
  pub other_members : (late.operations.row write).members ≢ (late.operations.row read).members

-- A write started after something was answered under a higher number: its primary was left behind. The write is still open. And yet a read of a later group was answered with its copy, with which that group was opened.
pub record CameToLight (setting : Setting) (early late : System) : Type 0 where
  pub reached : Reached setting early
  pub later : Later setting early late
  pub first : ℕ
  pub write : ℕ
  pub read : ℕ
  pub in_time : AnsweredBefore early first write
  pub is_write : IsWrite late write
  pub left_behind : (late.operations.row write).number < (late.operations.row first).number
  pub still_open : (late.operations.row write).stage ≡ Open
  pub was_read : IsAnsweredRead late read
  pub same_copy : (late.operations.row read).copy ≡ (late.operations.row write).copy
  pub later_group : (late.operations.row first).number < (late.operations.row read).number
  pub of_that_group : (late.nodes (late.operations.row read).node).number ≡ (late.operations.row read).number
  pub opened_with_it : (late.nodes (late.operations.row read).node).opening ≡ tag_in late write

abbrev pub RunsExist : Type 0
RunsExist = ((early : System) × (late : System) × HandedOver three_nodes early late) × ((early : System) × (late : System) × CameToLight five_nodes early late)
