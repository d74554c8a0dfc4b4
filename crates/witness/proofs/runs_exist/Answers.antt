use Rattle.witness.proofs.HandOverRun.{after_the_write, after_the_read as after_hand_over, handed_over}
use Rattle.witness.proofs.LateWriteRun.{before_the_write, after_the_read as after_light, came_to_light}
use Rattle.witness.proofs.runs_exist.Goals as goal

pub returns : goal.returns
returns c = record { runs = ((after_the_write, after_hand_over, handed_over), (before_the_write, after_light, came_to_light)) }
