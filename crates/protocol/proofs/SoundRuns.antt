-- Every system that a run reaches is sound.
use Rattle.std.proofs.Common.{◌≡◌, ℕ, false, sym, refl, ap, subst, inl, arith}
use mathlib.Core.List.Memᴰ
use mathlib.Core.List.{Memᴰ}
use Rattle.protocol.specs.State.{System, Setting, first_of}
use Rattle.protocol.specs.Moves.{Move, StartRead, StartWrite, StartRegroup, DeliverGet, DeliverPut, DeliverFreeze, DeliverGetAck, DeliverPutAck, AnswerRead, AnswerWrite, DeliverHeld, DeliverLowerHeld, DeliverUpdate, Propose, Settle, Decide, GiveUp, Stop, Lose, Opens, Reached, AtOpening, ByMove, Later, Now, AfterMove}
use Rattle.protocol.proofs.History.{Fact, WasDecided, Matches}
use Rattle.protocol.proofs.Standing.{history_of, Sound}
use Rattle.protocol.proofs.InvariantKept.{invariant_at_opening}
use Rattle.protocol.proofs.SoundAfter.{sound_after}
use Rattle.protocol.proofs.NodeMoves.{deliver_get, deliver_put, deliver_freeze, deliver_update, stop, settle, lose}
use Rattle.protocol.proofs.StartMoves.{start_read, start_write, start_regroup}
use Rattle.protocol.proofs.RowMoves.{deliver_get_ack, deliver_put_ack, answer_read, answer_write, deliver_held, deliver_lower_held, give_up}
use Rattle.protocol.proofs.ProposalMoves.{decide, propose}

-- At the opening one fact is known: configuration 0 is decided.
module _ (setting : Setting) (system : System) (opening : Opens setting system) where
  abbrev only_first : Fact → Type 0
  only_first fact = fact ≡ WasDecided (first_of setting)

  matches : (node : ℕ) → Matches (system.nodes node) (first_of setting)
  matches node = record {
    number = ap (λ n. n.number) (sym (opening.nodes node));
    members = ap (λ n. n.members) (sym (opening.nodes node));
    opening = ap (λ n. n.opening) (sym (opening.nodes node));
    idle_at_0 = λ idle. ap (λ n. n.number) (opening.nodes node);
  }

  pub sound_at_opening : Sound setting (λ fact. ⊥) system
  sound_at_opening = record {
    joined = λ node. first_of setting;
    request = λ operation. record { operation = 0; writes = false; node = 0; configuration = first_of setting; copy = (first_of setting).copy; start = 0 };
    known = only_first;
    earlier = λ fact was. absurd was;
    invariant =
        invariant_at_opening setting (history_of system (λ node. first_of setting) only_first)
        (record {
          first_is_decided = refl;
          nothing_else = λ fact is_first. is_first;
          joined = λ node. refl;
          matches = matches;
          stored = λ node. ap (λ n. n.stored) (opening.nodes node);
          served = λ node. ap (λ n. n.served) (opening.nodes node);
        });
    rows = λ index there. absurd (omega (arith, opening.no_operations));
    back = λ started is_first. absurd cc;
    frames = λ frame there. absurd (Memᴰ.not-nil (subst (λ frames. Memᴰ frame frames) opening.no_frames there));
    proposals = record {
      proposed = λ proposal there. absurd (omega (arith, opening.no_proposals));
      decided = λ number proposal decides. absurd (omega (arith, decides.is_there, opening.no_proposals));
      back = λ configuration is_first. inl cc;
    };
  }

-- A move keeps a system sound.
module _ {setting : Setting} {Earlier : Fact → Type 0} {before : System} (sound : Sound setting Earlier before) (after : System) where
  pub sound_after_move : Move setting before after → Sound setting Earlier after
  sound_after_move (effect, StartRead node leads, change) = sound_after (start_read sound after leads change)
  sound_after_move (effect, StartWrite node content leads, change) = sound_after (start_write sound after leads change)
  sound_after_move (effect, StartRegroup node new_members takes_part, change) = sound_after (start_regroup sound after node new_members change)
  sound_after_move (effect, DeliverGet receiver sender number operation there obeys, change) = sound_after (deliver_get sound after there obeys change)
  sound_after_move (effect, DeliverPut receiver sender number operation copy there obeys, change) = sound_after (deliver_put sound after there obeys change)
  sound_after_move (effect, DeliverFreeze receiver sender number operation there takes_part same_number, change) = sound_after (deliver_freeze sound after there same_number change)
  sound_after_move (effect, DeliverGetAck receiver sender number operation place there counted enough, change) = sound_after (deliver_get_ack sound after there counted change)
  sound_after_move (effect, DeliverPutAck receiver sender number operation place there counted enough, change) = sound_after (deliver_put_ack sound after there counted change)
  sound_after_move (effect, AnswerRead receiver sender number operation place there counted enough, change) = sound_after (answer_read sound after there counted enough change)
  sound_after_move (effect, AnswerWrite receiver sender number operation place there counted enough, change) = sound_after (answer_write sound after there counted enough change)
  sound_after_move (effect, DeliverHeld receiver sender number operation place copy there takes_part counts first_or_higher, change) = sound_after (deliver_held sound after there counts first_or_higher change)
  sound_after_move (effect, DeliverLowerHeld receiver sender number operation place copy there takes_part counts not_higher, change) = sound_after (deliver_lower_held sound after there counts not_higher change)
  sound_after_move (effect, DeliverUpdate receiver sender next there may_join, change) = sound_after (deliver_update sound after there may_join change)
  sound_after_move (effect, Propose operation proposes, change) = propose proposes sound change
  sound_after_move (effect, Settle node proposal takes_part is_decided, change) = sound_after (settle sound after is_decided change)
  sound_after_move (effect, Decide number proposal undecided, change) = sound_after (decide sound after number proposal undecided change)
  sound_after_move (effect, GiveUp operation waits, change) = sound_after (give_up sound after waits change)
  sound_after_move (effect, Stop node, change) = sound_after (stop sound after node change)
  sound_after_move (effect, Lose, change) = sound_after (lose sound after change)

pub sound_when_reached : (setting : Setting) (system : System) → Reached setting system → Sound setting (λ fact. ⊥) system
sound_when_reached setting system (AtOpening opening) = sound_at_opening setting system opening
sound_when_reached setting system (ByMove {before} reached move) = sound_after_move (sound_when_reached setting before reached) system move

-- A sound system, with all that is known there to be remembered.
pub remembering : {setting : Setting} {Earlier : Fact → Type 0} {system : System} (sound : Sound setting Earlier system) → Sound setting sound.known system
remembering sound = record {
  joined = sound.joined;
  request = sound.request;
  known = sound.known;
  earlier = λ fact known. known;
  invariant = sound.invariant;
  rows = sound.rows;
  back = sound.back;
  frames = sound.frames;
  proposals = sound.proposals;
}

-- What was known at an early point is known at a late one.
pub sound_later : {setting : Setting} {Earlier : Fact → Type 0} {early late : System} → Sound setting Earlier early → Later setting early late → Sound setting Earlier late
sound_later sound Now = sound
sound_later {late} sound (AfterMove later move) = sound_after_move (sound_later sound later) late move
