-- What puts an item or delivers a packet is at its place: where this is so of what a unit puts out, it is so of the lines of its step.
use Rattle.std.proofs.Common.{◌≡◌, ℕ, Bool, true, false, List, [], ◌∷◌, Option, Some}
use Rattle.std.specs.Prelude.{if◌then◌else◌, slice_get}
use Rattle.std.specs.List.{AllByRecursion}
use Rattle.gnb_types.specs.declared.names.Gnb.{Gnb}
use Rattle.gnb_types.specs.declared.names.NodeId.{NodeId}
use Rattle.gnb_types.specs.declared.names.UeId.{UeId}
use Rattle.gnb_types.specs.declared.keys.EntityKey.{EntityKey}
use Rattle.gnb_types.specs.Orders.{ue_cmp}
use Rattle.message_types.specs.declared.rrc.Token.{Token}
use Rattle.tables.specs.Tables.{find}
use Rattle.unit_defs.specs.Ways.{Message, Pdu, Load, held, no}
use Rattle.unit_defs.specs.CuUpRecords.{CuUpContext}
use Rattle.unit_defs.specs.Du.{DuContext}
use Rattle.run_defs.specs.Lines.{put_item, delivers}
use Rattle.run_defs.specs.Local.{item_key, ShowsOffered}
use Rattle.run_defs.specs.Said.{lines_in}
use Rattle.run_defs.specs.Units.{cu_up_of, du_of}
use Rattle.run_defs.specs.Written.{Written, WrittenStepped}
use Rattle.run_defs.specs.States.{Lengths, stepped, step_spent, goes, stops, as_step, spent_counter, sn_of}
use Rattle.run_defs.specs.Steps.{control_messages_spent, too_many_control_messages, Done, is_done, is_held, is_refused, carried_out, done_with, does}
use Rattle.run_defs.specs.Runs.{Reading, plain_world}
use Rattle.intervals.proofs.Intervals.{all_append}
use Rattle.proof_run_steps.specs.steps.Causes.{Cause, node_of, given_of, count_of, first_of}
use Rattle.law_units_act_locally.proofs.local_packets.Lines.{IsOther, lines_of, PutShows, step_lines}
use Rattle.law_downlink_scripts.proofs.downlink_only_facts.Views.{PlainState, PlainUnits}
use Rattle.law_downlink_scripts.proofs.downlink_only_facts.Moves.{Line, PlainOutcome, PlainWithin}
use Rattle.law_downlink_scripts.proofs.downlink_only_facts.Puts.{PlainPut}

abbrev pub PlainDone : Type 0
PlainDone = Done (Message Token) Token (Written (Load Pdu)) (Written Pdu)

abbrev pub PlainCause : Type 0
PlainCause = Cause (Message Token) (Written (Load Pdu)) (Written Pdu)

-- the numbers of each terminal of which a unit knows are as long as is told
pub record AreLong (L : Lengths) (s : PlainState) : Type 0 where
  pub ups : (g : Gnb) (n : ℕ) (ue : UeId) (c : CuUpContext) → find ue_cmp (cu_up_of s.units g n).contexts ue ≡ Some c → sn_of s ue ≡ L ue
  pub dus : (g : Gnb) (n : ℕ) (ue : UeId) (c : DuContext) → find ue_cmp (du_of s.units g n).contexts ue ≡ Some c → sn_of s ue ≡ L ue

module _ (L : Lengths) (offered : EntityKey → List (List ℕ)) where
  abbrev pub IsAtPlace : Line → Type 0
  IsAtPlace (put_item link item) = ShowsOffered L (offered (item_key item)) link item item.count
  IsAtPlace (delivers key count packet) = slice_get (offered key) count ≡ Some packet
  IsAtPlace line = Unit {0}

  pub other_at : (line : Line) → IsOther line → IsAtPlace line
  other_at (put_item link item) h = absurd h
  other_at (delivers key count p) h = absurd h
  other_at line h = tt

  abbrev pub AtPlaces : PlainOutcome → Type 0
  AtPlaces (goes steps t) = AllByRecursion IsAtPlace (lines_in steps)
  AtPlaces (stops steps why) = AllByRecursion IsAtPlace (lines_in steps)

  abbrev pub DoneAtPlaces : PlainDone → Type 0
  DoneAtPlaces (is_done outcome) = AtPlaces outcome
  DoneAtPlaces (is_held reason) = Unit {0}
  DoneAtPlaces (is_refused reason) = Unit {0}

  pub in_a_step : (actor : Option NodeId) (w : PlainWithin) → AllByRecursion IsAtPlace (lines_of w) → AtPlaces (as_step actor w)
  in_a_step actor (goes lines t) all = all_append IsAtPlace lines [] all tt
  in_a_step actor (stops lines why) all = all_append IsAtPlace lines [] all tt

  module _ (reading : Reading) (s : PlainState) where
    abbrev pub PutsAtPlaces : Option ℕ → List PlainPut → Type 0
    PutsAtPlaces taken outputs = AllByRecursion (PutShows (plain_world reading) IsAtPlace other_at taken) outputs

    abbrev pub AnswersAtPlaces : Option ℕ → WrittenStepped → Type 0
    AnswersAtPlaces taken (stepped outputs units) = PutsAtPlaces taken outputs
    AnswersAtPlaces taken (step_spent counter) = Unit {0}

    done_so : (cause : PlainCause) (outputs : List PlainPut) (units : PlainUnits) (t : Bool) → PutsAtPlaces (count_of cause) outputs
        → DoneAtPlaces (if t then is_done (stops [] (spent_counter control_messages_spent))
        else is_done (as_step (Some (node_of cause)) (carried_out (plain_world reading) (node_of cause) (count_of cause) (first_of (plain_world reading) cause) outputs units s)))
    done_so cause outputs units true all = tt
    done_so cause outputs units false all =
        in_a_step (Some (node_of cause)) (carried_out (plain_world reading) (node_of cause) (count_of cause) (first_of (plain_world reading) cause) outputs units s)
        (step_lines (plain_world reading) IsAtPlace other_at cause outputs (record s { units = units }) all)

    done_at : (cause : PlainCause) (a : WrittenStepped) → AnswersAtPlaces (count_of cause) a
        → DoneAtPlaces (done_with (plain_world reading) (node_of cause) (count_of cause) (first_of (plain_world reading) cause) s a)
    done_at cause (stepped (held reason ∷ []) units) all = tt
    done_at cause (stepped (no reason ∷ []) units) all = tt
    done_at cause (stepped outputs units) all = done_so cause outputs units (too_many_control_messages (plain_world reading) outputs s) all
    done_at cause (step_spent counter) all = tt

    pub does_at : (cause : PlainCause)
        → AnswersAtPlaces (count_of cause) ((plain_world reading).answer (sn_of s) s.units (node_of cause) (given_of cause))
        → DoneAtPlaces (does (plain_world reading) (node_of cause) (given_of cause) (count_of cause) (first_of (plain_world reading) cause) s)
    unfolding does
    does_at cause all = done_at cause ((plain_world reading).answer (sn_of s) s.units (node_of cause) (given_of cause)) all
