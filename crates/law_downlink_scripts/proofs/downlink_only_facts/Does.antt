-- A unit's step in an event that offers nothing: it is held or refused, it stops for a counter, or its outputs are put.
use Rattle.std.proofs.Common.{◌≡◌, ℕ, Bool, true, false, List, [], ◌∷◌, ◌++◌, Option, Some, None, sym, ap, ◌∙◌, subst}
use Rattle.std.specs.Prelude.{if◌then◌else◌}
use Rattle.std.proofs.lemmas.List.{append-nil}
use Rattle.gnb_types.specs.declared.names.NodeId.{NodeId}
use Rattle.gnb_types.specs.declared.names.UeId.{UeId}
use Rattle.gnb_types.specs.declared.names.BearerId.{BearerId}
use Rattle.gnb_types.specs.declared.names.Dir.TheVariants.{Dl}
use Rattle.gnb_types.specs.declared.reasons.HeldReason.{HeldReason}
use Rattle.gnb_types.specs.declared.keys.TunnelEnd.{TunnelEnd}
use Rattle.gnb_types.specs.declared.keys.EntityKey.{EntityKey}
use Rattle.message_types.specs.declared.rrc.Token.{Token}
use Rattle.scenario_text.specs.declared.event.Event.{Event}
use Rattle.unit_defs.specs.Ways.{Message, Pdu, Load, held, no}
use Rattle.run_defs.specs.Written.{Written, WrittenStepped}
use Rattle.run_defs.specs.Lines.{held_at, was_refused, tunnel_link, radio_link}
use Rattle.run_defs.specs.States.{stepped, step_spent, Stop, goes, stops, told_before, ◌next◌, as_step, spent_counter, entity, sn_of}
use Rattle.run_defs.specs.Steps.{control_messages_spent, too_many_control_messages, Done, is_done, is_held, is_refused, check_spans, reconnect_node, put_out_all, carried_out, done_with, does, ordered_by}
use Rattle.run_defs.specs.Conditions.{epoch_of, receiver_of}
use Rattle.run_defs.specs.Events.{got_by, carried_by}
use Rattle.run_defs.specs.Said.{offered_by}
use Rattle.run_defs.specs.Runs.{Reading, PlainGiven, plain_world}
use Rattle.proof_run_steps.specs.steps.IsOutcome.{IsDone}
use Rattle.law_downlink_scripts.proofs.downlink_only_facts.Views.{PlainState, PlainUnits, Stage}
use Rattle.law_downlink_scripts.proofs.downlink_only_facts.Moves.{Line, PlainWithin, AreMute, Moves, Comes, Fares, mute_moves, offers_none, still_comes, step_fares, printed}
use Rattle.law_downlink_scripts.proofs.downlink_only_facts.Puts.{PlainPut}

abbrev PlainDone : Type 0
PlainDone = Done (Message Token) Token (Written (Load Pdu)) (Written Pdu)

module _ (reading : Reading) (ue : UeId) (bearer : BearerId) (event : Event) (none : offered_by (entity ue bearer Dl) event ≡ []) (s : PlainState) (n : ℕ)
    (left : List (List ℕ)) (stage : Stage s ue bearer n left) where
  abbrev pub DoneFares : PlainDone → Type 0
  DoneFares (is_done outcome) = Fares ue bearer event n left outcome
  DoneFares (is_held reason) = Unit {0}
  DoneFares (is_refused reason) = Unit {0}

  pub stopped : (why : Stop) → Fares ue bearer event n left (stops [] why)
  stopped why = record {
    further = n;
    then_left = left ++ [];
    moves = subst (λ (xs : List (List ℕ)). Moves ue bearer n left xs [] n (left ++ [])) (sym (offers_none ue bearer event none [])) (mute_moves ue bearer n left [] [] tt);
  }

  -- lines that change nothing
  pub told : (actor : Option NodeId) (lines : List Line) → AreMute lines → Fares ue bearer event n left (goes (record { actor = actor; lines = lines } ∷ []) s)
  told actor lines mute = printed ue bearer event actor n left lines s (still_comes ue bearer event none (record { actor = actor; lines = lines } ∷ []) n left lines s mute stage)

  pub got_fares : (end : TunnelEnd) (d : PlainDone) → DoneFares d → Fares ue bearer event n left (got_by (plain_world reading) end s d)
  got_fares end (is_done outcome) p = p
  got_fares end (is_held reason) p = told (Some end.node) (held_at (tunnel_link end) reason ∷ []) (tt, tt)
  got_fares end (is_refused reason) p = told None (was_refused reason ∷ []) (tt, tt)

  pub carried_fares : (key : EntityKey) (home : NodeId) (d : PlainDone) → DoneFares d → Fares ue bearer event n left (carried_by (plain_world reading) key home s d)
  carried_fares key home (is_done outcome) p = p
  carried_fares key home (is_held reason) p =
      told (Some (receiver_of key home)) (held_at (radio_link key (epoch_of s key.ue)) reason ∷ []) (tt, tt)
  carried_fares key home (is_refused reason) p = told None (was_refused reason ∷ []) (tt, tt)

  pub ordered_fares : (d : PlainDone) → DoneFares d → Fares ue bearer event n left (ordered_by (plain_world reading) s d)
  ordered_fares (is_done outcome) p = p
  ordered_fares (is_held reason) p = still_comes ue bearer event none [] n left [] s tt stage
  ordered_fares (is_refused reason) p = told None (was_refused reason ∷ []) (tt, tt)

  -- ---- a unit is given something

  module _ (node : NodeId) (given : PlainGiven) (taken : Option ℕ) (first : PlainState → PlainWithin) where
    -- what is carried out goes to a state without a stop, by these lines
    pub record CarriedTo (outputs : List PlainPut) (units : PlainUnits) : Type 0 where
      pub got : List Line
      pub begun : PlainState
      pub begins : first (record s { units = units }) ≡ goes got begun
      pub stays : reconnect_node (plain_world reading) node begun ≡ goes [] begun
      pub lines : List Line
      pub after : PlainState
      pub is : put_out_all (plain_world reading) node taken outputs begun ≡ goes lines after
      pub comes : Comes ue bearer n left [] (got ++ lines) after

    carried_fares_so : (outputs : List PlainPut) (units : PlainUnits) → CarriedTo outputs units
        → Fares ue bearer event n left (as_step (Some node) (carried_out (plain_world reading) node taken first outputs units s))
    carried_fares_so outputs units c =
        subst (λ (w : PlainWithin). Fares ue bearer event n left (as_step (Some node) (w next check_spans))) (sym whole)
        (step_fares ue bearer event (Some node) n left (c.got ++ c.lines) c.after
        (subst (λ (xs : List (List ℕ)). Comes ue bearer n left xs (c.got ++ c.lines) c.after) (sym (offers_none ue bearer event none (record { actor = Some node; lines = c.got ++ c.lines } ∷ []))) c.comes))
      where
        whole : (first (record s { units = units }) next reconnect_node (plain_world reading) node next put_out_all (plain_world reading) node taken outputs)
            ≡ goes (c.got ++ c.lines) c.after
        whole =
            ap (λ (w : PlainWithin). w next reconnect_node (plain_world reading) node next put_out_all (plain_world reading) node taken outputs) c.begins
            ∙ ap (λ (w : PlainWithin). told_before c.got w next put_out_all (plain_world reading) node taken outputs) c.stays
            ∙ ap (λ (ls : List Line). told_before ls (put_out_all (plain_world reading) node taken outputs c.begun)) (append-nil c.got)
            ∙ ap (told_before c.got) c.is

    done_fares : (outputs : List PlainPut) (units : PlainUnits) → IsDone outputs → CarriedTo outputs units
        → DoneFares (done_with (plain_world reading) node taken first s (stepped outputs units))
    done_fares (held reason ∷ []) units done c = absurd done
    done_fares (no reason ∷ []) units done c = absurd done
    done_fares outputs units done c = by (too_many_control_messages (plain_world reading) outputs s)
      where
        by : (t : Bool) → DoneFares (if t then is_done (stops [] (spent_counter control_messages_spent))
            else is_done (as_step (Some node) (carried_out (plain_world reading) node taken first outputs units s)))
        by true = stopped (spent_counter control_messages_spent)
        by false = carried_fares_so outputs units c

    pub does_fares : (outputs : List PlainPut) (units : PlainUnits) → (plain_world reading).answer (sn_of s) s.units node given ≡ stepped outputs units
        → IsDone outputs → CarriedTo outputs units → DoneFares (does (plain_world reading) node given taken first s)
    unfolding does
    does_fares outputs units is done c =
        subst (λ (a : WrittenStepped). DoneFares (done_with (plain_world reading) node taken first s a)) (sym is) (done_fares outputs units done c)

    pub holds_fares : (reason : HeldReason) (units : PlainUnits) → (plain_world reading).answer (sn_of s) s.units node given ≡ stepped (held reason ∷ []) units
        → DoneFares (does (plain_world reading) node given taken first s)
    unfolding does
    holds_fares reason units is =
        subst (λ (a : WrittenStepped). DoneFares (done_with (plain_world reading) node taken first s a)) (sym is) tt

    pub spent_fares : (counter : ℕ) → (plain_world reading).answer (sn_of s) s.units node given ≡ step_spent counter
        → DoneFares (does (plain_world reading) node given taken first s)
    unfolding does
    spent_fares counter is =
        subst (λ (a : WrittenStepped). DoneFares (done_with (plain_world reading) node taken first s a)) (sym is) (stopped (spent_counter counter))
