-- A step of a unit, over octets.
use Rattle.std.proofs.Common.{◌≡◌, ℕ, ◌==◌, ◌+◌, ◌-◌, Bool, List, [], ◌∷◌, ◌++◌, map, Option, Some, None, refl, ap, ◌∙◌}
use Rattle.std.specs.Prelude.{if◌then◌else◌, nat_lt}
use Rattle.std.specs.List.{flat_map}
use Rattle.gnb_types.specs.declared.names.NodeId.{NodeId}
use Rattle.gnb_types.specs.declared.keys.EntityKey.{EntityKey}
use Rattle.message_types.specs.declared.rrc.Token.{Token}
use Rattle.pdcp.specs.Numbers.{half}
use Rattle.unit_defs.specs.Ways.{Message, Pdu, Load, Put, control, packet, radio, deliver, dropped, held, opened, closed, failed, no}
use Rattle.unit_defs.specs.octet_defs.Codec.{Codec}
use Rattle.transport_defs.specs.Links.{most_control_messages, least}
use Rattle.run_defs.specs.Written.{Written}
use Rattle.run_defs.specs.States.{World, Given, Stepped, stepped, step_spent, Stop, outstanding, spent_counter, stops, ◌next◌, as_step, sn_of, book_of}
use Rattle.run_defs.specs.Steps.{span, entities_of, first_outstanding, checked_by, check_spans, control_messages_spent, reconnect_node, put_out_all, count_control_messages, too_many_control_messages, carried_out, is_done, done_with, does}
use Rattle.run_defs.specs.Runs.{Reading}
use Rattle.run_defs.specs.UnitRuns.{OctetPut}
use Rattle.law_octets_say_the_same.specs.octet_runs.Again.{PlainState, OctetState, PlainUnits, units_again, control_message_again, put_again, given_again, stepped_again}
use Rattle.law_octets_say_the_same.specs.octet_runs.Faithful.{ReadsAlike}
use Rattle.law_octets_say_the_same.proofs.octet_runs.Lists.{length-values, tunnels_count, radios_count}
use Rattle.law_octets_say_the_same.proofs.octet_runs.Endings.{PlainWithin, OctetWithin, OctetOutcome, encode, over, line_again, within_again, done_again, next_again, as_step_again, choice}
use Rattle.law_octets_say_the_same.proofs.octet_runs.Puts.{plain, octet, reconnect_node_again, put_out_all_again}

abbrev pub PlainPut : Type 0
PlainPut = Put (Message Token) (Written (Load Pdu)) (Written Pdu)

module _ (codec : Codec) (reading : Reading) where
  -- ---- spans

  span_again : (s : PlainState) (key : EntityKey) → span (over codec s) key ≡ span s key
  unfolding span
  span_again s key =
      λ i. if (book_of s key).numbered == 0 then 0 else (book_of s key).numbered
      - least (least (book_of s key).numbered ((book_of s key).delivered ∷ [])) (tunnels_count key s.tunnels i ++ radios_count key s.radios i)

  first_again : (s : PlainState) (keys : List EntityKey) → first_outstanding (over codec s) keys ≡ first_outstanding s keys
  first_again s [] = refl
  first_again s (key ∷ keys) =
      λ i. let window = half (sn_of s key.ue) in
      if nat_lt window (span_again s key i) then Some (outstanding key (span_again s key i) window) else first_again s keys i

  pub check_spans_again : (s : PlainState) → check_spans (over codec s) ≡ within_again codec (check_spans s)
  unfolding check_spans
  check_spans_again s = ap (checked_by (over codec s)) (first_again s keys) ∙ by (first_outstanding s keys)
    where
      keys : List EntityKey
      keys = flat_map entities_of s.plans

      by : (o : Option Stop) → checked_by (over codec s) o ≡ within_again codec (checked_by s o)
      by None = refl
      by (Some why) = refl

  -- ---- letters

  control_messages_count : (os : List PlainPut) → count_control_messages (octet codec reading) (map (put_again (encode codec)) os) ≡ count_control_messages (plain codec reading) os
  control_messages_count [] = refl
  control_messages_count (control to ue message ∷ os) = ap (λ n. n + 1) (control_messages_count os)
  control_messages_count (packet to teid ue bearer dir tag load ∷ os) = control_messages_count os
  control_messages_count (radio ue bearer dir epoch tag pdu ∷ os) = control_messages_count os
  control_messages_count (deliver ue bearer dir count p ∷ os) = control_messages_count os
  control_messages_count (dropped reason ∷ os) = control_messages_count os
  control_messages_count (held reason ∷ os) = control_messages_count os
  control_messages_count (opened teid ∷ os) = control_messages_count os
  control_messages_count (closed teid ∷ os) = control_messages_count os
  control_messages_count (failed ue cause ∷ os) = control_messages_count os
  control_messages_count (no reason ∷ os) = control_messages_count os

  too_many_again : (os : List PlainPut) (s : PlainState)
      → too_many_control_messages (octet codec reading) (map (put_again (encode codec)) os) (over codec s) ≡ too_many_control_messages (plain codec reading) os s
  too_many_again os s = λ i. nat_lt most_control_messages (length-values (control_message_again (encode codec)) s.bag.control_messages i + control_messages_count os i)

  -- ---- a step

  module _ (node : NodeId) (taken : Option ℕ) (first : PlainState → PlainWithin) (first_here : OctetState → OctetWithin)
      (same : (s : PlainState) → first_here (over codec s) ≡ within_again codec (first s)) (s : PlainState) where
    carried_out_again : (os : List PlainPut) (units : PlainUnits)
        → carried_out (octet codec reading) node taken first_here (map (put_again (encode codec)) os) (units_again units) (over codec s)
        ≡ within_again codec (carried_out (plain codec reading) node taken first os units s)
    carried_out_again os units =
        ap (λ (e : OctetWithin). e next reconnect_node there node next put_out_all there node taken outs next check_spans) (same begun)
        ∙ ap (λ (e : OctetWithin). e next put_out_all there node taken outs next check_spans)
        (next_again codec (line_again codec) (first begun) (reconnect_node here node) (reconnect_node there node) (reconnect_node_again codec reading node))
        ∙ ap (λ (e : OctetWithin). e next check_spans)
        (next_again codec (line_again codec) (first begun next reconnect_node here node) (put_out_all here node taken os) (put_out_all there node taken outs)
        (put_out_all_again codec reading node taken os))
        ∙ next_again codec (line_again codec) (first begun next reconnect_node here node next put_out_all here node taken os) check_spans check_spans check_spans_again
      where
        begun : PlainState
        begun = record s { units = units }

        here : World (Message Token) Token (Written (Load Pdu)) (Written Pdu)
        here = plain codec reading

        there : World (List ℕ) (List ℕ) (List ℕ) (List ℕ)
        there = octet codec reading

        outs : List OctetPut
        outs = map (put_again (encode codec)) os

    done : (os : List PlainPut) (units : PlainUnits)
        → (if too_many_control_messages (octet codec reading) (map (put_again (encode codec)) os) (over codec s) then is_done (stops [] (spent_counter control_messages_spent))
        else is_done (as_step (Some node) (carried_out (octet codec reading) node taken first_here (map (put_again (encode codec)) os) (units_again units) (over codec s))))
        ≡ done_again codec (if too_many_control_messages (plain codec reading) os s then is_done (stops [] (spent_counter control_messages_spent))
        else is_done (as_step (Some node) (carried_out (plain codec reading) node taken first os units s)))
    done os units =
        ap (λ (t : Bool). if t then is_done (stops [] (spent_counter control_messages_spent)) else is_done carried) (too_many_again os s)
        ∙ choice (done_again codec) (too_many_control_messages (plain codec reading) os s) (is_done (stops [] (spent_counter control_messages_spent)))
        (is_done (as_step (Some node) (carried_out (plain codec reading) node taken first os units s))) (is_done (stops [] (spent_counter control_messages_spent)))
        (is_done carried) refl
        (ap is_done (ap (as_step (Some node)) (carried_out_again os units) ∙ as_step_again codec (Some node) (carried_out (plain codec reading) node taken first os units s)))
      where
        carried : OctetOutcome
        carried = as_step (Some node) (carried_out (octet codec reading) node taken first_here (map (put_again (encode codec)) os) (units_again units) (over codec s))

    Alike : List PlainPut → PlainUnits → Type 0
    Alike os units =
        done_with (octet codec reading) node taken first_here (over codec s) (stepped (map (put_again (encode codec)) os) (units_again units))
        ≡ done_again codec (done_with (plain codec reading) node taken first s (stepped os units))

    done_alike : (os : List PlainPut) (units : PlainUnits) → Alike os units
    unfolding Alike
    done_alike [] units = done [] units
    done_alike (held reason ∷ []) units = refl
    done_alike (no reason ∷ []) units = refl
    done_alike (control to ue message ∷ []) units = done (control to ue message ∷ []) units
    done_alike (packet to teid ue bearer dir tag load ∷ []) units = done (packet to teid ue bearer dir tag load ∷ []) units
    done_alike (radio ue bearer dir epoch tag pdu ∷ []) units = done (radio ue bearer dir epoch tag pdu ∷ []) units
    done_alike (deliver ue bearer dir count p ∷ []) units = done (deliver ue bearer dir count p ∷ []) units
    done_alike (dropped reason ∷ []) units = done (dropped reason ∷ []) units
    done_alike (opened teid ∷ []) units = done (opened teid ∷ []) units
    done_alike (closed teid ∷ []) units = done (closed teid ∷ []) units
    done_alike (failed ue cause ∷ []) units = done (failed ue cause ∷ []) units
    done_alike (held reason ∷ (o ∷ os)) units = done (held reason ∷ (o ∷ os)) units
    done_alike (no reason ∷ (o ∷ os)) units = done (no reason ∷ (o ∷ os)) units
    done_alike (control to ue message ∷ (o ∷ os)) units = done (control to ue message ∷ (o ∷ os)) units
    done_alike (packet to teid ue bearer dir tag load ∷ (o ∷ os)) units = done (packet to teid ue bearer dir tag load ∷ (o ∷ os)) units
    done_alike (radio ue bearer dir epoch tag pdu ∷ (o ∷ os)) units = done (radio ue bearer dir epoch tag pdu ∷ (o ∷ os)) units
    done_alike (deliver ue bearer dir count p ∷ (o ∷ os)) units = done (deliver ue bearer dir count p ∷ (o ∷ os)) units
    done_alike (dropped reason ∷ (o ∷ os)) units = done (dropped reason ∷ (o ∷ os)) units
    done_alike (opened teid ∷ (o ∷ os)) units = done (opened teid ∷ (o ∷ os)) units
    done_alike (closed teid ∷ (o ∷ os)) units = done (closed teid ∷ (o ∷ os)) units
    done_alike (failed ue cause ∷ (o ∷ os)) units = done (failed ue cause ∷ (o ∷ os)) units

    done_with_again : (x : Stepped (Message Token) Token (Written (Load Pdu)) (Written Pdu))
        → done_with (octet codec reading) node taken first_here (over codec s) (stepped_again (encode codec) x)
        ≡ done_again codec (done_with (plain codec reading) node taken first s x)
    unfolding Alike
    done_with_again (stepped os units) = done_alike os units
    done_with_again (step_spent counter) = refl

    pub does_again : (given : Given (Message Token) (Written (Load Pdu)) (Written Pdu)) → ReadsAlike codec reading s node given
        → does (octet codec reading) node (given_again (encode codec) given) taken first_here (over codec s)
        ≡ done_again codec (does (plain codec reading) node given taken first s)
    unfolding does
    does_again given reads =
        ap (done_with (octet codec reading) node taken first_here (over codec s)) reads
        ∙ done_with_again ((plain codec reading).answer (sn_of s) s.units node given)
