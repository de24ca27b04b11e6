-- Each step keeps to the links.
use Rattle.std.proofs.Common.{◌≡◌, ℕ, Bool, true, false, List, [], ◌∷◌, Option, Some, None, refl}
use Rattle.std.specs.Prelude.{if◌then◌else◌}
use Rattle.std.specs.List.{flat_map}
use Rattle.gnb_types.specs.declared.names.NodeId.{NodeId}
use Rattle.gnb_types.specs.declared.reasons.RefuseReason.{RefuseReason}
use Rattle.gnb_types.specs.declared.keys.EntityKey.{EntityKey}
use Rattle.gnb_types.specs.declared.outputs.Tag.{Tag}
use Rattle.gnb_types.specs.declared.outputs.Tag.TheVariants.{Absent, Own, Same}
use Rattle.unit_defs.specs.Ways.{Put, control, packet, radio, deliver, dropped, held, opened, closed, failed, no}
use Rattle.run_defs.specs.Units.{Units}
use Rattle.run_defs.specs.Said.{OnLinks}
use Rattle.run_defs.specs.States.{State, Given, Stepped, stepped, step_spent, World, Stop, spent_counter, sn_of, stops, goes_on, ◌next◌, Within, Outcome, as_step, refused, entity}
use Rattle.run_defs.specs.Steps.{control_messages_spent, first_outstanding, entities_of, checked_by, check_spans, noted, count_beside, item_of, control_message_of, put_out, put_out_all, Done, is_done, is_held, is_refused, reconnect_node, too_many_control_messages, carried_out, done_with, does, ordered_by, step}
use Rattle.law_downlink_scripts.proofs.wires.Endings.{Goes, GoesBySteps, then_line, then_step, in_a_step}
use Rattle.law_downlink_scripts.proofs.wires.Kept.{Kept, goes_on_tunnel, goes_opened, goes_closed, goes_in_bag, goes_on_radio}
use Rattle.law_downlink_scripts.proofs.wires.Lost.{goes_reconnected_node}

module _ {M C L P : Type 0} (world : World M C L P) where
  -- what keeps to the links from every state
  abbrev pub KeepsWithin : (State M C L P → Within M C L P) → Type 0
  KeepsWithin f = (on : OnLinks M) (s : State M C L P) → Kept world on s → Goes (Kept world) on (f s)

  pub record KeepsTo (on : OnLinks M) (e : Outcome M C L P) : Type 0 where
    pub it : GoesBySteps (Kept world) on e

  abbrev pub Keeps : (State M C L P → Outcome M C L P) → Type 0
  Keeps f = (on : OnLinks M) (s : State M C L P) → Kept world on s → KeepsTo on (f s)

  pub then_more : (on : OnLinks M) (e : Outcome M C L P) (more : State M C L P → Outcome M C L P) → KeepsTo on e → Keeps more → KeepsTo on (e next more)
  then_more on e more p q = record { it = then_step (Kept world) (Kept world) on e more p.it (λ l t k. (q l t k).it) }

  pub a_step : (on : OnLinks M) (actor : Option NodeId) (w : Within M C L P) → Goes (Kept world) on w → KeepsTo on (as_step actor w)
  a_step on actor w p = record { it = in_a_step (Kept world) on actor w p }

  pub just_goes_on : (on : OnLinks M) (s : State M C L P) → Kept world on s → KeepsTo on (goes_on s)
  just_goes_on on s k = record { it = (tt, k) }

  pub in_turn : (f g : State M C L P → Within M C L P) → KeepsWithin f → KeepsWithin g → KeepsWithin (λ s. f s next g)
  in_turn f g kf kg on s k = then_line (Kept world) (Kept world) on (f s) g (kf on s k) kg

  pub goes_checked : KeepsWithin check_spans
  unfolding check_spans
  goes_checked on s k = by (first_outstanding s (flat_map entities_of s.plans))
    where
      by : (o : Option Stop) → Goes (Kept world) on (checked_by s o)
      by None = (tt, k)
      by (Some why) = tt

  kept_noted : (key : EntityKey) (tag : Tag) (on : OnLinks M) (s : State M C L P) → Kept world on s → Kept world on (noted key tag s)
  kept_noted key (Own count) on s k = k
  kept_noted key Absent on s k = k
  kept_noted key Same on s k = k

  goes_out : (node : NodeId) (taken : Option ℕ) (output : Put M L P) → KeepsWithin (put_out world node taken output)
  goes_out node taken (control to ue message) on s k = goes_in_bag world on s k (control_message_of world node to ue message)
  goes_out node taken (packet to teid ue bearer dir tag load) on s k =
      goes_on_tunnel world on (noted (entity ue bearer dir) tag s) (kept_noted (entity ue bearer dir) tag on s k)
      (record { node = to; teid = teid }) (item_of world ue bearer dir (count_beside tag taken) load)
  goes_out node taken (radio ue bearer dir epoch tag pdu) on s k =
      goes_on_radio world on (noted (entity ue bearer dir) tag s) (kept_noted (entity ue bearer dir) tag on s k)
      epoch (item_of world ue bearer dir (count_beside tag taken) pdu)
  goes_out node taken (deliver ue bearer dir count p) on s k = ((tt, tt), k)
  goes_out node taken (dropped reason) on s k = ((tt, tt), k)
  goes_out node taken (opened teid) on s k = goes_opened world on s k (record { node = node; teid = teid })
  goes_out node taken (closed teid) on s k = goes_closed world on s k (record { node = node; teid = teid })
  goes_out node taken (failed ue cause) on s k = ((tt, tt), k)
  goes_out node taken (held reason) on s k = (tt, k)
  goes_out node taken (no reason) on s k = (tt, k)

  pub goes_out_all : (node : NodeId) (taken : Option ℕ) (outputs : List (Put M L P)) → KeepsWithin (put_out_all world node taken outputs)
  unfolding put_out_all
  goes_out_all node taken [] on s k = (tt, k)
  goes_out_all node taken (output ∷ outputs) on s k =
      then_line (Kept world) (Kept world) on (put_out world node taken output s) (put_out_all world node taken outputs)
      (goes_out node taken output on s k) (goes_out_all node taken outputs)

  -- what an input comes to: its step keeps to the links
  abbrev pub DoneGoes : OnLinks M → Done M C L P → Type 0
  DoneGoes on (is_done outcome) = KeepsTo on outcome
  DoneGoes on (is_held reason) = Unit {0}
  DoneGoes on (is_refused reason) = Unit {0}

  pub record DoneKeeps (on : OnLinks M) (d : Done M C L P) : Type 0 where
    pub it : DoneGoes on d

  module _ (node : NodeId) (taken : Option ℕ) (first : State M C L P → Within M C L P) (on : OnLinks M) (s : State M C L P)
      (begins : (units : Units M C) → Goes (Kept world) on (first (record s { units = units }))) where
    goes_carried_out : (outputs : List (Put M L P)) (units : Units M C)
        → Goes (Kept world) on (carried_out world node taken first outputs units s)
    goes_carried_out outputs units =
        then_line (Kept world) (Kept world) on _ check_spans
        (then_line (Kept world) (Kept world) on _ (put_out_all world node taken outputs)
        (then_line (Kept world) (Kept world) on (first (record s { units = units })) (reconnect_node world node)
        (begins units) (goes_reconnected_node world node))
        (goes_out_all node taken outputs))
        goes_checked

    goes_if_few : (outputs : List (Put M L P)) (units : Units M C) (t : Bool)
        → DoneGoes on (if t then is_done (stops [] (spent_counter control_messages_spent)) else is_done (as_step (Some node) (carried_out world node taken first outputs units s)))
    goes_if_few outputs units true = record { it = tt }
    goes_if_few outputs units false = a_step on (Some node) (carried_out world node taken first outputs units s) (goes_carried_out outputs units)

    goes_done : (answer : Stepped M C L P) → DoneGoes on (done_with world node taken first s answer)
    goes_done (stepped (held reason ∷ []) units) = tt
    goes_done (stepped (no reason ∷ []) units) = tt
    goes_done (stepped outputs units) = goes_if_few outputs units (too_many_control_messages world outputs s)
    goes_done (step_spent counter) = record { it = tt }

    pub goes_does : (given : Given M L P) → DoneKeeps on (does world node given taken first s)
    unfolding does
    goes_does given = record { it = goes_done (world.answer (sn_of s) s.units node given) }

  -- ---- one of two

  pub choose : (on : OnLinks M) (t : Bool) (a b : Outcome M C L P) → KeepsTo on a → KeepsTo on b → KeepsTo on (if t then a else b)
  choose on true a b p q = p
  choose on false a b p q = q

  pub choose_by : (on : OnLinks M) (t : Bool) (a b : Outcome M C L P) → (t ≡ true → KeepsTo on a) → (t ≡ false → KeepsTo on b)
      → KeepsTo on (if t then a else b)
  choose_by on true a b p q = p refl
  choose_by on false a b p q = q refl

  pub goes_refused : (reason : RefuseReason) → Keeps (refused reason)
  goes_refused reason on s k = record { it = ((tt, tt), k) }

  -- ---- a step of an event

  ordered : (on : OnLinks M) (s : State M C L P) → Kept world on s → (d : Done M C L P) → DoneGoes on d → KeepsTo on (ordered_by world s d)
  ordered on s k (is_done outcome) p = p
  ordered on s k (is_held reason) p = record { it = (tt, k) }
  ordered on s k (is_refused reason) p = goes_refused reason on s k

  pub goes_ordered : (on : OnLinks M) (s : State M C L P) → Kept world on s → (d : Done M C L P) → DoneKeeps on d
      → KeepsTo on (ordered_by world s d)
  goes_ordered on s k d p = ordered on s k d p.it

  pub goes_step : (node : NodeId) (given : Given M L P) → Keeps (step world node given)
  unfolding step
  goes_step node given on s k =
      goes_ordered on s k (does world node given None goes_on s) (goes_does node None goes_on on s (λ units. (tt, k)) given)
