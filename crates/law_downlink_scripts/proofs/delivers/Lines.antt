-- A step whose first output is a delivery prints it, whatever else happens in it.
use Rattle.std.proofs.Common.{◌≡◌, ◌≤◌, ℕ, ◌+◌, Bool, true, false, List, [], ◌∷◌, ◌++◌, length, map, Option, Some, None, refl, sym, ap, ◌∙◌, subst, arith}
use Rattle.std.specs.Prelude.{if◌then◌else◌, Contains, nat_lt}
use Rattle.std.proofs.lemmas.List.Elements.{Contains-append_left, Contains-append_right}
use Rattle.gnb_types.specs.declared.names.NodeId.{NodeId}
use Rattle.gnb_types.specs.declared.names.NodeId.TheVariants.{CuCp, CuUp, Du, Core, Ue}
use Rattle.gnb_types.specs.declared.names.UeId.{UeId}
use Rattle.gnb_types.specs.declared.names.BearerId.{BearerId}
use Rattle.gnb_types.specs.declared.names.Dir.{Dir}
use Rattle.gnb_types.specs.declared.keys.EntityKey.{EntityKey}
use Rattle.gnb_types.specs.Orders.{ue_cmp}
use Rattle.tables.specs.Tables.{find}
use Rattle.message_types.specs.declared.rrc.Token.{Token}
use Rattle.unit_defs.specs.Ways.{Message, Pdu, Load, Put, control, packet, radio, deliver, dropped, held, opened, closed, failed, no}
use Rattle.transport_defs.specs.Links.{most_control_messages, emptied}
use Rattle.run_defs.specs.Lines.{RunLine, delivers}
use Rattle.run_defs.specs.Units.{Units}
use Rattle.run_defs.specs.Written.{written_put}
use Rattle.run_defs.specs.States.{State, Lengths, World, Given, stepped, sn_of, spent_counter, goes, stops, told_before, ◌next◌, goes_on, Within, as_step, entity, radio_of}
use Rattle.run_defs.specs.Steps.{check_spans, radio_lost, lose_each, lose_radios_of, lose_radios, radios_of, same_epoch, epoch_now, connect_in, reconnect, reconnect_node, put_out, put_out_all, count_control_messages, too_many_control_messages, control_messages_spent, is_done, carried_out, done_with, does}
use Rattle.law_downlink_scripts.specs.delivers.Awaited.{DeliversIn, IsDeliveredBy}

-- no output of a list is a control message
abbrev pub IsSilent : {M L P : Type 0} → List (Put M L P) → Type 0
IsSilent [] = Unit {0}
IsSilent (control to ue message ∷ outputs) = ⊥
IsSilent (output ∷ outputs) = IsSilent outputs

pub both_silent : {M L P : Type 0} (xs ys : List (Put M L P)) → IsSilent xs → IsSilent ys → IsSilent (xs ++ ys)
both_silent [] ys p q = q
both_silent (control to ue message ∷ xs) ys p q = absurd p
both_silent (packet to teid ue bearer dir tag load ∷ xs) ys p q = both_silent xs ys p q
both_silent (radio ue bearer dir epoch tag pdu ∷ xs) ys p q = both_silent xs ys p q
both_silent (deliver ue bearer dir count x ∷ xs) ys p q = both_silent xs ys p q
both_silent (dropped reason ∷ xs) ys p q = both_silent xs ys p q
both_silent (held reason ∷ xs) ys p q = both_silent xs ys p q
both_silent (opened teid ∷ xs) ys p q = both_silent xs ys p q
both_silent (closed teid ∷ xs) ys p q = both_silent xs ys p q
both_silent (failed ue cause ∷ xs) ys p q = both_silent xs ys p q
both_silent (no reason ∷ xs) ys p q = both_silent xs ys p q

pub silent_written : (lengths : Lengths) (outputs : List (Put (Message Token) (Load Pdu) Pdu)) → IsSilent outputs
    → IsSilent (map (written_put lengths) outputs)
silent_written lengths [] p = tt
silent_written lengths (control to ue message ∷ outputs) p = absurd p
silent_written lengths (packet to teid ue bearer dir tag load ∷ outputs) p = silent_written lengths outputs p
silent_written lengths (radio ue bearer dir epoch tag pdu ∷ outputs) p = silent_written lengths outputs p
silent_written lengths (deliver ue bearer dir count x ∷ outputs) p = silent_written lengths outputs p
silent_written lengths (dropped reason ∷ outputs) p = silent_written lengths outputs p
silent_written lengths (held reason ∷ outputs) p = silent_written lengths outputs p
silent_written lengths (opened teid ∷ outputs) p = silent_written lengths outputs p
silent_written lengths (closed teid ∷ outputs) p = silent_written lengths outputs p
silent_written lengths (failed ue cause ∷ outputs) p = silent_written lengths outputs p
silent_written lengths (no reason ∷ outputs) p = silent_written lengths outputs p

module _ {M C L P : Type 0} (world : World M C L P) where
  abbrev pub HasLine : RunLine M → Within M C L P → Type 0
  HasLine line (goes lines t) = Contains lines line
  HasLine line (stops lines why) = Contains lines line

  has_told : (line : RunLine M) (told : List (RunLine M)) (e : Within M C L P) → Contains told line → HasLine line (told_before told e)
  has_told line told (goes more t) h = Contains-append_left told more line h
  has_told line told (stops more why) h = Contains-append_left told more line h

  pub has_then : (line : RunLine M) (e : Within M C L P) (f : State M C L P → Within M C L P) → HasLine line e → HasLine line (e next f)
  has_then line (goes told t) f h = has_told line told (f t) h
  has_then line (stops told why) f h = h

  after_told : (line : RunLine M) (told : List (RunLine M)) (e : Within M C L P) → HasLine line e → HasLine line (told_before told e)
  after_told line told (goes more t) h = Contains-append_right told more line h
  after_told line told (stops more why) h = Contains-append_right told more line h

  -- nothing stops within it
  abbrev pub GoesOn : Within M C L P → Type 0
  GoesOn (goes lines t) = Unit {0}
  GoesOn (stops lines why) = ⊥

  pub then_has : (line : RunLine M) (e : Within M C L P) (f : State M C L P → Within M C L P) → GoesOn e → ((t : State M C L P) → HasLine line (f t))
      → HasLine line (e next f)
  then_has line (goes told t) f on h = after_told line told (f t) (h t)
  then_has line (stops told why) f on h = absurd on

  pub goes_then : (e : Within M C L P) (f : State M C L P → Within M C L P) → GoesOn e → ((t : State M C L P) → GoesOn (f t)) → GoesOn (e next f)
  goes_then (goes told t) f on h = by (f t) (h t)
    where
      by : (e : Within M C L P) → GoesOn e → GoesOn (told_before told e)
      by (goes more s) g = tt
      by (stops more why) g = g
  goes_then (stops told why) f on h = on

  -- ---- radios are lost, and connected, without a stop

  lose_each_goes : (epoch : ℕ) (keys : List EntityKey) (s : State M C L P) → GoesOn (lose_each world epoch keys s)
  lose_each_goes epoch [] s = tt
  lose_each_goes epoch (key ∷ keys) s =
      goes_then (goes (radio_lost world epoch key (radio_of s key).items) (record s { radios = emptied s.radios key })) (lose_each world epoch keys) tt
      (lose_each_goes epoch keys)

  lose_goes : (ue : UeId) (s : State M C L P) → GoesOn (lose_radios world ue s)
  unfolding lose_radios
  lose_goes ue s = by (find ue_cmp s.connected ue)
    where
      by : (o : Option ℕ) → GoesOn (lose_radios_of world ue o s)
      by None = tt
      by (Some epoch) = lose_each_goes epoch (radios_of world ue s.radios) s

  reconnect_goes : (ue : UeId) (s : State M C L P) → GoesOn (reconnect world ue s)
  reconnect_goes ue s = by (same_epoch world (find ue_cmp s.connected ue) (epoch_now world s ue))
    where
      by : (t : Bool) → GoesOn (if t then goes_on s else (lose_radios world ue s next (λ t. goes_on (connect_in world ue (epoch_now world s ue) t))))
      by true = tt
      by false = goes_then (lose_radios world ue s) (λ t. goes_on (connect_in world ue (epoch_now world s ue) t)) (lose_goes ue s) (λ t. tt)

  reconnect_node_goes : (node : NodeId) (s : State M C L P) → GoesOn (reconnect_node world node s)
  reconnect_node_goes (Ue ue) s = reconnect_goes (record { 0 = ue }) s
  reconnect_node_goes (CuCp gnb) s = tt
  reconnect_node_goes (CuUp gnb number) s = tt
  reconnect_node_goes (Du gnb number) s = tt
  reconnect_node_goes Core s = tt

  -- ---- a step

  silent_control_messages : (outputs : List (Put M L P)) → IsSilent outputs → count_control_messages world outputs ≡ 0
  silent_control_messages [] p = refl
  silent_control_messages (control to ue message ∷ outputs) p = absurd p
  silent_control_messages (packet to teid ue bearer dir tag load ∷ outputs) p = silent_control_messages outputs p
  silent_control_messages (radio ue bearer dir epoch tag pdu ∷ outputs) p = silent_control_messages outputs p
  silent_control_messages (deliver ue bearer dir count p ∷ outputs) q = silent_control_messages outputs q
  silent_control_messages (dropped reason ∷ outputs) p = silent_control_messages outputs p
  silent_control_messages (held reason ∷ outputs) p = silent_control_messages outputs p
  silent_control_messages (opened teid ∷ outputs) p = silent_control_messages outputs p
  silent_control_messages (closed teid ∷ outputs) p = silent_control_messages outputs p
  silent_control_messages (failed ue cause ∷ outputs) p = silent_control_messages outputs p
  silent_control_messages (no reason ∷ outputs) p = silent_control_messages outputs p

  not_more : (a b : ℕ) → b ≤ a → nat_lt a b ≡ false
  not_more a b h = grind arith

  not_too_many : (outputs : List (Put M L P)) (s : State M C L P) → IsSilent outputs → length s.bag.control_messages ≤ most_control_messages
      → too_many_control_messages world outputs s ≡ false
  not_too_many outputs s silent few =
      ap (λ (n : ℕ). nat_lt most_control_messages (length s.bag.control_messages + n)) (silent_control_messages outputs silent)
      ∙ not_more most_control_messages (length s.bag.control_messages + 0) (omega (arith, few))

  step_has : (key : EntityKey) (count : ℕ) (p : List ℕ) (node : NodeId) (w : Within M C L P) → HasLine (delivers key count p) w
      → DeliversIn key count p (as_step (Some node) w)
  step_has key count p node (goes lines t) h = Contains-append_left lines [] (delivers key count p) h
  step_has key count p node (stops lines why) h = Contains-append_left lines [] (delivers key count p) h

  module _ (ue : UeId) (bearer : BearerId) (dir : Dir) (count : ℕ) (p : List ℕ) where
    put_has : (node : NodeId) (taken : Option ℕ) (outputs : List (Put M L P)) (s : State M C L P)
        → HasLine (delivers (entity ue bearer dir) count p) (put_out_all world node taken (deliver ue bearer dir count p ∷ outputs) s)
    unfolding put_out_all
    put_has node taken outputs s =
        has_then (delivers (entity ue bearer dir) count p) (put_out world node taken (deliver ue bearer dir count p) s) (put_out_all world node taken outputs)
        (Contains-append_left (delivers (entity ue bearer dir) count p ∷ []) [] (delivers (entity ue bearer dir) count p) (0, omega arith, refl))

    carried_has : (node : NodeId) (taken : Option ℕ) (first : State M C L P → Within M C L P) (outputs : List (Put M L P)) (units : Units M C) (s : State M C L P)
        → ((t : State M C L P) → GoesOn (first t))
        → HasLine (delivers (entity ue bearer dir) count p) (carried_out world node taken first (deliver ue bearer dir count p ∷ outputs) units s)
    carried_has node taken first outputs units s on =
        let line : RunLine M = delivers (entity ue bearer dir) count p in
        let begun : Within M C L P = first (record s { units = units }) in
        has_then line (begun next reconnect_node world node next put_out_all world node taken (deliver ue bearer dir count p ∷ outputs)) check_spans
        (then_has line (begun next reconnect_node world node) (put_out_all world node taken (deliver ue bearer dir count p ∷ outputs))
        (goes_then begun (reconnect_node world node) (on (record s { units = units })) (reconnect_node_goes node))
        (put_has node taken outputs))

    done_has : (node : NodeId) (taken : Option ℕ) (first : State M C L P → Within M C L P) (outputs : List (Put M L P)) (units : Units M C) (s : State M C L P)
        → ((t : State M C L P) → GoesOn (first t)) → IsSilent outputs → length s.bag.control_messages ≤ most_control_messages
        → IsDeliveredBy (entity ue bearer dir) count p (done_with world node taken first s (stepped (deliver ue bearer dir count p ∷ outputs) units))
    done_has node taken first outputs units s on silent few =
        by (too_many_control_messages world (deliver ue bearer dir count p ∷ outputs) s) (not_too_many (deliver ue bearer dir count p ∷ outputs) s silent few)
      where
        by : (t : Bool) → t ≡ false → IsDeliveredBy (entity ue bearer dir) count p
            (if t then is_done (stops [] (spent_counter control_messages_spent))
            else is_done (as_step (Some node) (carried_out world node taken first (deliver ue bearer dir count p ∷ outputs) units s)))
        by true e = absurd cc
        by false e = step_has (entity ue bearer dir) count p node _ (carried_has node taken first outputs units s on)

    pub does_has : (node : NodeId) (given : Given M L P) (taken : Option ℕ) (first : State M C L P → Within M C L P) (outputs : List (Put M L P)) (units : Units M C)
        (s : State M C L P) → ((t : State M C L P) → GoesOn (first t)) → IsSilent outputs → length s.bag.control_messages ≤ most_control_messages
        → world.answer (sn_of s) s.units node given ≡ stepped (deliver ue bearer dir count p ∷ outputs) units
        → IsDeliveredBy (entity ue bearer dir) count p (does world node given taken first s)
    unfolding does
    does_has node given taken first outputs units s on silent few is =
        subst (λ a. IsDeliveredBy (entity ue bearer dir) count p (done_with world node taken first s a)) (sym is)
        (done_has node taken first outputs units s on silent few)
