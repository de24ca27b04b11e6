-- A tick of a unit does the same for a terminal in two states that share its projection.
use Rattle.std.proofs.Common.{◌≡◌, ◌==◌, ℕ, ◌+◌, length, Bool, true, false, List, [], ◌∷◌, ◌++◌, Option, refl, sym, ap, ◌∙◌, subst}
use Rattle.std.specs.Prelude.{if◌then◌else◌}
use Rattle.std.specs.List.{AllByRecursion}
use Rattle.gnb_types.specs.declared.names.NodeId.{NodeId}
use Rattle.gnb_types.specs.declared.names.NodeId.TheVariants.{CuCp, CuUp as up_id, Du as du_id, Core, Ue}
use Rattle.gnb_types.specs.declared.names.UeId.{UeId}
use Rattle.gnb_types.specs.declared.keys.TunnelEnd.{TunnelEnd}
use Rattle.unit_defs.specs.Ways.{Put, control, packet, radio, deliver, dropped, held, opened, closed, failed, no}
use Rattle.transport_defs.specs.declared.ControlMessage.{ControlMessage}
use Rattle.transport_defs.specs.Links.{Bag, put_control_message}
use Rattle.run_defs.specs.Lines.{RunLine, put_message}
use Rattle.run_defs.specs.Units.{Units}
use Rattle.run_defs.specs.Written.{WrittenStepped}
use Rattle.run_defs.specs.States.{State, World, goes, told_before, ◌next◌, goes_on, Within, stepped, tick_for, sn_of}
use Rattle.run_defs.specs.Steps.{check_spans, reconnect_node, put_control, put_out, put_out_all, carried_out}
use Rattle.run_defs.specs.Runs.{Reading, plain_world}
use Rattle.law_terminals_are_isolated.specs.projection_arguments.Views.{StayEqualAt}
use Rattle.law_terminals_are_isolated.specs.tick_projections.Ticks.{outputs_of}
use Rattle.law_terminals_are_isolated.specs.frame_of_steps.Others.{control_messages_of, IsNodeFor}
use Rattle.law_terminals_are_isolated.specs.cu_cp_projection.CuCps.{CuCpShared}
use Rattle.law_terminals_are_isolated.specs.cu_up_projection.CuUps.{UpShared}
use Rattle.law_terminals_are_isolated.specs.du_projection.Dus.{DuShared}
use Rattle.law_terminals_are_isolated.specs.run_ticks.Ticks.{IsUnit, IsReported, TickEqual, AreReported}
use Rattle.law_terminals_are_isolated.proofs.run_ticks.Ticks.{ticks_equal}
use Rattle.law_terminals_are_isolated.proofs.run_ticks.Told.{ticks_told}
use Rattle.law_terminals_are_isolated.specs.step_consistency.Places.{of_cu_cp, of_up, of_du}
use Rattle.law_terminals_are_isolated.specs.step_consistency.EqualStates.{EqualStates, EqualFrom, Agree}
use Rattle.law_terminals_are_isolated.proofs.step_consistency.Beside.{control_messages_end, then_equal, checks_equal}
use Rattle.law_terminals_are_isolated.proofs.step_consistency.Steps.{nodes_equal}
use Rattle.law_terminals_are_isolated.proofs.step_consistency.Units.{RunUnits, agrees, only_answered}
use Rattle.law_terminals_are_isolated.specs.own_events.Events.{RunState}
use Rattle.law_terminals_are_isolated.specs.all_steps.Steps.{AfterSteps}
use Rattle.law_terminals_are_isolated.specs.equal_projections.States.{shared_but_room, IsTicked, Ticked}

-- ---- control messages of a terminal among what is told

abbrev own_control_messages : {M L P : Type 0} → NodeId → List (Put M L P) → List (ControlMessage M)
own_control_messages node [] = []
own_control_messages node (control to u m ∷ os) = record { from = node; to = to; ue = u; message = m } ∷ own_control_messages node os
own_control_messages node (o ∷ os) = own_control_messages node os

none_after : {X : Type 0} (xs : List X) → xs ++ [] ≡ xs
none_after [] = refl
none_after (x ∷ xs) = ap (λ (ys : List _). x ∷ ys) (none_after xs)

joined : {X : Type 0} (xs ys zs : List X) → (xs ++ ys) ++ zs ≡ xs ++ (ys ++ zs)
joined [] ys zs = refl
joined (w ∷ ws) ys zs = ap (λ (vs : List _). w ∷ vs) (joined ws ys zs)

pub unit_for : (ue : UeId) (node : NodeId) → IsUnit node → IsNodeFor ue node
unit_for ue (CuCp gnb) is = tt
unit_for ue (up_id gnb number) is = tt
unit_for ue (du_id gnb number) is = tt
unit_for ue Core is = tt
unit_for ue (Ue n) is = absurd is

module _ {M C L P : Type 0} (world : World M C L P) (ue : UeId) (node : NodeId) (taken : Option ℕ) where
  -- it goes on, and the bag has the terminal's messages more
  pub record Tells (xs : List (Put M L P)) (x : State M C L P) : Type 0 where
    pub lines : List (RunLine M)
    pub bag : Bag M
    pub goes_so : put_out_all world node taken xs x ≡ goes lines (record x { bag = bag })
    pub control_messages : control_messages_of ue bag.control_messages ≡ control_messages_of ue x.bag.control_messages ++ own_control_messages node (outputs_of ue.0 xs)

  -- after an output that changes nothing
  nothing_told : (o : Put M L P) (os : List (Put M L P)) (x : State M C L P) (before : List (RunLine M)) → put_out world node taken o x ≡ goes before x
      → own_control_messages node (outputs_of ue.0 (o ∷ os)) ≡ own_control_messages node (outputs_of ue.0 os) → Tells os x → Tells (o ∷ os) x
  unfolding put_out_all
  nothing_told o os x before is same rest = record {
    lines = before ++ rest.lines;
    bag = rest.bag;
    goes_so = ap (λ (e : Within M C L P). e next put_out_all world node taken os) is ∙ ap (told_before before) rest.goes_so;
    control_messages = rest.control_messages ∙ ap (λ (ls : List (ControlMessage M)). control_messages_of ue x.bag.control_messages ++ ls) (sym same);
  }

  tells : (xs : List (Put M L P)) → AllByRecursion IsReported xs → (x : State M C L P) → Tells xs x
  unfolding put_out_all put_control put_control_message
  tells [] all x = record { lines = []; bag = x.bag; goes_so = refl; control_messages = sym (none_after (control_messages_of ue x.bag.control_messages)) }
  tells (control to u m ∷ os) all x =
      let l : ControlMessage M = record { from = node; to = to; ue = u; message = m } in
      let rest : Tells os (record x { bag = put_control_message x.bag l }) = tells os all.1 (record x { bag = put_control_message x.bag l }) in
      record {
        lines = (put_message (length x.bag.control_messages + 1) l ∷ []) ++ rest.lines;
        bag = rest.bag;
        goes_so = ap (told_before (put_message (length x.bag.control_messages + 1) l ∷ [])) rest.goes_so;
        control_messages =
            rest.control_messages
            ∙ ap (λ (ls : List (ControlMessage M)). ls ++ own_control_messages node (outputs_of ue.0 os)) (control_messages_end ue x.bag.control_messages _)
            ∙ joined (control_messages_of ue x.bag.control_messages) (if u == ue.0 then l ∷ [] else []) (own_control_messages node (outputs_of ue.0 os))
            ∙ ap (λ (ls : List (ControlMessage M)). control_messages_of ue x.bag.control_messages ++ ls) (one to u m os (u == ue.0));
      }
    where
      one : (to : NodeId) (u : ℕ) (m : M) (os : List (Put M L P)) (b : Bool)
          → (if b then record { from = node; to = to; ue = u; message = m } ∷ [] else []) ++ own_control_messages node (outputs_of ue.0 os)
          ≡ own_control_messages node (if b then control to u m ∷ outputs_of ue.0 os else outputs_of ue.0 os)
      one to u m os true = refl
      one to u m os false = refl
  tells (failed u cause ∷ os) all x = nothing_told (failed u cause) os x _ refl (by (u.0 == ue.0)) (tells os all.1 x)
    where
      by : (b : Bool) → own_control_messages node (if b then failed u cause ∷ outputs_of ue.0 os else outputs_of ue.0 os) ≡ own_control_messages node (outputs_of ue.0 os)
      by true = refl
      by false = refl
  tells (dropped reason ∷ os) all x = nothing_told (dropped reason) os x _ refl refl (tells os all.1 x)
  tells (held reason ∷ os) all x = nothing_told (held reason) os x _ refl refl (tells os all.1 x)
  tells (no reason ∷ os) all x = nothing_told (no reason) os x _ refl refl (tells os all.1 x)
  tells (packet to teid u bearer dir tag load ∷ os) all x = absurd all.0
  tells (radio u bearer dir epoch tag pdu ∷ os) all x = absurd all.0
  tells (deliver u bearer dir count p ∷ os) all x = absurd all.0
  tells (opened teid ∷ os) all x = absurd all.0
  tells (closed teid ∷ os) all x = absurd all.0

  module _ (shows : TunnelEnd → Bool) where
    tell_equal : (xs ys : List (Put M L P)) → AllByRecursion IsReported xs → AllByRecursion IsReported ys → outputs_of ue.0 xs ≡ outputs_of ue.0 ys
        → (x y : State M C L P) → EqualStates ue shows x y → EqualFrom ue shows (put_out_all world node taken xs x) (put_out_all world node taken ys y)
    tell_equal xs ys first second same x y h =
        let one : Tells xs x = tells xs first x in
        let two : Tells ys y = tells ys second y in
        subst (λ (e : Within M C L P). EqualFrom ue shows (put_out_all world node taken xs x) e) (sym two.goes_so)
        (subst (λ (e : Within M C L P). EqualFrom ue shows e (goes two.lines (record y { bag = two.bag }))) (sym one.goes_so) (record {
          control_messages = one.control_messages ∙ (λ i. h.control_messages i ++ own_control_messages node (same i)) ∙ sym two.control_messages;
          tunnels = h.tunnels;
          radios = h.radios;
          books = h.books;
          connected = h.connected;
          plan = h.plan;
          node = h.node;
        }))

    pub ticked_equal : IsNodeFor ue node → (xs ys : List (Put M L P)) → AllByRecursion IsReported xs → AllByRecursion IsReported ys
        → outputs_of ue.0 xs ≡ outputs_of ue.0 ys → (u v : Units M C) (x y : State M C L P) → EqualStates ue shows (record x { units = u }) (record y { units = v })
        → EqualFrom ue shows (carried_out world node taken goes_on xs u x) (carried_out world node taken goes_on ys v y)
    ticked_equal unit xs ys first second same u v x y h =
        then_equal world ue shows
        (goes_on (record x { units = u }) next reconnect_node world node next put_out_all world node taken xs)
        (goes_on (record y { units = v }) next reconnect_node world node next put_out_all world node taken ys) check_spans check_spans
        (then_equal world ue shows (goes_on (record x { units = u }) next reconnect_node world node) (goes_on (record y { units = v }) next reconnect_node world node)
        (put_out_all world node taken xs) (put_out_all world node taken ys)
        (then_equal world ue shows (goes_on (record x { units = u })) (goes_on (record y { units = v })) (reconnect_node world node) (reconnect_node world node) h
        (nodes_equal world ue shows node unit))
        (λ z w i. tell_equal xs ys first second same z w i))
        (checks_equal world ue shows)

-- ---- units

module _ (reading : Reading) (ue : UeId) where
  stay_at : (node : NodeId) (u v : RunUnits) → IsUnit node → Agree ue u v → shared_but_room u node ≡ shared_but_room v node → StayEqualAt node ue u v
  stay_at (CuCp gnb) u v is h e = let shared = the_cp e in (λ i. ((h.units i).cps gnb, shared i))
    where
      the_cp : {a b : CuCpShared} → of_cu_cp a ≡ of_cu_cp b → a ≡ b
      the_cp e = cc
  stay_at (up_id gnb number) u v is h e = let shared = the_up e in (λ i. (h.tunnels gnb number i, shared i))
    where
      the_up : {a b : UpShared} {f g : ℕ → ℕ → Bool} → of_up a f ≡ of_up b g → a ≡ b
      the_up e = cc
  stay_at (du_id gnb number) u v is h e = let shared = the_du e in (λ i. ((h.units i).dus gnb number, shared i))
    where
      the_du : {a b : DuShared} → of_du a ≡ of_du b → a ≡ b
      the_du e = cc
  stay_at Core u v is h e = absurd is
  stay_at (Ue n) u v is h e = absurd is

  pub units_tick : (node : NodeId) (s x t y : RunState) → AfterSteps reading s → AfterSteps reading t → Agree ue s.units t.units → sn_of s ue ≡ sn_of t ue
      → (a : IsTicked reading node s x) (b : IsTicked reading node t y) → shared_but_room s.units node ≡ shared_but_room t.units node
      → Ticked ue a.outputs b.outputs a.units b.units
  units_tick node s x t y p q h lengths a b shared =
      let world = plain_world reading in
      let both : TickEqual node ue (stepped a.outputs a.units) (stepped b.outputs b.units) =
      subst (λ (w : WrittenStepped). TickEqual node ue w (stepped b.outputs b.units)) a.acted.answers
      (subst (λ (w : WrittenStepped). TickEqual node ue (world.answer (sn_of s) s.units node tick_for) w) b.acted.answers
      (ticks_equal reading ue s t p q node a.unit (stay_at node s.units t.units a.unit h shared) lengths)) in
      let mine : AreReported (stepped a.outputs a.units) = subst AreReported a.acted.answers (ticks_told reading (sn_of s) s.units node a.unit) in
      let its : AreReported (stepped b.outputs b.units) = subst AreReported b.acted.answers (ticks_told reading (sn_of t) t.units node b.unit) in
      record {
        same = both.0;
        first = mine;
        second = its;
        units = agrees ue node s.units t.units a.units b.units h
            (only_answered ue reading (sn_of s) s.units node tick_for a.outputs a.units a.acted.answers)
            (only_answered ue reading (sn_of t) t.units node tick_for b.outputs b.units b.acted.answers) both.1;
      }
