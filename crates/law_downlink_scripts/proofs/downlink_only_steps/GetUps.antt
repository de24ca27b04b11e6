-- An item is got at a CU-UP: a packet of N3, or a delivery status.
use Rattle.std.proofs.Common.{◌≡◌, ℕ, List, [], ◌∷◌, ◌++◌, map, Some, inl, inr, ◌⊎◌, refl, sym, ap, ◌∙◌, subst}
use Rattle.std.proofs.lemmas.List.{append-nil}
use Rattle.gnb_types.specs.declared.names.NodeId.{NodeId}
use Rattle.gnb_types.specs.declared.names.NodeId.TheVariants.{CuUp as up_id}
use Rattle.gnb_types.specs.declared.names.UeId.{UeId}
use Rattle.gnb_types.specs.declared.names.BearerId.{BearerId}
use Rattle.gnb_types.specs.declared.names.Dir.TheVariants.{Dl}
use Rattle.gnb_types.specs.declared.keys.TunnelEnd.{TunnelEnd}
use Rattle.gnb_types.specs.Orders.{ue_cmp, bearer_cmp}
use Rattle.tables.specs.Tables.{put}
use Rattle.message_types.specs.declared.rrc.Token.{Token}
use Rattle.scenario_text.specs.declared.event.Event.{Event}
use Rattle.unit_defs.specs.Ways.{Message, Pdu, Output, Taken, packet_input, gives, spent}
use Rattle.unit_defs.specs.CuUpRecords.{DownlinkTunnel, CuUpBearer, CuUpContext, TunnelKind, CuUp, CuUpScope, cu_up_scope}
use Rattle.unit_defs.specs.CuUp.{context_of, cu_up_acts}
use Rattle.run_defs.specs.Lines.{got_item, tunnel_link, shown}
use Rattle.run_defs.specs.Units.{cu_up_of, with_cu_up}
use Rattle.run_defs.specs.Written.{written_put, written_step, WrittenStepped}
use Rattle.run_defs.specs.States.{Lengths, item_for, stepped, entity, sn_of}
use Rattle.run_defs.specs.Events.{taken_off, get_done}
use Rattle.run_defs.specs.Said.{offered_by}
use Rattle.run_defs.specs.Runs.{Reading, Plain, plain_way, plain_world, stepped_with, taken_of}
use Rattle.proof_run_steps.specs.steps.IsOutcome.{IsDone}
use Rattle.law_tunnels_are_owned.specs.owner_facts.Owned.{AreOwned}
use Rattle.law_downlink_scripts.specs.downlink_only_rows.DownlinkOnly.{ends_of, sends, IsNumbered, UpTakes}
use Rattle.proof_cu_up_orders.specs.context_orders.Orders.{model_with}
use Rattle.law_downlink_scripts.proofs.downlink_only_facts.Views.{PlainState, OnTunnel, View, Sees, IsFit, Stage, AllStand}
use Rattle.law_downlink_scripts.proofs.downlink_only_facts.Keys.{Apart, same_or_apart}
use Rattle.law_downlink_scripts.proofs.downlink_only_facts.Ends.{owner_of, owner_at}
use Rattle.law_downlink_scripts.proofs.downlink_only_facts.Kept.{stage_kept}
use Rattle.law_downlink_scripts.proofs.downlink_only_facts.Moves.{Line, mute_moves}
use Rattle.law_downlink_scripts.proofs.downlink_only_facts.Does as steps
use Rattle.law_downlink_scripts.proofs.downlink_only_steps.Ups as taken

-- what is sent is neither held nor refused
sends_done : (sn : Lengths) (at : CuUpScope) (d : DownlinkTunnel) (count : ℕ) (ps : List (List ℕ)) → IsDone (map (written_put sn) (sends plain_way at d count ps))
sends_done sn at d count [] = tt
sends_done sn at d count (p ∷ ps) = tt

module _ (reading : Reading) (event : Event) (none : (who : UeId) (b : BearerId) → offered_by (entity who b Dl) event ≡ []) (s : PlainState)
    (owned : AreOwned s.units) (all : AllStand s) (ue : UeId) (bearer : BearerId) (v : View) (sees : Sees s ue bearer v) (fit : IsFit bearer v)
    (c : CuUpContext) (x : CuUpBearer) (there : context_of (cu_up_of s.units v.plan.gnb v.plan.up) ue ≡ Some c)
    (part : model_with ue c bearer x ≡ v.up) where
  abbrev pub node : NodeId
  node = up_id v.plan.gnb v.plan.up

  abbrev pub r0 : CuUp (Message Token) Token
  r0 = cu_up_of s.units v.plan.gnb v.plan.up

  abbrev pub at : CuUpScope
  at = cu_up_scope ue c bearer

  module _ (teid : ℕ) (item : OnTunnel) (rest : List OnTunnel) (kind : TunnelKind)
      (mine : owner_at s.units (record { node = up_id v.plan.gnb v.plan.up; teid = teid }) ≡ Some (owner_of ue bearer (Some kind)))
      (first : CuUpBearer) (first_ends : ends_of first ≡ ends_of x) (input : Taken Pdu) (says : taken_of item.content.says ≡ input) where
    abbrev pub end : TunnelEnd
    end = record { node = node; teid = teid }

    abbrev pub answer : WrittenStepped
    answer = (plain_world reading).answer (sn_of s) s.units node (item_for teid item)

    answer_is : (a : Plain (CuUp (Message Token) Token)) → cu_up_acts plain_way r0 (packet_input teid input) ≡ a
        → answer ≡ written_step (sn_of s) (stepped_with reading (with_cu_up s.units v.plan.gnb v.plan.up) a)
    answer_is a is =
        ap (λ (i : Taken Pdu). written_step (sn_of s) (stepped_with reading (with_cu_up s.units v.plan.gnb v.plan.up) (cu_up_acts plain_way r0 (packet_input teid i)))) says
        ∙ ap (λ (a : Plain (CuUp (Message Token) Token)). written_step (sn_of s) (stepped_with reading (with_cu_up s.units v.plan.gnb v.plan.up) a)) is

    module _ (r : CuUp (Message Token) Token) (b : CuUpBearer) (outputs : List (Output (Message Token) Pdu))
        (n : IsNumbered plain_way at v.downlink first b outputs)
        (is : r.contexts ≡ put ue_cmp r0.contexts ue (record c { bearers = put bearer_cmp c.bearers bearer b })) (named : r.gnb ≡ r0.gnb) where
      abbrev pub begun_so : PlainState
      begun_so = taken.begun reading s owned ue bearer v sees fit c x there part teid item rest kind mine first first_ends r b outputs n is named

      abbrev pub after_so : PlainState
      after_so = taken.after reading s owned ue bearer v sees fit c x there part teid item rest kind mine first first_ends r b outputs n is named

      abbrev pub lines_so : List Line
      lines_so = (taken.puts reading s owned ue bearer v sees fit c x there part teid item rest kind mine first first_ends r b outputs n is named).lines

      abbrev pub got : List Line
      got = got_item (tunnel_link end) (shown item.key item.count item.content.octets) ∷ []

      -- whatever bearer it is, it stands as it stood
      each_stands : Stage after_so ue bearer (all ue bearer).delivered (all ue bearer).left → (who : UeId) (q : BearerId)
          → Stage after_so who q (all who q).delivered (all who q).left
      each_stands own who q = by (same_or_apart who q ue bearer)
        where
          by : ((who ≡ ue) × (q ≡ bearer)) ⊎ Apart who q ue bearer → Stage after_so who q (all who q).delivered (all who q).left
          by (inl same) =
              subst (λ (k : UeId × BearerId). Stage after_so k.0 k.1 (all k.0 k.1).delivered (all k.0 k.1).left) (λ i. (sym same.0 i, sym same.1 i)) own
          by (inr apart) =
              stage_kept s after_so who q owned
              (taken.others_kept reading s owned ue bearer v sees fit c x there part teid item rest kind mine first first_ends r b outputs n is named who q apart)
              (all who q).delivered (all who q).left (all who q).stage

      carried : Stage after_so ue bearer (all ue bearer).delivered (all ue bearer).left → (who : UeId) (q : BearerId)
          → steps.CarriedTo reading who q event (none who q) s (all who q).delivered (all who q).left (all who q).stage node (item_for teid item) item.count
          (taken_off (plain_world reading) end item rest) (map (written_put (sn_of s)) outputs) (with_cu_up s.units v.plan.gnb v.plan.up r)
      carried own who q = record {
        got = got;
        begun = begun_so;
        begins = refl;
        stays = refl;
        lines = lines_so;
        after = after_so;
        is = taken.put_all reading s owned ue bearer v sees fit c x there part teid item rest kind mine first first_ends r b outputs n is named;
        comes = record {
          further = (all who q).delivered;
          then_left = (all who q).left ++ [];
          moves = mute_moves who q (all who q).delivered (all who q).left [] (got ++ lines_so)
              (tt, (taken.puts reading s owned ue bearer v sees fit c x there part teid item rest kind mine first first_ends r b outputs n is named).mute);
          stage = subst (λ ps. Stage after_so who q (all who q).delivered ps) (sym (append-nil (all who q).left)) (each_stands own who q);
        };
      }

    abbrev pub Owned : Type 0
    Owned =
        (r : CuUp (Message Token) Token) (b : CuUpBearer) (outputs : List (Output (Message Token) Pdu))
        (n : IsNumbered plain_way at v.downlink first b outputs)
        (is : r.contexts ≡ put ue_cmp r0.contexts ue (record c { bearers = put bearer_cmp c.bearers bearer b })) (named : r.gnb ≡ r0.gnb)
        → Stage (after_so r b outputs n is named) ue bearer (all ue bearer).delivered (all ue bearer).left

    pub fared : Owned → (who : UeId) (q : BearerId) (a : Plain (CuUp (Message Token) Token)) → cu_up_acts plain_way r0 (packet_input teid input) ≡ a
        → UpTakes plain_way r0 ue c at v.downlink first a
        → steps.DoneFares reading who q event (none who q) s (all who q).delivered (all who q).left (all who q).stage
        (get_done (plain_world reading) end item rest s)
    fared own who q (spent counter) is t =
        steps.spent_fares reading who q event (none who q) s (all who q).delivered (all who q).left (all who q).stage node (item_for teid item) item.count
        (taken_off (plain_world reading) end item rest) counter (answer_is (spent counter) is)
    fared own who q (gives outputs r) is (inl (reason, holds)) =
        steps.holds_fares reading who q event (none who q) s (all who q).delivered (all who q).left (all who q).stage node (item_for teid item) item.count
        (taken_off (plain_world reading) end item rest) reason (with_cu_up s.units v.plan.gnb v.plan.up r)
        (answer_is (gives outputs r) is ∙ ap (λ os. stepped (map (written_put (sn_of s)) os) (with_cu_up s.units v.plan.gnb v.plan.up r)) holds)
    fared own who q (gives outputs r) is (inr (b, n, contexts, named)) =
        steps.does_fares reading who q event (none who q) s (all who q).delivered (all who q).left (all who q).stage node (item_for teid item) item.count
        (taken_off (plain_world reading) end item rest) (map (written_put (sn_of s)) outputs) (with_cu_up s.units v.plan.gnb v.plan.up r)
        (answer_is (gives outputs r) is)
        (subst (λ os. IsDone (map (written_put (sn_of s)) os)) (sym n.sent) (sends_done (sn_of s) at v.downlink first.sender.next n.packets))
        (carried r b outputs n contexts named (own r b outputs n contexts named) who q)
