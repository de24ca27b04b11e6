-- In the states of such a run COUNTs are places.
use Rattle.std.proofs.Common.{◌≡◌, ℕ, ◌+◌, true, false, List, [], ◌∷◌, ◌++◌, length, map, Option, Some, None, refl, sym, ap, ◌∙◌, subst, arith, append_assoc, length-append}
use Rattle.std.specs.Prelude.{is_some}
use Rattle.std.specs.List.{AllByRecursion}
use Rattle.std.specs.Ordering.{nat_cmp}
use Rattle.gnb_types.specs.declared.names.Gnb.{Gnb}
use Rattle.gnb_types.specs.declared.names.NodeId.TheVariants.{Du as du_id}
use Rattle.gnb_types.specs.declared.names.UeId.{UeId}
use Rattle.gnb_types.specs.declared.names.BearerId.{BearerId}
use Rattle.gnb_types.specs.declared.names.Dir.TheVariants.{Dl}
use Rattle.gnb_types.specs.declared.keys.EntityKey.{EntityKey}
use Rattle.gnb_types.specs.Orders.{tunnel_cmp}
use Rattle.message_types.specs.declared.rrc.Token.{Token}
use Rattle.tables.specs.Tables.{find}
use Rattle.scenario_text.specs.declared.event.Event.{Event}
use Rattle.unit_defs.specs.Ways.{Message, Pdu, packet_pdu, Load}
use Rattle.unit_defs.specs.Du.{DuTunnel}
use Rattle.transport_defs.specs.Links.{Radio}
use Rattle.run_defs.specs.Units.{du_of}
use Rattle.run_defs.specs.Written.{Written}
use Rattle.run_defs.specs.States.{new_state, entity, radio_of}
use Rattle.run_defs.specs.Said.{Offered, Delivered}
use Rattle.run_defs.specs.Runs.{Reading, Happened, plain_world, run_from, run, Run}
use Rattle.proof_run_steps.specs.steps.Reached.{reached}
use Rattle.proof_node_orders.specs.du_inputs.Changes.{DuModel, model_of as du_model_of}
use Rattle.law_tunnels_are_owned.specs.open_tunnels.Open.{is_open_in, StandWhereOpen}
use Rattle.law_tunnels_are_owned.proofs.open_tunnels.Runs.{stand_where_open, first_stands}
use Rattle.law_tunnels_are_owned.specs.owner_facts.Owned.{AreOwned}
use Rattle.law_tunnels_are_owned.proofs.tunnel_owners.Placed.{first_owned}
use Rattle.law_tunnels_are_owned.proofs.tunnel_owners.Runs.{owned_later}
use Rattle.law_tunnels_are_owned.specs.run_tunnels.Own.{IsOwnAt, TunnelsHoldTheirOwn}
use Rattle.law_tunnels_are_owned.proofs.run_tunnels.Runs.{own_in_runs}
use Rattle.law_downlink_scripts.proofs.downlink_only_facts.Views.{PlainState, OnTunnel, OnRadio, load_of, pdu_of, Stage, comes, lacks, stands}
use Rattle.law_downlink_scripts.proofs.downlink_only_facts.Ends.{DuNamed, du_named}
use Rattle.law_downlink_scripts.specs.downlink_only_runs.Scripts.{IsDownlinkOnly}
use Rattle.law_downlink_scripts.proofs.downlink_only_runs.First.{at_first}
use Rattle.law_downlink_scripts.specs.downlink_only_counts.Placed.{LoadHas, IsPlaced, CountsArePlaces}
use Rattle.law_downlink_scripts.proofs.downlink_only_counts.After.{StandAfter, after}
use Rattle.law_downlink_scripts.proofs.downlink_only_counts.Lists.{radio_placed, frames_placed, same_rest}

module _ (t : PlainState) (happened : List (Happened (Message Token))) (h : StandAfter new_state at_first t happened) where
  abbrev offered : UeId → BearerId → List (List ℕ)
  offered ue bearer = Offered (entity ue bearer Dl) happened

  abbrev told : UeId → BearerId → List (List ℕ)
  told ue bearer = Delivered (entity ue bearer Dl) happened

  -- ---- radios

  nothing : (Q : OnRadio → Type 0) (carried rest : List OnRadio) → [] ≡ carried ++ rest → AllByRecursion Q rest
  nothing Q [] [] e = tt
  nothing Q [] (x ∷ rest) e = absurd cc
  nothing Q (x ∷ carried) rest e = absurd cc

  in_air : (ue : UeId) (bearer : BearerId) (n : ℕ) (left : List (List ℕ)) → Stage t ue bearer n left → (h.standing ue bearer).delivered ≡ n
      → (h.standing ue bearer).left ≡ left → (carried rest : List OnRadio) → (radio_of t (entity ue bearer Dl)).items ≡ carried ++ rest
      → (radio_of t (entity ue bearer Dl)).carried ≡ length carried
      → AllByRecursion (λ (item : OnRadio). IsPlaced (offered ue bearer) (λ count packet. item.content.says ≡ packet_pdu count packet)) rest
  in_air ue bearer n left (comes plan absent none first empty) n_is left_is carried rest items_are carried_is =
      nothing (λ (item : OnRadio). IsPlaced (offered ue bearer) (λ count packet. item.content.says ≡ packet_pdu count packet)) carried rest (sym (ap (λ (r : Radio (Written Pdu)). r.items) none.2) ∙ items_are)
  in_air ue bearer n left (lacks l none first) n_is left_is carried rest items_are carried_is =
      nothing (λ (item : OnRadio). IsPlaced (offered ue bearer) (λ count packet. item.content.says ≡ packet_pdu count packet)) carried rest (sym (ap (λ (r : Radio (Written Pdu)). r.items) none.2) ∙ items_are)
  in_air ue bearer n left (stands v sees fit order) n_is left_is carried rest items_are carried_is =
      let same : order.flying ≡ rest =
      same_rest order.known order.flying carried rest
      (sym order.radio_is ∙ sym (ap (λ (r : Radio (Written Pdu)). r.items) sees.radio) ∙ items_are)
      (sym order.carried_is ∙ sym (ap (λ (r : Radio (Written Pdu)). r.carried) sees.radio) ∙ carried_is) in
      subst (λ (xs : List (List ℕ)). AllByRecursion (λ (item : OnRadio). IsPlaced xs (λ count packet. item.content.says ≡ packet_pdu count packet)) rest)
      (ap (λ (ps : List (List ℕ)). told ue bearer ++ ps) (sym order.left_is ∙ sym left_is) ∙ h.packets ue bearer)
      (radio_placed order.aired rest n (told ue bearer) (order.framed ++ (v.up.bearer.waiting ++ order.offered)) (omega (arith, n_is, h.further ue bearer))
      (ap (λ (is : List OnRadio). map pdu_of is) (sym same) ∙ order.on_radio))

  -- ---- the tunnels to DUs

  module _ (owned : AreOwned t.units) (where_open : StandWhereOpen t) (own : TunnelsHoldTheirOwn t) (g : Gnb) (k teid : ℕ) (items : List OnTunnel)
      (found : find tunnel_cmp t.tunnels (record { node = du_id g k; teid = teid }) ≡ Some items) where
    abbrev Placed : List OnTunnel → Type 0
    Placed is = AllByRecursion (λ (item : OnTunnel). IsPlaced (Offered item.key happened) (LoadHas item.content.says)) is

    of_keys : (ue : UeId) (bearer : BearerId) (is : List OnTunnel)
        → AllByRecursion (λ (item : OnTunnel). IsPlaced (offered ue bearer) (LoadHas item.content.says)) is
        → AllByRecursion (λ (item : OnTunnel). item.key ≡ entity ue bearer Dl) is → Placed is
    of_keys ue bearer [] p q = tt
    of_keys ue bearer (item ∷ is) p q =
        (subst (λ (key : EntityKey). IsPlaced (Offered key happened) (LoadHas item.content.says)) (sym q.0) p.0, of_keys ue bearer is p.1 q.1)

    keys_are : (d : DuTunnel) → find nat_cmp (du_of t.units g k).tunnels teid ≡ Some d → (is : List OnTunnel)
        → AllByRecursion (λ (item : OnTunnel). IsOwnAt t.units (du_id g k) teid item.key item.content.says) is
        → AllByRecursion (λ (item : OnTunnel). item.key ≡ entity d.ue d.bearer Dl) is
    keys_are d is_open [] p = tt
    keys_are d is_open (item ∷ is) p =
        let o = p.0 d is_open in ((λ i. record { ue = o.0 i; bearer = o.1 i; dir = o.2.0 i }), keys_are d is_open is p.1)

    framed : (d : DuTunnel) → find nat_cmp (du_of t.units g k).tunnels teid ≡ Some d → DuNamed t.units owned g k teid d → (n : ℕ) (left : List (List ℕ))
        → Stage t d.ue d.bearer n left → (h.standing d.ue d.bearer).delivered ≡ n → (h.standing d.ue d.bearer).left ≡ left → Placed items
    framed d is_open named n left (comes plan absent none first empty) n_is left_is =
        let clash : None ≡ Some named.part = sym (none.1 g k) ∙ named.is in absurd cc
    framed d is_open named n left (lacks l none first) n_is left_is =
        let clash : None ≡ Some named.part = sym (none.1 g k) ∙ named.is in absurd cc
    framed d is_open named n left (stands v sees fit order) n_is left_is =
        let here = sees.only_du g k named.part named.is in
        let parts : Some named.part ≡ Some v.du = sym named.is ∙ (λ i. du_model_of (du_of t.units (here.0 i) (here.1 i)) d.ue d.bearer) ∙ sees.du in
        let part : named.part ≡ v.du = cc in
        let teid_is : teid ≡ v.du.bearer.downlink = sym named.downlink ∙ ap (λ (p : DuModel). p.bearer.downlink) part in
        let both : Some items ≡ Some v.on_downlink =
        sym found ∙ (λ i. find tunnel_cmp t.tunnels (record { node = du_id (here.0 i) (here.1 i); teid = teid_is i })) ∙ sees.on_downlink in
        let same : items ≡ v.on_downlink = cc in
        let rest : List (List ℕ) = v.up.bearer.waiting ++ order.offered in
        of_keys d.ue d.bearer items
        (subst (λ (xs : List (List ℕ)). AllByRecursion (λ (item : OnTunnel). IsPlaced xs (LoadHas item.content.says)) items)
        (append_assoc (told d.ue d.bearer) order.aired (order.framed ++ rest)
        ∙ ap (λ (ps : List (List ℕ)). told d.ue d.bearer ++ ps) (sym order.left_is ∙ sym left_is) ∙ h.packets d.ue d.bearer)
        (frames_placed order.framed items v.du.bearer.awaited (n + length order.aired) (told d.ue d.bearer ++ order.aired) rest
        (omega (arith, n_is, h.further d.ue d.bearer, length-append (told d.ue d.bearer) order.aired))
        (ap (λ (is : List OnTunnel). map load_of is) same ∙ order.on_downlink)))
        (keys_are d is_open items (own (record { node = du_id g k; teid = teid }) items found))

    on_tunnel : Placed items
    on_tunnel = by (find nat_cmp (du_of t.units g k).tunnels teid) refl
      where
        is_there : is_open_in (du_of t.units g k).tunnels teid ≡ true
        is_there = sym (where_open.1 g k teid) ∙ ap is_some found

        by : (o : Option DuTunnel) → find nat_cmp (du_of t.units g k).tunnels teid ≡ o → Placed items
        by None e = let clash : false ≡ true = sym (ap is_some e) ∙ is_there in absurd cc
        by (Some d) e =
            framed d e (du_named t.units owned g k teid d e) (h.standing d.ue d.bearer).delivered (h.standing d.ue d.bearer).left (h.standing d.ue d.bearer).stage refl refl

pub counts_in_runs : (reading : Reading) (events : List Event) → AllByRecursion IsDownlinkOnly events → (t : PlainState)
    → reached (plain_world reading) events new_state ≡ Some t → CountsArePlaces t (Run reading events).events
unfolding Run run
counts_in_runs reading events are t is =
    let h = after reading events are [] new_state refl at_first t is in
    let happened = (run_from (plain_world reading) events new_state).events in
    record {
      tunnels = λ g k teid items found.
          on_tunnel t happened h (owned_later reading events new_state t is (first_owned (Message Token) Token))
          (stand_where_open reading events new_state t (first_stands (Message Token) Token (Written (Load Pdu)) (Written Pdu)) is)
          (own_in_runs reading events t is) g k teid items found;
      radios = λ ue bearer carried rest items_are carried_is.
          in_air t happened h ue bearer (h.standing ue bearer).delivered (h.standing ue bearer).left (h.standing ue bearer).stage refl refl carried rest items_are carried_is;
    }
