-- What a CU-UP gets for a bearer that serves leaves each bearer where it stood.
use Rattle.std.proofs.Common.{◌≡◌, ℕ, ◌+◌, false, List, [], ◌∷◌, ◌++◌, length, map, Some, None, refl, sym, ap, ◌∙◌, subst, arith}
use Rattle.std.specs.List.{AllByRecursion}
use Rattle.std.proofs.lemmas.List.{length-append}
use Rattle.gnb_types.specs.declared.names.UeId.{UeId}
use Rattle.gnb_types.specs.declared.names.BearerId.{BearerId}
use Rattle.gnb_types.specs.declared.names.Dir.TheVariants.{Dl}
use Rattle.gnb_types.specs.declared.keys.TunnelEnd.{TunnelEnd}
use Rattle.gnb_types.specs.Orders.{tunnel_cmp}
use Rattle.tables.specs.Tables.{find}
use Rattle.message_types.specs.declared.rrc.Token.{Token}
use Rattle.scenario_text.specs.declared.event.Event.{Event}
use Rattle.unit_defs.specs.Ways.{Message, fresh, fresh_item, status_item, packet_input}
use Rattle.unit_defs.specs.CuUpRecords.{CuUpBearer, CuUpContext, n3, f1u_uplink, CuUp}
use Rattle.unit_defs.specs.CuUp.{cu_up_acts}
use Rattle.run_defs.specs.Units.{cu_up_of}
use Rattle.run_defs.specs.States.{entity}
use Rattle.run_defs.specs.Events.{get_done}
use Rattle.run_defs.specs.Said.{offered_by}
use Rattle.run_defs.specs.Runs.{Reading, plain_way, plain_world, taken_of}
use Rattle.law_tunnels_are_owned.specs.owner_facts.Owned.{AreOwned}
use Rattle.law_downlink_scripts.specs.downlink_only_rows.DownlinkOnly.{serving}
use Rattle.law_downlink_scripts.proofs.downlink_only_rows.Takes.{takes_fresh, takes_status}
use Rattle.proof_cu_up_orders.specs.context_orders.Orders.{CuUpModel}
use Rattle.law_downlink_scripts.proofs.downlink_only_facts.Views.{PlainState, OnTunnel, View, load_of, fresh_ones, IsCalm, n3_end, uplink_end, Sees, IsFit, IsInOrder, stands, AllStand}
use Rattle.law_downlink_scripts.proofs.downlink_only_facts.Keys.{UpFound, up_found}
use Rattle.law_downlink_scripts.proofs.downlink_only_facts.Ends.{n3_open, uplink_open, n3_owned, uplink_owned, kinds_apart}
use Rattle.law_downlink_scripts.proofs.downlink_only_facts.Lists.{sent_from, sent_on}
use Rattle.law_downlink_scripts.proofs.downlink_only_facts.Does as steps
use Rattle.law_downlink_scripts.proofs.downlink_only_steps.Ups as taken
use Rattle.law_downlink_scripts.proofs.downlink_only_steps.GetUps.{Owned, fared}

module _ (reading : Reading) (event : Event) (none : (who : UeId) (b : BearerId) → offered_by (entity who b Dl) event ≡ []) (s : PlainState)
    (owned : AreOwned s.units) (all : AllStand s) (ue : UeId) (bearer : BearerId) (v : View) (sees : Sees s ue bearer v) (fit : IsFit bearer v)
    (order : IsInOrder v (all ue bearer).delivered (all ue bearer).left) (item : OnTunnel) (rest : List OnTunnel) where
  abbrev r0 : CuUp (Message Token) Token
  r0 = cu_up_of s.units v.plan.gnb v.plan.up

  abbrev f : UpFound r0 ue bearer v.up
  f = up_found r0 ue bearer v.up sees.up

  abbrev c : CuUpContext
  c = f.context

  abbrev x : CuUpBearer
  x = f.found

  x_is : x ≡ v.up.bearer
  x_is = ap (λ (p : CuUpModel). p.bearer) f.is

  serves : c.flags ≡ serving
  serves = ap (λ (p : CuUpModel). p.at.flags) f.is ∙ fit.flags

  on : x.downlink ≡ Some v.downlink
  on = ap (λ (b : CuUpBearer). b.downlink) x_is ∙ fit.downlink

  calm : x.restart ≡ false
  calm = ap (λ (b : CuUpBearer). b.restart) x_is ∙ fit.restart

  next_is : x.sender.next ≡ (all ue bearer).delivered + length order.aired + length order.framed
  next_is = ap (λ (b : CuUpBearer). b.sender.next) x_is ∙ order.counts

  left_x : (all ue bearer).left ≡ order.aired ++ (order.framed ++ (x.waiting ++ order.offered))
  left_x = order.left_is ∙ ap (λ (b : CuUpBearer). order.aired ++ (order.framed ++ (b.waiting ++ order.offered))) (sym x_is)

  abbrev DoneFor : UeId → BearerId → TunnelEnd → Type 0
  DoneFor who q end =
      steps.DoneFares reading who q event (none who q) s (all who q).delivered (all who q).left (all who q).stage
      (get_done (plain_world reading) end item rest s)

  -- ---- a packet of N3

  module _ (found : find tunnel_cmp s.tunnels (n3_end v) ≡ Some (item ∷ rest)) where
    stood : v.on_n3 ≡ item ∷ rest
    stood = let e : Some v.on_n3 ≡ Some (item ∷ rest) = sym sees.on_n3 ∙ found in cc

    module _ (p : List ℕ) (more : List (List ℕ)) (says : item.content.says ≡ fresh p) (others : map load_of rest ≡ fresh_ones more)
        (left_is : (all ue bearer).left ≡ order.aired ++ (order.framed ++ (x.waiting ++ (p ∷ more)))) where
      abbrev first : CuUpBearer
      first = record x { waiting = x.waiting ++ p ∷ [] }

      own : Owned reading event none s owned all ue bearer v sees fit c x f.there f.is v.n3 item rest n3 (n3_owned s owned ue bearer v sees fit) first refl
          (fresh_item p) (ap taken_of says)
      own r b outputs n is named =
          stands (taken.view reading s owned ue bearer v sees fit c x f.there f.is v.n3 item rest n3 (n3_owned s owned ue bearer v sees fit) first refl r b outputs n is named rest v.on_uplink)
          (taken.sees_it reading s owned ue bearer v sees fit c x f.there f.is v.n3 item rest n3 (n3_owned s owned ue bearer v sees fit) first refl r b outputs n is named rest v.on_uplink
          (taken.end_after reading s owned ue bearer v sees fit c x f.there f.is v.n3 item rest n3 (n3_owned s owned ue bearer v sees fit) first refl r b outputs n is named)
          (taken.elsewhere_after reading s owned ue bearer v sees fit c x f.there f.is v.n3 item rest n3 (n3_owned s owned ue bearer v sees fit) first refl r b outputs n is named
          (uplink_end v)
          (kinds_apart s.units (uplink_end v) (n3_end v) ue ue bearer bearer (Some f1u_uplink) (Some n3) (uplink_owned s owned ue bearer v sees fit)
          (n3_owned s owned ue bearer v sees fit) (λ e. absurd cc))
          (kinds_apart s.units (uplink_end v) _ ue ue bearer bearer (Some f1u_uplink) None (uplink_owned s owned ue bearer v sees fit)
          (taken.down_owned reading s owned ue bearer v sees fit c x f.there f.is v.n3 item rest n3 (n3_owned s owned ue bearer v sees fit) first refl r b outputs n is named)
          (λ e. absurd cc))
          ∙ sees.on_uplink))
          (taken.fits_it reading s owned ue bearer v sees fit c x f.there f.is v.n3 item rest n3 (n3_owned s owned ue bearer v sees fit) first refl r b outputs n is named rest v.on_uplink)
          (record {
            aired = order.aired;
            framed = order.framed ++ n.packets;
            offered = more;
            known = order.known;
            flying = order.flying;
            radio_is = order.radio_is;
            carried_is = order.carried_is;
            on_radio = order.on_radio;
            on_downlink = taken.framed_more reading s owned ue bearer v sees fit c x f.there f.is v.n3 item rest n3 (n3_owned s owned ue bearer v sees fit) first refl r b outputs n is named rest v.on_uplink
                v.du.bearer.awaited ((all ue bearer).delivered + length order.aired) order.framed order.on_downlink order.frames next_is;
            on_n3 = others;
            on_uplink = order.on_uplink;
            frames = omega (arith, order.frames, length-append order.framed n.packets);
            counts = omega (arith, n.counts, next_is, length-append order.framed n.packets);
            left_is = left_is ∙ sent_from order.aired order.framed x.waiting more n.packets b.waiting p n.waited;
            receiver = order.receiver;
          })

      fresh_fares : (who : UeId) (q : BearerId) → DoneFor who q (n3_end v)
      fresh_fares who q =
          fared reading event none s owned all ue bearer v sees fit c x f.there f.is v.n3 item rest n3 (n3_owned s owned ue bearer v sees fit) first refl
          (fresh_item p) (ap taken_of says) own who q (cu_up_acts plain_way r0 (packet_input v.n3 (fresh_item p))) refl
          (takes_fresh plain_way r0 v.n3 (record { ue = ue; bearer = bearer; kind = n3; context = (n3_open s owned ue bearer v sees fit).0 }) c x v.downlink serves p
          (n3_open s owned ue bearer v sees fit).1 refl f.there f.has on calm)

    pub n3_fares : (who : UeId) (q : BearerId) → DoneFor who q (n3_end v)
    n3_fares who q = by order.offered (ap (map load_of) (sym stood) ∙ order.on_n3) left_x
      where
        by : (os : List (List ℕ)) → map load_of (item ∷ rest) ≡ fresh_ones os → (all ue bearer).left ≡ order.aired ++ (order.framed ++ (x.waiting ++ os))
            → DoneFor who q (n3_end v)
        by [] e left_is = absurd cc
        by (p ∷ more) e left_is =
            let says : item.content.says ≡ fresh p = cc in
            let others : map load_of rest ≡ fresh_ones more = cc in
            fresh_fares p more says others left_is who q

  -- ---- a delivery status

  module _ (found : find tunnel_cmp s.tunnels (uplink_end v) ≡ Some (item ∷ rest)) where
    stood_up : v.on_uplink ≡ item ∷ rest
    stood_up = let e : Some v.on_uplink ≡ Some (item ∷ rest) = sym sees.on_uplink ∙ found in cc

    all_calm : AllByRecursion IsCalm (item ∷ rest)
    all_calm = subst (AllByRecursion IsCalm) stood_up order.on_uplink

    own_up : Owned reading event none s owned all ue bearer v sees fit c x f.there f.is v.du.bearer.uplink item rest f1u_uplink (uplink_owned s owned ue bearer v sees fit) x refl
        (status_item [] all_calm.0.0) (ap taken_of all_calm.0.1)
    own_up r b outputs n is named =
        stands (taken.view reading s owned ue bearer v sees fit c x f.there f.is v.du.bearer.uplink item rest f1u_uplink (uplink_owned s owned ue bearer v sees fit) x refl r b outputs n is named v.on_n3 rest)
        (taken.sees_it reading s owned ue bearer v sees fit c x f.there f.is v.du.bearer.uplink item rest f1u_uplink (uplink_owned s owned ue bearer v sees fit) x refl r b outputs n is named v.on_n3 rest
        (taken.elsewhere_after reading s owned ue bearer v sees fit c x f.there f.is v.du.bearer.uplink item rest f1u_uplink (uplink_owned s owned ue bearer v sees fit) x refl r b outputs n is named
        (n3_end v)
        (kinds_apart s.units (n3_end v) (uplink_end v) ue ue bearer bearer (Some n3) (Some f1u_uplink) (n3_owned s owned ue bearer v sees fit)
        (uplink_owned s owned ue bearer v sees fit) (λ e. absurd cc))
        (kinds_apart s.units (n3_end v) _ ue ue bearer bearer (Some n3) None (n3_owned s owned ue bearer v sees fit)
        (taken.down_owned reading s owned ue bearer v sees fit c x f.there f.is v.du.bearer.uplink item rest f1u_uplink (uplink_owned s owned ue bearer v sees fit) x refl r b outputs n is named)
        (λ e. absurd cc))
        ∙ sees.on_n3)
        (taken.end_after reading s owned ue bearer v sees fit c x f.there f.is v.du.bearer.uplink item rest f1u_uplink (uplink_owned s owned ue bearer v sees fit) x refl r b outputs n is named))
        (taken.fits_it reading s owned ue bearer v sees fit c x f.there f.is v.du.bearer.uplink item rest f1u_uplink (uplink_owned s owned ue bearer v sees fit) x refl r b outputs n is named v.on_n3 rest)
        (record {
          aired = order.aired;
          framed = order.framed ++ n.packets;
          offered = order.offered;
          known = order.known;
          flying = order.flying;
          radio_is = order.radio_is;
          carried_is = order.carried_is;
          on_radio = order.on_radio;
          on_downlink = taken.framed_more reading s owned ue bearer v sees fit c x f.there f.is v.du.bearer.uplink item rest f1u_uplink (uplink_owned s owned ue bearer v sees fit) x refl r b outputs n is named v.on_n3 rest
              v.du.bearer.awaited ((all ue bearer).delivered + length order.aired) order.framed order.on_downlink order.frames next_is;
          on_n3 = order.on_n3;
          on_uplink = all_calm.1;
          frames = omega (arith, order.frames, length-append order.framed n.packets);
          counts = omega (arith, n.counts, next_is, length-append order.framed n.packets);
          left_is = left_x ∙ sent_on order.aired order.framed x.waiting order.offered n.packets b.waiting n.waited;
          receiver = order.receiver;
        })

    pub uplink_fares : (who : UeId) (q : BearerId) → DoneFor who q (uplink_end v)
    uplink_fares who q =
        fared reading event none s owned all ue bearer v sees fit c x f.there f.is v.du.bearer.uplink item rest f1u_uplink (uplink_owned s owned ue bearer v sees fit) x refl
        (status_item [] all_calm.0.0) (ap taken_of all_calm.0.1) own_up who q (cu_up_acts plain_way r0 (packet_input v.du.bearer.uplink (status_item [] all_calm.0.0))) refl
        (takes_status plain_way r0 v.du.bearer.uplink (record { ue = ue; bearer = bearer; kind = f1u_uplink; context = (uplink_open s owned ue bearer v sees fit).0 }) c x v.downlink serves
        all_calm.0.0 (uplink_open s owned ue bearer v sees fit).1 refl f.there f.has on calm)
