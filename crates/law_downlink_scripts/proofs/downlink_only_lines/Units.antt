-- What units put out in such a run is at its place: by how the bearer stands.
use Rattle.std.proofs.Common.{◌≡◌, ℕ, zero, suc, ◌+◌, false, List, [], ◌∷◌, ◌++◌, length, map, Option, Some, None, inl, inr, refl, sym, ap, ◌∙◌, subst, arith, append_assoc, length-append}
use Rattle.std.specs.Prelude.{slice_get}
use Rattle.std.specs.List.{AllByRecursion}
use Rattle.gnb_types.specs.declared.names.Gnb.{Gnb}
use Rattle.gnb_types.specs.declared.names.NodeId.{NodeId}
use Rattle.gnb_types.specs.declared.names.NodeId.TheVariants.{CuUp as up_id, Du as du_id, Ue}
use Rattle.gnb_types.specs.declared.names.SnBits.{SnBits}
use Rattle.gnb_types.specs.declared.names.UeId.{UeId}
use Rattle.gnb_types.specs.declared.names.BearerId.{BearerId}
use Rattle.gnb_types.specs.declared.names.Dir.TheVariants.{Dl}
use Rattle.gnb_types.specs.declared.keys.EntityKey.{EntityKey}
use Rattle.gnb_types.specs.declared.keys.TunnelEnd.{TunnelEnd}
use Rattle.gnb_types.specs.Orders.{tunnel_cmp}
use Rattle.message_types.specs.declared.rrc.Token.{Token}
use Rattle.pdcp.specs.Pdus.{data_pdu}
use Rattle.tables.specs.Tables.{find}
use Rattle.link_defs.specs.Decoding.{CarriesPdu}
use Rattle.unit_defs.specs.Ways.{Message, Pdu, packet_pdu, report_pdu, Load, fresh, frame, status, Taken, fresh_item, status_item, packet_input, radio_input, confirm_input, gives, spent}
use Rattle.unit_defs.specs.CuUpRecords.{DownlinkTunnel, CuUpBearer, CuUpContext, CuUp, cu_up_scope, n3, f1u_uplink}
use Rattle.unit_defs.specs.CuUp.{cu_up_acts}
use Rattle.unit_defs.specs.Du.{Du, DuBearer, confirmed, du_acts}
use Rattle.unit_defs.specs.Ue.{UeNode, ue_acts}
use Rattle.unit_defs.specs.octet_defs.Writing.{pdu_octets, load_octets, written_load}
use Rattle.run_defs.specs.Carried.{kinds_to}
use Rattle.run_defs.specs.Lines.{put_item, tunnel_link, radio_link, shown}
use Rattle.run_defs.specs.Local.{ShowsOffered}
use Rattle.run_defs.specs.Units.{cu_up_of, with_cu_up, du_of, with_du, ue_of, with_ue}
use Rattle.run_defs.specs.Written.{written_put, written_step}
use Rattle.run_defs.specs.States.{Lengths, item_for, carried_for, confirmed_for, entity, sn_of}
use Rattle.run_defs.specs.Runs.{Reading, Plain, plain_way, plain_world, number_in, content_of, taken_of, stepped_with, ue_stepped}
use Rattle.law_tunnels_are_owned.specs.link_items.Items.{count_of_load, MayStand}
use Rattle.law_units_act_locally.proofs.local.Carries.{CarriesOn, carried_back, air_back}
use Rattle.law_tunnels_are_owned.specs.owner_facts.Owned.{AreOwned}
use Rattle.law_downlink_scripts.specs.downlink_only_rows.DownlinkOnly.{next_on, sends, UpTakes, UeTakes, serving}
use Rattle.law_downlink_scripts.proofs.downlink_only_rows.Takes.{takes_fresh, takes_status}
use Rattle.law_downlink_scripts.proofs.downlink_only_rows.Dus.{passes, confirms}
use Rattle.law_downlink_scripts.proofs.downlink_only_rows.Ues.{ue_takes}
use Rattle.proof_cu_up_orders.specs.context_orders.Orders.{CuUpModel}
use Rattle.proof_node_orders.specs.du_inputs.Changes.{DuModel}
use Rattle.law_downlink_scripts.proofs.downlink_only_facts.Views.{PlainState, PlainUnits, OnTunnel, OnRadio, View, load_of, pdu_of, pdus_from, frames_from, fresh_ones, IsCalm, n3_end, uplink_end, downlink_end, Sees, IsFit, IsInOrder, AllStand}
use Rattle.law_downlink_scripts.proofs.downlink_only_facts.Keys.{UpFound, up_found, DuFound, du_found}
use Rattle.law_downlink_scripts.proofs.downlink_only_facts.Ends.{n3_open, uplink_open, downlink_open}
use Rattle.law_downlink_scripts.proofs.downlink_only_lines.Lines.{AreLong, IsAtPlace, PutsAtPlaces, AnswersAtPlaces}

at_seam : (before : List (List ℕ)) (p : List ℕ) (more : List (List ℕ)) (count : ℕ) → count ≡ length before → slice_get (before ++ (p ∷ more)) count ≡ Some p
at_seam [] p more count e = ap (slice_get (p ∷ more)) e
at_seam (b ∷ before) p more zero e = absurd (omega (arith, e))
at_seam (b ∷ before) p more (suc count) e = at_seam before p more count (omega (arith, e))

-- what was delivered, and how the bearers stand: so these were offered
pub record Stood (offered : EntityKey → List (List ℕ)) (s : PlainState) (all : AllStand s) : Type 0 where
  pub told : UeId → BearerId → List (List ℕ)
  pub packets : (ue : UeId) (bearer : BearerId) → told ue bearer ++ (all ue bearer).left ≡ offered (entity ue bearer Dl)
  pub many : (ue : UeId) (bearer : BearerId) → (all ue bearer).delivered ≡ length (told ue bearer)

module _ (L : Lengths) (offered : EntityKey → List (List ℕ)) (reading : Reading) (s : PlainState) (owned : AreOwned s.units) (long : AreLong L s)
    (all : AllStand s) (stood : Stood offered s all) where
  placed : (ue : UeId) (bearer : BearerId) (before : List (List ℕ)) (p : List ℕ) (more : List (List ℕ)) (count : ℕ)
      → (all ue bearer).left ≡ before ++ (p ∷ more) → count ≡ (all ue bearer).delivered + length before
      → slice_get (offered (entity ue bearer Dl)) count ≡ Some p
  placed ue bearer before p more count left_is count_is =
      let told : List (List ℕ) = stood.told ue bearer in
      ap (λ (ps : List (List ℕ)). slice_get ps count)
      (sym (append_assoc told before (p ∷ more) ∙ ap (λ (ps : List (List ℕ)). told ++ ps) (sym left_is) ∙ stood.packets ue bearer))
      ∙ at_seam (told ++ before) p more count (omega (arith, count_is, stood.many ue bearer, length-append told before))

  module _ (ue : UeId) (bearer : BearerId) where
    abbrev key : EntityKey
    key = entity ue bearer Dl

    frame_at : (end : TunnelEnd) (g : Gnb) (k number count : ℕ) (p : List ℕ) → end.node ≡ du_id g k → sn_of s ue ≡ L ue
        → slice_get (offered key) count ≡ Some p
        → IsAtPlace L offered (put_item (tunnel_link end) (shown key (Some count)
        (load_octets end.teid (written_load (sn_of s ue) (frame false false number (Some (packet_pdu count p)))))))
    frame_at end g k number count p to_du sn place x c =
        let load : Load Pdu = frame false false number (Some (packet_pdu count p)) in
        place
        ∙ carried_back end.teid (L ue) x end.node Dl load (subst (λ (n : NodeId). MayStand n Dl load) (sym to_du) refl)
        (subst (λ (b : SnBits). CarriesOn (L ue) (kinds_to end.node Dl) (load_octets end.teid (written_load b load)) x) sn c)

    sends_at : (c : CuUpContext) (ps : List (List ℕ)) (d : DownlinkTunnel) (count : ℕ) (before more : List (List ℕ)) (taken : Option ℕ) (g : Gnb) (k : ℕ)
        → d.du ≡ du_id g k → sn_of s ue ≡ L ue → (all ue bearer).left ≡ before ++ (ps ++ more) → count ≡ (all ue bearer).delivered + length before
        → PutsAtPlaces L offered reading s taken (map (written_put (sn_of s)) (sends plain_way (cu_up_scope ue c bearer) d count ps))
    sends_at c [] d count before more taken g k to_du sn left_is count_is = tt
    sends_at c (p ∷ ps) d count before more taken g k to_du sn left_is count_is = (
      frame_at (record { node = d.du; teid = d.teid }) g k d.next count p to_du sn (placed ue bearer before p (ps ++ more) count left_is count_is),
      sends_at c ps (next_on d) (count + 1) (before ++ p ∷ []) more taken g k to_du sn (left_is ∙ sym (append_assoc before (p ∷ []) (ps ++ more)))
          (omega (arith, count_is, length-append before (p ∷ []))),
    )

    module _ (v : View) (sees : Sees s ue bearer v) (fit : IsFit bearer v) (order : IsInOrder v (all ue bearer).delivered (all ue bearer).left) where
      -- ---- a CU-UP

      abbrev r0 : CuUp (Message Token) Token
      r0 = cu_up_of s.units v.plan.gnb v.plan.up

      abbrev f : UpFound r0 ue bearer v.up
      f = up_found r0 ue bearer v.up sees.up

      abbrev x : CuUpBearer
      x = f.found

      x_is : x ≡ v.up.bearer
      x_is = ap (λ (p : CuUpModel). p.bearer) f.is

      serves : f.context.flags ≡ serving
      serves = ap (λ (p : CuUpModel). p.at.flags) f.is ∙ fit.flags

      on : x.downlink ≡ Some v.downlink
      on = ap (λ (b : CuUpBearer). b.downlink) x_is ∙ fit.downlink

      calm : x.restart ≡ false
      calm = ap (λ (b : CuUpBearer). b.restart) x_is ∙ fit.restart

      next_is : x.sender.next ≡ (all ue bearer).delivered + length order.aired + length order.framed
      next_is = ap (λ (b : CuUpBearer). b.sender.next) x_is ∙ order.counts

      left_x : (all ue bearer).left ≡ order.aired ++ (order.framed ++ (x.waiting ++ order.offered))
      left_x = order.left_is ∙ ap (λ (b : CuUpBearer). order.aired ++ (order.framed ++ (b.waiting ++ order.offered))) (sym x_is)

      up_sn : sn_of s ue ≡ L ue
      up_sn = long.ups v.plan.gnb v.plan.up ue f.context f.there

      up_answers : (taken : Option ℕ) (back : CuUp (Message Token) Token → PlainUnits) (first : CuUpBearer) (more : List (List ℕ))
          → (all ue bearer).left ≡ order.aired ++ (order.framed ++ (first.waiting ++ more))
          → first.sender.next ≡ (all ue bearer).delivered + length order.aired + length order.framed
          → (a : Plain (CuUp (Message Token) Token)) → UpTakes plain_way r0 ue f.context (cu_up_scope ue f.context bearer) v.downlink first a
          → AnswersAtPlaces L offered reading s taken (written_step (sn_of s) (stepped_with reading back a))
      up_answers taken back first more left_is counts (spent counter) t = tt
      up_answers taken back first more left_is counts (gives outputs r) (inl (reason, holds)) =
          subst (λ os. PutsAtPlaces L offered reading s taken (map (written_put (sn_of s)) os)) (sym holds) (tt, tt)
      up_answers taken back first more left_is counts (gives outputs r) (inr (b, n, contexts, named)) =
          subst (λ os. PutsAtPlaces L offered reading s taken (map (written_put (sn_of s)) os)) (sym n.sent)
          (sends_at f.context n.packets v.downlink first.sender.next (order.aired ++ order.framed) (b.waiting ++ more) taken v.plan.gnb v.plan.du fit.to_du up_sn
          (left_is ∙ ap (λ (w : List (List ℕ)). order.aired ++ (order.framed ++ (w ++ more))) n.waited
          ∙ ap (λ (z : List (List ℕ)). order.aired ++ (order.framed ++ z)) (append_assoc n.packets b.waiting more)
          ∙ sym (append_assoc order.aired order.framed (n.packets ++ (b.waiting ++ more))))
          (omega (arith, counts, length-append order.aired order.framed)))

      module _ (item : OnTunnel) (rest : List OnTunnel) where
        abbrev AtUp : ℕ → Type 0
        AtUp teid =
            AnswersAtPlaces L offered reading s item.count
            ((plain_world reading).answer (sn_of s) s.units (up_id v.plan.gnb v.plan.up) (item_for teid item))

        at_up : (teid : ℕ) (input : Taken Pdu) → taken_of item.content.says ≡ input
            → AnswersAtPlaces L offered reading s item.count (written_step (sn_of s)
            (stepped_with reading (with_cu_up s.units v.plan.gnb v.plan.up) (cu_up_acts plain_way r0 (packet_input teid input)))) → AtUp teid
        at_up teid input says p =
            subst (λ (i : Taken Pdu). AnswersAtPlaces L offered reading s item.count (written_step (sn_of s)
            (stepped_with reading (with_cu_up s.units v.plan.gnb v.plan.up) (cu_up_acts plain_way r0 (packet_input teid i))))) (sym says) p

        pub n3_answers : find tunnel_cmp s.tunnels (n3_end v) ≡ Some (item ∷ rest) → AtUp v.n3
        n3_answers found = by order.offered (ap (map load_of) (sym there) ∙ order.on_n3) left_x
          where
            there : v.on_n3 ≡ item ∷ rest
            there = let e : Some v.on_n3 ≡ Some (item ∷ rest) = sym sees.on_n3 ∙ found in cc

            by : (os : List (List ℕ)) → map load_of (item ∷ rest) ≡ fresh_ones os → (all ue bearer).left ≡ order.aired ++ (order.framed ++ (x.waiting ++ os)) → AtUp v.n3
            by [] e left_is = absurd cc
            by (p ∷ more) e left_is =
                let says : item.content.says ≡ fresh p = cc in
                at_up v.n3 (fresh_item p) (ap taken_of says)
                (up_answers item.count (with_cu_up s.units v.plan.gnb v.plan.up) (record x { waiting = x.waiting ++ p ∷ [] }) more
                (left_is ∙ ap (λ (z : List (List ℕ)). order.aired ++ (order.framed ++ z)) (sym (append_assoc x.waiting (p ∷ []) more))) next_is
                (cu_up_acts plain_way r0 (packet_input v.n3 (fresh_item p)))
                (takes_fresh plain_way r0 v.n3 (record { ue = ue; bearer = bearer; kind = n3; context = (n3_open s owned ue bearer v sees fit).0 }) f.context x v.downlink serves p
                (n3_open s owned ue bearer v sees fit).1 refl f.there f.has on calm))

        pub uplink_answers : find tunnel_cmp s.tunnels (uplink_end v) ≡ Some (item ∷ rest) → AtUp v.du.bearer.uplink
        uplink_answers found =
            let e : Some v.on_uplink ≡ Some (item ∷ rest) = sym sees.on_uplink ∙ found in
            let there : v.on_uplink ≡ item ∷ rest = cc in
            let is : IsCalm item = (subst (AllByRecursion IsCalm) there order.on_uplink).0 in
            at_up v.du.bearer.uplink (status_item [] is.0) (ap taken_of is.1)
            (up_answers item.count (with_cu_up s.units v.plan.gnb v.plan.up) x order.offered left_x next_is
            (cu_up_acts plain_way r0 (packet_input v.du.bearer.uplink (status_item [] is.0)))
            (takes_status plain_way r0 v.du.bearer.uplink (record { ue = ue; bearer = bearer; kind = f1u_uplink; context = (uplink_open s owned ue bearer v sees fit).0 }) f.context x v.downlink serves
            is.0 (uplink_open s owned ue bearer v sees fit).1 refl f.there f.has on calm))

        -- ---- a DU passes a frame on, with the COUNT that it got

        abbrev d0 : Du (Message Token) Token
        d0 = du_of s.units v.plan.gnb v.plan.du

        abbrev fd : DuFound d0 ue bearer v.du
        fd = du_found d0 ue bearer v.du sees.du

        y_is : fd.found ≡ v.du.bearer
        y_is = ap (λ (p : DuModel). p.bearer) fd.is

        du_sn : sn_of s ue ≡ L ue
        du_sn = long.dus v.plan.gnb v.plan.du ue fd.context fd.there

        abbrev AtDu : Type 0
        AtDu =
            AnswersAtPlaces L offered reading s item.count
            ((plain_world reading).answer (sn_of s) s.units (du_id v.plan.gnb v.plan.du) (item_for v.du.bearer.downlink item))

        passed_on : (p : List ℕ) (count : ℕ) → item.content.says ≡ frame false false v.du.bearer.awaited (Some (packet_pdu count p))
            → item.count ≡ count_of_load item.content.says → slice_get (offered key) count ≡ Some p → AtDu
        passed_on p count says shows place =
            subst (λ a. AnswersAtPlaces L offered reading s item.count (written_step (sn_of s) (stepped_with reading (with_du s.units v.plan.gnb v.plan.du) a)))
            (sym (ap (λ (l : Load Pdu). du_acts plain_way d0 (packet_input v.du.bearer.downlink (taken_of l))) says
            ∙ passes plain_way d0 v.du.bearer.downlink (record { ue = ue; bearer = bearer }) fd.context fd.found v.du.bearer.awaited (packet_pdu count p)
            (downlink_open s owned ue bearer v sees fit) fd.there fd.has (ap (λ (b : DuBearer). b.awaited) y_is) (ap (λ (b : DuBearer). b.gap) y_is ∙ fit.gap))) (
              subst (λ (o : Option ℕ). ShowsOffered L (offered key) (radio_link key fd.context.epoch) (shown key o (pdu_octets (sn_of s ue) (packet_pdu count p))) o)
                  (sym (shows ∙ ap count_of_load says)) on_air,
              tt,
            )
          where
            on_air : ShowsOffered L (offered key) (radio_link key fd.context.epoch) (shown key (Some count) (pdu_octets (sn_of s ue) (packet_pdu count p))) (Some count)
            on_air z c =
                place
                ∙ air_back 0 (L ue) z (packet_pdu count p) c.0
                (subst (λ (b : SnBits). CarriesPdu (L ue) (data_pdu c.0 z) (pdu_octets b (packet_pdu count p))) du_sn c.1)

        pub downlink_answers : find tunnel_cmp s.tunnels (downlink_end v) ≡ Some (item ∷ rest) → item.count ≡ count_of_load item.content.says → AtDu
        downlink_answers found shows = by order.framed refl (ap (map load_of) (sym there) ∙ order.on_downlink)
          where
            there : v.on_downlink ≡ item ∷ rest
            there = let e : Some v.on_downlink ≡ Some (item ∷ rest) = sym sees.on_downlink ∙ found in cc

            count : ℕ
            count = (all ue bearer).delivered + length order.aired

            by : (fs : List (List ℕ)) → order.framed ≡ fs
                → map load_of (item ∷ rest) ≡ frames_from v.du.bearer.awaited ((all ue bearer).delivered + length order.aired) fs → AtDu
            by [] is e = absurd cc
            by (p ∷ more) is e =
                let says : item.content.says ≡ frame false false v.du.bearer.awaited (Some (packet_pdu ((all ue bearer).delivered + length order.aired) p)) = cc in
                passed_on p ((all ue bearer).delivered + length order.aired) says shows
                (placed ue bearer order.aired p (more ++ (v.up.bearer.waiting ++ order.offered)) ((all ue bearer).delivered + length order.aired)
                (order.left_is ∙ ap (λ (fs : List (List ℕ)). order.aired ++ (fs ++ (v.up.bearer.waiting ++ order.offered))) is) refl)

      module _ (item : OnRadio) where
        -- ---- a terminal delivers

        abbrev AtUe : Type 0
        AtUe = AnswersAtPlaces L offered reading s item.count ((plain_world reading).answer (sn_of s) s.units (Ue ue.0) (carried_for item))

        taken_up : (p : List ℕ) → slice_get (offered key) (all ue bearer).delivered ≡ Some p → (a : Plain UeNode)
            → UeTakes plain_way sees.terminal.node bearer v.bearer (all ue bearer).delivered p a
            → AnswersAtPlaces L offered reading s item.count (written_step (sn_of s) (stepped_with reading (with_ue s.units ue) a))
        taken_up p place (spent counter) t = tt
        taken_up p place (gives outputs u) (inl holds) =
            subst (λ os. PutsAtPlaces L offered reading s item.count (map (written_put (sn_of s)) os)) (sym holds) (tt, tt)
        taken_up p place (gives outputs u) (inr (is, after)) =
            subst (λ os. PutsAtPlaces L offered reading s item.count (map (written_put (sn_of s)) os)) (sym is)
            (subst (λ (who : UeId). slice_get (offered (entity who bearer Dl)) (all ue bearer).delivered ≡ Some p) (sym sees.terminal.own) place, tt)

        pub air_answers : (fl : List OnRadio) → order.flying ≡ item ∷ fl → item.key ≡ key → AtUe
        air_answers fl flying theirs = by order.aired refl (ap (map pdu_of) (sym flying) ∙ order.on_radio)
          where
            by : (ps : List (List ℕ)) → order.aired ≡ ps → map pdu_of (item ∷ fl) ≡ pdus_from (all ue bearer).delivered ps → AtUe
            by [] is e = absurd cc
            by (p ∷ more) is e =
                let says : item.content.says ≡ packet_pdu (all ue bearer).delivered p = cc in
                let pdu : Pdu = packet_pdu (all ue bearer).delivered p in
                let none : (all ue bearer).delivered ≡ (all ue bearer).delivered + 0 = omega arith in
                subst (AnswersAtPlaces L offered reading s item.count)
                (sym (ap (λ (k : EntityKey × Pdu). written_step (sn_of s) (ue_stepped reading s.units ue.0 (radio_input k.0.ue k.0.bearer k.0.dir k.1 (content_of k.1)) (ue_of s.units ue)))
                (λ i. (theirs i, says i))
                ∙ ap (λ (o : Option UeNode). written_step (sn_of s) (ue_stepped reading s.units ue.0 (radio_input ue bearer Dl pdu (content_of pdu)) o)) sees.terminal.there))
                (taken_up p
                (placed ue bearer [] p (more ++ (order.framed ++ (v.up.bearer.waiting ++ order.offered))) (all ue bearer).delivered
                (order.left_is ∙ ap (λ (ps : List (List ℕ)). ps ++ (order.framed ++ (v.up.bearer.waiting ++ order.offered))) is) none)
                (ue_acts plain_way sees.terminal.node (radio_input ue bearer Dl pdu (content_of pdu)))
                (ue_takes plain_way sees.terminal.node bearer v.bearer (all ue bearer).delivered p ue pdu sees.terminal.has order.receiver))

        -- ---- a DU tells what was confirmed: no packet

        abbrev d1 : Du (Message Token) Token
        d1 = du_of s.units v.plan.gnb v.plan.du

        abbrev fe : DuFound d1 ue bearer v.du
        fe = du_found d1 ue bearer v.du sees.du

        to_up : fe.found.up ≡ up_id v.plan.gnb v.plan.up
        to_up = ap (λ (p : DuModel). p.bearer.up) fe.is ∙ fit.from_du

        status_at : (count : ℕ) (o : Option ℕ)
            → ShowsOffered L (offered key) (tunnel_link (record { node = fe.found.up; teid = fe.found.uplink }))
            (shown key o (load_octets fe.found.uplink (written_load (sn_of s ue) (status [] (Some count))))) o
        status_at count None = tt
        status_at count (Some k) = λ z c.
            let load : Load Pdu = status [] (Some count) in
            let none : None ≡ Some z =
            carried_back fe.found.uplink (L ue) z fe.found.up Dl load (subst (λ (n : NodeId). MayStand n Dl load) (sym to_up) tt)
            (subst (λ (b : SnBits). CarriesOn (L ue) (kinds_to fe.found.up Dl) (load_octets fe.found.uplink (written_load b load)) z)
            (long.dus v.plan.gnb v.plan.du ue fe.context fe.there) c) in
            absurd cc

        told_by : (pdu : Pdu) → AnswersAtPlaces L offered reading s item.count
            (written_step (sn_of s) (stepped_with reading (with_du s.units v.plan.gnb v.plan.du) (confirmed plain_way ue bearer d1 fe.found (number_in fe.context.sn pdu))))
        told_by (packet_pdu count p) = (status_at count item.count, tt)
        told_by (report_pdu fmc bits) = tt

        pub ack_answers : item.key ≡ key
            → AnswersAtPlaces L offered reading s item.count ((plain_world reading).answer (sn_of s) s.units (du_id v.plan.gnb v.plan.du) (confirmed_for item))
        ack_answers theirs =
            subst (AnswersAtPlaces L offered reading s item.count)
            (sym (ap (λ (k : EntityKey). written_step (sn_of s) (stepped_with reading (with_du s.units v.plan.gnb v.plan.du)
            (du_acts plain_way d1 (confirm_input k.ue k.bearer k.dir item.content.says (content_of item.content.says))))) theirs
            ∙ ap (λ a. written_step (sn_of s) (stepped_with reading (with_du s.units v.plan.gnb v.plan.du) a))
            (confirms plain_way d1 ue bearer fe.context fe.found item.content.says (content_of item.content.says) fe.there fe.has)))
            (told_by item.content.says)
