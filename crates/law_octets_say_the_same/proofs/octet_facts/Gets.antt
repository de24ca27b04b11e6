-- The oldest item of a tunnel is got: a packet of N3 at a CU-UP, or a frame at a DU.
use Rattle.std.proofs.Common.{◌≡◌, ◌<◌, ◌≤◌, ◌^◌, ℕ, ◌+◌, true, false, List, [], ◌∷◌, ◌++◌, length, map, Option, Some, None, inl, inr, refl, sym, ap, ◌∙◌, subst}
use Rattle.std.specs.Prelude.{is_some}
use Rattle.std.specs.List.{AllByRecursion}
use Rattle.std.specs.Ordering.{nat_cmp}
use Rattle.gnb_types.specs.declared.names.Gnb.{Gnb}
use Rattle.gnb_types.specs.declared.names.NodeId.{NodeId}
use Rattle.gnb_types.specs.declared.names.NodeId.TheVariants.{CuCp, CuUp as up_id, Du as du_id, Core, Ue}
use Rattle.gnb_types.specs.declared.names.UeId.{UeId}
use Rattle.gnb_types.specs.declared.names.BearerId.{BearerId}
use Rattle.gnb_types.specs.declared.names.Dir.TheVariants.{Dl}
use Rattle.gnb_types.specs.declared.outputs.Tag.TheVariants.{Same}
use Rattle.gnb_types.specs.declared.keys.TunnelEnd.{TunnelEnd}
use Rattle.gnb_types.specs.Orders.{ue_cmp, bearer_cmp, tunnel_cmp}
use Rattle.gnb_types.proofs.OrderLemmas.{ue_total, bearer_total}
use Rattle.tables.specs.Tables.{find, put}
use Rattle.tables.proofs.TableLaws.{find-put-same}
use Rattle.message_types.specs.declared.rrc.Token.{Token}
use Rattle.pdcp.specs.Near.{last_count}
use Rattle.link_defs.specs.Decoding.{IsSized}
use Rattle.scenario_text.specs.declared.event.Event.{Event}
use Rattle.unit_defs.specs.Ways.{Message, Pdu, packet_pdu, Load, fresh, frame, Taken, fresh_item, status_item, packet_input, Output, radio, gives, spent}
use Rattle.unit_defs.specs.CuUpRecords.{CuUpBearer, CuUpContext, TunnelKind, n3, f1u_uplink, forwarding_down, forwarding_up, CuUpTunnel, CuUp, cu_up_scope}
use Rattle.unit_defs.specs.CuUpBearers.{is_one_of, teid_in, last_frame}
use Rattle.unit_defs.specs.CuUp.{cu_up_acts}
use Rattle.unit_defs.specs.Du.{Du, DuTunnel, with_bearer, du_acts}
use Rattle.run_defs.specs.Units.{cu_up_of, with_cu_up, du_of, with_du}
use Rattle.run_defs.specs.Written.{written_put, written_step}
use Rattle.run_defs.specs.States.{item_for, stepped, sn_of}
use Rattle.run_defs.specs.Steps.{is_done, is_held, is_refused}
use Rattle.run_defs.specs.Events.{get_done, got_by, get_on, get}
use Rattle.run_defs.specs.Runs.{Reading, Plain, plain_way, plain_world, stepped_with, taken_of}
use Rattle.proof_run_steps.specs.steps.Causes.{by_item}
use Rattle.proof_run_steps.specs.steps.IsOutcome.{IsDone}
use Rattle.proof_run_steps.specs.teids.Given.{GivesTeids}
use Rattle.proof_run_steps.proofs.teids.CuUps.{cu_up_gives}
use Rattle.law_tunnels_are_owned.specs.open_tunnels.Open.{is_open_in, StandWhereOpen}
use Rattle.law_tunnels_are_owned.specs.owner_facts.Owned.{ends_of as teids_of, AreOwned}
use Rattle.law_tunnels_are_owned.specs.link_items.Items.{ItemsShow}
use Rattle.proof_cu_up_orders.specs.context_orders.Orders.{CuUpModel, model_of as up_model_of}
use Rattle.proof_unit_steps.specs.count_ranges.Ranges.{CountsInRange, IsNextFrame}
use Rattle.proof_run_steps.specs.facts.Facts.{Hold, PutsFit}
use Rattle.proof_run_steps.proofs.facts.Units.{with_up_holds, with_du_holds}
use Rattle.proof_run_steps.proofs.facts.Within.{all_and}
use Rattle.law_downlink_scripts.specs.downlink_only_rows.DownlinkOnly.{TheEnds, serving, IsNumbered, UpTakes}
use Rattle.law_downlink_scripts.proofs.downlink_only_rows.Takes.{takes_fresh, takes_status}
use Rattle.law_downlink_scripts.proofs.downlink_only_rows.Dus.{passes}
use Rattle.proof_node_orders.specs.du_inputs.Changes.{DuModel, model_of as du_model_of}
use Rattle.law_downlink_scripts.proofs.downlink_only_facts.Views.{PlainState, OnTunnel, View, load_of, fresh_ones, frames_from, IsCalm, n3_end, uplink_end, downlink_end, Sees, IsFit, IsInOrder, Stage, comes, lacks, stands, AllStand}
use Rattle.law_downlink_scripts.proofs.downlink_only_facts.Keys.{UpFound, up_found, DuFound, du_found}
use Rattle.law_downlink_scripts.proofs.downlink_only_facts.Ends.{n3_open, uplink_open, downlink_open, UpNamed, up_named, DuNamed, du_named}
use Rattle.law_downlink_scripts.proofs.downlink_only_events.Gets.{among_one}
use Rattle.law_octets_say_the_same.proofs.octet_facts.Facts.{IsOnLink, IsGood, UpIn, Parts, ranges, next_fits, teids_fit, good_put}
use Rattle.law_octets_say_the_same.proofs.octet_facts.Ups.{Counts, fresh_counts, status_counts, sends_fit}
use Rattle.law_octets_say_the_same.proofs.octet_facts.Does.{PlainDone, Answers, Keeps, DoneKeeps, does_keeps}

front : (Q : List ℕ → Type 0) (xs ys : List (List ℕ)) → AllByRecursion Q (xs ++ ys) → AllByRecursion Q xs
front Q [] ys h = tt
front Q (x ∷ xs) ys h = (h.0, front Q xs ys h.1)

back : (Q : List ℕ → Type 0) (xs ys : List (List ℕ)) → AllByRecursion Q (xs ++ ys) → AllByRecursion Q ys
back Q [] ys h = h
back Q (x ∷ xs) ys h = back Q xs ys h.1

module _ (Acks : Type 0) (reading : Reading) (s : PlainState) (owned : AreOwned s.units) (h : Hold (ranges Acks) s) (item : OnTunnel) (rest : List OnTunnel) where
  abbrev Stood : TunnelEnd → Type 0
  Stood end = find tunnel_cmp s.tunnels end ≡ Some (item ∷ rest)

  abbrev Good : TunnelEnd → Type 0
  Good end = Answers Acks (by_item end item rest) ((plain_world reading).answer (sn_of s) s.units end.node (item_for end.teid item))

  module _ (ue : UeId) (bearer : BearerId) (v : View) (sees : Sees s ue bearer v) (fit : IsFit bearer v) (n : ℕ) (left : List (List ℕ)) (order : IsInOrder v n left) where
    -- ---- at a CU-UP: a packet of N3, or a delivery status

    abbrev r0 : CuUp (Message Token) Token
    r0 = cu_up_of s.units v.plan.gnb v.plan.up

    abbrev f : UpFound r0 ue bearer v.up
    f = up_found r0 ue bearer v.up sees.up

    abbrev c : CuUpContext
    c = f.context

    abbrev x : CuUpBearer
    x = f.found

    x_is : x ≡ v.up.bearer
    x_is = ap (λ (p : CuUpModel). p.bearer) f.is

    serves : c.flags ≡ serving
    serves = ap (λ (p : CuUpModel). p.at.flags) f.is ∙ fit.flags

    on : x.downlink ≡ Some v.downlink
    on = ap (λ (b : CuUpBearer). b.downlink) x_is ∙ fit.downlink

    calm : x.restart ≡ false
    calm = ap (λ (b : CuUpBearer). b.restart) x_is ∙ fit.restart

    was : UpIn r0
    was = h.units.0 v.plan.gnb v.plan.up

    good : IsGood x
    good = was.bearers ue c f.there bearer x f.has

    module _ (kind : TunnelKind) (teid context : ℕ) (first : CuUpBearer) (waits : AllByRecursion IsSized first.waiting) where
      abbrev t : CuUpTunnel
      t = record { ue = ue; bearer = bearer; kind = kind; context = context }

      abbrev end : TunnelEnd
      end = record { node = up_id v.plan.gnb v.plan.up; teid = teid }

      module _ (outputs : List (Output (Message Token) Pdu)) (r : CuUp (Message Token) Token) (b : CuUpBearer)
          (k : IsNumbered plain_way (cu_up_scope ue c bearer) v.downlink first b outputs) (counts : CountsInRange b) where
        waited : AllByRecursion IsSized (k.packets ++ b.waiting)
        waited = subst (AllByRecursion IsSized) k.waited waits

        well : IsGood b
        well = (counts, back IsSized k.packets b.waiting waited)

        frames : v.downlink.next + length k.packets ≤ last_frame + 1
        frames = subst IsNextFrame k.frames counts.1

        numbers : first.sender.next + length k.packets ≤ last_count + 1
        numbers = subst (λ (m : ℕ). m ≤ last_count + 1) k.counts counts.0

        put_well : PutsFit (ranges Acks) (up_id v.plan.gnb v.plan.up) item.count (map (written_put (sn_of s)) outputs)
        put_well =
            subst (λ os. PutsFit (ranges Acks) (up_id v.plan.gnb v.plan.up) item.count (map (written_put (sn_of s)) os)) (sym k.sent)
            (sends_fit Acks (sn_of s) (cu_up_scope ue c bearer) (up_id v.plan.gnb v.plan.up) item.count k.packets v.downlink first.sender.next
            (front IsSized k.packets b.waiting waited) frames numbers)

      abbrev Acts : Plain (CuUp (Message Token) Token) → Type 0
      Acts a = Answers Acks (by_item end item rest) (written_step (sn_of s) (stepped_with reading (with_cu_up s.units v.plan.gnb v.plan.up) a))

      by_answer : (a : Plain (CuUp (Message Token) Token)) → UpTakes plain_way r0 ue c (cu_up_scope ue c bearer) v.downlink first a
          → Counts plain_way r0 teid t c x serves good.0 a → GivesTeids (λ u. u.next_teid) (λ u. u.tunnels) r0 a → Acts a
      by_answer (spent counter) takes counts given = tt
      by_answer (gives outputs r) (inl (reason, holds)) counts given = λ done. absurd (subst (λ os. IsDone (map (written_put (sn_of s)) os)) holds done)
      by_answer (gives outputs r) (inr (b, k, contexts, named)) counts given =
          let d : CuUpContext = record c { bearers = put bearer_cmp c.bearers bearer b } in
          let in_range : CountsInRange b =
          counts d b (ap (λ es. find ue_cmp es ue) contexts ∙ find-put-same ue_total r0.contexts ue d) (find-put-same bearer_total c.bearers bearer b) in
          λ done. (
            with_up_holds Parts s.units v.plan.gnb v.plan.up r h.units (record {
              teids = teids_fit r0.next_teid r0.tunnels r.next_teid r.tunnels given.1 was.teids (next_fits r0.next_teid _ r.next_teid given.0 was.teids.0);
              bearers = good_put IsGood r0 r ue c bearer b was.bearers f.there contexts (well outputs r b k in_range);
            }),
            put_well outputs r b k in_range,
          )

      good_by : (input : Taken Pdu) → taken_of item.content.says ≡ input
          → UpTakes plain_way r0 ue c (cu_up_scope ue c bearer) v.downlink first (cu_up_acts plain_way r0 (packet_input teid input))
          → Counts plain_way r0 teid t c x serves good.0 (cu_up_acts plain_way r0 (packet_input teid input)) → Good end
      good_by input says takes counts =
          subst (Answers Acks (by_item end item rest))
          (sym (ap (λ (l : Taken Pdu). written_step (sn_of s) (stepped_with reading (with_cu_up s.units v.plan.gnb v.plan.up) (cu_up_acts plain_way r0 (packet_input teid l)))) says))
          (by_answer (cu_up_acts plain_way r0 (packet_input teid input)) takes counts (cu_up_gives plain_way r0 (packet_input teid input)))

    n3_good : Stood (n3_end v) → Good (n3_end v)
    n3_good found = by order.offered (ap (map load_of) (sym stood) ∙ order.on_n3)
      where
        stood : v.on_n3 ≡ item ∷ rest
        stood = let e : Some v.on_n3 ≡ Some (item ∷ rest) = sym sees.on_n3 ∙ found in cc

        by : (os : List (List ℕ)) → map load_of (item ∷ rest) ≡ fresh_ones os → Good (n3_end v)
        by [] e = absurd cc
        by (p ∷ more) e =
            let says : item.content.says ≡ fresh p = cc in
            good_by n3 v.n3 (n3_open s owned ue bearer v sees fit).0 (record x { waiting = x.waiting ++ p ∷ [] })
            (all_and IsSized x.waiting p good.1 (subst (IsOnLink Acks) says (h.tunnels (n3_end v) (item ∷ rest) found).0)) (fresh_item p) (ap taken_of says)
            (takes_fresh plain_way r0 v.n3 (t n3 v.n3 (n3_open s owned ue bearer v sees fit).0 x good.1) c x v.downlink serves p (n3_open s owned ue bearer v sees fit).1 refl f.there f.has on calm)
            (fresh_counts plain_way r0 v.n3 (t n3 v.n3 (n3_open s owned ue bearer v sees fit).0 x good.1) c x serves good.0 p (n3_open s owned ue bearer v sees fit).1 refl f.there f.has)

    uplink_good : Stood (uplink_end v) → Good (uplink_end v)
    uplink_good found =
        good_by f1u_uplink v.du.bearer.uplink (uplink_open s owned ue bearer v sees fit).0 x good.1 (status_item [] says.0) (ap taken_of says.1)
        (takes_status plain_way r0 v.du.bearer.uplink (t f1u_uplink v.du.bearer.uplink (uplink_open s owned ue bearer v sees fit).0 x good.1) c x v.downlink serves says.0 (uplink_open s owned ue bearer v sees fit).1 refl f.there f.has on calm)
        (status_counts plain_way r0 v.du.bearer.uplink (t f1u_uplink v.du.bearer.uplink (uplink_open s owned ue bearer v sees fit).0 x good.1) c x serves good.0 says.0 (uplink_open s owned ue bearer v sees fit).1 refl f.there f.has)
      where
        stood : v.on_uplink ≡ item ∷ rest
        stood = let e : Some v.on_uplink ≡ Some (item ∷ rest) = sym sees.on_uplink ∙ found in cc

        says : IsCalm item
        says = (subst (AllByRecursion IsCalm) stood order.on_uplink).0

    by_kind : (kind : TunnelKind) (teid : ℕ) → is_one_of (teids_of kind v.up.bearer) teid ≡ true
        → Stood (record { node = up_id v.plan.gnb v.plan.up; teid = teid }) → Good (record { node = up_id v.plan.gnb v.plan.up; teid = teid })
    by_kind n3 teid among found =
        let same : v.n3 ≡ teid = among_one v.n3 teid (ap (λ (e : TheEnds). is_one_of (teid_in e.0) teid) (sym fit.ends) ∙ among) in
        subst (λ (k : ℕ). Stood (record { node = up_id v.plan.gnb v.plan.up; teid = k }) → Good (record { node = up_id v.plan.gnb v.plan.up; teid = k })) same n3_good found
    by_kind f1u_uplink teid among found =
        let same : v.du.bearer.uplink ≡ teid = among_one v.du.bearer.uplink teid (ap (λ (e : TheEnds). is_one_of e.1 teid) (sym fit.ends) ∙ among) in
        subst (λ (k : ℕ). Stood (record { node = up_id v.plan.gnb v.plan.up; teid = k }) → Good (record { node = up_id v.plan.gnb v.plan.up; teid = k })) same uplink_good found
    by_kind forwarding_down teid among found =
        let none : is_one_of (teid_in None) teid ≡ true = ap (λ (e : TheEnds). is_one_of (teid_in e.2) teid) (sym fit.ends) ∙ among in absurd cc
    by_kind forwarding_up teid among found =
        let none : is_one_of (teid_in None) teid ≡ true = ap (λ (e : TheEnds). is_one_of (teid_in e.3) teid) (sym fit.ends) ∙ among in absurd cc

    -- ---- at a DU: a frame

    module _ (found : Stood (downlink_end v)) where
      abbrev du0 : Du (Message Token) Token
      du0 = du_of s.units v.plan.gnb v.plan.du

      abbrev g : DuFound du0 ue bearer v.du
      g = du_found du0 ue bearer v.du sees.du

      abbrev after : Du (Message Token) Token
      after = with_bearer plain_way ue bearer g.context (record g.found { awaited = g.found.awaited + 1; gap = false }) du0

      module _ (number count : ℕ) (p : List ℕ) (awaited : v.du.bearer.awaited ≡ number) (says : item.content.says ≡ frame false false number (Some (packet_pdu count p))) where
        passed : (plain_world reading).answer (sn_of s) s.units (du_id v.plan.gnb v.plan.du) (item_for v.du.bearer.downlink item)
            ≡ stepped (map (written_put (sn_of s)) (radio ue bearer Dl g.context.epoch Same (packet_pdu count p) ∷ [])) (with_du s.units v.plan.gnb v.plan.du after)
        passed =
            ap (λ (l : Load Pdu). written_step (sn_of s) (stepped_with reading (with_du s.units v.plan.gnb v.plan.du)
            (du_acts plain_way du0 (packet_input v.du.bearer.downlink (taken_of l))))) says
            ∙ ap (λ a. written_step (sn_of s) (stepped_with reading (with_du s.units v.plan.gnb v.plan.du) a))
            (passes plain_way du0 v.du.bearer.downlink (record { ue = ue; bearer = bearer }) g.context g.found number (packet_pdu count p)
            (downlink_open s owned ue bearer v sees fit) g.there g.has (ap (λ (z : DuModel). z.bearer.awaited) g.is ∙ awaited)
            (ap (λ (z : DuModel). z.bearer.gap) g.is ∙ fit.gap))

        frame_good : (number < 2 ^ 24) × (count ≤ last_count) × IsSized p → Good (downlink_end v)
        frame_good range =
            subst (Answers Acks (by_item (downlink_end v) item rest)) (sym passed)
            (λ done. (with_du_holds Parts s.units v.plan.gnb v.plan.du after h.units (h.units.1 v.plan.gnb v.plan.du), ((range.1, range.2), tt)))

      downlink_good : Good (downlink_end v)
      downlink_good = by order.framed (ap (map load_of) (sym stood) ∙ order.on_downlink)
        where
          stood : v.on_downlink ≡ item ∷ rest
          stood = let e : Some v.on_downlink ≡ Some (item ∷ rest) = sym sees.on_downlink ∙ found in cc

          by : (fs : List (List ℕ)) → map load_of (item ∷ rest) ≡ frames_from v.du.bearer.awaited (n + length order.aired) fs → Good (downlink_end v)
          by [] e = absurd cc
          by (p ∷ more) e =
              let says : item.content.says ≡ frame false false v.du.bearer.awaited (Some (packet_pdu (n + length order.aired) p)) = cc in
              frame_good v.du.bearer.awaited (n + length order.aired) p refl says (subst (IsOnLink Acks) says (h.tunnels (downlink_end v) (item ∷ rest) found).0)

  -- ---- whosever the tunnel is

  at_up : (g : Gnb) (k teid : ℕ) (t : CuUpTunnel) → UpNamed s.units owned g k teid t → (n : ℕ) (left : List (List ℕ)) → Stage s t.ue t.bearer n left
      → Stood (record { node = up_id g k; teid = teid }) → Good (record { node = up_id g k; teid = teid })
  at_up g k teid t named n left (comes plan absent none first empty) found =
      let clash : None ≡ Some named.part = sym (none.0 g k) ∙ named.is in absurd cc
  at_up g k teid t named n left (lacks l none first) found =
      let clash : None ≡ Some named.part = sym (none.0 g k) ∙ named.is in absurd cc
  at_up g k teid t named n left (stands v sees fit order) found =
      let here = sees.only_up g k named.part named.is in
      let parts : Some named.part ≡ Some v.up = sym named.is ∙ (λ i. up_model_of (cu_up_of s.units (here.0 i) (here.1 i)) t.ue t.bearer) ∙ sees.up in
      let part : named.part ≡ v.up = cc in
      subst (λ (a : Gnb × ℕ). Stood (record { node = up_id a.0 a.1; teid = teid }) → Good (record { node = up_id a.0 a.1; teid = teid }))
      (λ i. (sym here.0 i, sym here.1 i))
      (by_kind t.ue t.bearer v sees fit n left order t.kind teid (ap (λ (p : CuUpModel). is_one_of (teids_of t.kind p.bearer) teid) (sym part) ∙ named.among)) found

  at_du : (g : Gnb) (k teid : ℕ) (t : DuTunnel) → DuNamed s.units owned g k teid t → (n : ℕ) (left : List (List ℕ)) → Stage s t.ue t.bearer n left
      → Stood (record { node = du_id g k; teid = teid }) → Good (record { node = du_id g k; teid = teid })
  at_du g k teid t named n left (comes plan absent none first empty) found =
      let clash : None ≡ Some named.part = sym (none.1 g k) ∙ named.is in absurd cc
  at_du g k teid t named n left (lacks l none first) found =
      let clash : None ≡ Some named.part = sym (none.1 g k) ∙ named.is in absurd cc
  at_du g k teid t named n left (stands v sees fit order) found =
      let here = sees.only_du g k named.part named.is in
      let parts : Some named.part ≡ Some v.du = sym named.is ∙ (λ i. du_model_of (du_of s.units (here.0 i) (here.1 i)) t.ue t.bearer) ∙ sees.du in
      let part : named.part ≡ v.du = cc in
      let same : teid ≡ v.du.bearer.downlink = sym named.downlink ∙ ap (λ (p : DuModel). p.bearer.downlink) part in
      subst (λ (e : TunnelEnd). Stood e → Good e) (λ i. record { node = du_id (sym here.0 i) (sym here.1 i); teid = sym same i })
      (downlink_good t.ue t.bearer v sees fit n left order) found

-- ---- where it is open

module _ (s : PlainState) (where_open : StandWhereOpen s) (items : List OnTunnel) where
  pub open_up : (g : Gnb) (k teid : ℕ) → find tunnel_cmp s.tunnels (record { node = up_id g k; teid = teid }) ≡ Some items
      → (t : CuUpTunnel) × (find nat_cmp (cu_up_of s.units g k).tunnels teid ≡ Some t)
  open_up g k teid found = by (find nat_cmp (cu_up_of s.units g k).tunnels teid) refl
    where
      is_there : is_open_in (cu_up_of s.units g k).tunnels teid ≡ true
      is_there = sym (where_open.0 g k teid) ∙ ap is_some found

      by : (o : Option CuUpTunnel) → find nat_cmp (cu_up_of s.units g k).tunnels teid ≡ o → (t : CuUpTunnel) × (find nat_cmp (cu_up_of s.units g k).tunnels teid ≡ Some t)
      by None e = let clash : false ≡ true = sym (ap is_some e) ∙ is_there in absurd cc
      by (Some t) e = (t, e)

  pub open_du : (g : Gnb) (k teid : ℕ) → find tunnel_cmp s.tunnels (record { node = du_id g k; teid = teid }) ≡ Some items
      → (t : DuTunnel) × (find nat_cmp (du_of s.units g k).tunnels teid ≡ Some t)
  open_du g k teid found = by (find nat_cmp (du_of s.units g k).tunnels teid) refl
    where
      is_there : is_open_in (du_of s.units g k).tunnels teid ≡ true
      is_there = sym (where_open.1 g k teid) ∙ ap is_some found

      by : (o : Option DuTunnel) → find nat_cmp (du_of s.units g k).tunnels teid ≡ o → (t : DuTunnel) × (find nat_cmp (du_of s.units g k).tunnels teid ≡ Some t)
      by None e = let clash : false ≡ true = sym (ap is_some e) ∙ is_there in absurd cc
      by (Some t) e = (t, e)

-- ---- the event

module _ (Acks : Type 0) (reading : Reading) (s : PlainState) (owned : AreOwned s.units) (where_open : StandWhereOpen s) (shows : ItemsShow s) (all : AllStand s) (h : Hold (ranges Acks) s) where
  at_node : (item : OnTunnel) (rest : List OnTunnel) (node : NodeId) (teid : ℕ)
      → find tunnel_cmp s.tunnels (record { node = node; teid = teid }) ≡ Some (item ∷ rest) → Good Acks reading s owned h item rest (record { node = node; teid = teid })
  at_node item rest (up_id g k) teid found =
      let o = open_up s where_open (item ∷ rest) g k teid found in
      at_up Acks reading s owned h item rest g k teid o.0 (up_named s.units owned g k teid o.0 o.1) (all o.0.ue o.0.bearer).delivered (all o.0.ue o.0.bearer).left
      (all o.0.ue o.0.bearer).stage found
  at_node item rest (du_id g k) teid found =
      let o = open_du s where_open (item ∷ rest) g k teid found in
      at_du Acks reading s owned h item rest g k teid o.0 (du_named s.units owned g k teid o.0 o.1) (all o.0.ue o.0.bearer).delivered (all o.0.ue o.0.bearer).left
      (all o.0.ue o.0.bearer).stage found
  at_node item rest (CuCp g) teid found = absurd (shows.tunnels (record { node = CuCp g; teid = teid }) (item ∷ rest) found).0.1
  at_node item rest Core teid found = absurd (shows.tunnels (record { node = Core; teid = teid }) (item ∷ rest) found).0.1
  at_node item rest (Ue u) teid found = absurd (shows.tunnels (record { node = Ue u; teid = teid }) (item ∷ rest) found).0.1

  pub get_keeps : (event : Event) (end : TunnelEnd) → Keeps Acks reading (get (plain_world reading) end s)
  unfolding get
  get_keeps event end = by (find tunnel_cmp s.tunnels end) refl
    where
      got : (d : PlainDone) → DoneKeeps Acks reading d → Keeps Acks reading (got_by (plain_world reading) end s d)
      got (is_done outcome) k = k
      got (is_held reason) k = h
      got (is_refused reason) k = h

      by : (o : Option (List OnTunnel)) → find tunnel_cmp s.tunnels end ≡ o → Keeps Acks reading (get_on (plain_world reading) end s o)
      by None found = h
      by (Some []) found = h
      by (Some (item ∷ rest)) found =
          got (get_done (plain_world reading) end item rest s)
          (does_keeps Acks reading event (by_item end item rest) s h found (λ plan is. absurd cc) (at_node item rest end.node end.teid found))
