-- A terminal that is set up without messages: at most one of its bearers leads to the tunnel.
use Rattle.std.proofs.Common.{◌≡◌, ◌≤◌, ◌==◌, ℕ, suc, ◌+◌, Bool, true, false, cond, ◌⊎◌, inl, inr, List, [], ◌∷◌, length, Option, Some, None, refl, sym, ap, ◌∙◌, subst, arith, eqb-true}
use Rattle.std.proofs.lemmas.Bool.{and_parts}
use Rattle.std.specs.Prelude.{unwrap_or}
use Rattle.std.specs.Option.{option_map}
use Rattle.std.specs.List.{AllByRecursion}
use Rattle.std.specs.Ordering.{eq_by_cmp}
use Rattle.std.specs.Cmp.{Equal-is}
use Rattle.gnb_types.specs.declared.names.Gnb.{Gnb}
use Rattle.gnb_types.specs.declared.names.Gnb.TheVariants.{A, B}
use Rattle.gnb_types.specs.declared.names.NodeId.TheVariants.{CuUp as up_id, Du as du_id}
use Rattle.gnb_types.specs.declared.names.UeId.{UeId}
use Rattle.gnb_types.specs.declared.names.BearerId.{BearerId}
use Rattle.gnb_types.specs.declared.keys.TunnelEnd.{TunnelEnd}
use Rattle.gnb_types.specs.declared.plans.Plan.{Plan}
use Rattle.gnb_types.specs.Orders.{node_cmp, ue_cmp, bearer_cmp}
use Rattle.gnb_types.proofs.OrderLemmas.{ue_total, ue_exact}
use Rattle.tables.specs.Tables.{find, at}
use Rattle.tables.proofs.TableLaws.{find-put}
use Rattle.message_types.specs.declared.rrc.Token.{Token}
use Rattle.unit_defs.specs.Ways.{Message}
use Rattle.unit_defs.specs.Ue.{new_ue, placed as placed_ue}
use Rattle.unit_defs.specs.CuUpRecords.{CuUpBearer, CuUpContext, CuUp}
use Rattle.unit_defs.specs.CuUpBearers.{teids_of_bearer}
use Rattle.unit_defs.specs.CuUp.{new_cu_up, bearers_from, bearers_made}
use Rattle.unit_defs.specs.CuCpRecords.{CuCpRecord}
use Rattle.unit_defs.specs.Static.{du_has_teids, with_downlinks, cu_up_context, cu_up_placed, du_placed, cu_cp_placed, cu_up_set_up}
use Rattle.run_defs.specs.Units.{cu_cp_of, with_cu_cp, cu_up_of, with_cu_up, du_of, with_du, with_ue}
use Rattle.run_defs.specs.Conditions.{units_placed, all_set_up}
use Rattle.proof_run_steps.proofs.teids.Placed.{find_mapped}
use Rattle.proof_run_steps.proofs.teids.CuUps.{how_many}
use Rattle.proof_unit_steps.specs.tunnel_frames.OneTunnel.{OwnedTunnel, is_tunnel, Leads, NextIs, BearerCounts, CuUpCounts}
use Rattle.proof_unit_steps.proofs.tunnel_frames.Contexts.{found_all}
use Rattle.law_requests_act_once.specs.taken_requests.Taken.{WasTaken}
use Rattle.proof_unit_steps.specs.downlink_names.Places.{DownlinkTeid}
use Rattle.proof_unit_steps.proofs.downlink_grants.Lists.{left_before, is_left}
use Rattle.law_frames_are_numbered.proofs.run_switches.Runs.{IsPlaced}
use Rattle.law_frames_are_numbered.proofs.number_facts.Units.{Records, clash, Phase, owns, seen_at, Ups, free_ups, with_up_counts}
use Rattle.law_frames_are_numbered.proofs.number_facts.Links.{Keeps, keeps_then, keeps_up, IsEnd}
use Rattle.law_frames_are_numbered.proofs.number_facts.Acts.{keeps_cp}

made_many : (target : Bool) (next : ℕ) (bs : List BearerId) → length (bearers_made target next bs) ≡ length bs
made_many target next [] = refl
made_many target next (b ∷ bs) = ap (λ (n : ℕ). suc n) (made_many target (next + teids_of_bearer target) bs)

-- ---- what was taken is kept

keeps_set_up : (u : Records) → Keeps u (all_set_up u)
unfolding at
keeps_set_up u g n c i was =
    subst (λ (o : Option (CuUp (Message Token) Token)). WasTaken (unwrap_or o (new_cu_up g n)).transactions c i)
    (sym (find_mapped node_cmp cu_up_set_up u.ups (up_id g n))) (by (find node_cmp u.ups (up_id g n)) was)
  where
    by : (o : Option (CuUp (Message Token) Token)) → WasTaken (unwrap_or o (new_cu_up g n)).transactions c i
        → WasTaken (unwrap_or (option_map cu_up_set_up o) (new_cu_up g n)).transactions c i
    by None h = h
    by (Some r) h = h

pub keeps_placed : (u : Records) (plan : Plan) → Keeps u (all_set_up (units_placed plan u))
unfolding cu_up_placed
keeps_placed u plan =
    let up : CuUp (Message Token) Token = cu_up_of u plan.gnb plan.up in
    let du = du_of u plan.gnb plan.du in
    let a : Records = with_ue u plan.ue (placed_ue (new_ue plan)) in
    let b : Records = with_cu_up a plan.gnb plan.up (cu_up_placed up plan du.next_teid) in
    let c : Records = with_du b plan.gnb plan.du (du_placed du plan (up.next_teid + 1)) in
    keeps_then u (units_placed plan u) (all_set_up (units_placed plan u))
    (keeps_then u c (units_placed plan u) (keeps_up a plan.gnb plan.up (cu_up_placed up plan du.next_teid) (λ ch i was. was))
    (keeps_cp c plan.gnb (cu_cp_placed (cu_cp_of u plan.gnb) plan)))
    (keeps_set_up (units_placed plan u))

module _ (end : TunnelEnd) where
  -- ---- which of its bearers leads there

  abbrev NoneLeads : BearerId × CuUpBearer → Type 0
  NoneLeads e = Leads end e.1.downlink → ⊥

  abbrev OneLeads : BearerId → BearerId × CuUpBearer → Type 0
  OneLeads b e = Leads end e.1.downlink → (b ≡ e.0) × NextIs 0 e.1.downlink

  teid_is : (gnb : Gnb) (du teid : ℕ) → is_tunnel end (du_id gnb du) teid ≡ true → teid ≡ end.teid
  teid_is gnb du teid is = eqb-true teid end.teid (and_parts (eq_by_cmp node_cmp (du_id gnb du) end.node) (teid == end.teid) is).1

  none_above : (gnb : Gnb) (du next : ℕ) (es : List (BearerId × CuUpBearer)) (b : BearerId) → end.teid + 1 ≤ next
      → AllByRecursion (OneLeads b) (with_downlinks gnb du next es)
  none_above gnb du next [] b above = tt
  none_above gnb du next (e ∷ es) b above = (
    λ l. let it : next ≡ end.teid = teid_is gnb du next l in absurd (omega (arith, it, above)),
    none_above gnb du (next + 1) es b (omega (arith, above)),
  )

  abbrev pub Led : Gnb → ℕ → ℕ → List (BearerId × CuUpBearer) → Type 0
  Led gnb du next es =
      AllByRecursion NoneLeads (with_downlinks gnb du next es)
      ⊎ ((b : BearerId) × AllByRecursion (OneLeads b) (with_downlinks gnb du next es) × (next ≤ end.teid) × (end.teid + 1 ≤ next + length es)
      × (is_tunnel end (du_id gnb du) end.teid ≡ true))

  led_by : (gnb : Gnb) (du next : ℕ) (es : List (BearerId × CuUpBearer)) → Led gnb du next es
  led_by gnb du next [] = inl tt
  led_by gnb du next (e ∷ es) = by (is_tunnel end (du_id gnb du) next) refl (led_by gnb du (next + 1) es)
    where
      by : (t : Bool) → is_tunnel end (du_id gnb du) next ≡ t → Led gnb du (next + 1) es → Led gnb du next (e ∷ es)
      by true is rest =
          let it : next ≡ end.teid = teid_is gnb du next is in
          inr (
            e.0,
            (λ l. (refl, refl), none_above gnb du (next + 1) es e.0 (omega (arith, it))),
            omega (arith, it),
            omega (arith, it),
            subst (λ (n : ℕ). is_tunnel end (du_id gnb du) n ≡ true) it is,
          )
      by false off (inl none) = inl (λ l. clash (sym l ∙ off), none)
      by false off (inr h) =
          let low = h.2 in
          let high = h.3 in inr (h.0, (λ l. absurd (clash (sym l ∙ off)), h.1), omega (arith, low), omega (arith, high), h.4)

  abbrev pub EachCounts : OwnedTunnel → ℕ → UeId → List (BearerId × CuUpBearer) → Type 0
  EachCounts t k ue es = AllByRecursion (λ (e : BearerId × CuUpBearer). BearerCounts t k ue e.0 e.1.downlink) es

  none_counts : (t : OwnedTunnel) (k : ℕ) (ue : UeId) (es : List (BearerId × CuUpBearer)) → t.end ≡ end → AllByRecursion NoneLeads es → EachCounts t k ue es
  none_counts t k ue [] same all = tt
  none_counts t k ue (e ∷ es) same all =
      (λ l. absurd (all.0 (subst (λ (x : TunnelEnd). Leads x e.1.downlink) same l)), none_counts t k ue es same all.1)

  one_counts : (t : OwnedTunnel) (ue : UeId) (b : BearerId) (es : List (BearerId × CuUpBearer)) → t.end ≡ end → t.owner ≡ Some (ue, b)
      → AllByRecursion (OneLeads b) es → EachCounts t 0 ue es
  one_counts t ue b [] same own all = tt
  one_counts t ue b (e ∷ es) same own all = (
    λ l.
        let h = all.0 (subst (λ (x : TunnelEnd). Leads x e.1.downlink) same l) in
        (own ∙ ap (λ (c : BearerId). Some (ue, c)) h.0, h.1),
    one_counts t ue b es same own all.1,
  )

  placed_counts : (t : OwnedTunnel) (k : ℕ) (r : CuUp (Message Token) Token) (plan : Plan) (downlink : ℕ) → CuUpCounts t k r
      → EachCounts t k plan.ue (cu_up_context r plan downlink).bearers → CuUpCounts t k (cu_up_placed r plan downlink)
  unfolding cu_up_placed
  placed_counts t k r plan downlink p all =
      (p.0, λ u x b y at found. by u x b y found (eq_by_cmp ue_cmp u plan.ue) refl (sym (find-put ue_total r.contexts plan.ue (cu_up_context r plan downlink) u) ∙ at))
    where
      by : (u : UeId) (x : CuUpContext) (b : BearerId) (y : CuUpBearer) → find bearer_cmp x.bearers b ≡ Some y → (tie : Bool) → eq_by_cmp ue_cmp u plan.ue ≡ tie
          → cond tie (Some (cu_up_context r plan downlink)) (find ue_cmp r.contexts u) ≡ Some x → BearerCounts t k u b y.downlink
      by u x b y found true tie e =
          let is : u ≡ plan.ue = ue_exact u plan.ue ((Equal-is (ue_cmp u plan.ue)).0 tie) in
          let those : cu_up_context r plan downlink ≡ x = cc in
          subst (λ (v : UeId). BearerCounts t k v b y.downlink) (sym is)
          (found_all (λ c z. BearerCounts t k plan.ue c z.downlink) (cu_up_context r plan downlink).bearers all b y
          (subst (λ (z : CuUpContext). find bearer_cmp z.bearers b ≡ Some y) (sym those) found))
      by u x b y found false off e = p.1 u x b y e found

  set_up_ups : (q : Phase) (k : ℕ) (u : Records) → Ups end q k u → Ups end q k (all_set_up u)
  unfolding at
  set_up_ups q k u ups = (ups.0, each)
    where
      up_by : (g : Gnb) (n : ℕ) (o : Option (CuUp (Message Token) Token)) → CuUpCounts (seen_at end q g n) k (unwrap_or o (new_cu_up g n))
          → CuUpCounts (seen_at end q g n) k (unwrap_or (option_map cu_up_set_up o) (new_cu_up g n))
      up_by g n None h = h
      up_by g n (Some r) h = h

      each : (g : Gnb) (n : ℕ) → CuUpCounts (seen_at end q g n) k (cu_up_of (all_set_up u) g n)
      each g n =
          subst (λ (o : Option (CuUp (Message Token) Token)). CuUpCounts (seen_at end q g n) k (unwrap_or o (new_cu_up g n)))
          (sym (find_mapped node_cmp cu_up_set_up u.ups (up_id g n))) (up_by g n (find node_cmp u.ups (up_id g n)) (ups.1 g n))

  with_cp_ups : (q : Phase) (k : ℕ) (u : Records) (g : Gnb) (r : CuCpRecord (Message Token) Token) → Ups end q k u → Ups end q k (with_cu_cp u g r)
  with_cp_ups q k u A r ups = ups
  with_cp_ups q k u B r ups = ups

  placed_ups : (q : Phase) (k : ℕ) (u : Records) (plan : Plan) → Ups end q k u
      → EachCounts (seen_at end q plan.gnb plan.up) k plan.ue (cu_up_context (cu_up_of u plan.gnb plan.up) plan (du_of u plan.gnb plan.du).next_teid).bearers
      → Ups end q k (all_set_up (units_placed plan u))
  placed_ups q k u plan ups all =
      let up : CuUp (Message Token) Token = cu_up_of u plan.gnb plan.up in
      let du = du_of u plan.gnb plan.du in
      let a : Records = with_ue u plan.ue (placed_ue (new_ue plan)) in
      let b : Records = with_cu_up a plan.gnb plan.up (cu_up_placed up plan du.next_teid) in
      let c : Records = with_du b plan.gnb plan.du (du_placed du plan (up.next_teid + 1)) in
      set_up_ups q k (units_placed plan u)
      (with_cp_ups q k c plan.gnb (cu_cp_placed (cu_cp_of u plan.gnb) plan)
      (with_up_counts end q k k a plan.gnb plan.up (cu_up_placed up plan du.next_teid) ups
      (placed_counts (seen_at end q plan.gnb plan.up) k up plan du.next_teid (ups.1 plan.gnb plan.up) all) (λ none. refl)))

  module _ (t : DownlinkTeid) (same : IsEnd end t) where
    -- none of them leads there; or one does, and the TEID was one of those that were left
    abbrev pub PlacedUps : Phase → ℕ → Records → Plan → Type 0
    PlacedUps q k u plan =
        Ups end q k (all_set_up (units_placed plan u))
        ⊎ (IsPlaced t u plan × ((b : BearerId) × (Ups end None k u → Ups end (Some (up_id plan.gnb plan.up, (plan.ue, b))) k (all_set_up (units_placed plan u)))))

    pub places : (q : Phase) (k : ℕ) (u : Records) (plan : Plan) → du_has_teids (du_of u plan.gnb plan.du) plan ≡ true → Ups end q k u → PlacedUps q k u plan
    places q k u plan left ups = by (led_by up.gnb plan.du next es)
      where
        up : CuUp (Message Token) Token
        up = cu_up_of u plan.gnb plan.up

        next : ℕ
        next = (du_of u plan.gnb plan.du).next_teid

        es : List (BearerId × CuUpBearer)
        es = bearers_made false up.next_teid (bearers_from 1 plan.bearers)

        first : BearerId → Phase
        first b = Some (up_id plan.gnb plan.up, (plan.ue, b))

        counts : (b : BearerId) → AllByRecursion (OneLeads b) (with_downlinks up.gnb plan.du next es) → Ups end None k u
            → Ups end (first b) k (all_set_up (units_placed plan u))
        counts b all none =
            placed_ups (first b) k u plan (free_ups end k u (up_id plan.gnb plan.up, (plan.ue, b)) none)
            (subst (λ (n : ℕ). EachCounts (seen_at end (first b) plan.gnb plan.up) n plan.ue (with_downlinks up.gnb plan.du next es)) (sym none.0)
            (one_counts (seen_at end (first b) plan.gnb plan.up) plan.ue b (with_downlinks up.gnb plan.du next es) refl (owns end plan.gnb plan.up (plan.ue, b)) all))

        is_placed : (next ≤ end.teid) → (end.teid + 1 ≤ next + length es) → is_tunnel end (du_id up.gnb plan.du) end.teid ≡ true → IsPlaced t u plan
        is_placed low high tie =
            let there = same up.gnb plan.du end.teid tie in
            let gnbs : plan.gnb ≡ t.gnb = sym (ups.1 plan.gnb plan.up).0 ∙ there.0 in
            let dus : plan.du ≡ t.du = there.1 in
            let teids : end.teid ≡ t.teid = there.2 in
            let many : length es ≡ plan.bearers = made_many false up.next_teid (bearers_from 1 plan.bearers) ∙ how_many 1 plan.bearers in (
              λ j. (gnbs j, dus j),
              (
                is_left next plan.bearers t.teid left (omega (arith, low, teids)),
                λ still.
                    let above = (left_before next plan.bearers t.teid left still).1 in
                    absurd (omega (arith, above, high, teids, many)),
              ),
            )

        by : Led up.gnb plan.du next es → PlacedUps q k u plan
        by (inl none) =
            inl (placed_ups q k u plan ups (none_counts (seen_at end q plan.gnb plan.up) k plan.ue (with_downlinks up.gnb plan.du next es) refl none))
        by (inr h) = inr (is_placed h.2 h.3 h.4, (h.0, counts h.0 h.1))
