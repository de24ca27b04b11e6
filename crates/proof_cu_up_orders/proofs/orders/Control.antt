-- Orders of control to a bearer are orders to its uplink.
use Rattle.std.proofs.Common.{◌≡◌, ◌≢◌, ◌==◌, ℕ, Bool, true, false, if◌then◌else◌, List, [], ◌∷◌, ◌++◌, Option, Some, None, refl, sym, ap, subst, ◌∙◌}
use Rattle.std.proofs.lemmas.List.{append-nil}
use Rattle.gnb_types.specs.declared.names.NodeId.{NodeId}
use Rattle.gnb_types.specs.declared.names.SnBits.{SnBits}
use Rattle.gnb_types.specs.declared.plans.SnStatus.{SnStatus}
use Rattle.pdcp_defs.specs.Receivers.{Receiver, Delivery, deliver}
use Rattle.unit_defs.specs.Ways.{Pdu, Way, Answer, gives, spent}
use Rattle.unit_defs.specs.CuUpRecords.{CuUpBearer, CuUpFlags, SourceHop}
use Rattle.unit_defs.specs.CuUpBearers.{has_downlink, with_uplink, switched, frozen_to, with_status, resumed, thawed, released}
use Rattle.bearer_defs.specs.chain_defs.Models.{set}
use Rattle.bearer_defs.specs.chain_defs.Orders.{frozen, known, on_downlink}
use Rattle.bearer_defs.specs.uplink_defs.Models.{Item, Member, Model}
use Rattle.bearer_defs.specs.uplink_defs.Orders.{adds, freezes, knows, switches, resumes, releases, late, changed, handed, after, run}
use Rattle.law_downlink_order.proofs.chain.Frames.{set_here, set_far}
use Rattle.proof_cu_up_orders.specs.uplink_rows.Shown.{items_of, delivered_in, Gives}
use Rattle.proof_cu_up_orders.proofs.uplink_rows.Rows.{freezes as freeze_gives}
use Rattle.proof_cu_up_orders.specs.handover_rows.Shown.{Does, handed_up}
use Rattle.proof_cu_up_orders.proofs.handover_rows.Rows.{switch_begins, switch_waits, status_begins, status_waits, resume_sends}
use Rattle.proof_cu_up_orders.specs.context_orders.Orders.{CuUpModel, ContextStep, on_switch, on_freeze, on_status, on_resume, on_release, kept_in, done}
use Rattle.proof_cu_up_orders.specs.context_orders.Orders as ups
use Rattle.proof_cu_up_orders.specs.orders.Up.{up_of, IsUp, status_orders, control_orders, Went, Shows, IsAsked, ShowsFrozen}
use Rattle.proof_cu_up_orders.proofs.orders.Items.{went_kept, went_handed}

-- what the receiver hands up, after an order that passed nothing on
went_later : (s t : Model) (x : ℕ) (m : Member) → Went s t x m [] [] → (k : Member) → k.next_hop ≡ m.next_hop → (d : Delivery (List ℕ))
    → Went s (handed t x k d) x (record k { bearer = record k.bearer { receiver = d.after } }) [] d.packets
went_later s t x m w k hop d =
    let n : Member = record k { bearer = record k.bearer { receiver = d.after } } in record {
      here = ap (λ (c : Member). record c { forwarded = k.forwarded }) (set_here t.members x n);
      others = λ y far. ap (λ (c : Member). record c { forwarded = (s.members y).forwarded }) (set_far t.members x n y far) ∙ w.others y far;
      forwarded = λ y far. ap (λ (c : Member). c.forwarded) (set_far t.members x n y far) ∙ w.forwarded y far
          ∙ ap (λ (h : ℕ). if y == h then (s.members y).forwarded ++ [] else (s.members y).forwarded) (sym hop);
      delivered = ap (λ (zs : List (ℕ × List ℕ)). zs ++ d.packets) (w.delivered ∙ append-nil s.delivered);
      rest = w.rest;
    }

module _ {M C P : Type 0} (way : Way M C P) (s : Model) (x : ℕ) (p : CuUpModel) (is : IsUp (s.members x) p) where
  abbrev m : Member
  m = s.members x

  abbrev b : CuUpBearer
  b = p.bearer

  shown_row : (q : CuUpModel) (t : Model) (n : Member) (sn : SnBits) (pdus : List Pdu) (packets : List (ℕ × List ℕ)) (c : CuUpBearer) (a : Answer M P CuUpBearer)
      → n.is_there ≡ true → n.flags ≡ q.at.flags → up_of n.bearer ≡ up_of c → Went s t x n [] packets → Does way sn pdus packets c a
      → Shows s t x (kept_in q a)
  unfolding Does
  shown_row q t n sn pdus packets c (spent k) there flags bearer went h = tt
  shown_row q t n sn pdus packets c (gives os d) there flags bearer went (h0, h1, h2, h3, h4) = record {
    member = n;
    is = record { there = there; flags = flags; bearer = bearer ∙ ap up_of (sym h4) };
    went = subst (λ (zs : List Item). Went s t x n zs (delivered_in os)) (sym h1)
        (subst (λ (es : List (ℕ × List ℕ)). Went s t x n [] es) (sym h3) went);
  }

  receivers : m.bearer.receiver ≡ b.receiver
  receivers = ap (λ (u : CuUpBearer). u.receiver) is.bearer

  went_up : (k : Member) → Went s (handed s x k (deliver m.bearer.receiver)) x
      (record k { bearer = record k.bearer { receiver = (deliver m.bearer.receiver).after } }) [] (deliver b.receiver).packets
  went_up k = subst (λ (r : Receiver (List ℕ)). Went s (handed s x k (deliver m.bearer.receiver)) x
      (record k { bearer = record k.bearer { receiver = (deliver m.bearer.receiver).after } }) [] (deliver r).packets) receivers
      (went_handed s x k (deliver m.bearer.receiver))

  thawed_up : up_of (record (thawed m.bearer) { receiver = (deliver m.bearer.receiver).after }) ≡ up_of (handed_up (thawed b))
  thawed_up = ap (λ (u : CuUpBearer). record u { hop = None; receiver = (deliver u.receiver).after }) is.bearer

  -- ---- switch and resume

  switch_shows : (du : NodeId) (teid : ℕ) → p.at.flags.released ≡ false
      → Shows s (run s (switches x ∷ [])) x (kept_in (on_switch p) (switched way (on_switch p).at du teid b))
  unfolding run after
  switch_shows du teid kept = by p.at.flags.may_serve refl
    where
      on : CuUpModel
      on = on_switch p

      k : Member
      k = record m { flags = record m.flags { frozen = false; arrived = true }; bearer = thawed m.bearer }

      flags : k.flags ≡ on.at.flags
      flags = ap (λ (f : CuUpFlags). record f { frozen = false; arrived = true }) is.flags

      by : (t : Bool) → p.at.flags.may_serve ≡ t → Shows s (handed s x k (deliver m.bearer.receiver)) x (kept_in on (switched way on.at du teid b))
      by true e = shown_row on (handed s x k (deliver m.bearer.receiver)) (record k { bearer = record k.bearer { receiver = (deliver m.bearer.receiver).after } })
          on.at.sn _ (deliver b.receiver).packets _ (switched way on.at du teid b) is.there flags thawed_up (went_up k)
          (switch_begins way on.at du teid b e refl kept)
      by false e = shown_row on (handed s x k (deliver m.bearer.receiver)) (record k { bearer = record k.bearer { receiver = (deliver m.bearer.receiver).after } })
          on.at.sn [] (deliver b.receiver).packets (handed_up (on_downlink b (record { du = du; teid = teid; next = 0 }))) (switched way on.at du teid b)
          is.there flags thawed_up (went_up k) (switch_waits way on.at du teid b e)

  resume_shows : p.at.flags.released ≡ false → has_downlink b.downlink ≡ true
      → Shows s (run s (resumes x ∷ [])) x (kept_in (on_resume p) (resumed way (on_resume p).at b))
  unfolding run after
  resume_shows kept there =
      shown_row on (handed s x k (deliver m.bearer.receiver)) (record k { bearer = record k.bearer { receiver = (deliver m.bearer.receiver).after } })
      on.at.sn _ (deliver b.receiver).packets _ (resumed way on.at b) is.there (ap (λ (f : CuUpFlags). record f { frozen = false }) is.flags) thawed_up
      (went_up k) (resume_sends way on.at b refl kept there)
    where
      on : CuUpModel
      on = on_resume p

      k : Member
      k = record m { flags = record m.flags { frozen = false }; bearer = thawed m.bearer }

  -- ---- SN status

  status_shows : (status : SnStatus) → IsAsked {P = P} p (ups.knows status)
      → Shows s (run s (status_orders x status p)) x (kept_in (on_status p) (with_status way (on_status p).at status b))
  unfolding run after
  status_shows status fit = by p.at.flags.arrived refl
    where
      on : CuUpModel
      on = on_status p

      n : Member
      n = record m { flags = record m.flags { may_serve = true }; bearer = known m.bearer status }

      t1 : Model
      t1 = changed s x n

      exact : t1.members x ≡ n
      exact = set_here s.members x n

      k : Member
      k = record (t1.members x) { flags = record (t1.members x).flags { frozen = false }; bearer = thawed (t1.members x).bearer }

      flags : n.flags ≡ on.at.flags
      flags = ap (λ (f : CuUpFlags). record f { may_serve = true }) is.flags

      given : up_of n.bearer ≡ up_of (known b status)
      given = ap (λ (u : CuUpBearer). record u { receiver = record u.receiver { deliv = status.ul_first } }) is.bearer

      packets : (deliver (t1.members x).bearer.receiver).packets ≡ (deliver (known b status).receiver).packets
      packets = ap (λ (c : Member). (deliver c.bearer.receiver).packets) exact ∙ ap (λ (u : CuUpBearer). (deliver u.receiver).packets) given

      -- it has no hop, and isn't frozen
      serving : b.hop ≡ None → up_of (record k.bearer { receiver = (deliver (t1.members x).bearer.receiver).after }) ≡ up_of (handed_up (known b status))
      serving none =
          ap (λ (c : Member). up_of (record (thawed c.bearer) { receiver = (deliver c.bearer.receiver).after })) exact
          ∙ ap (λ (u : CuUpBearer). record u { hop = None; receiver = (deliver u.receiver).after }) given
          ∙ ap (λ (h : Option SourceHop). record (up_of (handed_up (known b status))) { hop = h }) (sym none)

      by : (t : Bool) → p.at.flags.arrived ≡ t → Shows s (run s (knows x status ∷ (if t then resumes x ∷ [] else []))) x
          (kept_in on (with_status way on.at status b))
      by true e =
          let serves = fit e in
          shown_row on (handed t1 x k (deliver (t1.members x).bearer.receiver))
          (record k { bearer = record k.bearer { receiver = (deliver (t1.members x).bearer.receiver).after } }) on.at.sn _
          (deliver (known b status).receiver).packets _ (with_status way on.at status b) (ap (λ (c : Member). c.is_there) exact ∙ is.there)
          (ap (λ (c : Member). record c.flags { frozen = false }) exact ∙ ap (λ (f : CuUpFlags). record f { frozen = false }) flags
          ∙ ap (λ (f : Bool). record on.at.flags { frozen = f }) (sym serves.0)) (serving serves.3)
          (subst (λ (es : List (ℕ × List ℕ)). Went s (handed t1 x k (deliver (t1.members x).bearer.receiver)) x
          (record k { bearer = record k.bearer { receiver = (deliver (t1.members x).bearer.receiver).after } }) [] es) packets
          (went_later s t1 x n (went_kept s x n) k (ap (λ (c : Member). c.next_hop) exact) (deliver (t1.members x).bearer.receiver)))
          (status_begins way on.at status b e serves.0 serves.1 serves.2)
      by false e =
          shown_row on t1 n on.at.sn [] [] (known b status) (with_status way on.at status b) is.there flags given (went_kept s x n)
          (status_waits way on.at status b e)

  -- ---- those that hand nothing up

  release_shows : Shows {M = M} {P = P} s (run s (releases x ∷ [])) x (gives [] (Some (on_release p)))
  unfolding run after items_of delivered_in
  release_shows =
      let n : Member = record m { flags = record m.flags { released = true }; bearer = released m.bearer } in
      record {
        member = n;
        is = record {
          there = is.there;
          flags = ap (λ (f : CuUpFlags). record f { released = true }) is.flags;
          bearer = ap (λ (u : CuUpBearer). record u { receiver = record u.receiver { stored = [] } }) is.bearer;
        };
        went = went_kept s x n;
      }

  add_shows : (teid : ℕ) → Shows s (run s (adds x teid ∷ [])) x (kept_in p (with_uplink way teid b))
  unfolding run after with_uplink items_of delivered_in
  add_shows teid =
      let n : Member = record m { bearer = record m.bearer { uplinks = m.bearer.uplinks ++ teid ∷ [] } } in
      record {
        member = n;
        is = record {
          there = is.there;
          flags = is.flags;
          bearer = ap (λ (u : CuUpBearer). record u { uplinks = u.uplinks ++ teid ∷ [] }) is.bearer;
        };
        went = went_kept s x n;
      }

  pub control_shows : (order : ContextStep P) → IsAsked p order → Shows s (run s (control_orders x p order)) x (done way order p)
  control_shows (ups.adds teid) fit = add_shows teid
  control_shows (ups.switches du teid) fit = switch_shows du teid fit
  control_shows (ups.knows status) fit = status_shows status fit
  control_shows ups.resumes fit = resume_shows fit.0 fit.1
  control_shows ups.releases fit = release_shows
  control_shows order fit = absurd fit

  -- ---- freeze

  pub freeze_shows : (to : ℕ) (peer : NodeId) (down up : ℕ) → to ≢ x
      → ShowsFrozen s (run s (freezes x to (record { peer = peer; down = down; up = up; up_ended = false }) ∷ [])) x to b.receiver.deliv
      (done way (ups.freezes peer down up) p)
  unfolding run after Gives
  freeze_shows to peer down up apart = by (frozen_to way (on_freeze p).at peer down up b) (freeze_gives way (on_freeze p).at peer down up b)
    where
      hop : SourceHop
      hop = record { peer = peer; down = down; up = up; up_ended = false }

      n : Member
      n = record m { flags = record m.flags { frozen = true }; bearer = frozen m.bearer hop; next_hop = to }

      fed : Member
      fed = record (s.members to) { forwarded = (s.members to).forwarded ++ late m.bearer; promised = m.bearer.receiver.deliv }

      by : (a : Answer M P CuUpBearer) → Gives (late b) [] (frozen b hop) a
          → ShowsFrozen s (changed (changed s to fed) x n) x to b.receiver.deliv (kept_in (on_freeze p) a)
      by (spent k) g = tt
      by (gives os d) g = record {
        member = n;
        is = record {
          there = is.there;
          flags = ap (λ (f : CuUpFlags). record f { frozen = true }) is.flags;
          bearer = ap (λ (u : CuUpBearer). record u { hop = Some hop }) is.bearer ∙ ap up_of (sym g.2);
        };
        hands = g.1;
        froze = record {
          here = set_here (set s.members to fed) x n;
          target = set_far (set s.members to fed) x n to apart ∙ set_here s.members to fed ∙ (λ i. record (s.members to) {
            forwarded = (s.members to).forwarded ++ ((λ j. late (is.bearer j)) ∙ sym g.0) i;
            promised = (is.bearer i).receiver.deliv;
          });
          others = λ y far off. set_far (set s.members to fed) x n y far ∙ set_far s.members to fed y off;
          rest = (refl, refl, refl, refl, refl, refl, refl, refl);
        };
      }
