-- Orders of control to a bearer are orders to its downlink.
use Rattle.std.proofs.Common.{◌≡◌, ◌≢◌, ℕ, ◌+◌, Bool, true, false, not, ◌&&◌, ◌||◌, if◌then◌else◌, nat_lt, List, [], ◌∷◌, ◌++◌, Option, Some, None, refl, sym, ap, subst, ◌∙◌}
use Rattle.gnb_types.specs.declared.names.NodeId.{NodeId}
use Rattle.gnb_types.specs.declared.names.SnBits.{SnBits}
use Rattle.gnb_types.specs.declared.plans.SnStatus.{SnStatus}
use Rattle.gnb_types.specs.declared.outputs.Tag.TheVariants.{Absent}
use Rattle.gnb_types.specs.declared.names.Dir.TheVariants.{Dl}
use Rattle.pdcp_defs.specs.Receivers.{received_bits}
use Rattle.unit_defs.specs.Ways.{Pdu, report_pdu, frame, packet, Way, Answer, gives, spent, puts, frames_spent}
use Rattle.unit_defs.specs.CuUpRecords.{CuUpBearer, CuUpFlags, DownlinkTunnel, SourceHop}
use Rattle.unit_defs.specs.CuUpBearers.{has_downlink, with_uplink, switched, frozen_to, with_status, resumed, framed, framed_on, last_frame, thawed, owed, bits_in, released}
use Rattle.bearer_defs.specs.chain_defs.Models.{Member, Model, set}
use Rattle.bearer_defs.specs.chain_defs.Orders.{switches, freezes, knows, resumes, releases, sends_again, frozen, forwards, known, on_downlink, changed, sent, after, run}
use Rattle.law_downlink_order.proofs.chain.Frames.{set_here, set_far}
use Rattle.proof_cu_up_orders.specs.chain_rows.Shown.{items_of, pdus_of, Gives, numbered_packets, numbered_pdus}
use Rattle.proof_cu_up_orders.proofs.chain_rows.Rows.{freezes as freeze_gives}
use Rattle.proof_cu_up_orders.proofs.chain_rows.Numbering.{pdus_are}
use Rattle.proof_cu_up_orders.specs.handover_rows.Shown.{Does, handed_up}
use Rattle.proof_cu_up_orders.proofs.handover_rows.Rows.{switch_begins, switch_waits, status_begins, status_waits, resume_sends}
use Rattle.proof_cu_up_orders.specs.context_orders.Orders.{CuUpModel, ContextStep, on_switch, on_freeze, on_status, on_resume, on_release, kept_in, done}
use Rattle.proof_cu_up_orders.specs.context_orders.Orders as ups
use Rattle.proof_cu_up_orders.specs.down_orders.Down.{down_only, down_of, IsDown, serves_none, numbers_if, packets_if, switch_orders, status_orders, control_orders, packets_of, Went, Shows, IsAsked, ShowsFrozen}
use Rattle.proof_cu_up_orders.proofs.down_orders.Models.{numbered_by, went_same, went_kept, went_sent, went_more}
use Rattle.proof_cu_up_orders.proofs.down_orders.Items.{again, packets_again, shown, numbered_as, numbers_shown}

module _ {M C P : Type 0} (way : Way M C P) (s : Model) (x : ℕ) where
  -- what a row of a handover gives to the downlink
  down_model : (sn : SnBits) (pdus : List Pdu) (packets : List (ℕ × List ℕ)) (c : CuUpBearer) (a : Answer M P CuUpBearer) → Does way sn pdus packets c a
      → Gives way sn [] pdus c a
  unfolding Does Gives
  down_model sn pdus packets c (spent k) h = tt
  down_model sn pdus packets c (gives os d) (h0, h1, h2, h3, h4) = (h0, h2, h4)

  served : (q : CuUpModel) (first : List Pdu) (c : CuUpBearer) (a : Answer M P CuUpBearer) → serves_none q.at c ≡ false
      → Gives way q.at.sn [] (first ++ numbered_pdus q.at.sn q.at.quota c.waiting c.sender) (numbered_by q.at.sn q.at.quota c) a
      → Gives way q.at.sn [] (first ++ again (packets_if q.at c)) (numbered_as way s x q (serves_none q.at c) c) a
  served q first c a e g =
      subst (λ (t : Bool). Gives way q.at.sn [] (first ++ again (if t then [] else numbered_packets q.at.sn q.at.quota c.waiting c.sender))
      (numbered_as way s x q t c) a) (sym e)
      (subst (λ (ps : List Pdu). Gives way q.at.sn [] (first ++ ps) (numbered_by q.at.sn q.at.quota c) a)
      (pdus_are q.at.sn q.at.quota c.waiting c.sender) g)

  module _ (p : CuUpModel) (is : IsDown (s.members x) p) where
    abbrev m : Member
    m = s.members x

    abbrev b : CuUpBearer
    b = p.bearer

    -- ---- switch

    switch_shows : (epoch : ℕ) (du : NodeId) (teid : ℕ) → p.at.flags.released ≡ false
        → Shows way s (run s (switch_orders x epoch du teid p)) x (kept_in (on_switch p) (switched way (on_switch p).at du teid b))
    unfolding run after packets_of
    switch_shows epoch du teid kept = by p.at.flags.may_serve refl
      where
        on : CuUpModel
        on = on_switch p

        downlink : DownlinkTunnel
        downlink = record { du = du; teid = teid; next = 0 }

        c : CuUpBearer
        c = handed_up (on_downlink b downlink)

        n : Member
        n = record m { flags = record m.flags { frozen = false; arrived = true }; bearer = on_downlink m.bearer downlink; epoch = epoch }

        flags : n.flags ≡ on.at.flags
        flags = ap (λ (f : CuUpFlags). record f { frozen = false; arrived = true }) is.flags

        bearer : down_of n.bearer ≡ down_of c
        bearer = ap (λ (u : CuUpBearer). record u { hop = None; loss_while_frozen = false; taken_while_frozen = []; downlink = Some downlink }) is.bearer

        went : (t : Bool) → p.at.flags.may_serve ≡ t
            → Went s (after s (switches x downlink epoch)) x n [] (if t then b.sender.unconfirmed else [])
        went t e = subst (λ (es : List (ℕ × List ℕ)). Went s (after s (switches x downlink epoch)) x n [] es)
            ((λ i. if (is.flags i).may_serve then (is.bearer i).sender.unconfirmed else [])
            ∙ ap (λ (k : Bool). if k then b.sender.unconfirmed else []) e)
            (went_sent s x n n (if m.flags.may_serve then m.bearer.sender.unconfirmed else []) refl)

        by : (t : Bool) → p.at.flags.may_serve ≡ t
            → Shows way s (run s (switches x downlink epoch ∷ (if t then numbers_if x on.at (on_downlink b downlink) else []))) x
            (kept_in on (switched way on.at du teid b))
        by true e =
            let report : Pdu = report_pdu c.receiver.deliv (received_bits c.receiver) in
            numbers_shown way s x on (after s (switches x downlink epoch)) n (report ∷ again b.sender.unconfirmed) c (switched way on.at du teid b)
            (subst (λ (es : List (ℕ × List ℕ)). Went s (after s (switches x downlink epoch)) x n [] es) (sym (packets_again b.sender.unconfirmed)) (went true e))
            (set_here s.members x n) is.there flags bearer
            (served on (report ∷ again b.sender.unconfirmed) c (switched way on.at du teid b) (ap (λ (r : Bool). r || false) kept)
            (down_model on.at.sn _ _ _ (switched way on.at du teid b) (switch_begins way on.at du teid b e refl kept)))
        by false e =
            shown way s x on (after s (switches x downlink epoch)) n [] [] c (switched way on.at du teid b) is.there flags bearer (went false e)
            (down_model on.at.sn _ _ _ (switched way on.at du teid b) (switch_waits way on.at du teid b e))

    -- ---- SN status

    status_shows : (status : SnStatus) → IsAsked {P = P} p (ups.knows status)
        → Shows way s (run s (status_orders x status p)) x (kept_in (on_status p) (with_status way (on_status p).at status b))
    unfolding run after packets_of
    status_shows status fit = by p.at.flags.arrived refl
      where
        on : CuUpModel
        on = on_status p

        c : CuUpBearer
        c = handed_up (known b status)

        n : Member
        n = record m { flags = record m.flags { may_serve = true }; bearer = known m.bearer status }

        t1 : Model
        t1 = after s (knows x status)

        flags : n.flags ≡ on.at.flags
        flags = ap (λ (f : CuUpFlags). record f { may_serve = true }) is.flags

        bearer : down_of n.bearer ≡ down_of c
        bearer = ap (λ (u : CuUpBearer). record u { dl_next = status.dl_next; sender = record u.sender { next = status.dl_next } }) is.bearer

        exact : t1.members x ≡ n
        exact = set_here s.members x n

        unconfirmed : (t1.members x).bearer.sender.unconfirmed ≡ packets_of (again b.sender.unconfirmed)
        unconfirmed =
            ap (λ (k : Member). k.bearer.sender.unconfirmed) exact ∙ ap (λ (u : CuUpBearer). u.sender.unconfirmed) bearer
            ∙ sym (packets_again b.sender.unconfirmed)

        by : (t : Bool) → p.at.flags.arrived ≡ t
            → Shows way s (run s (knows x status ∷ (if t then sends_again x ∷ numbers_if x on.at (known b status) else []))) x
            (kept_in on (with_status way on.at status b))
        by true e =
            let serves = fit e in
            let report : Pdu = report_pdu status.ul_first (bits_in status.ul_received) in
            let more : List (ℕ × List ℕ) = (t1.members x).bearer.sender.unconfirmed in
            numbers_shown way s x on (sent t1 (t1.members x) more) n (report ∷ again b.sender.unconfirmed) c (with_status way on.at status b)
            (subst (λ (es : List (ℕ × List ℕ)). Went s (sent t1 (t1.members x) more) x n [] es) unconfirmed
            (went_more s x t1 n [] (went_kept s x n) exact more)) exact is.there flags bearer
            (served on (report ∷ again b.sender.unconfirmed) c (with_status way on.at status b)
            ((λ i. serves.0 i || serves.1 i || not (serves.2 i)))
            (down_model on.at.sn _ _ _ (with_status way on.at status b) (status_begins way on.at status b e serves.0 serves.1 serves.2)))
        by false e =
            shown way s x on t1 n [] [] (known b status) (with_status way on.at status b) is.there flags bearer (went_kept s x n)
            (down_model on.at.sn _ _ _ (with_status way on.at status b) (status_waits way on.at status b e))

    -- ---- resume

    resume_shows : p.at.flags.released ≡ false → has_downlink b.downlink ≡ true
        → Shows way s (run s (resumes x ∷ numbers_if x (on_resume p).at (thawed b))) x (kept_in (on_resume p) (resumed way (on_resume p).at b))
    unfolding run after packets_of
    resume_shows kept there =
        numbers_shown way s x on (after s (resumes x)) n (again (owed b)) c (resumed way on.at b)
        (subst (λ (es : List (ℕ × List ℕ)). Went s (after s (resumes x)) x n [] es) (ap (λ (u : CuUpBearer). owed u) is.bearer ∙ sym (packets_again (owed b)))
        (went_sent s x n m (owed m.bearer) refl)) (set_here s.members x n) is.there (ap (λ (f : CuUpFlags). record f { frozen = false }) is.flags)
        (ap (λ (u : CuUpBearer). thawed u) is.bearer)
        (served on (again (owed b)) c (resumed way on.at b) (λ i. kept i || not (there i))
        (down_model on.at.sn _ _ _ (resumed way on.at b) (resume_sends way on.at b refl kept there)))
      where
        on : CuUpModel
        on = on_resume p

        c : CuUpBearer
        c = handed_up (thawed b)

        n : Member
        n = record m { flags = record m.flags { frozen = false }; bearer = thawed m.bearer }

    -- ---- those that send nothing to the radio

    release_shows : Shows way s (run s (releases x ∷ [])) x (gives [] (Some (on_release p)))
    unfolding run after packets_of pdus_of items_of
    release_shows =
        let n : Member = record m { flags = record m.flags { released = true }; bearer = released m.bearer } in
        record {
          member = n;
          is = record {
            there = is.there;
            flags = ap (λ (f : CuUpFlags). record f { released = true }) is.flags;
            bearer = ap (λ (u : CuUpBearer). record u { sender = record u.sender { unconfirmed = [] }; waiting = [] }) is.bearer;
          };
          pdus = [];
          puts = refl;
          went = went_kept s x n;
        }

    add_shows : (teid : ℕ) → Shows way s (run s []) x (kept_in p (with_uplink way teid b))
    unfolding run with_uplink packets_of pdus_of items_of
    add_shows teid = record {
      member = m;
      is = record { there = is.there; flags = is.flags; bearer = is.bearer };
      pdus = [];
      puts = refl;
      went = went_same s x;
    }

    poll_shows : Shows way s (run s []) x (kept_in p (framed way p.at true false None Absent b))
    unfolding run framed packets_of Gives items_of pdus_of
    poll_shows = by b.downlink refl
      where
        by : (o : Option DownlinkTunnel) → b.downlink ≡ o → Shows way s s x (kept_in p (framed_on way p.at b true false None Absent o))
        by None e = shown way s x p s m [] [] b (framed_on way p.at b true false None Absent None) is.there is.flags is.bearer (went_same s x) (refl, refl, refl)
        by (Some d) e = shown way s x p s m [] [] b (framed_on way p.at b true false None Absent (Some d)) is.there is.flags is.bearer (went_same s x)
            (which (nat_lt last_frame d.next))
          where
            which : (t : Bool) → Gives way p.at.sn [] [] b (if t then spent frames_spent
                else puts (packet d.du d.teid p.at.ue p.at.bearer Dl Absent (frame true false d.next None))
                (record b { downlink = Some (record d { next = d.next + 1 }); restart = b.restart && not false }))
            which true = tt
            which false = (refl, refl, rw e refl)

    pub control_shows : (epoch : ℕ) (order : ContextStep P) → IsAsked p order → Shows way s (run s (control_orders x epoch p order)) x (done way order p)
    control_shows epoch (ups.adds teid) fit = add_shows teid
    control_shows epoch (ups.switches du teid) fit = switch_shows epoch du teid fit
    control_shows epoch (ups.knows status) fit = status_shows status fit
    control_shows epoch ups.resumes fit = resume_shows fit.0 fit.1
    control_shows epoch ups.releases fit = release_shows
    control_shows epoch ups.polls fit = poll_shows
    control_shows epoch order fit = absurd fit

    -- ---- freeze

    pub freeze_shows : (to : ℕ) (peer : NodeId) (down up : ℕ) → to ≢ x
        → ShowsFrozen s (run s (freezes x to (record { peer = peer; down = down; up = up; up_ended = false }) ∷ [])) x to b.sender.next
        (done way (ups.freezes peer down up) p)
    unfolding run after Gives
    freeze_shows to peer down up apart = by (frozen_to way (on_freeze p).at peer down up b) (freeze_gives way (on_freeze p).at peer down up b)
      where
        hop : SourceHop
        hop = record { peer = peer; down = down; up = up; up_ended = false }

        n : Member
        n = record m { flags = record m.flags { frozen = true }; bearer = frozen m.bearer hop; next_hop = to }

        fed : Member
        fed = record (s.members to) { forwarded = (s.members to).forwarded ++ forwards m.bearer; promised = m.bearer.sender.next }

        by : (a : Answer M P CuUpBearer) → Gives way p.at.sn (forwards b) [] (frozen b hop) a
            → ShowsFrozen s (changed (changed s x n) to fed) x to b.sender.next (kept_in (on_freeze p) a)
        by (spent k) g = tt
        by (gives os d) g = record {
          member = n;
          is = record {
            there = is.there;
            flags = ap (λ (f : CuUpFlags). record f { frozen = true }) is.flags;
            bearer = ap (λ (u : CuUpBearer). frozen u hop) is.bearer ∙ sym (ap down_only g.2);
          };
          puts = g.1;
          froze = record {
            here = set_far (set s.members x n) to fed x (λ e. apart (sym e)) ∙ set_here s.members x n;
            target = set_here (set s.members x n) to fed ∙ (λ i. record (s.members to) {
              forwarded = (s.members to).forwarded ++ ((λ j. forwards (is.bearer j)) ∙ sym g.0) i;
              promised = (is.bearer i).sender.next;
            });
            others = λ y far off. set_far (set s.members x n) to fed y off ∙ set_far s.members x n y far;
            rest = (refl, refl, refl, refl, refl, refl, refl);
          };
        }
