-- What a kept order of a CU-UP reports was carried up: at a switch what the receiver of the terminal's context has, and at an SN status what
-- this says.
use Rattle.std.proofs.Common.{◌≡◌, ℕ, ◌-◌, ◌<◌, ◌≤◌, Bool, true, false, ◌&&◌, ◌||◌, nat_lt, List, [], ◌∷◌, ◌++◌, refl, sym, ap, subst, ◌∙◌, arith}
use Rattle.gnb_types.specs.declared.names.NodeId.{NodeId}
use Rattle.gnb_types.specs.declared.names.BearerId.{BearerId}
use Rattle.gnb_types.specs.declared.plans.SnStatus.{SnStatus}
use Rattle.pdcp_defs.specs.Senders.{is_set, is_reported}
use Rattle.pdcp_defs.specs.Receivers.{Receiver, received_bits, deliver}
use Rattle.unit_defs.specs.CuUpRecords.{CuUpBearer, CuUpFlags}
use Rattle.unit_defs.specs.CuUpBearers.{bits_in, some_bits, status_of, thawed}
use Rattle.bearer_defs.specs.chain_defs.Orders.{known}
use Rattle.bearer_defs.specs.uplink_defs.Models.{Member, Model, initial}
use Rattle.bearer_defs.specs.uplink_defs.Orders.{ModelStep, knows, switches, after, run}
use Rattle.bearer_defs.specs.uplink_defs.Assumptions.{IsAssumed, AreKept}
use Rattle.proof_cu_up_orders.specs.orders.Up.{IsUp}
use Rattle.proof_cu_up_orders.specs.context_orders.Orders.{CuUpModel}
use Rattle.law_uplink_order.specs.uplink.Words.{Reports}
use Rattle.law_uplink_order.proofs.uplink.Reports.{reports_carried}
use Rattle.law_downlink_order.proofs.chain.Frames.{set_here}
use Rattle.proof_cu_up_orders.specs.frame_rows.Sent.{switched_to}
use Rattle.law_handover_delivers.specs.down_reports.Reports.{ReportIsTrue}
use Rattle.law_handover_delivers.specs.down_report_frames.Statuses.{BitsAreTrue, UpCameAbout}

-- ---- orders after orders

pub run_more : (u : Model) (os more : List ModelStep) → run u (os ++ more) ≡ run (run u os) more
unfolding run
run_more u [] more = refl
run_more u (o ∷ os) more = run_more (after u o) os more

pub kept_more : (u : Model) (os more : List ModelStep) → AreKept u os → AreKept (run u os) more → AreKept u (os ++ more)
unfolding AreKept run
kept_more u [] more h k = k
kept_more u (o ∷ os) more h k = (h.0, h.1, kept_more (after u o) os more h.2 k)

pub first_kept : (u : Model) (o : ModelStep) (os : List ModelStep) → AreKept u (o ∷ os) → AreKept u (o ∷ [])
unfolding AreKept
first_kept u o os kept = (kept.0, kept.1, tt)

one_run : (u : Model) (o : ModelStep) → run u (o ∷ []) ≡ after u o
unfolding run
one_run u o = refl

no_run : (u : Model) → run u [] ≡ u
unfolding run
no_run u = refl

pub nothing_came : (first teid : ℕ) → UpCameAbout (initial first teid)
unfolding AreKept run
nothing_came first teid = record { first = first; teid = teid; orders = []; is = refl; kept = tt }

pub more_came : (u v : Model) (os : List ModelStep) → UpCameAbout u → v ≡ run u os → AreKept u os → UpCameAbout v
more_came u v os came is kept =
    let begun : Model = initial came.first came.teid in record {
      first = came.first;
      teid = came.teid;
      orders = came.orders ++ os;
      is = is ∙ ap (λ (w : Model). run w os) came.is ∙ sym (run_more begun came.orders os);
      kept = kept_more begun came.orders os came.kept (subst (λ (w : Model). AreKept w os) came.is kept);
    }

-- ---- what a status report of the terminal's context says

says_there : (v : Model) (x : ℕ) (m : Member) (i : ℕ) → v.station ≡ x → v.members x ≡ m → m.flags.may_serve ≡ true
    → is_reported m.bearer.receiver.deliv (received_bits m.bearer.receiver) i ≡ true → Reports v i
unfolding Reports
says_there v x m i at is known said =
    subst (λ (k : Member). (k.flags.may_serve ≡ true) × (is_reported k.bearer.receiver.deliv (received_bits k.bearer.receiver) i ≡ true))
    (sym (ap v.members at ∙ is)) (known, said)

-- ---- each COUNT above the first one, of which the bit is set, is reported

bits_back : (bits : List Bool) → bits_in (some_bits bits) ≡ bits
bits_back [] = refl
bits_back (bit ∷ bits) = refl

reported : (fmc : ℕ) (bits : List Bool) (i : ℕ) → fmc < i → is_set bits (i - fmc - 1) ≡ true → is_reported fmc bits i ≡ true
reported fmc bits i above set = by (nat_lt i fmc) (nat_lt fmc i) refl
  where
    by : (t v : Bool) → nat_lt fmc i ≡ v → (t || (v && is_set bits (i - fmc - 1))) ≡ true
    by true v h = refl
    by false true h = set
    by false false h = let yes : nat_lt fmc i ≡ true = grind arith in let never : true ≡ false = sym yes ∙ h in absurd cc

pub bits_later : (reached later : ℕ) (status : SnStatus) → reached ≤ later → BitsAreTrue reached status → BitsAreTrue later status
bits_later reached later status more bits = λ i above set. (let low : i < reached = bits i above set in omega (arith, low, more))

module _ (u : Model) (came : UpCameAbout u) where
  reported_here : (i : ℕ) → Reports u i → i < u.reached
  reported_here i said =
      let begun : Model = initial came.first came.teid in
      subst (λ (w : Model). i < w.reached) (no_run (run begun came.orders) ∙ sym came.is)
      (reports_carried came.first came.teid came.orders [] i came.kept (subst (λ (w : Model). Reports w i) came.is said))

  reported_below : (o : ModelStep) → AreKept u (o ∷ []) → (i : ℕ) → Reports (after u o) i → i < (after u o).reached
  reported_below o kept i said =
      let begun : Model = initial came.first came.teid in
      let whole : List ModelStep = came.orders ++ o ∷ [] in
      let there : run begun whole ≡ after u o
      = run_more begun came.orders (o ∷ []) ∙ ap (λ (w : Model). run w (o ∷ [])) (sym came.is) ∙ one_run u o in
      let all_kept : AreKept begun whole
      = kept_more begun came.orders (o ∷ []) came.kept (subst (λ (w : Model). AreKept w (o ∷ [])) came.is kept) in
      subst (λ (w : Model). i < w.reached) (no_run (run begun whole) ∙ there)
      (reports_carried came.first came.teid whole [] i all_kept (subst (λ (w : Model). Reports w i) (sym there) said))

  module _ (x : ℕ) where
    abbrev m : Member
    m = u.members x

    -- ---- what its source says, in an SN status

    pub source_says : (p : CuUpModel) (bearer : BearerId) → IsUp m p → x ≡ u.station → p.at.flags.may_serve ≡ true
        → BitsAreTrue u.reached (status_of bearer p.bearer)
    source_says p bearer up at known = λ i above set.
        let same : m.bearer.receiver ≡ p.bearer.receiver = ap (λ (b : CuUpBearer). b.receiver) up.bearer in
        let its : is_set (received_bits p.bearer.receiver) (i - p.bearer.receiver.deliv - 1) ≡ true
        = subst (λ (bits : List Bool). is_set bits (i - p.bearer.receiver.deliv - 1) ≡ true) (bits_back (received_bits p.bearer.receiver)) set in
        reported_here i
        (says_there u x m i (sym at) refl (ap (λ (f : CuUpFlags). f.may_serve) up.flags ∙ known)
        (subst (λ (r : Receiver (List ℕ)). is_reported r.deliv (received_bits r) i ≡ true) (sym same)
        (reported p.bearer.receiver.deliv (received_bits p.bearer.receiver) i above its)))

    -- ---- at a switch

    pub switch_reports : (p : CuUpModel) (du : NodeId) (teid : ℕ) → IsUp m p → AreKept u (switches x ∷ []) → p.at.flags.may_serve ≡ true
        → ReportIsTrue u.reached (switched_to p du teid).receiver.deliv (received_bits (switched_to p du teid).receiver)
    unfolding after AreKept IsAssumed
    switch_reports p du teid up kept known = λ i said.
        let same : m.bearer.receiver ≡ p.bearer.receiver = ap (λ (b : CuUpBearer). b.receiver) up.bearer in
        let now : Member = record m {
          flags = record m.flags { frozen = false; arrived = true };
          bearer = record (thawed m.bearer) { receiver = (deliver m.bearer.receiver).after };
        } in
        let said_there : is_reported (deliver m.bearer.receiver).after.deliv (received_bits (deliver m.bearer.receiver).after) i ≡ true
        = subst (λ (r : Receiver (List ℕ)). is_reported (deliver r).after.deliv (received_bits (deliver r).after) i ≡ true) (sym same) said in
        reported_below (switches x) kept i
        (says_there (after u (switches x)) x now i (sym kept.1) (set_here u.members x now)
        (ap (λ (f : CuUpFlags). f.may_serve) up.flags ∙ known) said_there)

    -- ---- at an SN status

    status_below : (status : SnStatus) → AreKept u (knows x status ∷ []) → x ≡ u.station → (i : ℕ) → nat_lt i status.ul_first ≡ true → i < u.reached
    unfolding after
    status_below status kept at i low =
        let now : Member = record m { flags = record m.flags { may_serve = true }; bearer = known m.bearer status } in
        reported_below (knows x status) kept i
        (says_there (after u (knows x status)) x now i (sym at) (set_here u.members x now) refl
        (ap (λ (t : Bool). t || (nat_lt status.ul_first i && is_set (received_bits (known m.bearer status).receiver) (i - status.ul_first - 1))) low))

    pub status_reports : (status : SnStatus) → AreKept u (knows x status ∷ []) → x ≡ u.station → BitsAreTrue u.reached status
        → ReportIsTrue u.reached status.ul_first (bits_in status.ul_received)
    status_reports status kept at bits = λ i said. by i (nat_lt i status.ul_first) (nat_lt status.ul_first i) refl refl said
      where
        by : (i : ℕ) (t v : Bool) → nat_lt i status.ul_first ≡ t → nat_lt status.ul_first i ≡ v
            → (t || (v && is_set (bits_in status.ul_received) (i - status.ul_first - 1))) ≡ true → i < u.reached
        by i true v low high h = status_below status kept at i low
        by i false true low high h = bits i (grind arith) h
        by i false false low high h = absurd cc
