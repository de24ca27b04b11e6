-- A DU opens its next TEIDs, when a context is made and when its radio changes.
use Rattle.std.proofs.Common.{◌≡◌, ◌≤◌, ◌==◌, ℕ, suc, ◌+◌, Bool, true, false, not, ◌||◌, List, [], ◌∷◌, ◌++◌, length, map, Option, Some, None, ◌⊎◌, inl, inr, refl, sym, ap, ◌∙◌, subst, arith}
use Rattle.std.specs.Prelude.{if◌then◌else◌}
use Rattle.std.specs.List.{AllByRecursion}
use Rattle.std.specs.Ordering.{nat_cmp}
use Rattle.gnb_types.specs.declared.names.NodeId.{NodeId}
use Rattle.gnb_types.specs.declared.names.NodeId.TheVariants.{CuCp, CuUp, Du as du_id, Core, Ue}
use Rattle.gnb_types.specs.declared.names.UeId.{UeId}
use Rattle.gnb_types.specs.declared.names.BearerId.{BearerId}
use Rattle.gnb_types.specs.declared.names.SnBits.{SnBits}
use Rattle.gnb_types.specs.declared.names.Dir.TheVariants.{Dl, Ul}
use Rattle.gnb_types.specs.declared.keys.Channel.{Channel}
use Rattle.gnb_types.specs.declared.plans.Peer.{Peer}
use Rattle.gnb_types.specs.declared.plans.Tunnel.{Tunnel}
use Rattle.gnb_types.specs.declared.inputs.Order.TheVariants as orders
use Rattle.gnb_types.specs.declared.outputs.Tag.TheVariants.{Absent, Same}
use Rattle.gnb_types.specs.declared.reasons.DropReason.{DropReason}
use Rattle.gnb_types.specs.declared.reasons.DropReason.TheVariants.{NoContext, NoTunnel, Unexpected}
use Rattle.gnb_types.specs.Names.{node_text}
use Rattle.gnb_types.specs.Orders.{bearer_cmp}
use Rattle.tables.specs.Tables.{find, put}
use Rattle.transaction_defs.specs.Callers.{close, due}
use Rattle.message_types.specs.declared.f1.F1.{F1}
use Rattle.message_types.specs.declared.f1.F1.TheVariants as f1s
use Rattle.message_types.specs.declared.rrc.Token.{Token}
use Rattle.unit_defs.specs.Ways.{Message, f1, rrc, uplink, status, end_marker, Taken, frame_item, packet, opened, closed, Input, control_input, packet_input, radio_input, confirm_input, offer_input, tick_input, order_input, Way, Answer, gives, spent, ◌then◌, nothing, puts, drops, teids_spent}
use Rattle.unit_defs.specs.Messages.{channel, is_same_gnb, bearers_of, are_first_bearers}
use Rattle.unit_defs.specs.Teids.{teids_are_left, teid_after, without_each}
use Rattle.unit_defs.specs.Transactions.{Kind, request, reply, transfer, kind_of, no_instance, ask, advance, replied}
use Rattle.unit_defs.specs.Du.{DuBearer, DuContext, DuTunnel, Du, du_node, context_of, with_transactions, downlinks_of, downlink_list, with_entries, bearers_made, bearers_anew, replies, closings, openings, old_downlinks, replaced, replaces, context_with, setup, context_anew, modify_on, modify, end_markers, released_on, release, relayed_down, relay_down, relayed_up, relay_up, token_ue, start, set_up, asked, transferred, of_cu_cp, of_terminal, control_received, missing, is_missing, told, gap_after, carried, with_bearer, frame_received, taken_in, taken_of, taken_on, take, of_bearer, of_context, pass_up, confirmed, confirm, due_output, tick, du_acts}
use Rattle.proof_run_steps.specs.teids.Given.{opened_in, opened_by, count_from, below, GrowsTo}
use Rattle.proof_run_steps.proofs.teids.Grows.{gives_counted, below_after, put_or, fewer_each, grows_less, grows_then, below_left}
use Rattle.proof_run_steps.proofs.teids.Bearers.{both, first_none}
use Rattle.proof_run_steps.proofs.teids.Still.{none_ask, none_advance, none_replied, none_due, Still, From, from_still, still_if, from_if, none_then, still_then, from_then, from_request, still_reply}

-- ---- downlinks that are put

abbrev pub Downlinks : Type 0
Downlinks = List (BearerId × DuBearer)

abbrev pub AreWithin : ℕ → ℕ → Downlinks → Type 0
AreWithin low high es = AllByRecursion (λ (e : BearerId × DuBearer). (low ≤ e.1.downlink) × (e.1.downlink + 1 ≤ high)) es

downlinks_put : (ue : UeId) (low high : ℕ) (es : Downlinks) (table : List (ℕ × DuTunnel)) → AreWithin low high es → (teid : ℕ) (owner : DuTunnel)
    → find nat_cmp (with_entries ue table es) teid ≡ Some owner → (find nat_cmp table teid ≡ Some owner) ⊎ ((low ≤ teid) × (teid + 1 ≤ high))
downlinks_put ue low high [] table all teid owner e = inl e
downlinks_put ue low high (x ∷ xs) table all teid owner e =
    by (downlinks_put ue low high xs (put nat_cmp table x.1.downlink (record { ue = ue; bearer = x.0 })) all.1 teid owner e)
  where
    old : ((teid ≡ x.1.downlink) × (record { ue = ue; bearer = x.0 } ≡ owner)) ⊎ (find nat_cmp table teid ≡ Some owner)
        → (find nat_cmp table teid ≡ Some owner) ⊎ ((low ≤ teid) × (teid + 1 ≤ high))
    old (inl here) = let at : teid ≡ x.1.downlink = here.0 in inr (omega (arith, all.0.0), omega (arith, all.0.1))
    old (inr there) = inl there

    by : (find nat_cmp (put nat_cmp table x.1.downlink (record { ue = ue; bearer = x.0 })) teid ≡ Some owner) ⊎ ((low ≤ teid) × (teid + 1 ≤ high))
        → (find nat_cmp table teid ≡ Some owner) ⊎ ((low ≤ teid) × (teid + 1 ≤ high))
    by (inl there) = old (put_or table x.1.downlink (record { ue = ue; bearer = x.0 }) teid owner there)
    by (inr new) = inr new

pub grows_downlinks : (ue : UeId) (next : ℕ) (es : Downlinks) (table : List (ℕ × DuTunnel)) → teids_are_left next (length es) ≡ true
    → AreWithin next (next + length es) es → GrowsTo next table (teid_after next (length es)) (with_entries ue table es)
grows_downlinks ue next es table left all =
    let after : below (teid_after next (length es)) ≡ below next + length es = below_after next (length es) left in
    let here : below next ≡ next = below_left next (length es) left in (
      omega (arith, after),
      λ teid owner e. subst (λ (k : ℕ). (find nat_cmp table teid ≡ Some owner) ⊎ ((below next ≤ teid) × (teid + 1 ≤ k))) (sym after)
          (subst (λ (k : ℕ). (find nat_cmp table teid ≡ Some owner) ⊎ ((k ≤ teid) × (teid + 1 ≤ k + length es))) (sym here)
          (downlinks_put ue next (next + length es) es table all teid owner e)),
    )

wider : (a b c d : ℕ) (es : Downlinks) → a ≤ b → c ≤ d → AreWithin b c es → AreWithin a d es
wider a b c d [] p q all = tt
wider a b c d (e ∷ es) p q all = ((omega (arith, p, all.0.0), omega (arith, q, all.0.1)), wider a b c d es p q all.1)

-- the downlinks are so many numbers, from this one on
abbrev pub AreCounted : ℕ → Downlinks → Type 0
AreCounted next es = (map (λ e. e.1.downlink) es ≡ count_from next (length es)) × AreWithin next (next + length es) es

one_more : (next : ℕ) (e : BearerId × DuBearer) (es : Downlinks) → e.1.downlink ≡ next → AreCounted (next + 1) es → AreCounted next (e ∷ es)
one_more next e es at all = (
  λ i. at i ∷ all.0 i,
  (
    (omega (arith, at), omega (arith, at)),
    wider next (next + 1) (next + 1 + length es) (next + suc (length es)) es (omega arith) (omega arith) all.1,
  ),
)

pub made_counted : (up : NodeId) (next : ℕ) (ts : List Tunnel) → AreCounted next (bearers_made up next ts)
made_counted up next [] = (refl, tt)
made_counted up next (t ∷ ts) =
    one_more next (t.bearer, record { up = up; uplink = t.teid; downlink = next; awaited = 0; gap = false }) (bearers_made up (next + 1) ts) refl (made_counted up (next + 1) ts)

pub anew_counted : (next : ℕ) (es : Downlinks) → AreCounted next (bearers_anew next es)
anew_counted next [] = (refl, tt)
anew_counted next (e ∷ es) =
    one_more next (e.0, record e.1 { downlink = next; awaited = 0; gap = false }) (bearers_anew (next + 1) es) refl (anew_counted (next + 1) es)

module _ {M C P : Type 0} (way : Way M C P) where
  abbrev next_of : Du M C → ℕ
  next_of r = r.next_teid

  abbrev tunnels_of : Du M C → List (ℕ × DuTunnel)
  tunnels_of r = r.tunnels

  abbrev pub Rests : Du M C → Answer M P (Du M C) → Type 0
  Rests r a = Still way next_of tunnels_of r.next_teid r.tunnels a

  abbrev pub Gives : Du M C → Answer M P (Du M C) → Type 0
  Gives r a = From way next_of tunnels_of r.next_teid r.tunnels a

  rests_gives : (r : Du M C) (a : Answer M P (Du M C)) → Rests r a → Gives r a
  rests_gives r a p = from_still way next_of tunnels_of r.next_teid r.tunnels a p

  gives_if : (r : Du M C) (t : Bool) (x y : Answer M P (Du M C)) → Gives r x → Gives r y → Gives r (if t then x else y)
  gives_if r t x y p q = from_if way next_of tunnels_of r.next_teid r.tunnels t x y p q

  rests_if : (r : Du M C) (t : Bool) (x y : Answer M P (Du M C)) → Rests r x → Rests r y → Rests r (if t then x else y)
  rests_if r t x y p q = still_if way next_of tunnels_of r.next_teid r.tunnels t x y p q

  dropped_rests : (reason : DropReason) (r : Du M C) → Rests r (drops reason r)
  dropped_rests reason r = (refl, refl, λ teid owner e. e)

  drops_gives : (reason : DropReason) (r : Du M C) → Gives r (drops reason r)
  drops_gives reason r = rests_gives r (drops reason r) (dropped_rests reason r)

  replies_rests : (ch : Channel) (m : F1 C) (r : Du M C) → Rests r (replies way ch m r)
  replies_rests ch m r =
      none_then way next_of tunnels_of r.next_teid r.tunnels (replied way r.transactions ch (f1 m)) (with_transactions r)
      (none_replied way r.transactions ch (f1 m)) (λ s. (refl, λ teid owner e. e))

  -- ---- contexts

  none_closed : (teids : List ℕ) → opened_by {M = M} {P = P} (map (λ teid. closed teid) teids) ≡ []
  none_closed [] = refl
  none_closed (t ∷ ts) = none_closed ts

  all_opened : (teids : List ℕ) → opened_by {M = M} {P = P} (map (λ teid. opened teid) teids) ≡ teids
  all_opened [] = refl
  all_opened (t ∷ ts) = ap (λ (l : List ℕ). t ∷ l) (all_opened ts)

  replaces_gives : (ue : UeId) (old : Option DuContext) (c : DuContext) (r : Du M C) → AreCounted r.next_teid c.bearers → Gives r (replaces way ue old c r)
  unfolding replaces
  replaces_gives ue old c r counted = by (teids_are_left r.next_teid (length c.bearers)) refl
    where
      opens : opened_by {M = M} {P = P} (map (λ teid. closed teid) (old_downlinks way old) ++ openings way c) ≡ count_from r.next_teid (length c.bearers)
      opens =
          first_none opened_in (map (λ teid. closed teid) (old_downlinks way old)) (openings way c) (none_closed (old_downlinks way old))
          ∙ all_opened (downlinks_of c) ∙ counted.0

      by : (t : Bool) → teids_are_left r.next_teid (length c.bearers) ≡ t
          → Gives r (if t then gives (map (λ teid. closed teid) (old_downlinks way old) ++ openings way c) (replaced way ue old c r) else spent teids_spent)
      by true left = (
        gives_counted r.next_teid (length c.bearers) _ _ opens left refl,
        grows_then r.next_teid r.tunnels r.next_teid (without_each r.tunnels (old_downlinks way old)) (teid_after r.next_teid (length c.bearers))
            (with_entries ue (without_each r.tunnels (old_downlinks way old)) c.bearers)
            (grows_less r.next_teid r.tunnels (without_each r.tunnels (old_downlinks way old)) (fewer_each (old_downlinks way old) r.tunnels))
            (grows_downlinks ue r.next_teid c.bearers (without_each r.tunnels (old_downlinks way old)) left counted.1),
      )
      by false left = tt

  replaced_gives : (ch : Channel) (ue : UeId) (old : Option DuContext) (c : DuContext) (m : F1 C) (r : Du M C) → AreCounted r.next_teid c.bearers
      → Gives r (replaces way ue old c r then replies way ch m)
  replaced_gives ch ue old c m r counted =
      from_then way next_of tunnels_of r.next_teid r.tunnels (replaces way ue old c r) (replies way ch m) (replaces_gives ue old c r counted) (replies_rests ch m)

  setup_gives : (ch : Channel) (ue : UeId) (instance epoch : ℕ) (uplinks : List Tunnel) (sn : SnBits) (peer : Peer) (r : Du M C)
      → Gives r (setup way ch ue instance epoch uplinks sn peer r)
  unfolding setup
  setup_gives ch ue instance epoch uplinks sn peer r =
      gives_if r (not (are_first_bearers (bearers_of uplinks))) _ _ (drops_gives Unexpected r)
      (replaced_gives ch ue (context_of r ue) (context_with way r epoch uplinks sn peer)
      (f1s.UeContextSetupResponse ue instance (downlink_list (context_with way r epoch uplinks sn peer))) r
      (made_counted (CuUp peer.gnb peer.up) r.next_teid uplinks))

  modify_gives : (ch : Channel) (ue : UeId) (instance epoch : ℕ) (r : Du M C) (c : Option DuContext) → Gives r (modify_on way ch ue instance epoch r c)
  modify_gives ch ue instance epoch r None = drops_gives NoContext r
  modify_gives ch ue instance epoch r (Some c) =
      replaced_gives ch ue (Some c) (context_anew way r epoch c)
      (f1s.UeContextModificationResponse ue instance (downlink_list (context_anew way r epoch c))) r (anew_counted r.next_teid c.bearers)

  none_ends : (ue : UeId) (es : Downlinks)
      → opened_by {M = M} {P = P} (map (λ e. packet e.1.up e.1.uplink ue e.0 Ul Absent end_marker) es) ≡ []
  none_ends ue [] = refl
  none_ends ue (e ∷ es) = none_ends ue es

  released_rests : (ue : UeId) (r : Du M C) (c : Option DuContext) → Rests r (released_on way ue r c)
  released_rests ue r None = (refl, refl, λ teid owner e. e)
  released_rests ue r (Some c) = (
    both opened_in (end_markers way ue c) (closings way c) (none_ends ue c.bearers) (none_closed (downlinks_of c)),
    refl,
    fewer_each (downlinks_of c) r.tunnels,
  )

  release_rests : (ch : Channel) (ue : UeId) (instance : ℕ) (r : Du M C) → Rests r (release way ch ue instance r)
  unfolding release
  release_rests ch ue instance r =
      still_then way next_of tunnels_of r.next_teid r.tunnels (replies way ch (f1s.UeContextReleaseComplete ue instance) r)
      (λ s. released_on way ue s (context_of s ue)) (replies_rests ch (f1s.UeContextReleaseComplete ue instance) r) (λ s. released_rests ue s (context_of s ue))

  -- ---- control messages

  asked_gives : (ch : Channel) (m : Message C) (r : Du M C) → Gives r (asked way ch m r)
  unfolding modify
  asked_gives ch (f1 (f1s.UeContextSetupRequest ue instance epoch uplinks sn peer)) r = setup_gives ch ue instance epoch uplinks sn peer r
  asked_gives ch (f1 (f1s.UeContextModificationRequest ue instance epoch)) r = modify_gives ch ue instance epoch r (context_of r ue)
  asked_gives ch (f1 (f1s.UeContextReleaseCommand ue instance)) r = rests_gives r (release way ch ue instance r) (release_rests ch ue instance r)
  asked_gives ch m r = drops_gives Unexpected r

  relayed_down_rests : (ue : UeId) (container : C) (r : Du M C) (c : Option DuContext) → Rests r (relayed_down way ue container r c)
  relayed_down_rests ue container r None = dropped_rests NoContext r
  relayed_down_rests ue container r (Some c) = (refl, refl, λ teid owner e. e)

  transferred_rests : (m : Message C) (r : Du M C) → Rests r (transferred way m r)
  unfolding relay_down
  transferred_rests (f1 (f1s.DlRrcMessageTransfer ue container)) r = relayed_down_rests ue container r (context_of r ue)
  transferred_rests m r = dropped_rests Unexpected r

  relayed_up_rests : (ue : UeId) (token : Token) (r : Du M C) (c : Option DuContext) → Rests r (relayed_up way ue token r c)
  relayed_up_rests ue token r None = dropped_rests NoContext r
  relayed_up_rests ue token r (Some c) = (refl, refl, λ teid owner e. e)

  terminal_rests : (ue : ℕ) (m : Message C) (r : Du M C) → Rests r (of_terminal way ue m r)
  unfolding relay_up
  terminal_rests ue (rrc token) r =
      rests_if r ((token_ue way token).0 == ue) _ (drops Unexpected r)
      (relayed_up_rests (token_ue way token) token r (context_of r (token_ue way token))) (dropped_rests Unexpected r)
  terminal_rests ue m r = dropped_rests Unexpected r

  set_up_still : (ch : Channel) (r : Du M C) → Rests r (set_up way ch r)
  unfolding set_up
  set_up_still ch r =
      none_then way next_of tunnels_of r.next_teid r.tunnels (advance way (record r.transactions { caller = close r.transactions.caller ch }) ch)
      (λ a. record r { is_set_up = true; transactions = a.transactions })
      (none_advance way (record r.transactions { caller = close r.transactions.caller ch }) ch) (λ s. (refl, λ teid owner e. e))

  of_cp_gives : (from : NodeId) (m : Message C) (r : Du M C) (k : Kind) → Gives r (of_cu_cp way from m r k)
  of_cp_gives from m r (request ue i) =
      from_request way next_of tunnels_of r r.transactions (channel ue from) i (λ t. asked way (channel ue from) m (with_transactions r t))
      (λ t. asked_gives (channel ue from) m (with_transactions r t))
  of_cp_gives from m r (reply ue i) =
      rests_gives r _ (still_reply way next_of tunnels_of r r.transactions (channel ue from) i (set_up way (channel ue from) r) (set_up_still (channel ue from) r))
  of_cp_gives from m r (transfer ue) = rests_gives r (transferred way m r) (transferred_rests m r)

  control_gives : (from : NodeId) (m : Message C) (r : Du M C) → Gives r (control_received way from m r)
  unfolding control_received
  control_gives (CuCp gnb) m r =
      gives_if r (is_same_gnb gnb r.gnb) _ (drops Unexpected r) (of_cp_gives (CuCp gnb) m r (kind_of m)) (drops_gives Unexpected r)
  control_gives (Ue ue) m r = rests_gives r (of_terminal way ue m r) (terminal_rests ue m r)
  control_gives (CuUp gnb number) m r = drops_gives Unexpected r
  control_gives (du_id gnb number) m r = drops_gives Unexpected r
  control_gives Core m r = drops_gives Unexpected r

  -- ---- packets

  none_told : (ue : UeId) (bearer : BearerId) (b : DuBearer) (poll : Bool) (number : ℕ) → opened_by (told way ue bearer b poll number) ≡ []
  none_told ue bearer b poll number = by (is_missing way b number || poll)
    where
      by : (q : Bool)
          → opened_by {M = M} {P = P} (if q then packet b.up b.uplink ue bearer Dl Absent (status (missing way b number) None) ∷ [] else []) ≡ []
      by true = refl
      by false = refl

  carried_rests : (ue : UeId) (bearer : BearerId) (c : DuContext) (gap : Bool) (pdu : Option P) (r : Du M C) → Rests r (carried way ue bearer c gap pdu r)
  carried_rests ue bearer c gap None r = (refl, refl, λ teid owner e. e)
  carried_rests ue bearer c true (Some pdu) r = (refl, refl, λ teid owner e. e)
  carried_rests ue bearer c false (Some pdu) r = (refl, refl, λ teid owner e. e)

  frame_rests : (ue : UeId) (bearer : BearerId) (c : DuContext) (b : DuBearer) (item : Taken P) (r : Du M C) → Rests r (frame_received way ue bearer c b item r)
  frame_rests ue bearer c b (frame_item poll restart number pdu) r =
      still_then way next_of tunnels_of r.next_teid r.tunnels
      (gives (told way ue bearer b poll number) (with_bearer way ue bearer c (record b { awaited = number + 1; gap = gap_after way b number restart pdu }) r))
      (carried way ue bearer c (gap_after way b number restart pdu) pdu)
      (none_told ue bearer b poll number, refl, λ teid owner e. e)
      (carried_rests ue bearer c (gap_after way b number restart pdu) pdu)
  frame_rests ue bearer c b item r = dropped_rests Unexpected r

  take_rests : (teid : ℕ) (item : Taken P) (r : Du M C) → Rests r (take way teid item r)
  unfolding take
  take_rests teid item r = by (find nat_cmp r.tunnels teid)
    where
      in_bearer : (ue : UeId) (bearer : BearerId) (c : DuContext) (b : Option DuBearer) → Rests r (taken_in way ue bearer c item r b)
      in_bearer ue bearer c None = dropped_rests NoContext r
      in_bearer ue bearer c (Some b) = frame_rests ue bearer c b item r

      in_context : (ue : UeId) (bearer : BearerId) (c : Option DuContext) → Rests r (taken_of way ue bearer item r c)
      in_context ue bearer None = dropped_rests NoContext r
      in_context ue bearer (Some c) = in_bearer ue bearer c (find bearer_cmp c.bearers bearer)

      by : (t : Option DuTunnel) → Rests r (taken_on way item r t)
      by None = dropped_rests NoTunnel r
      by (Some t) = in_context t.ue t.bearer (context_of r t.ue)

  context_rests : (r : Du M C) (row : DuContext → DuBearer → Answer M P (Du M C)) (bearer : BearerId) (c : Option DuContext)
      → ((d : DuContext) (b : DuBearer) → Rests r (row d b)) → Rests r (of_context way r row bearer c)
  context_rests r row bearer None each = dropped_rests NoContext r
  context_rests r row bearer (Some c) each = by (find bearer_cmp c.bearers bearer)
    where
      by : (b : Option DuBearer) → Rests r (of_bearer way r row c b)
      by None = dropped_rests NoContext r
      by (Some b) = each c b

  confirmed_rests : (ue : UeId) (bearer : BearerId) (r : Du M C) (b : DuBearer) (number : Option ℕ) → Rests r (confirmed way ue bearer r b number)
  confirmed_rests ue bearer r b None = (refl, refl, λ teid owner e. e)
  confirmed_rests ue bearer r b (Some number) = (refl, refl, λ teid owner e. e)

  -- ---- F1 Setup, a tick, and the table

  start_rests : (r : Du M C) → Rests r (start way r)
  unfolding start
  start_rests r =
      rests_if r r.is_set_up (nothing r) _ (refl, refl, λ teid owner e. e)
      (none_then way next_of tunnels_of r.next_teid r.tunnels (ask way r.transactions (channel 0 (CuCp r.gnb))
      (record { message = f1 (f1s.F1SetupRequest no_instance (node_text (du_node r))); deadline = None; awaited = false }))
      (λ a. with_transactions r a.transactions) (none_ask way r.transactions (channel 0 (CuCp r.gnb)) _) (λ s. (refl, λ teid owner e. e)))

  tick_rests : (r : Du M C) → Rests r (tick way r)
  unfolding tick
  tick_rests r = (none_due way (due_output way) (λ c m. refl) (λ c. refl) (due r.transactions.caller), refl, λ teid owner e. e)

  pub du_gives : (r : Du M C) (input : Input C P) → Gives r (du_acts way r input)
  unfolding du_acts pass_up confirm
  du_gives r (control_input from m) = control_gives from m r
  du_gives r (packet_input teid item) = rests_gives r (take way teid item r) (take_rests teid item r)
  du_gives r (radio_input ue bearer Ul pdu content) =
      rests_gives r _ (context_rests r (λ c b. puts (packet b.up b.uplink ue bearer Ul Same (uplink pdu)) r) bearer (context_of r ue)
      (λ d b. (refl, refl, λ teid owner e. e)))
  du_gives r (radio_input ue bearer Dl pdu content) = drops_gives Unexpected r
  du_gives r (confirm_input ue bearer Dl pdu content) =
      rests_gives r _ (context_rests r (λ c b. confirmed way ue bearer r b (way.number c.sn pdu)) bearer (context_of r ue)
      (λ d b. confirmed_rests ue bearer r b (way.number d.sn pdu)))
  du_gives r (confirm_input ue bearer Ul pdu content) = drops_gives Unexpected r
  du_gives r (offer_input ue bearer p) = drops_gives Unexpected r
  du_gives r tick_input = rests_gives r (tick way r) (tick_rests r)
  du_gives r (order_input orders.Start) = rests_gives r (start way r) (start_rests r)
  du_gives r (order_input order) = drops_gives Unexpected r
