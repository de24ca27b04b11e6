-- What a DU does for a terminal: all that it puts out is the terminal's, and the projections of the others stay.
use Rattle.std.proofs.Common.{◌≡◌, ◌≤◌, ℕ, ◌+◌, ◌-◌, ◌==◌, Bool, true, false, not, ◌&&◌, ◌||◌, nat_le, cond, List, [], ◌∷◌, ◌++◌, length, map, Option, Some, None, refl, sym, ap, ◌∙◌, subst, arith, eqb-true}
use Rattle.std.specs.Prelude.{◌≢◌, if◌then◌else◌}
use Rattle.std.specs.List.{AllByRecursion}
use Rattle.std.specs.Cmp.{nat_cmp_total, Equal-is}
use Rattle.std.proofs.lemmas.Map.Lookups.{exact_unsigned}
use Rattle.tables.proofs.TableLaws.{find-put, find-without, find-put-other, find-without-other}
use Rattle.unit_defs.specs.Teids.{last_teid, teids_are_left, without_each}
use Rattle.law_terminals_are_isolated.specs.projections.Steps.{IsFor, PutsFor, StaysFor}
use Rattle.law_terminals_are_isolated.proofs.projections.Answers.{all_append, puts_then, puts_if}
use Rattle.law_terminals_are_isolated.proofs.projections.Tables.{apart_numbers, apart_ues}
use Rattle.law_terminals_are_isolated.proofs.projections.Apart.{Leaves, then_leaves, closed_leaves, ask_asks, advance_asks, replied_puts, on_request_puts, on_reply_puts}
use Rattle.law_terminals_are_isolated.specs.du_projection.Dus.{DuProjection, own_tunnel, du_projection, tunnel_ue, du_ue, IsApart}
use Rattle.std.specs.Ordering.{nat_cmp, eq_by_cmp}
use Rattle.gnb_types.specs.declared.inputs.Order.{Order}
use Rattle.gnb_types.specs.declared.names.NodeId.{NodeId}
use Rattle.gnb_types.specs.declared.names.NodeId.TheVariants.{CuCp, CuUp, Du as du_id, Core, Ue}
use Rattle.gnb_types.specs.declared.names.UeId.{UeId}
use Rattle.gnb_types.specs.declared.names.BearerId.{BearerId}
use Rattle.gnb_types.specs.declared.names.SnBits.{SnBits}
use Rattle.gnb_types.specs.declared.names.Dir.TheVariants.{Dl, Ul}
use Rattle.gnb_types.specs.declared.plans.Peer.{Peer}
use Rattle.gnb_types.specs.declared.plans.Tunnel.{Tunnel}
use Rattle.gnb_types.specs.declared.inputs.Order.TheVariants as orders
use Rattle.gnb_types.specs.declared.outputs.Tag.TheVariants.{Absent}
use Rattle.gnb_types.specs.declared.reasons.DropReason.TheVariants.{NoTunnel, Unexpected}
use Rattle.gnb_types.specs.Orders.{bearer_cmp}
use Rattle.gnb_types.proofs.OrderLemmas.{ue_total}
use Rattle.tables.specs.Tables.{find, put, without}
use Rattle.transaction_defs.specs.Callers.{close}
use Rattle.message_types.specs.declared.f1.F1.{F1}
use Rattle.message_types.specs.declared.f1.F1.TheVariants as f1s
use Rattle.message_types.specs.declared.rrc.Token.{Token}
use Rattle.unit_defs.specs.Ways.{Message, f1, rrc, status, end_marker, Load, Taken, frame_item, packet, opened, closed, Input, control_input, packet_input, radio_input, confirm_input, offer_input, tick_input, order_input, Way, Answer, gives, spent, ◌then◌, nothing, drops, teids_spent}
use Rattle.unit_defs.specs.Messages.{channel, is_same_gnb, bearers_of, are_first_bearers}
use Rattle.unit_defs.specs.Transactions.{Kind, request, reply, transfer, kind_of, Transactions, advance, replied}
use Rattle.unit_defs.specs.Du.{DuBearer, DuContext, DuTunnel, Du, context_of, with_transactions, downlinks_of, downlink_list, with_entries, bearers_made, bearers_anew, replies, closings, openings, old_downlinks, replaced, replaces, context_with, setup, context_anew, modify_on, modify, end_markers, released_on, release, relayed_down, relay_down, relayed_up, relay_up, token_ue, start, set_up, asked, transferred, of_cu_cp, of_terminal, control_received, missing, is_missing, told, gap_after, carried, with_bearer, frame_received, taken_in, taken_of, taken_on, take, of_bearer, of_context, pass_up, confirmed, confirm, du_acts}
use Rattle.law_terminals_are_isolated.specs.projections.Projections.{ue_in, message_ue, order_ue}

pub all_then : {X : Type 0} (P Q : X → Type 0) (xs : List X) → ((x : X) → P x → Q x) → AllByRecursion P xs → AllByRecursion Q xs
all_then P Q [] each all = tt
all_then P Q (x ∷ xs) each all = (each x all.0, all_then P Q xs each all.1)

-- ---- the open TEIDs of another terminal

own_apart : (other : UeId) (t : DuTunnel) → other ≢ t.ue → own_tunnel other (Some t) ≡ None
own_apart other t apart = by (t.ue.0 == other.0) refl
  where
    by : (b : Bool) → (t.ue.0 == other.0) ≡ b → (if b then Some t else None) ≡ None
    by true e = absurd (apart_numbers other t.ue apart (sym (eqb-true t.ue.0 other.0 e)))
    by false e = refl

same_key : (a b : ℕ) → eq_by_cmp nat_cmp a b ≡ true → a ≡ b
same_key a b h = exact_unsigned a b ((Equal-is (nat_cmp a b)).0 h)

module _ (other : UeId) (was : List (ℕ × DuTunnel)) where
  abbrev NotOwn : ℕ → Type 0
  NotOwn teid = own_tunnel other (find nat_cmp was teid) ≡ None

  abbrev Quiet : List (ℕ × DuTunnel) → Type 0
  Quiet m = (teid : ℕ) → own_tunnel other (find nat_cmp m teid) ≡ own_tunnel other (find nat_cmp was teid)

  at_key : (k teid : ℕ) (v x : Option DuTunnel) (b : Bool) → eq_by_cmp nat_cmp teid k ≡ b → own_tunnel other v ≡ None → NotOwn k
      → own_tunnel other x ≡ own_tunnel other (find nat_cmp was teid) → own_tunnel other (cond b v x) ≡ own_tunnel other (find nat_cmp was teid)
  at_key k teid v x true tie none here same = none ∙ sym (subst NotOwn (sym (same_key teid k tie)) here)
  at_key k teid v x false tie none here same = same

  put_quiet : (m : List (ℕ × DuTunnel)) (k : ℕ) (t : DuTunnel) → other ≢ t.ue → NotOwn k → Quiet m → Quiet (put nat_cmp m k t)
  put_quiet m k t apart here quiet teid =
      ap (own_tunnel other) (find-put nat_cmp_total m k t teid)
      ∙ at_key k teid (Some t) (find nat_cmp m teid) (eq_by_cmp nat_cmp teid k) refl (own_apart other t apart) here (quiet teid)

  without_quiet : (m : List (ℕ × DuTunnel)) (k : ℕ) → NotOwn k → Quiet m → Quiet (without nat_cmp m k)
  without_quiet m k here quiet teid =
      ap (own_tunnel other) (find-without nat_cmp_total m k teid)
      ∙ at_key k teid None (find nat_cmp m teid) (eq_by_cmp nat_cmp teid k) refl refl here (quiet teid)

  each_quiet : (ts : List ℕ) (m : List (ℕ × DuTunnel)) → AllByRecursion NotOwn ts → Quiet m → Quiet (without_each m ts)
  each_quiet [] m all quiet = quiet
  each_quiet (t ∷ ts) m all quiet = each_quiet ts (without nat_cmp m t) all.1 (without_quiet m t all.0 quiet)

  entries_quiet : (ue : UeId) (es : List (BearerId × DuBearer)) (m : List (ℕ × DuTunnel)) → other ≢ ue
      → AllByRecursion (λ (e : BearerId × DuBearer). NotOwn e.1.downlink) es → Quiet m → Quiet (with_entries ue m es)
  entries_quiet ue [] m apart all quiet = quiet
  entries_quiet ue (e ∷ es) m apart all quiet =
      entries_quiet ue es (put nat_cmp m e.1.downlink (record { ue = ue; bearer = e.0 })) apart all.1
      (put_quiet m e.1.downlink (record { ue = ue; bearer = e.0 }) apart all.0 quiet)

  not_own : (ue : UeId) (teid : ℕ) → other ≢ ue → ((owner : DuTunnel) → find nat_cmp was teid ≡ Some owner → owner.ue ≡ ue) → NotOwn teid
  not_own ue teid apart owned = by (find nat_cmp was teid) refl
    where
      by : (o : Option DuTunnel) → find nat_cmp was teid ≡ o → own_tunnel other o ≡ None
      by None e = refl
      by (Some t) e = own_apart other t (λ same. apart (same ∙ owned t e))

-- ---- downlinks that come next

abbrev AreAbove : ℕ → List (BearerId × DuBearer) → Type 0
AreAbove next es = AllByRecursion (λ (e : BearerId × DuBearer). next ≤ e.1.downlink) es

made_above : (up : NodeId) (low next : ℕ) (ts : List Tunnel) → low ≤ next → AreAbove low (bearers_made up next ts)
made_above up low next [] p = tt
made_above up low next (t ∷ ts) p = (p, made_above up low (next + 1) ts (omega (arith, p)))

anew_above : (low next : ℕ) (es : List (BearerId × DuBearer)) → low ≤ next → AreAbove low (bearers_anew next es)
anew_above low next [] p = tt
anew_above low next (e ∷ es) p = (p, anew_above low (next + 1) es (omega (arith, p)))

first_not : (t b : Bool) → not t && b ≡ true → t ≡ false
first_not true b h = absurd cc
first_not false b h = refl

module _ {M C P : Type 0} (way : Way M C P) where
  abbrev pub Stays : UeId → Du M C → Du M C → Type 0
  Stays ue r q = StaysFor du_projection ue r q

  abbrev pub Steps : UeId → Du M C → Answer M P (Du M C) → Type 0
  Steps ue r a = PutsFor ue.0 (Stays ue r) a

  with_stays : (ue : UeId) (r q : Du M C) (t : Transactions M C) → Stays ue r q → Leaves way ue.0 q.transactions t → Stays ue r (with_transactions q t)
  with_stays ue r q t stays leaves other apart = λ i. record (stays other apart i) {
    requests = (leaves other.0 (apart_numbers other ue apart) ∙ ap (λ (s : DuProjection M C). s.requests) (stays other apart)) i;
  }

  replies_puts : (H : Du M C → Type 0) (ue : UeId) (from : NodeId) (m : F1 C) (q : Du M C)
      → ((t : Transactions M C) → Leaves way ue.0 q.transactions t → H (with_transactions q t)) → PutsFor ue.0 H (replies way (channel ue.0 from) m q)
  replies_puts H ue from m q each =
      puts_then ue.0 (Leaves way ue.0 q.transactions) H (replied way q.transactions (channel ue.0 from) (f1 m)) (λ t. nothing (with_transactions q t))
      (replied_puts way q.transactions (channel ue.0 from) (f1 m)) (λ t leaves. (tt, each t leaves))

  replies_steps : (from : NodeId) (m : F1 C) (ue : UeId) (r q : Du M C) → Stays ue r q → Steps ue r (replies way (channel ue.0 from) m q)
  replies_steps from m ue r q stays = replies_puts (Stays ue r) ue from m q (λ t leaves. with_stays ue r q t stays leaves)

  -- ---- contexts

  closed_for : (ue : ℕ) (ts : List ℕ) → AllByRecursion (IsFor {M = M} {L = Load P} {P = P} ue) (map (λ teid. closed teid) ts)
  closed_for ue [] = tt
  closed_for ue (t ∷ ts) = (tt, closed_for ue ts)

  opened_for : (ue : ℕ) (ts : List ℕ) → AllByRecursion (IsFor {M = M} {L = Load P} {P = P} ue) (map (λ teid. opened teid) ts)
  opened_for ue [] = tt
  opened_for ue (t ∷ ts) = (tt, opened_for ue ts)

  old_not_own : (ue other : UeId) (q : Du M C) (o : Option DuContext) → IsApart q → other ≢ ue → context_of q ue ≡ o
      → AllByRecursion (NotOwn other q.tunnels) (old_downlinks way o)
  old_not_own ue other q None free apart is = tt
  old_not_own ue other q (Some c) free apart is =
      all_then _ (NotOwn other q.tunnels) (downlinks_of c) (λ teid owned. not_own other q.tunnels ue teid apart owned) (free.0 ue c is)

  new_not_own : (other : UeId) (q : Du M C) (es : List (BearerId × DuBearer)) → IsApart q → (q.next_teid == 0) ≡ false → AreAbove q.next_teid es
      → AllByRecursion (λ (e : BearerId × DuBearer). NotOwn other q.tunnels e.1.downlink) es
  new_not_own other q es free some above =
      all_then (λ (e : BearerId × DuBearer). q.next_teid ≤ e.1.downlink) (λ (e : BearerId × DuBearer). NotOwn other q.tunnels e.1.downlink) es
      (λ e p. ap (own_tunnel other) (free.1 some e.1.downlink p)) above

  replaced_stays : (ue : UeId) (c : DuContext) (r q : Du M C) → IsApart q → Stays ue r q → (q.next_teid == 0) ≡ false → AreAbove q.next_teid c.bearers
      → (o : Option DuContext) → context_of q ue ≡ o → Stays ue r (replaced way ue o c q)
  replaced_stays ue c r q free stays some above o is other apart = λ i. record {
    context = (find-put-other ue_total q.contexts ue c other (apart_ues other ue apart) ∙ ap (λ (s : DuProjection M C). s.context) (stays other apart)) i;
    tunnels = λ teid. (entries_quiet other q.tunnels ue c.bearers (without_each q.tunnels (old_downlinks way o)) apart
        (new_not_own other q c.bearers free some above)
        (each_quiet other q.tunnels (old_downlinks way o) q.tunnels (old_not_own ue other q o free apart is) (λ t. refl)) teid
        ∙ ap (λ (s : DuProjection M C). s.tunnels teid) (stays other apart)) i;
    requests = (stays other apart i).requests;
  }

  replaces_steps : (ue : UeId) (c : DuContext) (r q : Du M C) → IsApart q → Stays ue r q → AreAbove q.next_teid c.bearers
      → (o : Option DuContext) → context_of q ue ≡ o → Steps ue r (replaces way ue o c q)
  unfolding replaces
  replaces_steps ue c r q free stays above o is = by (teids_are_left q.next_teid (length c.bearers)) refl
    where
      by : (b : Bool) → teids_are_left q.next_teid (length c.bearers) ≡ b → Steps ue r
          (if b then gives (map (λ teid. closed teid) (old_downlinks way o) ++ openings way c) (replaced way ue o c q) else spent teids_spent)
      by true left = (
        all_append (IsFor ue.0) (map (λ teid. closed teid) (old_downlinks way o)) (openings way c) (closed_for ue.0 (old_downlinks way o))
            (opened_for ue.0 (downlinks_of c)),
        replaced_stays ue c r q free stays (first_not (q.next_teid == 0) (nat_le (q.next_teid + length c.bearers - 1) last_teid) left) above o is,
      )
      by false left = tt

  renews_steps : (from : NodeId) (m : F1 C) (ue : UeId) (c : DuContext) (r q : Du M C) → IsApart q → Stays ue r q → AreAbove q.next_teid c.bearers
      → (o : Option DuContext) → context_of q ue ≡ o → Steps ue r (replaces way ue o c q then replies way (channel ue.0 from) m)
  renews_steps from m ue c r q free stays above o is =
      puts_then ue.0 (Stays ue r) (Stays ue r) (replaces way ue o c q) (replies way (channel ue.0 from) m) (replaces_steps ue c r q free stays above o is)
      (λ s t. replies_steps from m ue r s t)

  setup_steps : (from : NodeId) (ue : UeId) (instance epoch : ℕ) (uplinks : List Tunnel) (sn : SnBits) (peer : Peer) (r q : Du M C) → IsApart q
      → Stays ue r q → Steps ue r (setup way (channel ue.0 from) ue instance epoch uplinks sn peer q)
  unfolding setup
  setup_steps from ue instance epoch uplinks sn peer r q free stays =
      puts_if ue.0 (Stays ue r) (not (are_first_bearers (bearers_of uplinks))) _ _ ((tt, tt), stays)
      (renews_steps from (f1s.UeContextSetupResponse ue instance (downlink_list made)) ue made r q free stays
      (made_above (CuUp peer.gnb peer.up) q.next_teid q.next_teid uplinks (omega arith)) (context_of q ue) refl)
    where
      made : DuContext
      made = context_with way q epoch uplinks sn peer

  modify_steps : (from : NodeId) (ue : UeId) (instance epoch : ℕ) (r q : Du M C) → IsApart q → Stays ue r q
      → Steps ue r (modify way (channel ue.0 from) ue instance epoch q)
  unfolding modify
  modify_steps from ue instance epoch r q free stays = by (context_of q ue) refl
    where
      by : (o : Option DuContext) → context_of q ue ≡ o → Steps ue r (modify_on way (channel ue.0 from) ue instance epoch q o)
      by None is = ((tt, tt), stays)
      by (Some c) is =
          renews_steps from (f1s.UeContextModificationResponse ue instance (downlink_list (context_anew way q epoch c))) ue (context_anew way q epoch c) r q free stays
          (anew_above q.next_teid q.next_teid c.bearers (omega arith)) (Some c) is

  markers_for : (ue : UeId) (es : List (BearerId × DuBearer))
      → AllByRecursion (IsFor {M = M} {L = Load P} {P = P} ue.0) (map (λ e. packet e.1.up e.1.uplink ue e.0 Ul Absent end_marker) es)
  markers_for ue [] = tt
  markers_for ue (e ∷ es) = (refl, markers_for ue es)

  released_steps : (ue : UeId) (r q : Du M C) → IsApart q → Stays ue r q → (o : Option DuContext) → context_of q ue ≡ o → Steps ue r (released_on way ue q o)
  released_steps ue r q free stays None is = (tt, stays)
  released_steps ue r q free stays (Some c) is = (
    all_append (IsFor ue.0) (end_markers way ue c) (closings way c) (markers_for ue c.bearers) (closed_for ue.0 (downlinks_of c)),
    λ other apart i. record {
      context = (find-without-other ue_total q.contexts ue other (apart_ues other ue apart) ∙ ap (λ (s : DuProjection M C). s.context) (stays other apart)) i;
      tunnels = λ teid. (each_quiet other q.tunnels (downlinks_of c) q.tunnels (old_not_own ue other q (Some c) free apart is) (λ t. refl) teid
          ∙ ap (λ (s : DuProjection M C). s.tunnels teid) (stays other apart)) i;
      requests = (stays other apart i).requests;
    },
  )

  release_steps : (from : NodeId) (ue : UeId) (instance : ℕ) (r q : Du M C) → IsApart q → Stays ue r q
      → Steps ue r (release way (channel ue.0 from) ue instance q)
  unfolding release
  release_steps from ue instance r q free stays =
      puts_then ue.0 (λ (s : Du M C). IsApart s × Stays ue r s) (Stays ue r) (replies way (channel ue.0 from) (f1s.UeContextReleaseComplete ue instance) q)
      (λ s. released_on way ue s (context_of s ue))
      (replies_puts (λ s. IsApart s × Stays ue r s) ue from (f1s.UeContextReleaseComplete ue instance) q (λ t leaves. (free, with_stays ue r q t stays leaves)))
      (λ s h. released_steps ue r s h.0 h.1 (context_of s ue) refl)

  -- ---- what is passed on

  down_steps : (ue : UeId) (container : C) (r q : Du M C) → Stays ue r q → Steps ue r (relay_down way ue container q)
  unfolding relay_down
  down_steps ue container r q stays = by (context_of q ue)
    where
      by : (o : Option DuContext) → Steps ue r (relayed_down way ue container q o)
      by None = ((tt, tt), stays)
      by (Some c) = ((refl, tt), stays)

  up_steps : (ue : UeId) (token : Token) (r q : Du M C) → Stays ue r q → Steps ue r (relay_up way ue token q)
  unfolding relay_up
  up_steps ue token r q stays = by (context_of q ue)
    where
      by : (o : Option DuContext) → Steps ue r (relayed_up way ue token q o)
      by None = ((tt, tt), stays)
      by (Some c) = ((refl, tt), stays)

  -- ---- F1 Setup

  abbrev at : ℕ → UeId
  at n = record { 0 = n }

  start_steps : (r q : Du M C) → Stays (at 0) r q → Steps (at 0) r (start way q)
  unfolding start
  start_steps r q stays =
      puts_if 0 (Stays (at 0) r) q.is_set_up _ _ (tt, stays)
      (puts_then 0 _ (Stays (at 0) r) _ (λ a. nothing (with_transactions q a.transactions)) (ask_asks way q.transactions (channel 0 (CuCp q.gnb)) _)
      (λ a leaves. (tt, with_stays (at 0) r q a.transactions stays leaves)))

  set_up_steps : (ue : UeId) (from : NodeId) (r q : Du M C) → Stays ue r q → Steps ue r (set_up way (channel ue.0 from) q)
  unfolding set_up
  set_up_steps ue from r q stays =
      puts_then ue.0 _ (Stays ue r) (advance way shut (channel ue.0 from)) (λ a. nothing (record q { is_set_up = true; transactions = a.transactions }))
      (advance_asks way shut (channel ue.0 from))
      (λ a leaves. (
        tt,
        with_stays ue r (record q { is_set_up = true }) a.transactions stays
            (then_leaves way ue.0 q.transactions shut a.transactions (closed_leaves way q.transactions (channel ue.0 from)) leaves),
      ))
    where
      shut : Transactions M C
      shut = record q.transactions { caller = close q.transactions.caller (channel ue.0 from) }

  -- ---- control

  request_steps : (from : NodeId) (m : Message C) (n instance : ℕ) → kind_of m ≡ request n instance → (r q : Du M C) → IsApart q → Stays (at n) r q
      → Steps (at n) r (asked way (channel n from) m q)
  unfolding kind_of
  request_steps from (f1 (f1s.UeContextSetupRequest ue i epoch uplinks sn peer)) n instance k r q free stays =
      subst (λ (x : ℕ). Stays (at x) r q → Steps (at x) r (setup way (channel x from) ue i epoch uplinks sn peer q))
      (ap (λ (x : Kind). (ue_in x).0) k) (setup_steps from ue i epoch uplinks sn peer r q free) stays
  request_steps from (f1 (f1s.UeContextModificationRequest ue i epoch)) n instance k r q free stays =
      subst (λ (x : ℕ). Stays (at x) r q → Steps (at x) r (modify way (channel x from) ue i epoch q))
      (ap (λ (x : Kind). (ue_in x).0) k) (modify_steps from ue i epoch r q free) stays
  request_steps from (f1 (f1s.UeContextReleaseCommand ue i)) n instance k r q free stays =
      subst (λ (x : ℕ). Stays (at x) r q → Steps (at x) r (release way (channel x from) ue i q))
      (ap (λ (x : Kind). (ue_in x).0) k) (release_steps from ue i r q free) stays
  request_steps from m n instance k r q free stays = ((tt, tt), stays)

  transferred_steps : (m : Message C) (n : ℕ) → kind_of m ≡ transfer n → (r q : Du M C) → Stays (at n) r q → Steps (at n) r (transferred way m q)
  unfolding kind_of
  transferred_steps (f1 (f1s.DlRrcMessageTransfer ue container)) n k r q stays =
      subst (λ (x : ℕ). Stays (at x) r q → Steps (at x) r (relay_down way ue container q))
      (ap (λ (x : Kind). (ue_in x).0) k) (down_steps ue container r q) stays
  transferred_steps m n k r q stays = ((tt, tt), stays)

  itself : (ue : UeId) (r : Du M C) → Stays ue r r
  itself ue r other apart = refl

  of_cp_steps : (from : NodeId) (m : Message C) (k : Kind) → kind_of m ≡ k → (r : Du M C) → IsApart r → Steps (ue_in k) r (of_cu_cp way from m r k)
  of_cp_steps from m (request n instance) k r free =
      on_request_puts way (Stays (at n) r) r r.transactions (channel n from) instance (itself (at n) r) _
      (λ t leaves. request_steps from m n instance k r (with_transactions r t) free (with_stays (at n) r r t (itself (at n) r) leaves))
  of_cp_steps from m (reply n instance) k r free =
      on_reply_puts way (Stays (at n) r) r r.transactions (channel n from) instance (itself (at n) r) _ (set_up_steps (at n) from r r (itself (at n) r))
  of_cp_steps from m (transfer n) k r free = transferred_steps m n k r r (itself (at n) r)

  of_token_steps : (n : ℕ) (token : Token) (r : Du M C) (b : Bool) → ((token_ue way token).0 == n) ≡ b
      → Steps (at n) r (if b then relay_up way (token_ue way token) token r else drops Unexpected r)
  of_token_steps n token r true its =
      subst (λ (x : ℕ). Steps (at x) r (relay_up way (token_ue way token) token r)) (eqb-true (token_ue way token).0 n its)
      (up_steps (token_ue way token) token r r (itself (token_ue way token) r))
  of_token_steps n token r false its = ((tt, tt), itself (at n) r)

  of_terminal_steps : (n : ℕ) (m : Message C) (r : Du M C) → Steps (at n) r (of_terminal way n m r)
  of_terminal_steps n (rrc token) r = of_token_steps n token r ((token_ue way token).0 == n) refl
  of_terminal_steps n m r = ((tt, tt), itself (at n) r)

  control_steps : (from : NodeId) (m : Message C) (r : Du M C) → IsApart r → Steps (message_ue from m) r (control_received way from m r)
  unfolding control_received
  control_steps (CuCp gnb) m r free =
      puts_if (message_ue (CuCp gnb) m).0 (Stays (message_ue (CuCp gnb) m) r) (is_same_gnb gnb r.gnb) _ _ (of_cp_steps (CuCp gnb) m (kind_of m) refl r free)
      ((tt, tt), itself (message_ue (CuCp gnb) m) r)
  control_steps (Ue n) m r free = of_terminal_steps n m r
  control_steps (CuUp gnb number) m r free = ((tt, tt), itself _ r)
  control_steps (du_id gnb number) m r free = ((tt, tt), itself _ r)
  control_steps Core m r free = ((tt, tt), itself _ r)

  -- ---- frames, and the radio

  carried_steps : (ue : UeId) (bearer : BearerId) (c : DuContext) (gap : Bool) (pdu : Option P) (r q : Du M C) → Stays ue r q
      → Steps ue r (carried way ue bearer c gap pdu q)
  carried_steps ue bearer c gap None r q stays = (tt, stays)
  carried_steps ue bearer c true (Some pdu) r q stays = ((tt, tt), stays)
  carried_steps ue bearer c false (Some pdu) r q stays = ((refl, tt), stays)

  told_for : (ue : UeId) (bearer : BearerId) (b : DuBearer) (poll : Bool) (number : ℕ) → AllByRecursion (IsFor ue.0) (told way ue bearer b poll number)
  told_for ue bearer b poll number = by (is_missing way b number || poll)
    where
      by : (t : Bool) → AllByRecursion (IsFor {M = M} {L = Load P} {P = P} ue.0)
          (if t then packet b.up b.uplink ue bearer Dl Absent (status (missing way b number) None) ∷ [] else [])
      by true = (refl, tt)
      by false = tt

  bearer_stays : (ue : UeId) (bearer : BearerId) (c : DuContext) (b : DuBearer) (r : Du M C) → Stays ue r (with_bearer way ue bearer c b r)
  bearer_stays ue bearer c b r other apart = λ i. record (du_projection other r) {
    context = find-put-other ue_total r.contexts ue (record c { bearers = put bearer_cmp c.bearers bearer b }) other (apart_ues other ue apart) i;
  }

  frame_steps : (ue : UeId) (bearer : BearerId) (c : DuContext) (b : DuBearer) (item : Taken P) (r : Du M C) → Steps ue r (frame_received way ue bearer c b item r)
  frame_steps ue bearer c b (frame_item poll restart number pdu) r =
      puts_then ue.0 (Stays ue r) (Stays ue r) (gives (told way ue bearer b poll number) (with_bearer way ue bearer c after r))
      (carried way ue bearer c (gap_after way b number restart pdu) pdu) (told_for ue bearer b poll number, bearer_stays ue bearer c after r)
      (λ s stays. carried_steps ue bearer c (gap_after way b number restart pdu) pdu r s stays)
    where
      after : DuBearer
      after = record b { awaited = number + 1; gap = gap_after way b number restart pdu }
  frame_steps ue bearer c b item r = ((tt, tt), itself ue r)

  taken_steps : (ue : UeId) (bearer : BearerId) (item : Taken P) (r : Du M C) (o : Option DuContext) → Steps ue r (taken_of way ue bearer item r o)
  taken_steps ue bearer item r None = ((tt, tt), itself ue r)
  taken_steps ue bearer item r (Some c) = by (find bearer_cmp c.bearers bearer)
    where
      by : (o : Option DuBearer) → Steps ue r (taken_in way ue bearer c item r o)
      by None = ((tt, tt), itself ue r)
      by (Some b) = frame_steps ue bearer c b item r

  take_steps : (item : Taken P) (ue : UeId) (r : Du M C) (o : Option DuTunnel) → tunnel_ue o ≡ Some ue → Steps ue r (taken_on way item r o)
  take_steps item ue r None is = absurd cc
  take_steps item ue r (Some t) is =
      subst (λ (v : UeId). Steps v r (taken_of way t.ue t.bearer item r (context_of r t.ue))) (some_ue t.ue ue is)
      (taken_steps t.ue t.bearer item r (context_of r t.ue))
    where
      some_ue : (a b : UeId) → Some a ≡ Some b → a ≡ b
      some_ue a b e = cc

  in_context_steps : (ue : UeId) (bearer : BearerId) (row : DuContext → DuBearer → Answer M P (Du M C)) (r : Du M C)
      → ((c : DuContext) (b : DuBearer) → Steps ue r (row c b)) → (o : Option DuContext) → Steps ue r (of_context way r row bearer o)
  in_context_steps ue bearer row r each None = ((tt, tt), itself ue r)
  in_context_steps ue bearer row r each (Some c) = by (find bearer_cmp c.bearers bearer)
    where
      by : (o : Option DuBearer) → Steps ue r (of_bearer way r row c o)
      by None = ((tt, tt), itself ue r)
      by (Some b) = each c b

  confirmed_steps : (ue : UeId) (bearer : BearerId) (b : DuBearer) (number : Option ℕ) (r : Du M C) → Steps ue r (confirmed way ue bearer r b number)
  confirmed_steps ue bearer b None r = (tt, itself ue r)
  confirmed_steps ue bearer b (Some number) r = ((refl, tt), itself ue r)

  -- ---- the table

  abbrev Acts : Input C P → Du M C → UeId → Type 0
  Acts input r ue = Steps ue r (du_acts way r input)

  given : (input : Input C P) (r : Du M C) (own ue : UeId) → Some own ≡ Some ue → Acts input r own → Acts input r ue
  given input r own ue is acts = subst (Acts input r) (some_ue own ue is) acts
    where
      some_ue : (a b : UeId) → Some a ≡ Some b → a ≡ b
      some_ue a b e = cc

  order_steps : (order : Order) (r : Du M C) → Acts (order_input order) r (order_ue order)
  unfolding du_acts
  order_steps orders.Start r = start_steps r r (itself (at 0) r)
  order_steps order r = ((tt, tt), itself _ r)

  pub du_steps : (ue : UeId) (input : Input C P) (r : Du M C) → IsApart r → du_ue r input ≡ Some ue → Steps ue r (du_acts way r input)
  unfolding du_acts take pass_up confirm
  du_steps ue (control_input from m) r free is = given (control_input from m) r (message_ue from m) ue is (control_steps from m r free)
  du_steps ue (packet_input teid item) r free is = take_steps item ue r (find nat_cmp r.tunnels teid) is
  du_steps ue (radio_input v bearer Ul pdu content) r free is =
      given (radio_input v bearer Ul pdu content) r v ue is
      (in_context_steps v bearer _ r (λ c b. ((refl, tt), itself v r)) (context_of r v))
  du_steps ue (radio_input v bearer Dl pdu content) r free is = ((tt, tt), itself ue r)
  du_steps ue (confirm_input v bearer Dl pdu content) r free is =
      given (confirm_input v bearer Dl pdu content) r v ue is
      (in_context_steps v bearer _ r (λ c b. confirmed_steps v bearer b (way.number c.sn pdu) r) (context_of r v))
  du_steps ue (confirm_input v bearer Ul pdu content) r free is = ((tt, tt), itself ue r)
  du_steps ue (offer_input v bearer p) r free is = ((tt, tt), itself ue r)
  du_steps ue tick_input r free is = absurd cc
  du_steps ue (order_input order) r free is = given (order_input order) r (order_ue order) ue is (order_steps order r)

  pub unknown_drops : (teid : ℕ) (item : Taken P) (r : Du M C) → find nat_cmp r.tunnels teid ≡ None
      → du_acts way r (packet_input teid item) ≡ drops NoTunnel r
  unfolding du_acts take
  unknown_drops teid item r none = ap (taken_on way item r) none
