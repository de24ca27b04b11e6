-- What a DU does for a terminal depends on the terminal's projection, and on what is shared.
use Rattle.std.proofs.Common.{◌≡◌, ℕ, ◌+◌, ◌==◌, Bool, true, false, not, cond, List, [], ◌∷◌, ◌++◌, length, map, Option, Some, None, refl, sym, ap, ◌∙◌, subst}
use Rattle.std.specs.Prelude.{if◌then◌else◌}
use Rattle.std.specs.Ordering.{nat_cmp, eq_by_cmp}
use Rattle.std.specs.Cmp.{nat_cmp_total}
use Rattle.std.proofs.lemmas.Bool.{eq-eqb, eqb-true}
use Rattle.gnb_types.specs.declared.inputs.Order.{Order}
use Rattle.gnb_types.specs.declared.names.Gnb.{Gnb}
use Rattle.gnb_types.specs.declared.names.NodeId.{NodeId}
use Rattle.gnb_types.specs.declared.names.NodeId.TheVariants.{CuCp, CuUp, Du as du_id, Core, Ue}
use Rattle.gnb_types.specs.declared.names.UeId.{UeId}
use Rattle.gnb_types.specs.declared.names.BearerId.{BearerId}
use Rattle.gnb_types.specs.declared.names.SnBits.{SnBits}
use Rattle.gnb_types.specs.declared.names.Dir.TheVariants.{Dl, Ul}
use Rattle.gnb_types.specs.declared.plans.Peer.{Peer}
use Rattle.gnb_types.specs.declared.plans.Tunnel.{Tunnel}
use Rattle.gnb_types.specs.declared.inputs.Order.TheVariants as orders
use Rattle.gnb_types.specs.declared.outputs.Tag.TheVariants.{Same as same_tag}
use Rattle.gnb_types.specs.declared.reasons.DropReason.TheVariants.{NoContext, Gap, Unexpected}
use Rattle.gnb_types.specs.Names.{node_text}
use Rattle.gnb_types.specs.Orders.{bearer_cmp}
use Rattle.gnb_types.proofs.OrderLemmas.{ue_total}
use Rattle.tables.specs.Tables.{find, put, without}
use Rattle.tables.proofs.TableLaws.{find-put, find-without}
use Rattle.transaction_defs.specs.Callers.{close}
use Rattle.message_types.specs.declared.f1.F1.{F1}
use Rattle.message_types.specs.declared.f1.F1.TheVariants as f1s
use Rattle.message_types.specs.declared.rrc.Token.{Token}
use Rattle.unit_defs.specs.Ways.{Message, f1, rrc, uplink, status, Taken, frame_item, packet, radio, control, closed, dropped, Input, control_input, packet_input, radio_input, confirm_input, offer_input, tick_input, order_input, Output, Way, Answer, gives, ◌then◌, nothing, drops}
use Rattle.unit_defs.specs.Messages.{channel, is_same_gnb, bearers_of, are_first_bearers}
use Rattle.unit_defs.specs.Teids.{teids_are_left, teid_after, without_each}
use Rattle.unit_defs.specs.Transactions.{Kind, request, reply, transfer, kind_of, no_instance, Transactions, Waiting, ask}
use Rattle.unit_defs.specs.Du.{DuBearer, DuContext, DuTunnel, Du, context_of, with_transactions, downlinks_of, downlink_list, with_entries, bearers_made, bearers_anew, replies, closings, openings, old_downlinks, replaced, replaces, setup, modify_on, modify, end_markers, released_on, release, relayed_down, relay_down, relayed_up, relay_up, token_ue, start, set_up, asked, transferred, of_cu_cp, of_terminal, control_received, told, gap_after, carried, with_bearer, frame_received, taken_in, taken_of, taken_on, take, of_bearer, of_context, pass_up, confirmed, confirm, du_acts}
use Rattle.law_terminals_are_isolated.specs.projections.Projections.{Requests, requests_of, ue_in, message_ue, order_ue}
use Rattle.law_terminals_are_isolated.specs.projections.Steps.{seen}
use Rattle.law_terminals_are_isolated.proofs.projections.Answers.{same_then, same_if}
use Rattle.law_terminals_are_isolated.proofs.projections.Tables.{same_put, same_without}
use Rattle.law_terminals_are_isolated.proofs.projections.EqualStates.{asked_view, EqualStates, equal_closed, ask_equal, advance_equal, replied_equal, on_request_equal, on_reply_equal}
use Rattle.law_terminals_are_isolated.specs.du_projection.Dus.{DuProjection, own_tunnel, DuShared, du_view, tunnel_ue, du_ue}

-- ---- tunnels of a terminal, in two tables

module _ (ue : UeId) where
  abbrev AreEqual : List (ℕ × DuTunnel) → List (ℕ × DuTunnel) → Type 0
  AreEqual m n = (teid : ℕ) → own_tunnel ue (find nat_cmp m teid) ≡ own_tunnel ue (find nat_cmp n teid)

  at_key : (b : Bool) (v x y : Option DuTunnel) → own_tunnel ue x ≡ own_tunnel ue y → own_tunnel ue (cond b v x) ≡ own_tunnel ue (cond b v y)
  at_key true v x y e = refl
  at_key false v x y e = e

  put_equal : (m n : List (ℕ × DuTunnel)) (k : ℕ) (t : DuTunnel) → AreEqual m n → AreEqual (put nat_cmp m k t) (put nat_cmp n k t)
  put_equal m n k t e teid =
      ap (own_tunnel ue) (find-put nat_cmp_total m k t teid)
      ∙ at_key (eq_by_cmp nat_cmp teid k) (Some t) (find nat_cmp m teid) (find nat_cmp n teid) (e teid)
      ∙ sym (ap (own_tunnel ue) (find-put nat_cmp_total n k t teid))

  without_equal : (m n : List (ℕ × DuTunnel)) (k : ℕ) → AreEqual m n → AreEqual (without nat_cmp m k) (without nat_cmp n k)
  without_equal m n k e teid =
      ap (own_tunnel ue) (find-without nat_cmp_total m k teid)
      ∙ at_key (eq_by_cmp nat_cmp teid k) None (find nat_cmp m teid) (find nat_cmp n teid) (e teid)
      ∙ sym (ap (own_tunnel ue) (find-without nat_cmp_total n k teid))

  each_equal : (ts : List ℕ) (m n : List (ℕ × DuTunnel)) → AreEqual m n → AreEqual (without_each m ts) (without_each n ts)
  each_equal [] m n e = e
  each_equal (t ∷ ts) m n e = each_equal ts (without nat_cmp m t) (without nat_cmp n t) (without_equal m n t e)

  entries_equal : (v : UeId) (es : List (BearerId × DuBearer)) (m n : List (ℕ × DuTunnel)) → AreEqual m n → AreEqual (with_entries v m es) (with_entries v n es)
  entries_equal v [] m n e = e
  entries_equal v (x ∷ xs) m n e =
      entries_equal v xs (put nat_cmp m x.1.downlink (record { ue = v; bearer = x.0 })) (put nat_cmp n x.1.downlink (record { ue = v; bearer = x.0 }))
      (put_equal m n x.1.downlink (record { ue = v; bearer = x.0 }) e)

module _ {M C P : Type 0} (way : Way M C P) where
  abbrev pub View : Type 0
  View = DuProjection M C × DuShared

  abbrev pub Same : UeId → Answer M P (Du M C) → Answer M P (Du M C) → Type 0
  Same ue a b = seen (du_view ue) a ≡ seen (du_view ue) b

  abbrev pub Common : UeId → Du M C → Du M C → Type 0
  Common ue r q = du_view ue r ≡ du_view ue q

  puts_same : (ue : UeId) (outputs : List (Output M P)) (r q : Du M C) → Common ue r q → Same ue (gives outputs r) (gives outputs q)
  puts_same ue outputs r q e = ap (λ (v : View). gives outputs v) e

  context_same : (ue : UeId) (r q : Du M C) → Common ue r q → context_of r ue ≡ context_of q ue
  context_same ue r q e = ap (λ (v : View). v.0.context) e

  requests_same : (ue : UeId) (r q : Du M C) → Common ue r q → EqualStates way ue.0 r.transactions q.transactions
  requests_same ue r q e = ap (λ (v : View). v.0.requests) e

  with_same : (ue : UeId) (r q : Du M C) (t u : Transactions M C) → Common ue r q → EqualStates way ue.0 t u
      → Common ue (with_transactions r t) (with_transactions q u)
  with_same ue r q t u e a = λ i. (record { context = (e i).0.context; tunnels = (e i).0.tunnels; requests = a i }, (e i).1)

  replies_same : (ue : UeId) (from : NodeId) (m : F1 C) (r q : Du M C) → Common ue r q
      → Same ue (replies way (channel ue.0 from) m r) (replies way (channel ue.0 from) m q)
  replies_same ue from m r q e =
      same_then (requests_of ue.0) (du_view ue) _ _ _ _
      (replied_equal way r.transactions q.transactions (channel ue.0 from) (f1 m) (requests_same ue r q e))
      (λ t u a. puts_same ue [] (with_transactions r t) (with_transactions q u) (with_same ue r q t u e a))

  -- ---- contexts

  replaced_same : (ue : UeId) (old : Option DuContext) (c : DuContext) (r q : Du M C) → Common ue r q
      → Common ue (replaced way ue old c r) (replaced way ue old c q)
  replaced_same ue old c r q e = λ i. (
    record {
      context = same_put ue_total r.contexts q.contexts ue ue c (context_same ue r q e) i;
      tunnels = λ teid. entries_equal ue ue c.bearers (without_each r.tunnels (old_downlinks way old)) (without_each q.tunnels (old_downlinks way old))
          (each_equal ue (old_downlinks way old) r.tunnels q.tunnels (λ t. ap (λ (v : View). v.0.tunnels t) e)) teid i;
      requests = (e i).0.requests;
    },
    record (e i).1 { next_teid = teid_after (e i).1.next_teid (length c.bearers) },
  )

  replaces_same : (ue : UeId) (old : Option DuContext) (c : DuContext) (r q : Du M C) → Common ue r q
      → Same ue (replaces way ue old c r) (replaces way ue old c q)
  unfolding replaces
  replaces_same ue old c r q e =
      same_if (du_view ue) (teids_are_left r.next_teid (length c.bearers)) (teids_are_left q.next_teid (length c.bearers)) _ _ _ _
      (ap (λ (v : View). teids_are_left v.1.next_teid (length c.bearers)) e)
      (puts_same ue (map (λ teid. closed teid) (old_downlinks way old) ++ openings way c) (replaced way ue old c r) (replaced way ue old c q)
      (replaced_same ue old c r q e))
      refl

  -- a context is put in the place of what is there, and this is replied
  abbrev pub Renews : NodeId → (List Tunnel → F1 C) → UeId → Option DuContext → DuContext → Du M C → Answer M P (Du M C)
  Renews from answer ue old c r = replaces way ue old c r then replies way (channel ue.0 from) (answer (downlink_list c))

  renews_same : (from : NodeId) (answer : List Tunnel → F1 C) (ue : UeId) (old : Option DuContext) (c : DuContext) (r q : Du M C) → Common ue r q
      → Same ue (Renews from answer ue old c r) (Renews from answer ue old c q)
  renews_same from answer ue old c r q e =
      same_then (du_view ue) (du_view ue) (replaces way ue old c r) (replaces way ue old c q) _ _ (replaces_same ue old c r q e)
      (λ s t f. replies_same ue from (answer (downlink_list c)) s t f)

  setup_same : (from : NodeId) (ue : UeId) (instance epoch : ℕ) (uplinks : List Tunnel) (sn : SnBits) (peer : Peer) (r q : Du M C) → Common ue r q
      → Same ue (setup way (channel ue.0 from) ue instance epoch uplinks sn peer r) (setup way (channel ue.0 from) ue instance epoch uplinks sn peer q)
  unfolding setup
  setup_same from ue instance epoch uplinks sn peer r q e =
      same_if (du_view ue) (not (are_first_bearers (bearers_of uplinks))) (not (are_first_bearers (bearers_of uplinks))) _ _ _ _ refl
      (puts_same ue (dropped Unexpected ∷ []) r q e)
      (renews_same from answer ue (context_of r ue) (made r.next_teid) r q e
      ∙ ap (λ (v : View). seen (du_view ue) (Renews from answer ue v.0.context (made v.1.next_teid) q)) e)
    where
      answer : List Tunnel → F1 C
      answer downlinks = f1s.UeContextSetupResponse ue instance downlinks

      made : ℕ → DuContext
      made next = record { epoch = epoch; sn = sn; bearers = bearers_made (CuUp peer.gnb peer.up) next uplinks }

  modify_same : (from : NodeId) (ue : UeId) (instance epoch : ℕ) (r q : Du M C) → Common ue r q
      → Same ue (modify way (channel ue.0 from) ue instance epoch r) (modify way (channel ue.0 from) ue instance epoch q)
  unfolding modify
  modify_same from ue instance epoch r q e =
      by (context_of r ue)
      ∙ ap (λ (o : Option DuContext). seen (du_view ue) (modify_on way (channel ue.0 from) ue instance epoch q o)) (context_same ue r q e)
    where
      answer : List Tunnel → F1 C
      answer downlinks = f1s.UeContextModificationResponse ue instance downlinks

      anew : DuContext → ℕ → DuContext
      anew c next = record c { epoch = epoch; bearers = bearers_anew next c.bearers }

      by : (o : Option DuContext) → Same ue (modify_on way (channel ue.0 from) ue instance epoch r o) (modify_on way (channel ue.0 from) ue instance epoch q o)
      by None = puts_same ue (dropped NoContext ∷ []) r q e
      by (Some c) =
          renews_same from answer ue (Some c) (anew c r.next_teid) r q e
          ∙ ap (λ (v : View). seen (du_view ue) (Renews from answer ue (Some c) (anew c v.1.next_teid) q)) e

  released_same : (ue : UeId) (r q : Du M C) (o : Option DuContext) → Common ue r q → Same ue (released_on way ue r o) (released_on way ue q o)
  released_same ue r q None e = puts_same ue [] r q e
  released_same ue r q (Some c) e = λ i. gives (end_markers way ue c ++ closings way c) (
    record {
      context = same_without ue_total r.contexts q.contexts ue ue (context_same ue r q e) i;
      tunnels = λ teid. each_equal ue (downlinks_of c) r.tunnels q.tunnels (λ t. ap (λ (v : View). v.0.tunnels t) e) teid i;
      requests = (e i).0.requests;
    },
    (e i).1,
  )

  release_same : (from : NodeId) (ue : UeId) (instance : ℕ) (r q : Du M C) → Common ue r q
      → Same ue (release way (channel ue.0 from) ue instance r) (release way (channel ue.0 from) ue instance q)
  unfolding release
  release_same from ue instance r q e =
      same_then (du_view ue) (du_view ue) _ _ _ _ (replies_same ue from (f1s.UeContextReleaseComplete ue instance) r q e)
      (λ s t f. released_same ue s t (context_of s ue) f ∙ ap (λ (o : Option DuContext). seen (du_view ue) (released_on way ue t o)) (context_same ue s t f))

  -- ---- what is passed on

  down_same : (ue : UeId) (container : C) (r q : Du M C) → Common ue r q → Same ue (relay_down way ue container r) (relay_down way ue container q)
  unfolding relay_down
  down_same ue container r q e =
      by (context_of r ue) ∙ ap (λ (o : Option DuContext). seen (du_view ue) (relayed_down way ue container q o)) (context_same ue r q e)
    where
      by : (o : Option DuContext) → Same ue (relayed_down way ue container r o) (relayed_down way ue container q o)
      by None = puts_same ue (dropped NoContext ∷ []) r q e
      by (Some c) = puts_same ue (control (Ue ue.0) ue.0 (way.pass container) ∷ []) r q e

  up_same : (ue : UeId) (token : Token) (r q : Du M C) → Common ue r q → Same ue (relay_up way ue token r) (relay_up way ue token q)
  unfolding relay_up
  up_same ue token r q e =
      by (context_of r ue) ∙ ap (λ (o : Option DuContext). seen (du_view ue) (relayed_up way ue token q o)) (context_same ue r q e)
    where
      by : (o : Option DuContext) → Same ue (relayed_up way ue token r o) (relayed_up way ue token q o)
      by None = puts_same ue (dropped NoContext ∷ []) r q e
      by (Some c) = λ i. gives (control (CuCp (e i).1.gnb) ue.0 (way.encode (f1 (f1s.UlRrcMessageTransfer ue (way.wrap token)))) ∷ []) (e i)

  -- ---- F1 Setup

  abbrev no_ue : UeId
  no_ue = record { 0 = 0 }

  asks_same : (g : Gnb) (w : Waiting C) (r q : Du M C) → Common no_ue r q → Same no_ue
      (ask way r.transactions (channel 0 (CuCp g)) w then (λ a. nothing (with_transactions r a.transactions)))
      (ask way q.transactions (channel 0 (CuCp g)) w then (λ a. nothing (with_transactions q a.transactions)))
  asks_same g w r q e =
      same_then (asked_view 0) (du_view no_ue) _ _ _ _ (ask_equal way r.transactions q.transactions (channel 0 (CuCp g)) w (requests_same no_ue r q e))
      (λ a b same. puts_same no_ue [] (with_transactions r a.transactions) (with_transactions q b.transactions)
      (with_same no_ue r q a.transactions b.transactions e (ap (λ (x : Requests M C × Option ℕ). x.0) same)))

  start_same : (r q : Du M C) → Common no_ue r q → Same no_ue (start way r) (start way q)
  unfolding start
  start_same r q e =
      same_if (du_view no_ue) r.is_set_up q.is_set_up _ _ _ _ (ap (λ (v : View). v.1.is_set_up) e) (puts_same no_ue [] r q e)
      (asks_same r.gnb (asks r.gnb r.number) r q e
      ∙ ap (λ (v : View). seen (du_view no_ue) (ask way q.transactions (channel 0 (CuCp v.1.gnb)) (asks v.1.gnb v.1.number)
      then (λ a. nothing (with_transactions q a.transactions)))) e)
    where
      asks : Gnb → ℕ → Waiting C
      asks g n = record { message = f1 (f1s.F1SetupRequest no_instance (node_text (du_id g n))); deadline = None; awaited = false }

  set_up_same : (ue : UeId) (from : NodeId) (r q : Du M C) → Common ue r q → Same ue (set_up way (channel ue.0 from) r) (set_up way (channel ue.0 from) q)
  unfolding set_up
  set_up_same ue from r q e =
      same_then (asked_view ue.0) (du_view ue) _ _ _ _
      (advance_equal way (shut r.transactions) (shut q.transactions) (channel ue.0 from)
      (equal_closed way r.transactions q.transactions (channel ue.0 from) (requests_same ue r q e)))
      (λ a b same i. gives [] (
        record { context = (e i).0.context; tunnels = (e i).0.tunnels; requests = (same i).0 },
        record (e i).1 { is_set_up = true },
      ))
    where
      shut : Transactions M C → Transactions M C
      shut t = record t { caller = close t.caller (channel ue.0 from) }

  -- ---- control

  abbrev at : ℕ → UeId
  at n = record { 0 = n }

  request_same : (from : NodeId) (m : Message C) (n instance : ℕ) → kind_of m ≡ request n instance → (r q : Du M C) → Common (at n) r q
      → Same (at n) (asked way (channel n from) m r) (asked way (channel n from) m q)
  unfolding kind_of
  request_same from (f1 (f1s.UeContextSetupRequest ue i epoch uplinks sn peer)) n instance k r q e =
      subst (λ (x : ℕ). (r q : Du M C) → Common (at x) r q → Same (at x)
      (setup way (channel x from) ue i epoch uplinks sn peer r) (setup way (channel x from) ue i epoch uplinks sn peer q))
      (ap (λ (x : Kind). (ue_in x).0) k) (setup_same from ue i epoch uplinks sn peer) r q e
  request_same from (f1 (f1s.UeContextModificationRequest ue i epoch)) n instance k r q e =
      subst (λ (x : ℕ). (r q : Du M C) → Common (at x) r q → Same (at x)
      (modify way (channel x from) ue i epoch r) (modify way (channel x from) ue i epoch q))
      (ap (λ (x : Kind). (ue_in x).0) k) (modify_same from ue i epoch) r q e
  request_same from (f1 (f1s.UeContextReleaseCommand ue i)) n instance k r q e =
      subst (λ (x : ℕ). (r q : Du M C) → Common (at x) r q → Same (at x)
      (release way (channel x from) ue i r) (release way (channel x from) ue i q))
      (ap (λ (x : Kind). (ue_in x).0) k) (release_same from ue i) r q e
  request_same from m n instance k r q e = puts_same (at n) (dropped Unexpected ∷ []) r q e

  transferred_same : (m : Message C) (n : ℕ) → kind_of m ≡ transfer n → (r q : Du M C) → Common (at n) r q
      → Same (at n) (transferred way m r) (transferred way m q)
  unfolding kind_of
  transferred_same (f1 (f1s.DlRrcMessageTransfer ue container)) n k r q e =
      subst (λ (x : ℕ). (r q : Du M C) → Common (at x) r q → Same (at x) (relay_down way ue container r) (relay_down way ue container q))
      (ap (λ (x : Kind). (ue_in x).0) k) (down_same ue container) r q e
  transferred_same m n k r q e = puts_same (at n) (dropped Unexpected ∷ []) r q e

  of_cp_same : (from : NodeId) (m : Message C) (k : Kind) → kind_of m ≡ k → (r q : Du M C) → Common (ue_in k) r q
      → Same (ue_in k) (of_cu_cp way from m r k) (of_cu_cp way from m q k)
  of_cp_same from m (request n instance) k r q e =
      on_request_equal way (du_view (at n)) r q r.transactions q.transactions (channel n from) instance e (requests_same (at n) r q e) _ _
      (λ t u a. request_same from m n instance k (with_transactions r t) (with_transactions q u) (with_same (at n) r q t u e a))
  of_cp_same from m (reply n instance) k r q e =
      on_reply_equal way (du_view (at n)) r q r.transactions q.transactions (channel n from) instance e (requests_same (at n) r q e) _ _
      (set_up_same (at n) from r q e)
  of_cp_same from m (transfer n) k r q e = transferred_same m n k r q e

  of_token_same : (n : ℕ) (token : Token) (b : Bool) → ((token_ue way token).0 == n) ≡ b → (r q : Du M C) → Common (at n) r q → Same (at n)
      (if b then relay_up way (token_ue way token) token r else drops Unexpected r)
      (if b then relay_up way (token_ue way token) token q else drops Unexpected q)
  of_token_same n token true its r q e =
      subst (λ (x : ℕ). (r q : Du M C) → Common (at x) r q → Same (at x) (relay_up way (token_ue way token) token r) (relay_up way (token_ue way token) token q))
      (eqb-true (token_ue way token).0 n its) (up_same (token_ue way token) token) r q e
  of_token_same n token false its r q e = puts_same (at n) (dropped Unexpected ∷ []) r q e

  of_terminal_same : (n : ℕ) (m : Message C) (r q : Du M C) → Common (at n) r q → Same (at n) (of_terminal way n m r) (of_terminal way n m q)
  of_terminal_same n (rrc token) r q e = of_token_same n token ((token_ue way token).0 == n) refl r q e
  of_terminal_same n m r q e = puts_same (at n) (dropped Unexpected ∷ []) r q e

  control_same : (from : NodeId) (m : Message C) (r q : Du M C) → Common (message_ue from m) r q
      → Same (message_ue from m) (control_received way from m r) (control_received way from m q)
  unfolding control_received
  control_same (CuCp gnb) m r q e =
      same_if (du_view (message_ue (CuCp gnb) m)) (is_same_gnb gnb r.gnb) (is_same_gnb gnb q.gnb) _ _ _ _ (ap (λ (v : View). is_same_gnb gnb v.1.gnb) e)
      (of_cp_same (CuCp gnb) m (kind_of m) refl r q e) (puts_same (message_ue (CuCp gnb) m) (dropped Unexpected ∷ []) r q e)
  control_same (Ue n) m r q e = of_terminal_same n m r q e
  control_same (CuUp gnb number) m r q e = puts_same _ (dropped Unexpected ∷ []) r q e
  control_same (du_id gnb number) m r q e = puts_same _ (dropped Unexpected ∷ []) r q e
  control_same Core m r q e = puts_same _ (dropped Unexpected ∷ []) r q e

  -- ---- frames, and the radio

  bearer_same : (ue : UeId) (bearer : BearerId) (c : DuContext) (b : DuBearer) (r q : Du M C) → Common ue r q
      → Common ue (with_bearer way ue bearer c b r) (with_bearer way ue bearer c b q)
  bearer_same ue bearer c b r q e = λ i. (
    record (e i).0 {
      context = same_put ue_total r.contexts q.contexts ue ue (record c { bearers = put bearer_cmp c.bearers bearer b }) (context_same ue r q e) i;
    },
    (e i).1,
  )

  carried_same : (ue : UeId) (bearer : BearerId) (c : DuContext) (gap : Bool) (pdu : Option P) (r q : Du M C) → Common ue r q
      → Same ue (carried way ue bearer c gap pdu r) (carried way ue bearer c gap pdu q)
  carried_same ue bearer c gap None r q e = puts_same ue [] r q e
  carried_same ue bearer c true (Some pdu) r q e = puts_same ue (dropped Gap ∷ []) r q e
  carried_same ue bearer c false (Some pdu) r q e = puts_same ue (radio ue bearer Dl c.epoch same_tag pdu ∷ []) r q e

  frame_same : (ue : UeId) (bearer : BearerId) (c : DuContext) (b : DuBearer) (item : Taken P) (r q : Du M C) → Common ue r q
      → Same ue (frame_received way ue bearer c b item r) (frame_received way ue bearer c b item q)
  frame_same ue bearer c b (frame_item poll restart number pdu) r q e =
      same_then (du_view ue) (du_view ue) (gives (told way ue bearer b poll number) (with_bearer way ue bearer c after r))
      (gives (told way ue bearer b poll number) (with_bearer way ue bearer c after q)) _ _
      (puts_same ue (told way ue bearer b poll number) (with_bearer way ue bearer c after r) (with_bearer way ue bearer c after q)
      (bearer_same ue bearer c after r q e))
      (λ s t f. carried_same ue bearer c (gap_after way b number restart pdu) pdu s t f)
    where
      after : DuBearer
      after = record b { awaited = number + 1; gap = gap_after way b number restart pdu }
  frame_same ue bearer c b item r q e = puts_same ue (dropped Unexpected ∷ []) r q e

  taken_same : (ue : UeId) (bearer : BearerId) (item : Taken P) (r q : Du M C) → Common ue r q
      → Same ue (taken_of way ue bearer item r (context_of r ue)) (taken_of way ue bearer item q (context_of q ue))
  taken_same ue bearer item r q e =
      by (context_of r ue) ∙ ap (λ (o : Option DuContext). seen (du_view ue) (taken_of way ue bearer item q o)) (context_same ue r q e)
    where
      in_bearer : (c : DuContext) (o : Option DuBearer) → Same ue (taken_in way ue bearer c item r o) (taken_in way ue bearer c item q o)
      in_bearer c None = puts_same ue (dropped NoContext ∷ []) r q e
      in_bearer c (Some b) = frame_same ue bearer c b item r q e

      by : (o : Option DuContext) → Same ue (taken_of way ue bearer item r o) (taken_of way ue bearer item q o)
      by None = puts_same ue (dropped NoContext ∷ []) r q e
      by (Some c) = in_bearer c (find bearer_cmp c.bearers bearer)

  -- an own tunnel is one that is there
  own_there : (ue : UeId) (o : Option DuTunnel) (t : DuTunnel) → Some t ≡ own_tunnel ue o → o ≡ Some t
  own_there ue None t e = absurd cc
  own_there ue (Some x) t e = by (x.ue.0 == ue.0) e
    where
      by : (b : Bool) → Some t ≡ (if b then Some x else None) → Some x ≡ Some t
      by true e = sym e
      by false e = absurd cc

  own_itself : (t : DuTunnel) → own_tunnel t.ue (Some t) ≡ Some t
  own_itself t = ap (λ (b : Bool). if b then Some t else None) (eq-eqb t.ue.0 t.ue.0 refl)

  take_same : (teid : ℕ) (item : Taken P) (t : DuTunnel) (r q : Du M C) → Common t.ue r q → find nat_cmp r.tunnels teid ≡ Some t
      → Same t.ue (take way teid item r) (take way teid item q)
  unfolding take
  take_same teid item t r q e there =
      ap (λ (o : Option DuTunnel). seen (du_view t.ue) (taken_on way item r o)) there
      ∙ taken_same t.ue t.bearer item r q e
      ∙ sym (ap (λ (o : Option DuTunnel). seen (du_view t.ue) (taken_on way item q o))
      (own_there t.ue (find nat_cmp q.tunnels teid) t
      (sym (own_itself t) ∙ sym (ap (own_tunnel t.ue) there) ∙ ap (λ (v : View). v.0.tunnels teid) e)))

  in_context_same : (ue : UeId) (bearer : BearerId) (row other : DuContext → DuBearer → Answer M P (Du M C)) (r q : Du M C) → Common ue r q
      → ((c : DuContext) (b : DuBearer) → Same ue (row c b) (other c b))
      → Same ue (of_context way r row bearer (context_of r ue)) (of_context way q other bearer (context_of q ue))
  in_context_same ue bearer row other r q e each =
      by (context_of r ue) ∙ ap (λ (o : Option DuContext). seen (du_view ue) (of_context way q other bearer o)) (context_same ue r q e)
    where
      in_bearer : (c : DuContext) (o : Option DuBearer) → Same ue (of_bearer way r row c o) (of_bearer way q other c o)
      in_bearer c None = puts_same ue (dropped NoContext ∷ []) r q e
      in_bearer c (Some b) = each c b

      by : (o : Option DuContext) → Same ue (of_context way r row bearer o) (of_context way q other bearer o)
      by None = puts_same ue (dropped NoContext ∷ []) r q e
      by (Some c) = in_bearer c (find bearer_cmp c.bearers bearer)

  confirmed_same : (ue : UeId) (bearer : BearerId) (b : DuBearer) (number : Option ℕ) (r q : Du M C) → Common ue r q
      → Same ue (confirmed way ue bearer r b number) (confirmed way ue bearer q b number)
  confirmed_same ue bearer b None r q e = puts_same ue [] r q e
  confirmed_same ue bearer b (Some number) r q e = puts_same ue (packet b.up b.uplink ue bearer Dl same_tag (status [] (Some number)) ∷ []) r q e

  -- ---- the table

  tunnel_there : (o : Option DuTunnel) (ue : UeId) → tunnel_ue o ≡ Some ue → (t : DuTunnel) × (o ≡ Some t) × (t.ue ≡ ue)
  tunnel_there None ue is = absurd cc
  tunnel_there (Some t) ue is = (t, refl, some_same t.ue ue is)
    where
      some_same : (a b : UeId) → Some a ≡ Some b → a ≡ b
      some_same a b e = cc

  some_ue : (a b : UeId) → Some a ≡ Some b → a ≡ b
  some_ue a b e = cc

  abbrev Depends : Input C P → Du M C → Du M C → UeId → Type 0
  Depends input r q ue = Common ue r q → Same ue (du_acts way r input) (du_acts way q input)

  given : (input : Input C P) (r q : Du M C) (own ue : UeId) → Some own ≡ Some ue → Depends input r q own → Depends input r q ue
  given input r q own ue is depends = subst (Depends input r q) (some_ue own ue is) depends

  order_same : (order : Order) (r q : Du M C) → Depends (order_input order) r q (order_ue order)
  unfolding du_acts
  order_same orders.Start r q e = start_same r q e
  order_same order r q e = puts_same _ (dropped Unexpected ∷ []) r q e

  packet_same : (teid : ℕ) (item : Taken P) (r q : Du M C) (ue : UeId) → (t : DuTunnel) × (find nat_cmp r.tunnels teid ≡ Some t) × (t.ue ≡ ue)
      → Depends (packet_input teid item) r q ue
  unfolding du_acts
  packet_same teid item r q ue there =
      subst (Depends (packet_input teid item) r q) there.2 (λ e. take_same teid item there.0 r q e there.1)

  pub du_same : (ue : UeId) (input : Input C P) (r q : Du M C) → Common ue r q → du_ue r input ≡ Some ue
      → Same ue (du_acts way r input) (du_acts way q input)
  unfolding du_acts pass_up confirm
  du_same ue (control_input from m) r q e is =
      given (control_input from m) r q (message_ue from m) ue is (λ f. control_same from m r q f) e
  du_same ue (packet_input teid item) r q e is = packet_same teid item r q ue (tunnel_there (find nat_cmp r.tunnels teid) ue is) e
  du_same ue (radio_input v bearer Ul pdu content) r q e is =
      given (radio_input v bearer Ul pdu content) r q v ue is
      (λ f. in_context_same v bearer _ _ r q f (λ c b. puts_same v (packet b.up b.uplink v bearer Ul same_tag (uplink pdu) ∷ []) r q f)) e
  du_same ue (radio_input v bearer Dl pdu content) r q e is = puts_same ue (dropped Unexpected ∷ []) r q e
  du_same ue (confirm_input v bearer Dl pdu content) r q e is =
      given (confirm_input v bearer Dl pdu content) r q v ue is
      (λ f. in_context_same v bearer _ _ r q f (λ c b. confirmed_same v bearer b (way.number c.sn pdu) r q f)) e
  du_same ue (confirm_input v bearer Ul pdu content) r q e is = puts_same ue (dropped Unexpected ∷ []) r q e
  du_same ue (offer_input v bearer p) r q e is = puts_same ue (dropped Unexpected ∷ []) r q e
  du_same ue tick_input r q e is = absurd cc
  du_same ue (order_input order) r q e is = given (order_input order) r q (order_ue order) ue is (order_same order r q) e
