-- A DU: it puts items on the uplinks that it was told, and names downlinks of its own.
use Rattle.std.proofs.Common.{◌≡◌, ◌==◌, ℕ, ◌+◌, Bool, true, false, not, ◌||◌, List, [], ◌∷◌, ◌++◌, length, map, Option, Some, None, refl}
use Rattle.std.specs.Prelude.{if◌then◌else◌}
use Rattle.std.specs.Ordering.{nat_cmp}
use Rattle.std.specs.BTreeMap.{is_at}
use Rattle.std.specs.List.{AllByRecursion, flat_map}
use Rattle.gnb_types.specs.declared.names.Gnb.{Gnb}
use Rattle.gnb_types.specs.declared.names.NodeId.{NodeId}
use Rattle.gnb_types.specs.declared.names.NodeId.TheVariants.{CuCp, CuUp, Du as du_id, Core, Ue}
use Rattle.gnb_types.specs.declared.names.UeId.{UeId}
use Rattle.gnb_types.specs.declared.names.BearerId.{BearerId}
use Rattle.gnb_types.specs.declared.names.SnBits.{SnBits}
use Rattle.gnb_types.specs.declared.names.Dir.{Dir}
use Rattle.gnb_types.specs.declared.names.Dir.TheVariants.{Dl, Ul}
use Rattle.gnb_types.specs.declared.keys.Channel.{Channel}
use Rattle.gnb_types.specs.declared.plans.Peer.{Peer}
use Rattle.gnb_types.specs.declared.plans.Tunnel.{Tunnel}
use Rattle.gnb_types.specs.declared.inputs.Order.TheVariants as orders
use Rattle.gnb_types.specs.declared.outputs.Tag.TheVariants.{Absent, Same}
use Rattle.gnb_types.specs.declared.reasons.DropReason.TheVariants.{Unexpected}
use Rattle.gnb_types.specs.Names.{node_text}
use Rattle.gnb_types.specs.Orders.{ue_cmp, bearer_cmp}
use Rattle.gnb_types.proofs.OrderLemmas.{ue_exact, bearer_exact}
use Rattle.tables.specs.Tables.{find, put, without}
use Rattle.transaction_defs.specs.Callers.{close, due, Due, repeats, expires, after_tick}
use Rattle.message_types.specs.declared.f1.F1.{F1}
use Rattle.message_types.specs.declared.f1.F1.TheVariants as f1s
use Rattle.message_types.specs.declared.rrc.Token.{Token}
use Rattle.unit_defs.specs.Ways.{Message, f1, rrc, uplink, status, end_marker, Taken, frame_item, Output, packet, opened, closed, Input, control_input, packet_input, radio_input, confirm_input, tick_input, order_input, Way, Answer, gives, spent, ◌then◌, nothing, puts, drops, teids_spent}
use Rattle.unit_defs.specs.Messages.{channel, is_same_gnb, bearers_of, are_first_bearers}
use Rattle.unit_defs.specs.Teids.{teids_are_left}
use Rattle.unit_defs.specs.Transactions.{Kind, request, reply, transfer, kind_of, no_instance, Transactions, Asked, ask, advance, replied}
use Rattle.unit_defs.specs.CuUpRecords.{f1u_uplink}
use Rattle.unit_defs.specs.Du.{DuBearer, DuContext, DuTunnel, Du, du_node, context_of, with_transactions, downlinks_of, downlink_list, bearers_made, bearers_anew, replies, closings, openings, old_downlinks, replaced, replaces, context_with, setup, context_anew, modify_on, modify, end_markers, released_on, release, relayed_down, relay_down, relayed_up, relay_up, token_ue, start, set_up, asked, transferred, of_cu_cp, of_terminal, control_received, missing, is_missing, told, gap_after, carried, with_bearer, frame_received, taken_in, taken_of, taken_on, take, of_bearer, of_context, pass_up, confirmed, confirm, due_output, tick, du_acts}
use Rattle.intervals.proofs.Intervals.{all_append, all_filter}
use Rattle.proof_unit_steps.proofs.packets.Answers.{all_map}
use Rattle.proof_unit_steps.proofs.packets.Keyed.{keyed_found, keyed_put}
use Rattle.proof_unit_steps.specs.tunnel_names.Names.{Property, Names, PeerList, DuList, InputNames, PutOn, OutputNames, OutputsName, AnswerNames, KeptNames}
use Rattle.proof_unit_steps.proofs.tunnel_names.Kept.{either as either_way, after as after_one, closed_names, ask_names, advance_names, replied_names, on_request_with, on_reply_names, DueNames, due_names, ticked_names}
use Rattle.proof_unit_steps.specs.tunnels.Units.{Each, CuUpTeid, UplinkNames, DownlinkHolds, DuHolds, DuNames, AnswerIf}
use Rattle.proof_unit_steps.proofs.tunnels.Keyed.{put_found, always, if_then, either_if}

module _ {M C P : Type 0} {way : Way M C P} (is : Property way) (gnb : Gnb) (number : ℕ) where
  abbrev Record : Type 0
  Record = Du M C

  abbrev Good : Record → Type 0
  Good r = DuNames is gnb number r

  abbrev Fits : Answer M P Record → Type 0
  Fits a = AnswerNames is Good (du_id gnb number) a

  abbrev FitsIf : Answer M P Record → Type 0
  FitsIf a = AnswerIf is (DuHolds is.owners gnb number) Good (du_id gnb number) a

  abbrev Put : List (Output M P) → Type 0
  Put os = OutputsName is (du_id gnb number) os

  abbrev Kept : Transactions M C → Type 0
  Kept t = KeptNames is (du_id gnb number) t

  abbrev Uplinks : UeId → List (BearerId × DuBearer) → Type 0
  Uplinks ue bearers = Each (UplinkNames is.owners ue) bearers

  abbrev OfContext : UeId → DuContext → Type 0
  OfContext ue c = Uplinks ue c.bearers

  abbrev Long : UeId → DuContext → Type 0
  Long ue c = is.owners.length ue c.sn

  either : (t : Bool) (x y : Answer M P Record) → Fits x → Fits y → Fits (if t then x else y)
  either t x y p q = either_way is (du_id gnb number) Good t x y p q

  simply : (a : Answer M P Record) → Fits a → FitsIf a
  simply a p = always is (du_id gnb number) (DuHolds is.owners gnb number) Good a p

  with_kept : (r : Record) (t : Transactions M C) → Good r → Kept t → Good (with_transactions r t)
  with_kept r t p k = record { own = p.own; uplinks = p.uplinks; lengths = p.lengths; kept = k }

  found_context : (r : Record) (ue : UeId) (c : DuContext) → Good r → context_of r ue ≡ Some c → Uplinks ue c.bearers
  found_context r ue c p there = keyed_found ue_cmp ue_exact OfContext r.contexts ue c p.uplinks there

  found_length : (r : Record) (ue : UeId) (c : DuContext) → Good r → context_of r ue ≡ Some c → Long ue c
  found_length r ue c p there = keyed_found ue_cmp ue_exact Long r.contexts ue c p.lengths there

  replies_name : (ch : Channel) (m : F1 C) (r : Record) → Names is.owners (du_id gnb number) (f1 m) → Good r → Fits (replies way ch m r)
  replies_name ch m r names p =
      after_one is (du_id gnb number) Kept Good (replied way r.transactions ch (f1 m)) (λ t. nothing (with_transactions r t))
      (replied_names is (du_id gnb number) r.transactions ch (f1 m) p.kept names) (λ t k. (with_kept r t p k, tt))

  -- ---- contexts

  closed_have : (teids : List ℕ) → Put (map (λ teid. closed teid) teids)
  closed_have teids = all_map (OutputNames is (du_id gnb number)) (λ teid. closed teid) (λ teid. tt) teids

  -- the downlinks that are told are the context's
  told_list : (ue : UeId) (es : List (BearerId × DuBearer)) → Each (DownlinkHolds is.owners gnb number ue) es
      → DuList is.owners gnb number ue (map (λ e. record { bearer = e.0; teid = e.1.downlink }) es)
  told_list ue [] all = tt
  told_list ue (e ∷ es) all = (all.0, told_list ue es all.1)

  abbrev Replaced : UeId → DuContext → Record → Type 0
  Replaced ue c s = Good s × (DuHolds is.owners gnb number s → DuList is.owners gnb number ue (downlink_list c))

  replaced_names : (ue : UeId) (old : Option DuContext) (c : DuContext) (r : Record) → Long ue c → Uplinks ue c.bearers → Good r
      → AnswerNames is (Replaced ue c) (du_id gnb number) (replaces way ue old c r)
  unfolding replaces
  replaced_names ue old c r long ups p =
      either_way is (du_id gnb number) (Replaced ue c) (teids_are_left r.next_teid (length c.bearers))
      (gives (map (λ teid. closed teid) (old_downlinks way old) ++ openings way c) (replaced way ue old c r)) (spent teids_spent) (
        (
          record {
            own = p.own;
            uplinks = keyed_put ue_cmp ue_exact OfContext r.contexts ue c p.uplinks ups;
            lengths = keyed_put ue_cmp ue_exact Long r.contexts ue c p.lengths long;
            kept = p.kept;
          },
          λ h. told_list ue c.bearers (h ue c (put_found r.contexts ue c)),
        ),
        all_append (OutputNames is (du_id gnb number)) (map (λ teid. closed teid) (old_downlinks way old)) (openings way c)
            (closed_have (old_downlinks way old)) (all_map (OutputNames is (du_id gnb number)) (λ teid. opened teid) (λ teid. tt) (downlinks_of c)),
      ) tt

  -- the reply names what the context has
  reply_if : (ch : Channel) (ue : UeId) (c : DuContext) (m : F1 C) (s : Record)
      → (DuList is.owners gnb number ue (downlink_list c) → Names is.owners (du_id gnb number) (f1 m)) → Replaced ue c s → FitsIf (replies way ch m s)
  unfolding replied
  reply_if ch ue c m s names p = λ h. replies_name ch m s (names (p.1 h)) p.0

  made_uplinks : (ue : UeId) (peer : Peer) (next : ℕ) (ts : List Tunnel) → PeerList is.owners peer f1u_uplink ue ts
      → Uplinks ue (bearers_made (CuUp peer.gnb peer.up) next ts)
  made_uplinks ue peer next [] all = tt
  made_uplinks ue peer next (t ∷ ts) all = (all.0, made_uplinks ue peer (next + 1) ts all.1)

  anew_uplinks : (ue : UeId) (next : ℕ) (es : List (BearerId × DuBearer)) → Uplinks ue es → Uplinks ue (bearers_anew next es)
  anew_uplinks ue next [] all = tt
  anew_uplinks ue next (e ∷ es) all = (all.0, anew_uplinks ue (next + 1) es all.1)

  setup_names : (ch : Channel) (ue : UeId) (instance epoch : ℕ) (uplinks : List Tunnel) (sn : SnBits) (peer : Peer) (r : Record)
      → PeerList is.owners peer f1u_uplink ue uplinks → is.owners.length ue sn → Good r → FitsIf (setup way ch ue instance epoch uplinks sn peer r)
  unfolding setup kind_of
  setup_names ch ue instance epoch uplinks sn peer r ups long p =
      let c : DuContext = context_with way r epoch uplinks sn peer in
      either_if is (du_id gnb number) (DuHolds is.owners gnb number) Good (not (are_first_bearers (bearers_of uplinks))) (drops Unexpected r) _
      (simply (drops Unexpected r) (p, (tt, tt)))
      (if_then is (du_id gnb number) (DuHolds is.owners gnb number) (Replaced ue c) Good (replaces way ue (context_of r ue) c r)
      (replies way ch (f1s.UeContextSetupResponse ue instance (downlink_list c)))
      (replaced_names ue (context_of r ue) c r long (made_uplinks ue peer r.next_teid uplinks ups) p)
      (λ s q. reply_if ch ue c (f1s.UeContextSetupResponse ue instance (downlink_list c)) s (λ h. h) q))

  modify_names : (ch : Channel) (ue : UeId) (instance epoch : ℕ) (r : Record) (o : Option DuContext) → context_of r ue ≡ o → Good r
      → FitsIf (modify_on way ch ue instance epoch r o)
  unfolding kind_of
  modify_names ch ue instance epoch r None there p = λ h. (p, (tt, tt))
  modify_names ch ue instance epoch r (Some d) there p =
      let c : DuContext = context_anew way r epoch d in
      if_then is (du_id gnb number) (DuHolds is.owners gnb number) (Replaced ue c) Good (replaces way ue (Some d) c r)
      (replies way ch (f1s.UeContextModificationResponse ue instance (downlink_list c)))
      (replaced_names ue (Some d) c r (found_length r ue d p there) (anew_uplinks ue r.next_teid d.bearers (found_context r ue d p there)) p)
      (λ s q. reply_if ch ue c (f1s.UeContextModificationResponse ue instance (downlink_list c)) s (λ h. h) q)

  -- what goes up a bearer's uplink
  put_up : (up : NodeId) (ue : UeId) (bearer : BearerId) (teid : ℕ) (dir : Dir) → CuUpTeid is.owners up f1u_uplink ue bearer teid
      → PutOn is (du_id gnb number) up teid ue bearer dir
  put_up (CuUp g n) ue bearer teid dir p = p
  put_up (CuCp g) ue bearer teid dir p = absurd p
  put_up (du_id g n) ue bearer teid dir p = absurd p
  put_up Core ue bearer teid dir p = absurd p
  put_up (Ue u) ue bearer teid dir p = absurd p

  markers_name : (ue : UeId) (es : List (BearerId × DuBearer)) → Uplinks ue es
      → Put (map (λ e. packet e.1.up e.1.uplink ue e.0 Ul Absent end_marker) es)
  markers_name ue [] all = tt
  markers_name ue (e ∷ es) all = ((put_up e.1.up ue e.0 e.1.uplink Ul all.0, tt), markers_name ue es all.1)

  released_names : (ue : UeId) (r : Record) (o : Option DuContext) → context_of r ue ≡ o → Good r → Fits (released_on way ue r o)
  unfolding without
  released_names ue r None there p = (p, tt)
  released_names ue r (Some c) there p = (
    record {
      own = p.own;
      uplinks = all_filter (λ (e : UeId × DuContext). Uplinks e.0 e.1.bearers) (λ e. not (is_at (ue_cmp ue) e.0)) r.contexts p.uplinks;
      lengths = all_filter (λ (e : UeId × DuContext). Long e.0 e.1) (λ e. not (is_at (ue_cmp ue) e.0)) r.contexts p.lengths;
      kept = p.kept;
    },
    all_append (OutputNames is (du_id gnb number)) (end_markers way ue c) (closings way c) (markers_name ue c.bearers (found_context r ue c p there))
        (closed_have (downlinks_of c)),
  )

  release_names : (ch : Channel) (ue : UeId) (instance : ℕ) (r : Record) → Good r → Fits (release way ch ue instance r)
  unfolding release kind_of
  release_names ch ue instance r p =
      after_one is (du_id gnb number) Good Good (replies way ch (f1s.UeContextReleaseComplete ue instance) r) (λ s. released_on way ue s (context_of s ue))
      (replies_name ch (f1s.UeContextReleaseComplete ue instance) r tt p) (λ s q. released_names ue s (context_of s ue) refl q)

  -- ---- control messages

  asked_names : (ch : Channel) (from : NodeId) (m : Message C) (r : Record) → Names is.owners from m → Good r → FitsIf (asked way ch m r)
  unfolding modify kind_of
  asked_names ch from (f1 (f1s.UeContextSetupRequest ue instance epoch uplinks sn peer)) r names p =
      setup_names ch ue instance epoch uplinks sn peer r names.0 names.1 p
  asked_names ch from (f1 (f1s.UeContextModificationRequest ue instance epoch)) r names p = modify_names ch ue instance epoch r (context_of r ue) refl p
  asked_names ch from (f1 (f1s.UeContextReleaseCommand ue instance)) r names p =
      simply (release way ch ue instance r) (release_names ch ue instance r p)
  asked_names ch from m r names p = λ h. (p, (tt, tt))

  relayed_down_names : (ue : UeId) (container : C) (r : Record) (c : Option DuContext) → Good r → Fits (relayed_down way ue container r c)
  relayed_down_names ue container r None p = (p, (tt, tt))
  relayed_down_names ue container r (Some c) p = (p, (is.passes (du_id gnb number) container, tt))

  transferred_names : (m : Message C) (r : Record) → Good r → Fits (transferred way m r)
  unfolding relay_down
  transferred_names (f1 (f1s.DlRrcMessageTransfer ue container)) r p = relayed_down_names ue container r (context_of r ue) p
  transferred_names m r p = (p, (tt, tt))

  relayed_up_names : (ue : UeId) (token : Token) (r : Record) (c : Option DuContext) → Good r → Fits (relayed_up way ue token r c)
  unfolding kind_of
  relayed_up_names ue token r None p = (p, (tt, tt))
  relayed_up_names ue token r (Some c) p =
      (p, (is.spells (du_id gnb number) (f1 (f1s.UlRrcMessageTransfer ue (way.wrap token))) tt, tt))

  of_terminal_names : (ue : ℕ) (m : Message C) (r : Record) → Good r → Fits (of_terminal way ue m r)
  unfolding relay_up
  of_terminal_names ue (rrc token) r p =
      either ((token_ue way token).0 == ue) _ (drops Unexpected r) (relayed_up_names (token_ue way token) token r (context_of r (token_ue way token)) p) (p, (tt, tt))
  of_terminal_names ue m r p = (p, (tt, tt))

  set_up_names : (ch : Channel) (r : Record) → Good r → Fits (set_up way ch r)
  unfolding set_up
  set_up_names ch r p =
      after_one is (du_id gnb number) (λ (a : Asked M C). Kept a.transactions) Good
      (advance way (record r.transactions { caller = close r.transactions.caller ch }) ch)
      (λ a. nothing (record r { is_set_up = true; transactions = a.transactions }))
      (advance_names is (du_id gnb number) (record r.transactions { caller = close r.transactions.caller ch }) ch
      (closed_names is (du_id gnb number) r.transactions ch p.kept)) (λ a k. (record { own = p.own; uplinks = p.uplinks; lengths = p.lengths; kept = k }, tt))

  of_cp_names : (from : NodeId) (m : Message C) (r : Record) (k : Kind) → Names is.owners from m → Good r → FitsIf (of_cu_cp way from m r k)
  of_cp_names from m r (request ue i) names p =
      on_request_with is (du_id gnb number) Good FitsIf simply r r.transactions (channel ue from) i
      (λ t. asked way (channel ue from) m (with_transactions r t)) p p.kept (λ t k. asked_names (channel ue from) from m (with_transactions r t) names (with_kept r t p k))
  of_cp_names from m r (reply ue i) names p =
      simply (of_cu_cp way from m r (reply ue i))
      (on_reply_names is (du_id gnb number) Good r r.transactions (channel ue from) i (set_up way (channel ue from) r) p (set_up_names (channel ue from) r p))
  of_cp_names from m r (transfer ue) names p = simply (transferred way m r) (transferred_names m r p)

  control_names : (from : NodeId) (m : Message C) (r : Record) → Names is.owners from m → Good r → FitsIf (control_received way from m r)
  unfolding control_received
  control_names (CuCp g) m r names p =
      either_if is (du_id gnb number) (DuHolds is.owners gnb number) Good (is_same_gnb g r.gnb) (of_cu_cp way (CuCp g) m r (kind_of m)) (drops Unexpected r)
      (of_cp_names (CuCp g) m r (kind_of m) names p) (λ h. (p, (tt, tt)))
  control_names (Ue ue) m r names p = simply (of_terminal way ue m r) (of_terminal_names ue m r p)
  control_names from m r names p = λ h. (p, (tt, tt))

  -- ---- packets

  told_have : (ue : UeId) (bearer : BearerId) (b : DuBearer) (poll : Bool) (n : ℕ) → UplinkNames is.owners ue bearer b → Put (told way ue bearer b poll n)
  told_have ue bearer b poll n names = by (is_missing way b n || poll)
    where
      by : (t : Bool) → Put (if t then packet b.up b.uplink ue bearer Dl Absent (status (missing way b n) None) ∷ [] else [])
      by true = ((put_up b.up ue bearer b.uplink Dl names, tt), tt)
      by false = tt

  carried_names : (ue : UeId) (bearer : BearerId) (c : DuContext) (gap : Bool) (pdu : Option P) (r : Record) → Long ue c → Good r
      → Fits (carried way ue bearer c gap pdu r)
  carried_names ue bearer c gap None r long p = (p, tt)
  carried_names ue bearer c true (Some pdu) r long p = (p, (tt, tt))
  carried_names ue bearer c false (Some pdu) r long p = (p, ((c.sn, long), tt))

  frame_names : (ue : UeId) (bearer : BearerId) (c : DuContext) (b : DuBearer) (item : Taken P) (r : Record) → Long ue c → Uplinks ue c.bearers
      → UplinkNames is.owners ue bearer b → Good r → Fits (frame_received way ue bearer c b item r)
  frame_names ue bearer c b (frame_item poll restart n pdu) r long ups names p =
      let on : DuBearer = record b { awaited = n + 1; gap = gap_after way b n restart pdu } in
      after_one is (du_id gnb number) Good Good (gives (told way ue bearer b poll n) (with_bearer way ue bearer c on r))
      (carried way ue bearer c (gap_after way b n restart pdu) pdu) (
        record {
          own = p.own;
          uplinks = keyed_put ue_cmp ue_exact OfContext r.contexts ue (record c { bearers = put bearer_cmp c.bearers bearer on }) p.uplinks
              (keyed_put bearer_cmp bearer_exact (UplinkNames is.owners ue) c.bearers bearer on ups names);
          lengths = keyed_put ue_cmp ue_exact Long r.contexts ue (record c { bearers = put bearer_cmp c.bearers bearer on }) p.lengths long;
          kept = p.kept;
        },
        told_have ue bearer b poll n names,
      ) (λ s q. carried_names ue bearer c (gap_after way b n restart pdu) pdu s long q)
  frame_names ue bearer c b item r long ups names p = (p, (tt, tt))

  take_names : (teid : ℕ) (item : Taken P) (r : Record) → Good r → Fits (take way teid item r)
  unfolding take
  take_names teid item r p = by (find nat_cmp r.tunnels teid)
    where
      in_bearer : (ue : UeId) (bearer : BearerId) (c : DuContext) (o : Option DuBearer) → Long ue c → Uplinks ue c.bearers → find bearer_cmp c.bearers bearer ≡ o
          → Fits (taken_in way ue bearer c item r o)
      in_bearer ue bearer c None long ups there = (p, (tt, tt))
      in_bearer ue bearer c (Some b) long ups there =
          frame_names ue bearer c b item r long ups (keyed_found bearer_cmp bearer_exact (UplinkNames is.owners ue) c.bearers bearer b ups there) p

      in_context : (ue : UeId) (bearer : BearerId) (o : Option DuContext) → context_of r ue ≡ o → Fits (taken_of way ue bearer item r o)
      in_context ue bearer None there = (p, (tt, tt))
      in_context ue bearer (Some c) there = in_bearer ue bearer c (find bearer_cmp c.bearers bearer) (found_length r ue c p there) (found_context r ue c p there) refl

      by : (t : Option DuTunnel) → Fits (taken_on way item r t)
      by None = (p, (tt, tt))
      by (Some t) = in_context t.ue t.bearer (context_of r t.ue) refl

  of_context_names : (r : Record) (ue : UeId) (row : DuContext → DuBearer → Answer M P Record) (bearer : BearerId) (o : Option DuContext)
      → context_of r ue ≡ o → Good r → ((d : DuContext) (b : DuBearer) → Long ue d → UplinkNames is.owners ue bearer b → Fits (row d b))
      → Fits (of_context way r row bearer o)
  of_context_names r ue row bearer None there p each = (p, (tt, tt))
  of_context_names r ue row bearer (Some c) there p each = by (find bearer_cmp c.bearers bearer) refl
    where
      by : (o : Option DuBearer) → find bearer_cmp c.bearers bearer ≡ o → Fits (of_bearer way r row c o)
      by None e = (p, (tt, tt))
      by (Some b) e = each c b (found_length r ue c p there) (keyed_found bearer_cmp bearer_exact (UplinkNames is.owners ue) c.bearers bearer b (found_context r ue c p there) e)

  confirmed_names : (ue : UeId) (bearer : BearerId) (r : Record) (c : DuContext) (b : DuBearer) (n : Option ℕ) → Long ue c → UplinkNames is.owners ue bearer b
      → Good r → Fits (confirmed way ue bearer r b n)
  confirmed_names ue bearer r c b None long names p = (p, tt)
  confirmed_names ue bearer r c b (Some n) long names p = (p, ((put_up b.up ue bearer b.uplink Dl names, (c.sn, long)), tt))

  -- ---- F1 Setup, a tick, and the table

  start_names : (r : Record) → Good r → Fits (start way r)
  unfolding start kind_of
  start_names r p =
      either r.is_set_up (nothing r) _ (p, tt)
      (after_one is (du_id gnb number) (λ (a : Asked M C). Kept a.transactions) Good (ask way r.transactions (channel 0 (CuCp r.gnb))
      (record { message = f1 (f1s.F1SetupRequest no_instance (node_text (du_node r))); deadline = None; awaited = false }))
      (λ a. nothing (with_transactions r a.transactions))
      (ask_names is (du_id gnb number) r.transactions (channel 0 (CuCp r.gnb))
      (record { message = f1 (f1s.F1SetupRequest no_instance (node_text (du_node r))); deadline = None; awaited = false }) p.kept tt)
      (λ a k. (with_kept r a.transactions p k, tt)))

  due_put : (ds : List (Due M)) → AllByRecursion (DueNames is (du_id gnb number)) ds → Put (flat_map (due_output way) ds)
  due_put [] all = tt
  due_put (repeats ch m ∷ ds) all = (all.0, due_put ds all.1)
  due_put (expires ch ∷ ds) all = due_put ds all.1

  tick_names : (r : Record) → Good r → Fits (tick way r)
  unfolding tick
  tick_names r p = (
    with_kept r (record r.transactions { caller = after_tick r.transactions.caller }) p (ticked_names is (du_id gnb number) r.transactions p.kept),
    due_put (due r.transactions.caller) (due_names is (du_id gnb number) r.transactions.caller p.kept.opened),
  )

  pub du_names : (r : Record) (input : Input C P) → InputNames is input → Good r → FitsIf (du_acts way r input)
  unfolding du_acts pass_up confirm
  du_names r (control_input from m) names p = control_names from m r names p
  du_names r (packet_input teid item) names p = simply (take way teid item r) (take_names teid item r p)
  du_names r (radio_input ue bearer Ul pdu content) names p =
      simply (of_context way r (λ c b. puts (packet b.up b.uplink ue bearer Ul Same (uplink pdu)) r) bearer (context_of r ue))
      (of_context_names r ue (λ c b. puts (packet b.up b.uplink ue bearer Ul Same (uplink pdu)) r) bearer (context_of r ue) refl p
      (λ d b long h. (p, ((put_up b.up ue bearer b.uplink Ul h, (d.sn, long)), tt))))
  du_names r (confirm_input ue bearer Dl pdu content) names p =
      simply (of_context way r (λ c b. confirmed way ue bearer r b (way.number c.sn pdu)) bearer (context_of r ue))
      (of_context_names r ue (λ c b. confirmed way ue bearer r b (way.number c.sn pdu)) bearer (context_of r ue) refl p
      (λ d b long h. confirmed_names ue bearer r d b (way.number d.sn pdu) long h p))
  du_names r tick_input names p = simply (tick way r) (tick_names r p)
  du_names r (order_input orders.Start) names p = simply (start way r) (start_names r p)
  du_names r input names p = λ h. (p, (tt, tt))
