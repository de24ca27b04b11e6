-- A DU: contexts are set up, modified and released on requests, each answered once at most; other inputs leave them.
use Rattle.std.proofs.Common.{inl, inr, ◌≡◌, ℕ, ◌+◌, Bool, true, false, not, ◌||◌, List, [], ◌∷◌, ◌++◌, Option, Some, None, refl, sym, ◌∙◌, subst}
use Rattle.std.specs.Prelude.{map, if◌then◌else◌, length, ◌==◌}
use Rattle.std.specs.List.{flat_map}
use Rattle.gnb_types.specs.declared.names.NodeId.{NodeId}
use Rattle.gnb_types.specs.declared.names.NodeId.TheVariants.{CuCp, CuUp, Du as du_id, Core, Ue}
use Rattle.gnb_types.specs.declared.names.UeId.{UeId}
use Rattle.gnb_types.specs.declared.names.BearerId.{BearerId}
use Rattle.gnb_types.specs.declared.names.Dir.TheVariants.{Dl, Ul}
use Rattle.gnb_types.specs.declared.keys.Channel.{Channel}
use Rattle.gnb_types.specs.declared.inputs.Order.TheVariants as orders
use Rattle.gnb_types.specs.declared.reasons.DropReason.TheVariants.{Unexpected, NoContext}
use Rattle.gnb_types.specs.declared.outputs.Tag.TheVariants.{Absent, Same}
use Rattle.message_types.specs.declared.f1.F1.TheVariants as f1s
use Rattle.unit_defs.specs.Ways.{Message, f1, Output, status, uplink, rrc, Taken, frame_item, Input, control_input, packet_input, radio_input, confirm_input, offer_input, tick_input, order_input, Answer, gives, spent, ◌then◌, nothing, puts, drops, closed, opened, packet, end_marker, teids_spent}
use Rattle.unit_defs.specs.Messages.{channel, is_same_gnb, are_first_bearers, bearers_of}
use Rattle.unit_defs.specs.Teids.{teids_are_left}
use Rattle.unit_defs.specs.Transactions.{Kind, request, reply, transfer, kind_of, with_instance, no_instance, Waiting, Transactions, waits_at, ask, on_request}
use Rattle.unit_defs.specs.Du.{Du, DuContext, DuBearer, context_of, with_transactions, replies, replaces, closings, openings, old_downlinks, replaced, setup, context_with, modify, modify_on, release, released_on, end_markers, downlinks_of, asked, downlink_list, relayed_up, relayed_down, relay_up, relay_down, transferred, of_terminal, token_ue, set_up, of_cu_cp, control_received, told, is_missing, missing, carried, frame_received, with_bearer, gap_after, take, taken_in, taken_of, taken_on, DuTunnel, of_context, of_bearer, confirmed, pass_up, confirm, start, du_node, due_output, tick, du_acts}
use Rattle.gnb_types.specs.Names.{node_text}
use Rattle.gnb_types.specs.Orders.{bearer_cmp, channel_cmp}
use Rattle.std.specs.Ordering.{nat_cmp}
use Rattle.tables.specs.Tables.{find, IsSorted}
use Rattle.transaction_defs.specs.Callers.{due, after_tick}
use Rattle.transaction_defs.specs.Callees.{taken}
use Rattle.message_types.specs.declared.rrc.Token.{Token}
use Rattle.message_types.specs.declared.f1.F1.{F1}
use Rattle.law_requests_act_once.specs.channel.Replies.{Talk, answers}
use Rattle.law_requests_act_once.specs.channel.Moves.{asks, ages, Net, sent_by}
use Rattle.law_requests_act_once.proofs.channel.Nets.{Good}
use Rattle.law_requests_act_once.specs.channel_rows.IsPlayed.{ReadsWell, AreUndated, NoneDue, IsPlayed, IsPlayedWhole, WasSent, IsPutTo, NoneExpired}
use Rattle.law_requests_act_once.proofs.channel_rows.Tickless.{whole}
use Rattle.law_requests_act_once.proofs.channel_rows.Undated.{After, ticked_undated, ask_undated, asked_then, reply_undated, request_undated}
use Rattle.law_requests_act_once.proofs.channel_rows.Askers.{one_made, reply_made, transfer_made}
use Rattle.law_requests_act_once.proofs.channel_rows.Ticks.{moves_due, tick_none, tick_plays}
use Rattle.law_requests_act_once.proofs.channel_rows.Requests.{sent_both, Leaves, Replies, leaves_then, leaves_replies, replies_then, replies_here, request_made, leaves_made, drops_made}

module _ {M C P : Type 0} (talk : Talk M C P) (n : NodeId) where
  abbrev pub kept : Du M C → Transactions M C
  kept r = r.transactions

  -- ---- outputs without a control message

  no_closed : (teids : List ℕ) → sent_by {M = M} {P = P} n (map (λ teid. closed teid) teids) ≡ []
  no_closed [] = refl
  no_closed (t ∷ ts) = no_closed ts

  no_opened : (teids : List ℕ) → sent_by {M = M} {P = P} n (map (λ teid. opened teid) teids) ≡ []
  no_opened [] = refl
  no_opened (t ∷ ts) = no_opened ts

  no_ends : (ue : UeId) (es : List (BearerId × DuBearer)) → sent_by {M = M} {P = P} n (map (λ e. packet e.1.up e.1.uplink ue e.0 Ul Absent end_marker) es) ≡ []
  no_ends ue [] = refl
  no_ends ue (e ∷ es) = no_ends ue es

  both_none : (a b : List (Output M P)) → sent_by n a ≡ [] → sent_by n b ≡ [] → sent_by n (a ++ b) ≡ []
  both_none a b x y = sent_both n a b ∙ (λ i. x i ++ y i)

  replaces_leaves : (t : Transactions M C) (ue : UeId) (old : Option DuContext) (c : DuContext) (r : Du M C) → r.transactions ≡ t
      → Leaves talk n kept t (replaces talk.way ue old c r)
  unfolding replaces
  replaces_leaves t ue old c r at = by (teids_are_left r.next_teid (length c.bearers))
    where
      by : (b : Bool) → Leaves talk n kept t (if b
          then gives (map (λ teid. closed teid) (old_downlinks talk.way old) ++ openings talk.way c) (replaced talk.way ue old c r)
          else spent teids_spent)
      by true = (both_none (map (λ teid. closed teid) (old_downlinks talk.way old)) (openings talk.way c) (no_closed (old_downlinks talk.way old)) (no_opened (downlinks_of c)), at)
      by false = tt

  -- a reply is the last thing that a row does
  last_replies : (t : Transactions M C) (ch : Channel) (m : Message C) (i : ℕ) (answer : F1 C) (r : Du M C) → r.transactions ≡ t
      → kind_of (f1 answer) ≡ reply ch.ue i → answers m (f1 answer) ≡ true → Replies talk n kept t ch m i (replies talk.way ch answer r)
  last_replies t ch m i answer r at kind fits =
      subst (λ (u : Transactions M C). Replies talk n kept u ch m i (replies talk.way ch answer r)) at
      (replies_here talk n kept r.transactions ch m i (f1 answer) (λ u. nothing (with_transactions r u)) kind fits (λ u. (refl, refl)))

  replaced_replies : (t : Transactions M C) (ch : Channel) (m : Message C) (i : ℕ) (ue : UeId) (old : Option DuContext) (c : DuContext) (r : Du M C)
      (answer : F1 C) → r.transactions ≡ t → kind_of (f1 answer) ≡ reply ch.ue i → answers m (f1 answer) ≡ true
      → Replies talk n kept t ch m i (replaces talk.way ue old c r then replies talk.way ch answer)
  replaced_replies t ch m i ue old c r answer at kind fits =
      leaves_replies talk n kept kept t ch m i (replaces talk.way ue old c r) (replies talk.way ch answer) (replaces_leaves t ue old c r at)
      (λ s e. last_replies t ch m i answer s e kind fits)

  released_leaves : (ue : UeId) (r : Du M C) (c : Option DuContext) → Leaves talk n kept r.transactions (released_on talk.way ue r c)
  released_leaves ue r None = (refl, refl)
  released_leaves ue r (Some c) = (both_none (end_markers talk.way ue c) (closings talk.way c) (no_ends ue c.bearers) (no_closed (downlinks_of c)), refl)

  pub asked_replies : (r : Du M C) (t : Transactions M C) (from : NodeId) (m : Message C) (ue i : ℕ) → kind_of m ≡ request ue i
      → Replies talk n kept t (channel ue from) m i (asked talk.way (channel ue from) m (with_transactions r t))
  unfolding kind_of setup modify release
  asked_replies r t from (f1 (f1s.UeContextSetupRequest owner instance epoch uplinks sn peer)) ue i is =
      let a : owner.0 ≡ ue = cc in
      let b : instance ≡ i = cc in
      by a b (are_first_bearers (bearers_of uplinks))
    where
      by : owner.0 ≡ ue → instance ≡ i → (fits : Bool) → Replies talk n kept t (channel ue from)
          (f1 (f1s.UeContextSetupRequest owner instance epoch uplinks sn peer)) i
          (if not fits then drops Unexpected (with_transactions r t) else
          (replaces talk.way owner (context_of (with_transactions r t) owner) (context_with talk.way (with_transactions r t) epoch uplinks sn peer) (with_transactions r t)
          then replies talk.way (channel ue from) (f1s.UeContextSetupResponse owner instance (downlink_list
          (context_with talk.way (with_transactions r t) epoch uplinks sn peer)))))
      by a b true =
          replaced_replies t (channel ue from) _ i owner _ _ (with_transactions r t) _ refl (λ j. reply (a j) (b j)) refl
      by a b false = inl (refl, refl)
  asked_replies r t from (f1 (f1s.UeContextModificationRequest owner instance epoch)) ue i is =
      let a : owner.0 ≡ ue = cc in
      let b : instance ≡ i = cc in
      by a b (context_of r owner)
    where
      by : owner.0 ≡ ue → instance ≡ i → (c : Option DuContext) → Replies talk n kept t (channel ue from)
          (f1 (f1s.UeContextModificationRequest owner instance epoch)) i
          (modify_on talk.way (channel ue from) owner instance epoch (with_transactions r t) c)
      by a b None = inl (refl, refl)
      by a b (Some c) =
          replaced_replies t (channel ue from) _ i owner _ _ (with_transactions r t) _ refl (λ j. reply (a j) (b j)) refl
  asked_replies r t from (f1 (f1s.UeContextReleaseCommand owner instance)) ue i is =
      let a : owner.0 ≡ ue = cc in
      let b : instance ≡ i = cc in
      replies_then talk n kept kept t (channel ue from) (f1 (f1s.UeContextReleaseCommand owner instance)) i
      (replies talk.way (channel ue from) (f1s.UeContextReleaseComplete owner instance) (with_transactions r t))
      (λ s. released_on talk.way owner s (context_of s owner))
      (last_replies t (channel ue from) (f1 (f1s.UeContextReleaseCommand owner instance)) i (f1s.UeContextReleaseComplete owner instance) (with_transactions r t)
      refl (λ j. reply (a j) (b j)) refl)
      (λ s. released_leaves owner s (context_of s owner))
  asked_replies r t from m ue i is = inl (refl, refl)

  -- ---- a control message

  no_move : (net : Net M C) (r : Du M C) (a : Answer M P (Du M C)) → net.nodes n ≡ r.transactions → Leaves talk n kept r.transactions a → IsPlayed talk net n kept a
  no_move net r a at leaves = leaves_made talk n net kept a (subst (λ (t : Transactions M C). Leaves talk n kept t a) (sym at) leaves)

  relay_up_made : (reads : ReadsWell talk) (net : Net M C) (r : Du M C) (ue : UeId) (token : Token) (c : Option DuContext) → net.nodes n ≡ r.transactions
      → IsPlayed talk net n kept (relayed_up talk.way ue token r c)
  unfolding kind_of
  relay_up_made reads net r ue token None at = drops_made talk n net kept r NoContext at
  relay_up_made reads net r ue token (Some c) at =
      transfer_made talk n net kept (CuCp r.gnb) ue.0 (talk.way.encode (f1 (f1s.UlRrcMessageTransfer ue (talk.way.wrap token)))) ue.0
      (reads.kinds (f1 (f1s.UlRrcMessageTransfer ue (talk.way.wrap token))) ∙ is) r at
    where
      is : kind_of (f1 (f1s.UlRrcMessageTransfer ue (talk.way.wrap token))) ≡ transfer ue.0
      is = refl

  relay_down_made : (reads : ReadsWell talk) (net : Net M C) (r : Du M C) (ue : UeId) (container : C) (c : Option DuContext) → net.nodes n ≡ r.transactions
      → IsPlayed talk net n kept (relayed_down talk.way ue container r c)
  relay_down_made reads net r ue container None at = drops_made talk n net kept r NoContext at
  relay_down_made reads net r ue container (Some c) at =
      transfer_made talk n net kept (Ue ue.0) ue.0 (talk.way.pass container) (reads.passes container).0 (reads.passes container).1 r at

  transferred_made : (reads : ReadsWell talk) (net : Net M C) (r : Du M C) (m : Message C) → net.nodes n ≡ r.transactions
      → IsPlayed talk net n kept (transferred talk.way m r)
  unfolding relay_down
  transferred_made reads net r (f1 (f1s.DlRrcMessageTransfer ue container)) at = relay_down_made reads net r ue container (context_of r ue) at
  transferred_made reads net r m at = drops_made talk n net kept r Unexpected at

  terminal_made : (reads : ReadsWell talk) (net : Net M C) (r : Du M C) (ue : ℕ) (m : Message C) → net.nodes n ≡ r.transactions
      → IsPlayed talk net n kept (of_terminal talk.way ue m r)
  unfolding relay_up
  terminal_made reads net r ue (rrc token) at = by ((token_ue talk.way token).0 == ue)
    where
      by : (b : Bool) → IsPlayed talk net n kept (if b then relay_up talk.way (token_ue talk.way token) token r else drops Unexpected r)
      by true = relay_up_made reads net r (token_ue talk.way token) token (context_of r (token_ue talk.way token)) at
      by false = drops_made talk n net kept r Unexpected at
  terminal_made reads net r ue m at = drops_made talk n net kept r Unexpected at

  of_cp_made : (reads : ReadsWell talk) (net : Net M C) → Good talk net → (r : Du M C) → net.nodes n ≡ r.transactions
      → (from : NodeId) (m : Message C) → WasSent talk net from n m → (k : Kind) → kind_of m ≡ k → IsPlayed talk net n kept (of_cu_cp talk.way from m r k)
  unfolding set_up
  of_cp_made reads net good r at from m sent (request ue i) is =
      subst (λ (t : Transactions M C). IsPlayed talk net n kept
      (on_request talk.way r t (channel ue from) i (λ u. asked talk.way (channel ue from) m (with_transactions r u)))) at
      (request_made talk n reads net (channel ue from) m i (sent.0, sent.1, reads.kinds m ∙ is) kept r
      (λ u. asked talk.way (channel ue from) m (with_transactions r u)) at
      (asked_replies r (record (net.nodes n) { callee = taken (net.nodes n).callee (channel ue from) i }) from m ue i is))
  of_cp_made reads net good r at from m sent (reply ue i) is =
      reply_made talk n net good kept r.transactions at (channel ue from) i (talk.way.encode m) (sent.0, sent.1, reads.kinds m ∙ is) r refl
      (λ a. record r { is_set_up = true; transactions = a.transactions }) (λ a. refl)
  of_cp_made reads net good r at from m sent (transfer ue) is = transferred_made reads net r m at

  control_made : (reads : ReadsWell talk) (net : Net M C) → Good talk net → (r : Du M C) → net.nodes n ≡ r.transactions
      → (from : NodeId) (m : Message C) → WasSent talk net from n m → IsPlayed talk net n kept (control_received talk.way from m r)
  unfolding control_received
  control_made reads net good r at (CuCp gnb) m sent = by (is_same_gnb gnb r.gnb)
    where
      by : (b : Bool) → IsPlayed talk net n kept (if b then of_cu_cp talk.way (CuCp gnb) m r (kind_of m) else drops Unexpected r)
      by true = of_cp_made reads net good r at (CuCp gnb) m sent (kind_of m) refl
      by false = drops_made talk n net kept r Unexpected at
  control_made reads net good r at (Ue ue) m sent = terminal_made reads net r ue m at
  control_made reads net good r at (CuUp gnb number) m sent = drops_made talk n net kept r Unexpected at
  control_made reads net good r at (du_id gnb number) m sent = drops_made talk n net kept r Unexpected at
  control_made reads net good r at Core m sent = drops_made talk n net kept r Unexpected at

  -- ---- packets: nothing is put of control, and what is kept of requests stays

  told_none : (ue : UeId) (bearer : BearerId) (b : DuBearer) (poll : Bool) (number : ℕ) → sent_by n (told talk.way ue bearer b poll number) ≡ []
  told_none ue bearer b poll number = by (is_missing talk.way b number || poll)
    where
      by : (q : Bool) → sent_by {M = M} {P = P} n (if q then packet b.up b.uplink ue bearer Dl Absent (status (missing talk.way b number) None) ∷ [] else []) ≡ []
      by true = refl
      by false = refl

  carried_leaves : (t : Transactions M C) (ue : UeId) (bearer : BearerId) (c : DuContext) (gap : Bool) (pdu : Option P) (r : Du M C) → r.transactions ≡ t
      → Leaves talk n kept t (carried talk.way ue bearer c gap pdu r)
  carried_leaves t ue bearer c gap None r at = (refl, at)
  carried_leaves t ue bearer c true (Some pdu) r at = (refl, at)
  carried_leaves t ue bearer c false (Some pdu) r at = (refl, at)

  frame_leaves : (ue : UeId) (bearer : BearerId) (c : DuContext) (b : DuBearer) (item : Taken P) (r : Du M C)
      → Leaves talk n kept r.transactions (frame_received talk.way ue bearer c b item r)
  frame_leaves ue bearer c b (frame_item poll restart number pdu) r =
      leaves_then talk n kept kept r.transactions
      (gives (told talk.way ue bearer b poll number) (with_bearer talk.way ue bearer c (record b { awaited = number + 1; gap = gap_after talk.way b number restart pdu }) r))
      (carried talk.way ue bearer c (gap_after talk.way b number restart pdu) pdu)
      (told_none ue bearer b poll number, refl)
      (λ s e. carried_leaves r.transactions ue bearer c (gap_after talk.way b number restart pdu) pdu s e)
  frame_leaves ue bearer c b item r = (refl, refl)

  pub take_leaves : (teid : ℕ) (item : Taken P) (r : Du M C) → Leaves talk n kept r.transactions (take talk.way teid item r)
  unfolding take
  take_leaves teid item r = by (find nat_cmp r.tunnels teid)
    where
      in_bearer : (ue : UeId) (bearer : BearerId) (c : DuContext) (b : Option DuBearer) → Leaves talk n kept r.transactions (taken_in talk.way ue bearer c item r b)
      in_bearer ue bearer c None = (refl, refl)
      in_bearer ue bearer c (Some b) = frame_leaves ue bearer c b item r

      in_context : (ue : UeId) (bearer : BearerId) (c : Option DuContext) → Leaves talk n kept r.transactions (taken_of talk.way ue bearer item r c)
      in_context ue bearer None = (refl, refl)
      in_context ue bearer (Some c) = in_bearer ue bearer c (find bearer_cmp c.bearers bearer)

      by : (t : Option DuTunnel) → Leaves talk n kept r.transactions (taken_on talk.way item r t)
      by None = (refl, refl)
      by (Some t) = in_context t.ue t.bearer (context_of r t.ue)

  pub context_leaves : (r : Du M C) (row : DuContext → DuBearer → Answer M P (Du M C)) (bearer : BearerId) (c : Option DuContext)
      → ((d : DuContext) (b : DuBearer) → Leaves talk n kept r.transactions (row d b)) → Leaves talk n kept r.transactions (of_context talk.way r row bearer c)
  context_leaves r row bearer None each = (refl, refl)
  context_leaves r row bearer (Some c) each = by (find bearer_cmp c.bearers bearer)
    where
      by : (b : Option DuBearer) → Leaves talk n kept r.transactions (of_bearer talk.way r row c b)
      by None = (refl, refl)
      by (Some b) = each c b

  pub confirmed_leaves : (ue : UeId) (bearer : BearerId) (r : Du M C) (b : DuBearer) (number : Option ℕ)
      → Leaves talk n kept r.transactions (confirmed talk.way ue bearer r b number)
  confirmed_leaves ue bearer r b None = (refl, refl)
  confirmed_leaves ue bearer r b (Some number) = (refl, refl)

  -- ---- F1 Setup, a tick, and the table

  is_setup_request : (i : ℕ) (name : List ℕ) → kind_of {C = C} (with_instance i (f1 (f1s.F1SetupRequest no_instance name))) ≡ request 0 i
  unfolding kind_of with_instance
  is_setup_request i name = refl

  start_made : (reads : ReadsWell talk) (net : Net M C) (r : Du M C) → net.nodes n ≡ r.transactions → NoneExpired talk net n
      → IsPlayed talk net n kept (start talk.way r)
  unfolding start
  start_made reads net r at none = by r.is_set_up
    where
      by : (b : Bool) → IsPlayed talk net n kept (if b then nothing r else
          (ask talk.way r.transactions (channel 0 (CuCp r.gnb))
          (record { message = f1 (f1s.F1SetupRequest no_instance (node_text (du_node r))); deadline = None; awaited = false })
          then (λ a. nothing (with_transactions r a.transactions))))
      by true = no_move net r (nothing r) at (refl, refl)
      by false =
          subst (λ (t : Transactions M C). IsPlayed talk net n kept (ask talk.way t (channel 0 (CuCp r.gnb))
          (record { message = f1 (f1s.F1SetupRequest no_instance (node_text (du_node r))); deadline = None; awaited = false })
          then (λ a. nothing (with_transactions r a.transactions)))) at
          (one_made talk n kept net (asks (channel 0 (CuCp r.gnb))
          (record { message = f1 (f1s.F1SetupRequest no_instance (node_text (du_node r))); deadline = None; awaited = false }))
          (ask talk.way (net.nodes n) (channel 0 (CuCp r.gnb))
          (record { message = f1 (f1s.F1SetupRequest no_instance (node_text (du_node r))); deadline = None; awaited = false })) (
            (λ i. reads.kinds (with_instance i (f1 (f1s.F1SetupRequest no_instance (node_text (du_node r))))) ∙ is_setup_request i (node_text (du_node r))),
            none (channel 0 (CuCp r.gnb)),
          ) tt refl (λ a. with_transactions r a.transactions) (λ a. refl))

  tick_made : (net : Net M C) → Good talk net → NoneExpired talk net n → (r : Du M C) → net.nodes n ≡ r.transactions → NoneDue r.transactions
      → IsPlayedWhole talk net n kept (tick talk.way r)
  unfolding tick
  tick_made net good none r at late =
      subst (λ (t : Transactions M C). IsPlayedWhole talk net n kept (gives (flat_map (due_output talk.way) (due t.caller))
      (with_transactions r (record t { caller = after_tick t.caller })))) at (
        ages ∷ moves_due (due (net.nodes n).caller),
        tick_plays talk n (due_output talk.way) (λ c x. refl) (λ c. refl) net good,
        tick_none talk n net none (subst (λ (t : Transactions M C). NoneDue t) (sym at) late) (due (net.nodes n).caller),
      )

  -- of all inputs but a tick
  abbrev IsPlayedBut : Net M C → Input C P → Answer M P (Du M C) → Type 0
  IsPlayedBut net tick_input a = Unit {0}
  IsPlayedBut net input a = IsPlayed talk net n kept a

  but_made : ReadsWell talk → (net : Net M C) → Good talk net → NoneExpired talk net n → (r : Du M C) → net.nodes n ≡ r.transactions
      → (input : Input C P) → IsPutTo talk net n input → IsPlayedBut net input (du_acts talk.way r input)
  unfolding du_acts pass_up confirm
  but_made reads net good none r at (control_input from m) put = control_made reads net good r at from m put
  but_made reads net good none r at (packet_input teid item) put = no_move net r (take talk.way teid item r) at (take_leaves teid item r)
  but_made reads net good none r at (radio_input ue bearer Ul pdu content) put =
      no_move net r _ at (context_leaves r (λ c b. puts (packet b.up b.uplink ue bearer Ul Same (uplink pdu)) r) bearer (context_of r ue) (λ d b. (refl, refl)))
  but_made reads net good none r at (radio_input ue bearer Dl pdu content) put = drops_made talk n net kept r Unexpected at
  but_made reads net good none r at (confirm_input ue bearer Dl pdu content) put =
      no_move net r _ at (context_leaves r (λ c b. confirmed talk.way ue bearer r b (talk.way.number c.sn pdu)) bearer (context_of r ue)
      (λ d b. confirmed_leaves ue bearer r b (talk.way.number d.sn pdu)))
  but_made reads net good none r at (confirm_input ue bearer Ul pdu content) put = drops_made talk n net kept r Unexpected at
  but_made reads net good none r at (offer_input ue bearer p) put = drops_made talk n net kept r Unexpected at
  but_made reads net good none r at tick_input put = tt
  but_made reads net good none r at (order_input orders.Start) put = start_made reads net r at none
  but_made reads net good none r at (order_input order) put = drops_made talk n net kept r Unexpected at

  pub du_made : ReadsWell talk → (net : Net M C) → Good talk net → NoneExpired talk net n → (r : Du M C) → net.nodes n ≡ r.transactions
      → NoneDue r.transactions → (input : Input C P) → IsPutTo talk net n input → IsPlayedWhole talk net n kept (du_acts talk.way r input)
  unfolding du_acts
  du_made reads net good none r at late tick_input put = tick_made net good none r at late
  du_made reads net good none r at late input put =
      whole talk n net kept (du_acts talk.way r input) none (but_made reads net good none r at input put)

  -- ---- what it asks has no deadline

  abbrev Undated : Answer M P (Du M C) → Type 0
  Undated a = After talk.way kept a

  leaves_undated : (t : Transactions M C) (a : Answer M P (Du M C)) → AreUndated t → Leaves talk n kept t a → Undated a
  leaves_undated t (gives os r) all leaves = subst AreUndated (sym leaves.1) all
  leaves_undated t (spent k) all leaves = tt

  replies_undated : (t : Transactions M C) (c : Channel) (m : Message C) (i : ℕ) (a : Answer M P (Du M C)) → AreUndated t → Replies talk n kept t c m i a → Undated a
  unfolding waits_at
  replies_undated t c m i (gives os r) all (inl none) = subst AreUndated (sym none.1) all
  replies_undated t c m i (gives os r) all (inr one) = subst AreUndated (sym one.kept) all
  replies_undated t c m i (spent k) all replies = tt

  transfer_undated : (r : Du M C) (m : Message C) → AreUndated r.transactions → Undated (transferred talk.way m r)
  unfolding relay_down
  transfer_undated r (f1 (f1s.DlRrcMessageTransfer ue container)) all = by (context_of r ue)
    where
      by : (c : Option DuContext) → Undated (relayed_down talk.way ue container r c)
      by None = all
      by (Some c) = all
  transfer_undated r m all = all

  terminal_undated : (r : Du M C) (ue : ℕ) (m : Message C) → AreUndated r.transactions → Undated (of_terminal talk.way ue m r)
  unfolding relay_up
  terminal_undated r ue (rrc token) all = by ((token_ue talk.way token).0 == ue) (context_of r (token_ue talk.way token))
    where
      by : (b : Bool) (c : Option DuContext)
          → Undated (if b then relayed_up talk.way (token_ue talk.way token) token r c else drops Unexpected r)
      by true None = all
      by true (Some c) = all
      by false c = all
  terminal_undated r ue m all = all

  of_cp_undated : (r : Du M C) (from : NodeId) (m : Message C) → AreUndated r.transactions → (k : Kind) → kind_of m ≡ k → Undated (of_cu_cp talk.way from m r k)
  unfolding set_up waits_at
  of_cp_undated r from m all (request ue i) is =
      let t : Transactions M C = record r.transactions { callee = taken r.transactions.callee (channel ue from) i } in
      request_undated talk.way kept r r.transactions (channel ue from) i (λ u. asked talk.way (channel ue from) m (with_transactions r u)) all
      (replies_undated t (channel ue from) m i (asked talk.way (channel ue from) m (with_transactions r t)) all (asked_replies r t from m ue i is))
  of_cp_undated r from m all (reply ue i) is =
      reply_undated talk.way kept r r.transactions (channel ue from) i (λ a. record r { is_set_up = true; transactions = a.transactions }) (λ a. refl) all all
  of_cp_undated r from m all (transfer ue) is = transfer_undated r m all

  control_undated : (r : Du M C) (from : NodeId) (m : Message C) → AreUndated r.transactions → Undated (control_received talk.way from m r)
  unfolding control_received
  control_undated r (CuCp gnb) m all = by (is_same_gnb gnb r.gnb)
    where
      by : (b : Bool) → Undated (if b then of_cu_cp talk.way (CuCp gnb) m r (kind_of m) else drops Unexpected r)
      by true = of_cp_undated r (CuCp gnb) m all (kind_of m) refl
      by false = all
  control_undated r (Ue ue) m all = terminal_undated r ue m all
  control_undated r from m all = all

  start_undated : (r : Du M C) → AreUndated r.transactions → Undated (start talk.way r)
  unfolding start
  start_undated r all = by r.is_set_up
    where
      first : Waiting C
      first = record { message = f1 (f1s.F1SetupRequest no_instance (node_text (du_node r))); deadline = None; awaited = false }

      by : (b : Bool) → Undated (if b then nothing r else
          (ask talk.way r.transactions (channel 0 (CuCp r.gnb))
          (record { message = f1 (f1s.F1SetupRequest no_instance (node_text (du_node r))); deadline = None; awaited = false })
          then (λ a. nothing (with_transactions r a.transactions))))
      by true = all
      by false =
          asked_then talk.way kept (ask talk.way r.transactions (channel 0 (CuCp r.gnb)) first) (λ a. with_transactions r a.transactions) (λ a. refl)
          (ask_undated talk.way r.transactions (channel 0 (CuCp r.gnb)) first refl all)

  pub du_undated : (r : Du M C) → IsSorted channel_cmp r.transactions.caller.opened → AreUndated r.transactions → (input : Input C P)
      → Undated (du_acts talk.way r input)
  unfolding du_acts pass_up confirm tick
  du_undated r sorted all (control_input from m) = control_undated r from m all
  du_undated r sorted all (packet_input teid item) = leaves_undated r.transactions (take talk.way teid item r) all (take_leaves teid item r)
  du_undated r sorted all (radio_input ue bearer Ul pdu content) =
      leaves_undated r.transactions _ all
      (context_leaves r (λ c b. puts (packet b.up b.uplink ue bearer Ul Same (uplink pdu)) r) bearer (context_of r ue) (λ d b. (refl, refl)))
  du_undated r sorted all (confirm_input ue bearer Dl pdu content) =
      leaves_undated r.transactions _ all
      (context_leaves r (λ c b. confirmed talk.way ue bearer r b (talk.way.number c.sn pdu)) bearer (context_of r ue)
      (λ d b. confirmed_leaves ue bearer r b (talk.way.number d.sn pdu)))
  du_undated r sorted all tick_input = ticked_undated r.transactions sorted all
  du_undated r sorted all (order_input orders.Start) = start_undated r all
  du_undated r sorted all input = all
