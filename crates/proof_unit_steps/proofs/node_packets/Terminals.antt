-- A terminal: what it puts, delivers and keeps has the property where what it kept and what the input brings have it.
use Rattle.std.proofs.Common.{◌≡◌, ◌==◌, ℕ, zero, suc, ◌+◌, Bool, not, ◌&&◌, List, [], ◌∷◌, ◌++◌, length, map, Option, Some, None, refl, sym, subst}
use Rattle.std.specs.Prelude.{if◌then◌else◌, nat_lt, nat_le}
use Rattle.std.specs.List.{AllByRecursion}
use Rattle.gnb_types.specs.declared.names.NodeId.{NodeId}
use Rattle.gnb_types.specs.declared.names.NodeId.TheVariants.{Du as du_id}
use Rattle.gnb_types.specs.declared.names.UeId.{UeId}
use Rattle.gnb_types.specs.declared.names.BearerId.{BearerId}
use Rattle.gnb_types.specs.declared.names.Dir.TheVariants.{Dl, Ul}
use Rattle.gnb_types.specs.declared.keys.EntityKey.{EntityKey}
use Rattle.gnb_types.specs.declared.inputs.Order.TheVariants as orders
use Rattle.gnb_types.specs.declared.outputs.Tag.TheVariants.{Absent}
use Rattle.gnb_types.specs.declared.reasons.DropReason.TheVariants.{Stale, Duplicate, Unexpected}
use Rattle.gnb_types.specs.declared.reasons.HeldReason.TheVariants.{Ahead}
use Rattle.gnb_types.specs.declared.reasons.RefuseReason.TheVariants.{NotAccessing, Busy, NoRadio, Size, Quota}
use Rattle.gnb_types.specs.Orders.{bearer_cmp}
use Rattle.gnb_types.proofs.OrderLemmas.{bearer_exact}
use Rattle.tables.specs.Tables.{find}
use Rattle.message_types.specs.declared.rrc.Token.{Token}
use Rattle.message_types.specs.declared.rrc.Token.TheVariants as tokens
use Rattle.pdcp.specs.Near.{last_count}
use Rattle.pdcp_defs.specs.Senders.{numbered, has_room, confirmed_by}
use Rattle.pdcp_defs.specs.Receivers.{is_duplicate, is_ahead, stored, deliver as handed_up, received_bits}
use Rattle.unit_defs.specs.declared.UeState.{UeState}
use Rattle.unit_defs.specs.declared.UeState.TheVariants as states
use Rattle.unit_defs.specs.declared.TokenKind.{TokenKind}
use Rattle.unit_defs.specs.Ways.{Message, rrc, report_pdu, Content, packet_content, report_content, Output, deliver, Input, control_input, radio_input, confirm_input, offer_input, tick_input, order_input, held, no, Way, Answer, gives, spent, ◌then◌, nothing, puts, drops, counts_spent, epochs_spent}
use Rattle.unit_defs.specs.Ue.{UeBearer, UeNode, new_bearers, last_epoch, largest_packet, is_connected, is_accessing, may_return, on_air, data_output, unconfirmed_outputs, number_each, number_waiting, connect_bearer, with_bearer, with_bearers, connect_each, connect, of_bearer, at_bearer, said, says_it, may_obey, obey, arrived, arrive, returned, return_to, come_back, accepted_in, accept, fail, used_uplink, offered, offer, handed, took_data, took, take, confirmed_if, confirmed, confirm, told, told_by, ue_acts}
use Rattle.intervals.proofs.Intervals.{all_append}
use Rattle.proof_unit_steps.specs.packets.Packets.{of, Property, ContentHas, UeInputHas, OutputHas, CountedHave, BearerHas, UeHas, AnswerHas}
use Rattle.proof_unit_steps.proofs.packets.Answers.{either, after}
use Rattle.proof_unit_steps.proofs.packets.Keyed.{keyed_found, keyed_put}
use Rattle.proof_unit_steps.proofs.packets.UpBearers.{handed_have, stored_have, numbered_have, confirmed_have, confirmed_to_have}

abbrev Bearers : Type 0
Bearers = List (BearerId × UeBearer)

-- the terminal of this name
module _ {M C P : Type 0} {way : Way M C P} (has : Property way) (ue : UeId) where
  -- ---- one bearer

  abbrev sends : UeNode → BearerId → EntityKey
  sends u bearer = of u.plan.ue bearer Ul

  abbrev receives : UeNode → BearerId → EntityKey
  receives u bearer = of u.plan.ue bearer Dl

  abbrev Has : UeNode → BearerId → UeBearer → Type 0
  Has u bearer b = BearerHas has (sends u bearer) (receives u bearer) b.sender b.waiting b.receiver

  abbrev EachHas : UeNode → Bearers → Type 0
  EachHas u es = AllByRecursion (λ (e : BearerId × UeBearer). Has u e.0 e.1) es

  abbrev Fits : UeNode → BearerId → Answer M P UeBearer → Type 0
  Fits u bearer a = AnswerHas has (Has u bearer) a

  abbrev Put : List (Output M P) → Type 0
  Put os = AllByRecursion (OutputHas has) os

  number_each_has : (u : UeNode) (bearer : BearerId) (ps : List (List ℕ)) (b : UeBearer) → AllByRecursion (has.packet (sends u bearer)) ps → Has u bearer b
      → Fits u bearer (number_each way u bearer ps b)
  unfolding number_each
  number_each_has u bearer [] b all p = (p, tt)
  number_each_has u bearer (x ∷ xs) b all p =
      let on : UeBearer = record b { sender = numbered b.sender x; waiting = xs } in
      let q : Has u bearer on = record { unconfirmed = numbered_have has (sends u bearer) b.sender x p.unconfirmed all.0; waiting = all.1; stored = p.stored } in
      either has (Has u bearer) (not (has_room u.plan.sn u.plan.quota b.sender)) (nothing b) _ (p, tt)
      (after has (Has u bearer) (Has u bearer)
      (if nat_lt last_count b.sender.next then spent counts_spent else puts (data_output way u bearer b.sender.next x) on) (number_each way u bearer xs)
      (either has (Has u bearer) (nat_lt last_count b.sender.next) (spent counts_spent) (puts (data_output way u bearer b.sender.next x) on) tt
      (q, (has.writes (sends u bearer) u.plan.sn b.sender.next x all.0, tt))) (λ c h. number_each_has u bearer xs c all.1 h))

  number_waiting_has : (u : UeNode) (bearer : BearerId) (b : UeBearer) → Has u bearer b → Fits u bearer (number_waiting way u bearer b)
  unfolding number_waiting
  number_waiting_has u bearer b p =
      either has (Has u bearer) (is_connected u.state) (number_each way u bearer b.waiting b) (nothing b) (number_each_has u bearer b.waiting b p.waiting p) (p, tt)

  again_have : (u : UeNode) (bearer : BearerId) (es : List (ℕ × List ℕ)) → CountedHave has (sends u bearer) es → Put (map (λ e. data_output way u bearer e.0 e.1) es)
  again_have u bearer [] all = tt
  again_have u bearer (e ∷ es) all = (has.writes (sends u bearer) u.plan.sn e.0 e.1 all.0, again_have u bearer es all.1)

  connect_bearer_has : (u : UeNode) (bearer : BearerId) (b : UeBearer) → Has u bearer b → Fits u bearer (connect_bearer way u bearer b)
  unfolding connect_bearer
  connect_bearer_has u bearer b p =
      let bits : List Bool = received_bits b.receiver in
      after has (Has u bearer) (Has u bearer)
      (gives (on_air way u bearer Absent (way.write u.plan.sn (report_pdu b.receiver.deliv bits)) ∷ unconfirmed_outputs way u bearer b) b)
      (number_waiting way u bearer)
      (p, (has.reports (sends u bearer) u.plan.sn b.receiver.deliv bits, again_have u bearer b.sender.unconfirmed p.unconfirmed)) (number_waiting_has u bearer)

  -- ---- all bearers

  abbrev Keeps : Answer M P UeNode → Type 0
  Keeps a = AnswerHas has (UeHas has ue) a

  same_if : (t : Bool) (x y : Answer M P UeNode) → Keeps x → Keeps y → Keeps (if t then x else y)
  same_if t x y p q = either has (UeHas has ue) t x y p q

  connect_each_has : (u : UeNode) (es : Bearers) → EachHas u es → AnswerHas has (EachHas u) (connect_each way u es)
  connect_each_has u [] all = (tt, tt)
  connect_each_has u (e ∷ es) all =
      after has (Has u e.0) (EachHas u) (connect_bearer way u e.0 e.1) (λ b. connect_each way u es then (λ bearers. nothing ((e.0, b) ∷ bearers)))
      (connect_bearer_has u e.0 e.1 all.0)
      (λ b p. after has (EachHas u) (EachHas u) (connect_each way u es) (λ bearers. nothing ((e.0, b) ∷ bearers)) (connect_each_has u es all.1) (λ bearers q. ((p, q), tt)))

  connect_has : (u : UeNode) → UeHas has ue u → Keeps (connect way u)
  connect_has u p =
      after has (EachHas u) (UeHas has ue) (connect_each way u u.bearers) (λ bearers. nothing (with_bearers way u bearers)) (connect_each_has u u.bearers p.1)
      (λ bearers q. ((p.0, q), tt))

  with_one : (u : UeNode) (bearer : BearerId) (a : Answer M P UeBearer) → UeHas has ue u → Fits u bearer a → Keeps (a then (λ c. nothing (with_bearer way u bearer c)))
  with_one u bearer a p h =
      after has (Has u bearer) (UeHas has ue) a (λ c. nothing (with_bearer way u bearer c)) h
      (λ c q. ((p.0, keyed_put bearer_cmp bearer_exact (Has u) u.bearers bearer c p.1 q), tt))

  at_bearer_has : (u : UeNode) (bearer : BearerId) (row : UeBearer → Answer M P UeBearer) → UeHas has ue u → ((b : UeBearer) → Has u bearer b → Fits u bearer (row b))
      → Keeps (at_bearer way u bearer row)
  at_bearer_has u bearer row p each = by (find bearer_cmp u.bearers bearer) refl
    where
      by : (o : Option UeBearer) → find bearer_cmp u.bearers bearer ≡ o → Keeps (of_bearer way u bearer row o)
      by None is = (p, (tt, tt))
      by (Some b) is = with_one u bearer (row b) p (each b (keyed_found bearer_cmp bearer_exact (Has u) u.bearers bearer b p.1 is))

  -- ---- its state

  said_has : (u : UeNode) (kind : Option TokenKind) (home : Option NodeId) → Put (said way u kind home)
  said_has u None home = tt
  said_has u (Some kind) None = tt
  said_has u (Some kind) (Some home) = (tt, tt)

  says_has : (u : UeNode) → UeHas has ue u → Keeps (says_it way u)
  says_has u p = (p, said_has u u.token u.home)

  obey_has : (epoch : ℕ) (goal : NodeId) (u : UeNode) → UeHas has ue u → Keeps (obey way epoch goal u)
  unfolding obey
  obey_has epoch goal u p =
      same_if (may_obey way u.state && epoch == u.epoch + 1) (nothing (record u { state = states.Accessing; goal = Some goal })) (drops Stale u) (p, tt) (p, (tt, tt))

  arrive_has : (u : UeNode) → UeHas has ue u → Keeps (arrive way u)
  unfolding arrive
  arrive_has u p =
      same_if (not (is_accessing u.state)) (puts (no NotAccessing) u) _ (p, (tt, tt))
      (after has (UeHas has ue) (UeHas has ue) (if nat_le last_epoch u.epoch then spent epochs_spent else says_it way (arrived way u)) (connect way)
      (same_if (nat_le last_epoch u.epoch) (spent epochs_spent) (says_it way (arrived way u)) tt (says_has (arrived way u) p)) connect_has)

  come_back_has : (u : UeNode) → UeHas has ue u → Keeps (come_back way u)
  unfolding come_back
  come_back_has u p = by u.home
    where
      by : (o : Option NodeId) → Keeps (return_to way u o)
      by None = (p, (tt, tt))
      by (Some home) =
          same_if (not (may_return u.state)) (puts (no Busy) u) _ (p, (tt, tt))
          (same_if (nat_le last_epoch u.epoch) (spent epochs_spent) (says_it way (returned way u)) tt (says_has (returned way u) p))

  accept_has : (epoch : ℕ) (u : UeNode) → UeHas has ue u → Keeps (accept way epoch u)
  unfolding accept
  accept_has epoch u p = same_if (epoch == u.epoch) (accepted_in way u u.state) (drops Stale u) (by u.state) (p, (tt, tt))
    where
      by : (s : UeState) → Keeps (accepted_in way u s)
      by states.Returning = connect_has (record u { token = None; state = states.Connected }) p
      by s = (p, tt)

  fail_has : (u : UeNode) → UeHas has ue u → Keeps (fail way u)
  unfolding fail
  fail_has u p = same_if (is_connected u.state) (nothing (record u { state = states.Lost })) (puts (no NoRadio) u) (p, tt) (p, (tt, tt))

  -- ---- packets

  offer_has : (bearer : BearerId) (x : List ℕ) (u : UeNode) → has.packet (sends u bearer) x → UeHas has ue u → Keeps (offer way bearer x u)
  unfolding offer
  offer_has bearer x u brings p = by (find bearer_cmp u.bearers bearer) refl
    where
      by : (o : Option UeBearer) → find bearer_cmp u.bearers bearer ≡ o → Keeps (offered way u bearer x o)
      by None is = (p, (tt, tt))
      by (Some b) is =
          let on : UeBearer = record b { waiting = b.waiting ++ x ∷ [] } in
          let h : Has u bearer b = keyed_found bearer_cmp bearer_exact (Has u) u.bearers bearer b p.1 is in
          same_if (nat_lt largest_packet (length x)) (puts (no Size) u) _ (p, (tt, tt))
          (same_if (nat_le u.plan.quota (used_uplink way b)) (puts (no Quota) u) _ (p, (tt, tt))
          (with_one u bearer (number_waiting way u bearer on) p
          (number_waiting_has u bearer on (record {
            unconfirmed = h.unconfirmed;
            waiting = all_append (has.packet (sends u bearer)) b.waiting (x ∷ []) h.waiting (brings, tt);
            stored = h.stored;
          }))))

  delivered_have : (u : UeNode) (bearer : BearerId) (es : List (ℕ × List ℕ)) → CountedHave has (receives u bearer) es → Put (map (λ e. deliver u.plan.ue bearer Dl e.0 e.1) es)
  delivered_have u bearer [] all = tt
  delivered_have u bearer (e ∷ es) all = (all.0, delivered_have u bearer es all.1)

  took_data_has : (u : UeNode) (bearer : BearerId) (count : Option ℕ) (x : List ℕ) (b : UeBearer) → has.packet (receives u bearer) x → Has u bearer b
      → Fits u bearer (took_data way u bearer count x b)
  took_data_has u bearer None x b is p = (p, (tt, tt))
  took_data_has u bearer (Some count) x b is p =
      let d = handed_up (stored b.receiver count x) in
      let both = handed_have has (receives u bearer) (stored b.receiver count x) (stored_have has (receives u bearer) b.receiver count x p.stored is) in
      either has (Has u bearer) (is_duplicate b.receiver count) (drops Duplicate b) _ (p, (tt, tt))
      (either has (Has u bearer) (is_ahead u.plan.quota b.receiver count) (puts (held Ahead) b) (handed way u bearer b d) (p, (tt, tt))
      (record { unconfirmed = p.unconfirmed; waiting = p.waiting; stored = both.1 }, delivered_have u bearer d.packets both.0))

  took_has : (u : UeNode) (bearer : BearerId) (content : Content) (b : UeBearer) → ContentHas has (receives u bearer) content → Has u bearer b
      → Fits u bearer (took way u bearer content b)
  took_has u bearer (packet_content count x) b is p = took_data_has u bearer count x b is p
  took_has u bearer (report_content fmc bits) b is p =
      number_waiting_has u bearer (record b { sender = confirmed_by b.sender fmc bits })
      (record { unconfirmed = confirmed_have has (sends u bearer) b.sender fmc bits p.unconfirmed; waiting = p.waiting; stored = p.stored })

  confirmed_bearer : (u : UeNode) (bearer : BearerId) (count : Option ℕ) (b : UeBearer) → Has u bearer b → Has u bearer (confirmed_if way count b)
  confirmed_bearer u bearer None b p = p
  confirmed_bearer u bearer (Some count) b p =
      record { unconfirmed = confirmed_to_have has (sends u bearer) b.sender count p.unconfirmed; waiting = p.waiting; stored = p.stored }

  confirmed_has : (u : UeNode) (bearer : BearerId) (content : Content) (b : UeBearer) → Has u bearer b → Fits u bearer (confirmed way u bearer content b)
  confirmed_has u bearer (packet_content count x) b p = number_waiting_has u bearer (confirmed_if way count b) (confirmed_bearer u bearer count b p)
  confirmed_has u bearer (report_content fmc bits) b p = (p, tt)

  -- ---- tokens, and the table

  told_has : (token : Token) (u : UeNode) → UeHas has ue u → Keeps (told way token u)
  told_has (tokens.Command to epoch gnb du) u p =
      same_if (to.0 == u.plan.ue.0) (obey way epoch (du_id gnb du) u) (drops Unexpected u) (obey_has epoch (du_id gnb du) u p) (p, (tt, tt))
  told_has (tokens.Accepted to epoch) u p =
      same_if (to.0 == u.plan.ue.0) (accept way epoch u) (drops Unexpected u) (accept_has epoch u p) (p, (tt, tt))
  told_has token u p = (p, (tt, tt))

  told_by_has : (from : NodeId) (m : Message C) (u : UeNode) → UeHas has ue u → Keeps (told_by way from m u)
  told_by_has (du_id gnb number) (rrc token) u p = told_has token u p
  told_by_has from m u p = (p, (tt, tt))

  pub terminal_has : (u : UeNode) (input : Input C P) → UeHas has ue u → UeInputHas has ue input → Keeps (ue_acts way u input)
  unfolding ue_acts take confirm
  terminal_has u (control_input from m) p brings = told_by_has from m u p
  terminal_has u (radio_input who bearer Dl pdu content) p brings =
      at_bearer_has u bearer (took way u bearer content) p
      (λ b h. took_has u bearer content b (subst (λ (w : UeId). ContentHas has (of w bearer Dl) content) (sym p.0) brings) h)
  terminal_has u (confirm_input who bearer Ul pdu content) p brings = at_bearer_has u bearer (confirmed way u bearer content) p (confirmed_has u bearer content)
  terminal_has u (offer_input who bearer x) p brings = offer_has bearer x u (subst (λ (w : UeId). has.packet (of w bearer Ul) x) (sym p.0) brings) p
  terminal_has u tick_input p brings = says_has u p
  terminal_has u (order_input (orders.Arrive who)) p brings = arrive_has u p
  terminal_has u (order_input (orders.Return who)) p brings = come_back_has u p
  terminal_has u (order_input (orders.Fail who)) p brings = fail_has u p
  terminal_has u input p brings = (p, (tt, tt))

  -- a new terminal keeps no packet
  new_have : (u : UeNode) (i n : ℕ) → EachHas u (new_bearers i n)
  new_have u i zero = tt
  new_have u i (suc n) = (record { unconfirmed = tt; waiting = tt; stored = tt }, new_have u (i + 1) n)

  pub new_has : (u : UeNode) (i n : ℕ) → u.plan.ue ≡ ue → u.bearers ≡ new_bearers i n → UeHas has ue u
  new_has u i n own is = (own, subst (EachHas u) (sym is) (new_have u i n))
