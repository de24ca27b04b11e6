-- A terminal: where it holds a PDU or refuses an event its record stays, as long as its bearers are in order, and they go on to be.
use Rattle.std.proofs.Common.{◌≡◌, ◌==◌, ℕ, zero, suc, ◌+◌, Bool, not, ◌&&◌, List, [], ◌∷◌, ◌++◌, length, map, Option, Some, None, refl, sym, ap, ◌∙◌, subst}
use Rattle.std.specs.Prelude.{if◌then◌else◌, nat_lt, nat_le}
use Rattle.std.specs.List.{AllByRecursion}
use Rattle.std.specs.List.Sorted.{IsStrictlySortedBy}
use Rattle.gnb_types.specs.declared.names.NodeId.{NodeId}
use Rattle.gnb_types.specs.declared.names.NodeId.TheVariants.{Du as du_id}
use Rattle.gnb_types.specs.declared.names.UeId.{UeId}
use Rattle.gnb_types.specs.declared.names.BearerId.{BearerId}
use Rattle.gnb_types.specs.declared.names.Dir.TheVariants.{Dl, Ul}
use Rattle.gnb_types.specs.declared.inputs.Order.TheVariants as orders
use Rattle.gnb_types.specs.declared.outputs.Tag.TheVariants.{Absent}
use Rattle.gnb_types.specs.declared.reasons.DropReason.TheVariants.{Stale, Duplicate, Unexpected}
use Rattle.gnb_types.specs.declared.reasons.HeldReason.TheVariants.{Ahead}
use Rattle.gnb_types.specs.declared.reasons.RefuseReason.TheVariants.{NotAccessing, Busy, NoRadio, Size, Quota}
use Rattle.gnb_types.specs.Orders.{bearer_cmp}
use Rattle.gnb_types.proofs.OrderLemmas.{bearer_total}
use Rattle.tables.specs.Tables.{find, put, IsSorted}
use Rattle.tables.proofs.TableLaws.{sorted-put}
use Rattle.std.specs.Map.{keys_of}
use Rattle.message_types.specs.declared.rrc.Token.{Token}
use Rattle.message_types.specs.declared.rrc.Token.TheVariants as tokens
use Rattle.pdcp.specs.Near.{last_count}
use Rattle.pdcp_defs.specs.Senders.{numbered, has_room, confirmed_by}
use Rattle.pdcp_defs.specs.Receivers.{is_duplicate, is_ahead, stored, deliver as handed_up, received_bits}
use Rattle.unit_defs.specs.declared.UeState.{UeState}
use Rattle.unit_defs.specs.declared.UeState.TheVariants as states
use Rattle.unit_defs.specs.declared.TokenKind.{TokenKind}
use Rattle.unit_defs.specs.Ways.{Message, rrc, report_pdu, Content, packet_content, report_content, Output, deliver, Input, control_input, radio_input, confirm_input, offer_input, tick_input, order_input, held, no, Way, Answer, gives, spent, ◌then◌, nothing, puts, drops, counts_spent, epochs_spent}
use Rattle.unit_defs.specs.Ue.{UeBearer, UeNode, new_bearers, last_epoch, largest_packet, is_connected, is_accessing, may_return, on_air, data_output, unconfirmed_outputs, number_each, number_waiting, connect_bearer, with_bearer, with_bearers, connect_each, connect, of_bearer, at_bearer, said, says_it, may_obey, obey, arrived, arrive, returned, return_to, come_back, accepted_in, accept, fail, used_uplink, offered, offer, handed, took_data, took, take, confirmed_if, confirmed, confirm, told, told_by, ue_acts}
use Rattle.proof_site.specs.lone_units.Lone.{IsMade, Makes, MakesTo, EndsIn, StaysWhereLone, StaysIn}
use Rattle.proof_site.specs.lone_units.Orders.{HasOrder}
use Rattle.proof_site.proofs.lone_units.Steps.{all_map, either, after, made_stays, stays_either, either_to, after_to, made_to, to_stays, stays_if}
use Rattle.proof_site.proofs.lone_units.Standing.{put_back}

abbrev Bearers : Type 0
Bearers = List (BearerId × UeBearer)

abbrev HasKeys : List BearerId → Bearers → Type 0
HasKeys keys es = keys_of es ≡ keys

module _ {M C P : Type 0} (way : Way M C P) where
  -- ---- one bearer

  number_each_makes : (u : UeNode) (bearer : BearerId) (ps : List (List ℕ)) (b : UeBearer) → Makes (number_each way u bearer ps b)
  unfolding number_each
  number_each_makes u bearer [] b = tt
  number_each_makes u bearer (x ∷ xs) b =
      let on : UeBearer = record b { sender = numbered b.sender x; waiting = xs } in
      either (not (has_room u.plan.sn u.plan.quota b.sender)) (nothing b) _ tt
      (after (if nat_lt last_count b.sender.next then spent counts_spent else puts (data_output way u bearer b.sender.next x) on) (number_each way u bearer xs)
      (either (nat_lt last_count b.sender.next) (spent counts_spent) (puts (data_output way u bearer b.sender.next x) on) tt (tt, tt))
      (λ c. number_each_makes u bearer xs c))

  number_waiting_makes : (u : UeNode) (bearer : BearerId) (b : UeBearer) → Makes (number_waiting way u bearer b)
  unfolding number_waiting
  number_waiting_makes u bearer b =
      either (is_connected u.state) (number_each way u bearer b.waiting b) (nothing b) (number_each_makes u bearer b.waiting b) tt

  connect_bearer_makes : (u : UeNode) (bearer : BearerId) (b : UeBearer) → Makes (connect_bearer way u bearer b)
  unfolding connect_bearer
  connect_bearer_makes u bearer b =
      after (gives (on_air way u bearer Absent (way.write u.plan.sn (report_pdu b.receiver.deliv (received_bits b.receiver))) ∷ unconfirmed_outputs way u bearer b) b)
      (number_waiting way u bearer)
      (tt, all_map IsMade (λ e. data_output way u bearer e.0 e.1) (λ e. tt) b.sender.unconfirmed) (number_waiting_makes u bearer)

  -- ---- all bearers

  abbrev Keeps : Answer M P UeNode → Type 0
  Keeps a = MakesTo HasOrder a

  same_if : (t : Bool) (x y : Answer M P UeNode) → Keeps x → Keeps y → Keeps (if t then x else y)
  same_if t x y p q = either_to HasOrder t x y p q

  connect_each_keeps : (u : UeNode) (es : Bearers) → MakesTo (HasKeys (keys_of es)) (connect_each way u es)
  connect_each_keeps u [] = (refl, tt)
  connect_each_keeps u (e ∷ es) =
      made_to (HasKeys (keys_of (e ∷ es))) (connect_bearer way u e.0 e.1) (λ b. connect_each way u es then (λ bearers. nothing ((e.0, b) ∷ bearers)))
      (connect_bearer_makes u e.0 e.1)
      (λ b. after_to (HasKeys (keys_of es)) (HasKeys (keys_of (e ∷ es))) (connect_each way u es) (λ bearers. nothing ((e.0, b) ∷ bearers)) (connect_each_keeps u es)
      (λ bearers q. (ap (λ (ks : List BearerId). e.0 ∷ ks) q, tt)))

  connect_keeps : (u : UeNode) → HasOrder u → Keeps (connect way u)
  connect_keeps u p =
      after_to (HasKeys (keys_of u.bearers)) HasOrder (connect_each way u u.bearers) (λ bearers. nothing (with_bearers way u bearers)) (connect_each_keeps u u.bearers)
      (λ bearers q. (subst (λ (ks : List BearerId). IsStrictlySortedBy bearer_cmp ks) (sym q) p, tt))

  with_one : (u : UeNode) (bearer : BearerId) (a : Answer M P UeBearer) → HasOrder u → Makes a → Keeps (a then (λ c. nothing (with_bearer way u bearer c)))
  with_one u bearer a p h =
      made_to HasOrder a (λ c. nothing (with_bearer way u bearer c)) h (λ c. (sorted-put bearer_total u.bearers bearer c p, tt))

  -- what holds a PDU leaves the bearer as it stands
  one_stays : (u : UeNode) (bearer : BearerId) (b : UeBearer) (a : Answer M P UeBearer) → HasOrder u → find bearer_cmp u.bearers bearer ≡ Some b
      → StaysWhereLone b a → StaysIn HasOrder u (a then (λ c. nothing (with_bearer way u bearer c)))
  one_stays u bearer b a p there h = (by_outputs a h, by_record a)
    where
      back : (c : UeBearer) → c ≡ b → with_bearer way u bearer c ≡ u
      back c same =
          ap (λ (x : UeBearer). with_bearer way u bearer x) same
          ∙ ap (λ (bearers : Bearers). with_bearers way u bearers) (put_back bearer_total u.bearers bearer b p there)

      by_outputs : (a : Answer M P UeBearer) → StaysWhereLone b a → StaysWhereLone u (a then (λ c. nothing (with_bearer way u bearer c)))
      by_outputs (gives (held reason ∷ []) c) h = back c h
      by_outputs (gives (no reason ∷ []) c) h = back c h
      by_outputs (gives [] c) h = tt
      by_outputs (gives (o ∷ q ∷ os) c) h = by_two o
        where
          by_two : (o : Output M P) → StaysWhereLone u (gives (o ∷ q ∷ (os ++ [])) (with_bearer way u bearer c))
          by_two (held reason) = tt
          by_two (no reason) = tt
          by_two o = tt
      by_outputs answer h = tt

      by_record : (a : Answer M P UeBearer) → EndsIn HasOrder (a then (λ c. nothing (with_bearer way u bearer c)))
      by_record (gives outputs c) = sorted-put bearer_total u.bearers bearer c p
      by_record (spent counter) = tt

  at_bearer_stays : (u : UeNode) (bearer : BearerId) (row : UeBearer → Answer M P UeBearer) → HasOrder u → ((b : UeBearer) → StaysWhereLone b (row b))
      → StaysIn HasOrder u (at_bearer way u bearer row)
  at_bearer_stays u bearer row p each = by (find bearer_cmp u.bearers bearer) refl
    where
      by : (o : Option UeBearer) → find bearer_cmp u.bearers bearer ≡ o → StaysIn HasOrder u (of_bearer way u bearer row o)
      by None is = (tt, p)
      by (Some b) is = one_stays u bearer b (row b) p is (each b)

  -- ---- its state

  said_makes : (u : UeNode) (kind : Option TokenKind) (home : Option NodeId) → AllByRecursion IsMade (said way u kind home)
  said_makes u None home = tt
  said_makes u (Some kind) None = tt
  said_makes u (Some kind) (Some home) = (tt, tt)

  says_keeps : (u : UeNode) → HasOrder u → Keeps (says_it way u)
  says_keeps u p = (p, said_makes u u.token u.home)

  obey_keeps : (epoch : ℕ) (goal : NodeId) (u : UeNode) → HasOrder u → Keeps (obey way epoch goal u)
  unfolding obey
  obey_keeps epoch goal u p =
      same_if (may_obey way u.state && epoch == u.epoch + 1) (nothing (record u { state = states.Accessing; goal = Some goal })) (drops Stale u) (p, tt) (p, (tt, tt))

  abbrev Stays : UeNode → Answer M P UeNode → Type 0
  Stays u a = StaysIn HasOrder u a

  made : (u : UeNode) (a : Answer M P UeNode) → Keeps a → Stays u a
  made u a p = to_stays HasOrder u a p

  arrive_stays : (u : UeNode) → HasOrder u → Stays u (arrive way u)
  unfolding arrive
  arrive_stays u p =
      stays_if HasOrder u (not (is_accessing u.state)) (puts (no NotAccessing) u) _ (refl, p)
      (made u ((if nat_le last_epoch u.epoch then spent epochs_spent else says_it way (arrived way u)) then connect way)
      (after_to HasOrder HasOrder (if nat_le last_epoch u.epoch then spent epochs_spent else says_it way (arrived way u)) (connect way)
      (same_if (nat_le last_epoch u.epoch) (spent epochs_spent) (says_it way (arrived way u)) tt (says_keeps (arrived way u) p)) connect_keeps))

  come_back_stays : (u : UeNode) → HasOrder u → Stays u (come_back way u)
  unfolding come_back
  come_back_stays u p = by u.home
    where
      by : (o : Option NodeId) → Stays u (return_to way u o)
      by None = (refl, p)
      by (Some home) =
          stays_if HasOrder u (not (may_return u.state)) (puts (no Busy) u) _ (refl, p)
          (made u (if nat_le last_epoch u.epoch then spent epochs_spent else says_it way (returned way u))
          (same_if (nat_le last_epoch u.epoch) (spent epochs_spent) (says_it way (returned way u)) tt (says_keeps (returned way u) p)))

  accept_keeps : (epoch : ℕ) (u : UeNode) → HasOrder u → Keeps (accept way epoch u)
  unfolding accept
  accept_keeps epoch u p = same_if (epoch == u.epoch) (accepted_in way u u.state) (drops Stale u) (by u.state) (p, (tt, tt))
    where
      by : (s : UeState) → Keeps (accepted_in way u s)
      by states.Returning = connect_keeps (record u { token = None; state = states.Connected }) p
      by s = (p, tt)

  fail_stays : (u : UeNode) → HasOrder u → Stays u (fail way u)
  unfolding fail
  fail_stays u p = stays_if HasOrder u (is_connected u.state) (nothing (record u { state = states.Lost })) (puts (no NoRadio) u) (tt, p) (refl, p)

  -- ---- packets

  offer_stays : (bearer : BearerId) (x : List ℕ) (u : UeNode) → HasOrder u → Stays u (offer way bearer x u)
  unfolding offer
  offer_stays bearer x u p = by (find bearer_cmp u.bearers bearer)
    where
      by : (o : Option UeBearer) → Stays u (offered way u bearer x o)
      by None = (tt, p)
      by (Some b) =
          let on : UeBearer = record b { waiting = b.waiting ++ x ∷ [] } in
          stays_if HasOrder u (nat_lt largest_packet (length x)) (puts (no Size) u) _ (refl, p)
          (stays_if HasOrder u (nat_le u.plan.quota (used_uplink way b)) (puts (no Quota) u) _ (refl, p)
          (made u (number_waiting way u bearer on then (λ c. nothing (with_bearer way u bearer c)))
          (with_one u bearer (number_waiting way u bearer on) p (number_waiting_makes u bearer on))))

  took_data_stays : (u : UeNode) (bearer : BearerId) (count : Option ℕ) (x : List ℕ) (b : UeBearer) → StaysWhereLone b (took_data way u bearer count x b)
  took_data_stays u bearer None x b = tt
  took_data_stays u bearer (Some count) x b =
      let d = handed_up (stored b.receiver count x) in
      stays_either b (is_duplicate b.receiver count) (drops Duplicate b) _ tt
      (stays_either b (is_ahead u.plan.quota b.receiver count) (puts (held Ahead) b) (handed way u bearer b d) refl
      (made_stays b (handed way u bearer b d) (all_map IsMade (λ e. deliver u.plan.ue bearer Dl e.0 e.1) (λ e. tt) d.packets)))

  took_stays : (u : UeNode) (bearer : BearerId) (content : Content) (b : UeBearer) → StaysWhereLone b (took way u bearer content b)
  took_stays u bearer (packet_content count x) b = took_data_stays u bearer count x b
  took_stays u bearer (report_content fmc bits) b =
      let on : UeBearer = record b { sender = confirmed_by b.sender fmc bits } in
      made_stays b (number_waiting way u bearer on) (number_waiting_makes u bearer on)

  confirmed_stays : (u : UeNode) (bearer : BearerId) (content : Content) (b : UeBearer) → StaysWhereLone b (confirmed way u bearer content b)
  confirmed_stays u bearer (packet_content count x) b =
      made_stays b (number_waiting way u bearer (confirmed_if way count b)) (number_waiting_makes u bearer (confirmed_if way count b))
  confirmed_stays u bearer (report_content fmc bits) b = tt

  -- ---- tokens, and the table

  told_keeps : (token : Token) (u : UeNode) → HasOrder u → Keeps (told way token u)
  told_keeps (tokens.Command to epoch gnb du) u p =
      same_if (to.0 == u.plan.ue.0) (obey way epoch (du_id gnb du) u) (drops Unexpected u) (obey_keeps epoch (du_id gnb du) u p) (p, (tt, tt))
  told_keeps (tokens.Accepted to epoch) u p =
      same_if (to.0 == u.plan.ue.0) (accept way epoch u) (drops Unexpected u) (accept_keeps epoch u p) (p, (tt, tt))
  told_keeps token u p = (p, (tt, tt))

  told_by_keeps : (from : NodeId) (m : Message C) (u : UeNode) → HasOrder u → Keeps (told_by way from m u)
  told_by_keeps (du_id gnb number) (rrc token) u p = told_keeps token u p
  told_by_keeps from m u p = (p, (tt, tt))

  pub ue_stays : (u : UeNode) (input : Input C P) → HasOrder u → Stays u (ue_acts way u input)
  unfolding ue_acts take confirm
  ue_stays u (control_input from m) p = made u (told_by way from m u) (told_by_keeps from m u p)
  ue_stays u (radio_input who bearer Dl pdu content) p = at_bearer_stays u bearer (took way u bearer content) p (took_stays u bearer content)
  ue_stays u (confirm_input who bearer Ul pdu content) p = at_bearer_stays u bearer (confirmed way u bearer content) p (confirmed_stays u bearer content)
  ue_stays u (offer_input who bearer x) p = offer_stays bearer x u p
  ue_stays u tick_input p = made u (says_it way u) (says_keeps u p)
  ue_stays u (order_input (orders.Arrive who)) p = arrive_stays u p
  ue_stays u (order_input (orders.Return who)) p = come_back_stays u p
  ue_stays u (order_input (orders.Fail who)) p = fail_stays u p
  ue_stays u input p = (tt, p)
