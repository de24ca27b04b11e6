-- What the rows of a terminal put on its radio.
use Rattle.std.proofs.Common.{◌≡◌, ℕ, ◌==◌, Bool, true, false, ◌&&◌, not, nat_lt, nat_le, length, List, [], ◌∷◌, ◌++◌, map, Option, Some, None, refl}
use Rattle.std.specs.Prelude.{if◌then◌else◌, ◌+◌}
use Rattle.std.specs.List.{AllByRecursion}
use Rattle.gnb_types.specs.declared.names.NodeId.{NodeId}
use Rattle.gnb_types.specs.declared.names.BearerId.{BearerId}
use Rattle.gnb_types.specs.declared.names.UeId.{UeId}
use Rattle.gnb_types.specs.declared.reasons.DropReason.TheVariants.{Duplicate, NoContext}
use Rattle.gnb_types.specs.declared.reasons.HeldReason.TheVariants.{Ahead}
use Rattle.gnb_types.specs.declared.reasons.RefuseReason.TheVariants.{Size, Quota}
use Rattle.gnb_types.specs.declared.outputs.Tag.TheVariants.{Absent}
use Rattle.gnb_types.specs.Orders.{bearer_cmp}
use Rattle.tables.specs.Tables.{find}
use Rattle.pdcp.specs.Near.{last_count}
use Rattle.pdcp_defs.specs.Senders.{has_room, numbered, confirmed_by}
use Rattle.pdcp_defs.specs.Receivers.{Delivery, is_duplicate, is_ahead, stored, deliver as handed_up, received_bits}
use Rattle.unit_defs.specs.declared.TokenKind.{TokenKind}
use Rattle.unit_defs.specs.Ways.{report_pdu, Content, packet_content, report_content, Output, held, no, Way, Answer, gives, spent, with_outputs, ◌then◌, nothing, puts, drops, counts_spent}
use Rattle.unit_defs.specs.Ue.{UeBearer, UeNode, is_connected, largest_packet, on_air, data_output, unconfirmed_outputs, number_each, number_waiting, connect_bearer, with_bearer, with_bearers, connect_each, connect, of_bearer, at_bearer, said, says_it, used_uplink, offered, offer, delivered, handed, took_data, took, take, confirmed, confirmed_if, confirm}
use Rattle.proof_node_orders.specs.terminal_radios.Radios.{IsPutIn}

all_both : {X : Type 0} (Q : X → Type 0) (xs ys : List X) → AllByRecursion Q xs → AllByRecursion Q ys → AllByRecursion Q (xs ++ ys)
all_both Q [] ys a b = b
all_both Q (x ∷ xs) ys a b = (a.0, all_both Q xs ys a.1 b)

module _ {M P : Type 0} (ue : UeId) (epoch : ℕ) (is_there : Bool) where
  abbrev pub AllPut : List (Output M P) → Type 0
  AllPut outputs = AllByRecursion (IsPutIn ue epoch is_there) outputs

  abbrev pub All : {R : Type 0} → Answer M P R → Type 0
  All (gives outputs after) = AllPut outputs
  All (spent counter) = Unit {0}

  with_all : {R : Type 0} (outputs : List (Output M P)) (a : Answer M P R) → AllPut outputs → All a → All (with_outputs outputs a)
  with_all outputs (gives more after) p q = all_both (IsPutIn ue epoch is_there) outputs more p q
  with_all outputs (spent counter) p q = tt

  pub then_all : {R S : Type 0} (a : Answer M P R) (f : R → Answer M P S) → All a → ((r : R) → All (f r)) → All (a then f)
  then_all (gives outputs after) f p q = with_all outputs (f after) p (q after)
  then_all (spent counter) f p q = tt

module _ {M C P : Type 0} (way : Way M C P) (u : UeNode) where
  abbrev pub Puts : {R : Type 0} → Answer M P R → Type 0
  Puts a = All {M = M} {P = P} u.plan.ue u.epoch (is_connected u.state) a

  abbrev PutAll : List (Output M P) → Type 0
  PutAll outputs = AllPut {M = M} {P = P} u.plan.ue u.epoch (is_connected u.state) outputs

  -- ---- one bearer

  each : is_connected u.state ≡ true → (bearer : BearerId) (packets : List (List ℕ)) (b : UeBearer) → Puts (number_each way u bearer packets b)
  unfolding number_each
  each is bearer [] b = tt
  each is bearer (packet ∷ packets) b =
      by (has_room u.plan.sn u.plan.quota b.sender) (nat_lt last_count b.sender.next) (λ c. each is bearer packets c)
    where
      by : (t o : Bool) → ((c : UeBearer) → Puts (number_each way u bearer packets c)) → Puts (if not t then nothing b else
          (if o then spent counts_spent else
          puts (data_output way u bearer b.sender.next packet) (record b { sender = numbered b.sender packet; waiting = packets })
          then number_each way u bearer packets))
      by false o more = tt
      by true true more = tt
      by true false more =
          then_all u.plan.ue u.epoch (is_connected u.state)
          (puts (data_output way u bearer b.sender.next packet) (record b { sender = numbered b.sender packet; waiting = packets }))
          (number_each way u bearer packets) ((refl, refl, refl, is), tt) more

  pub waits : (bearer : BearerId) (b : UeBearer) → Puts (number_waiting way u bearer b)
  unfolding number_waiting
  waits bearer b = by (is_connected u.state) refl
    where
      by : (t : Bool) → is_connected u.state ≡ t → Puts (if t then number_each way u bearer b.waiting b else nothing b)
      by true is = each is bearer b.waiting b
      by false is = tt

  again : is_connected u.state ≡ true → (bearer : BearerId) (es : List (ℕ × List ℕ)) → PutAll (map (λ e. data_output way u bearer e.0 e.1) es)
  again is bearer [] = tt
  again is bearer (e ∷ es) = ((refl, refl, refl, is), again is bearer es)

  connects : is_connected u.state ≡ true → (bearer : BearerId) (b : UeBearer) → Puts (connect_bearer way u bearer b)
  unfolding connect_bearer
  connects is bearer b =
      then_all u.plan.ue u.epoch (is_connected u.state)
      (gives (on_air way u bearer Absent (way.write u.plan.sn (report_pdu b.receiver.deliv (received_bits b.receiver))) ∷ unconfirmed_outputs way u bearer b) b)
      (number_waiting way u bearer) ((refl, refl, refl, is), again is bearer b.sender.unconfirmed) (λ c. waits bearer c)

  all_connect : is_connected u.state ≡ true → (es : List (BearerId × UeBearer)) → Puts (connect_each way u es)
  all_connect is [] = tt
  all_connect is (e ∷ es) =
      then_all u.plan.ue u.epoch (is_connected u.state) (connect_bearer way u e.0 e.1)
      (λ b. connect_each way u es then (λ bearers. nothing ((e.0, b) ∷ bearers))) (connects is e.0 e.1)
      (λ b. then_all u.plan.ue u.epoch (is_connected u.state) (connect_each way u es) (λ bearers. nothing ((e.0, b) ∷ bearers)) (all_connect is es) (λ bearers. tt))

  pub delivers : (bearer : BearerId) (d : Delivery (List ℕ)) (es : List (ℕ × List ℕ)) → PutAll (delivered way u bearer (record d { packets = es }))
  delivers bearer d [] = tt
  delivers bearer d (e ∷ es) = (tt, delivers bearer d es)

  takes : (bearer : BearerId) (content : Content) (b : UeBearer) → Puts (took way u bearer content b)
  takes bearer (packet_content None packet) b = (tt, tt)
  takes bearer (packet_content (Some count) packet) b = by (is_duplicate b.receiver count) (is_ahead u.plan.quota b.receiver count)
    where
      by : (old ahead : Bool) → Puts (if old then drops Duplicate b else
          (if ahead then puts (held Ahead) b else handed way u bearer b (handed_up (stored b.receiver count packet))))
      by true ahead = (tt, tt)
      by false true = (tt, tt)
      by false false =
          let d : Delivery (List ℕ) = handed_up (stored b.receiver count packet) in delivers bearer d d.packets
  takes bearer (report_content fmc bits) b = waits bearer (record b { sender = confirmed_by b.sender fmc bits })

  confirms : (bearer : BearerId) (content : Content) (b : UeBearer) → Puts (confirmed way u bearer content b)
  confirms bearer (packet_content count packet) b = waits bearer (confirmed_if way count b)
  confirms bearer (report_content fmc bits) b = tt

  -- ---- the terminal: what it is then but for its bearers

  pub record IsSame (v : UeNode) : Type 0 where
    pub plan : v.plan ≡ u.plan
    pub epoch : v.epoch ≡ u.epoch
    pub state : v.state ≡ u.state

  -- it puts this, and is the same but for its bearers
  abbrev pub Rests : Answer M P UeNode → Type 0
  Rests (gives outputs v) = PutAll outputs × IsSame v
  Rests (spent counter) = Unit {0}

  pub same : IsSame u
  same = record { plan = refl; epoch = refl; state = refl }

  kept : {R : Type 0} (a : Answer M P R) (f : R → UeNode) → Puts a → ((r : R) → IsSame (f r)) → Rests (a then (λ r. nothing (f r)))
  kept (gives outputs r) f p q = (all_both (IsPutIn u.plan.ue u.epoch (is_connected u.state)) outputs [] p tt, q r)
  kept (spent counter) f p q = tt

  at_rests : (bearer : BearerId) (row : UeBearer → Answer M P UeBearer) → ((b : UeBearer) → Puts (row b)) → Rests (at_bearer way u bearer row)
  at_rests bearer row all = by (find bearer_cmp u.bearers bearer)
    where
      by : (o : Option UeBearer) → Rests (of_bearer way u bearer row o)
      by None = ((tt, tt), same)
      by (Some b) = kept (row b) (λ c. with_bearer way u bearer c) (all b) (λ c. record { plan = refl; epoch = refl; state = refl })

  pub take_rests : (bearer : BearerId) (content : Content) → Rests (take way bearer content u)
  unfolding take
  take_rests bearer content = at_rests bearer (took way u bearer content) (λ b. takes bearer content b)

  pub confirm_rests : (bearer : BearerId) (content : Content) → Rests (confirm way bearer content u)
  unfolding confirm
  confirm_rests bearer content = at_rests bearer (confirmed way u bearer content) (λ b. confirms bearer content b)

  pub offer_rests : (bearer : BearerId) (packet : List ℕ) → Rests (offer way bearer packet u)
  unfolding offer
  offer_rests bearer packet = by (find bearer_cmp u.bearers bearer)
    where
      by_room : (b : UeBearer) (large full : Bool) → Rests (if large then puts (no Size) u else
          (if full then puts (no Quota) u else
          (number_waiting way u bearer (record b { waiting = b.waiting ++ packet ∷ [] }) then (λ c. nothing (with_bearer way u bearer c)))))
      by_room b true full = ((tt, tt), same)
      by_room b false true = ((tt, tt), same)
      by_room b false false =
          kept (number_waiting way u bearer (record b { waiting = b.waiting ++ packet ∷ [] })) (λ c. with_bearer way u bearer c)
          (waits bearer (record b { waiting = b.waiting ++ packet ∷ [] })) (λ c. record { plan = refl; epoch = refl; state = refl })

      by : (o : Option UeBearer) → Rests (offered way u bearer packet o)
      by None = ((tt, tt), same)
      by (Some b) = by_room b (nat_lt largest_packet (length packet)) (nat_le u.plan.quota (used_uplink way b))

  pub connect_rests : is_connected u.state ≡ true → Rests (connect way u)
  connect_rests is =
      kept (connect_each way u u.bearers) (λ bearers. with_bearers way u bearers) (all_connect is u.bearers)
      (λ bearers. record { plan = refl; epoch = refl; state = refl })

  pub said_all : (token : Option TokenKind) (home : Option NodeId) → PutAll (said way u token home)
  said_all (Some kind) (Some home) = (tt, tt)
  said_all (Some kind) None = tt
  said_all None home = tt

  pub says_rests : Rests (says_it way u)
  says_rests = (said_all u.token u.home, same)

  pub says_then : is_connected u.state ≡ true → Rests (says_it way u then connect way)
  says_then is = by (connect way u) (connect_rests is)
    where
      by : (a : Answer M P UeNode) → Rests a → Rests (with_outputs (said way u u.token u.home) a)
      by (gives more v) p =
          (all_both (IsPutIn u.plan.ue u.epoch (is_connected u.state)) (said way u u.token u.home) more (said_all u.token u.home) p.0, p.1)
      by (spent counter) p = tt
