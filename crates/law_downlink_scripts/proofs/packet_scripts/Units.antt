-- A unit that is given a packet puts no control message, whatever it keeps.
use Rattle.std.proofs.Common.{◌≡◌, ℕ, Bool, true, false, List, [], ◌∷◌, ◌++◌, map, Option, Some, None, refl, subst}
use Rattle.std.specs.Prelude.{if◌then◌else◌, not, length, nat_lt, nat_le}
use Rattle.gnb_types.specs.declared.names.NodeId.{NodeId}
use Rattle.gnb_types.specs.declared.names.NodeId.TheVariants.{CuCp, CuUp as up_id, Du as du_id, Core, Ue}
use Rattle.gnb_types.specs.declared.names.BearerId.{BearerId}
use Rattle.gnb_types.specs.declared.names.Dir.TheVariants.{Dl, Ul}
use Rattle.gnb_types.specs.declared.outputs.Tag.TheVariants.{Same}
use Rattle.gnb_types.specs.declared.reasons.DropReason.TheVariants.{Duplicate}
use Rattle.gnb_types.specs.declared.reasons.HeldReason.TheVariants.{Ahead}
use Rattle.gnb_types.specs.declared.reasons.RefuseReason.TheVariants.{Size, Quota}
use Rattle.gnb_types.specs.Orders.{bearer_cmp}
use Rattle.pdcp.specs.Near.{last_count}
use Rattle.pdcp_defs.specs.Senders.{numbered, has_room, confirmed_by}
use Rattle.pdcp_defs.specs.Receivers.{is_duplicate, is_ahead, stored, deliver as handed_up}
use Rattle.message_types.specs.declared.rrc.Token.{Token}
use Rattle.tables.specs.Tables.{find}
use Rattle.unit_defs.specs.Ways.{Message, Pdu, Load, Put, Output, control, packet, radio, deliver, dropped, held, opened, closed, failed, no, uplink, Content, packet_content, report_content, Input, control_input, packet_input, radio_input, confirm_input, offer_input, tick_input, order_input, gives, spent, with_outputs, ◌then◌, nothing, puts, drops, counts_spent}
use Rattle.unit_defs.specs.CuUpRecords.{CuUp}
use Rattle.unit_defs.specs.CuUp.{cu_up_acts, take as up_take}
use Rattle.unit_defs.specs.Du.{Du, context_of, pass_up, confirm as du_confirm, confirmed as du_confirmed, du_acts, take as du_take}
use Rattle.unit_defs.specs.CuCpRecords.{CuCpRecord}
use Rattle.unit_defs.specs.CuCp.{cu_cp_acts}
use Rattle.unit_defs.specs.Ue.{UeNode, UeBearer, is_connected, data_output, number_each, number_waiting, with_bearer, of_bearer, at_bearer, used_uplink, largest_packet, offered, offer, handed, took, take, confirmed_if, confirmed, confirm, ue_acts}
use Rattle.run_defs.specs.Units.{Units, cu_cp_of, with_cu_cp, cu_up_of, with_cu_up, du_of, with_du, ue_of, with_ue}
use Rattle.run_defs.specs.States.{control_message_for, item_for, carried_for, confirmed_for, offer_for, tick_for, order_for, octets_from, octets_on, Lengths, stepped, step_spent}
use Rattle.run_defs.specs.Written.{Written, PlainStepped, WrittenStepped, written_step}
use Rattle.run_defs.specs.Runs.{Reading, Plain, plain_way, taken_of, content_of, stepped_with, ue_stepped, acts_on, PlainGiven, plain_answer}
use Rattle.law_requests_act_once.specs.channel.Moves.{sent_by}
use Rattle.law_requests_act_once.proofs.channel_rows.Requests.{Leaves}
use Rattle.law_requests_act_once.proofs.channel_rows.CuUps.{take_leaves as up_leaves, kept as up_kept}
use Rattle.law_requests_act_once.proofs.channel_rows.Dus.{take_leaves as du_leaves, context_leaves, confirmed_leaves, kept as du_kept}
use Rattle.law_requests_act_once.specs.run_channels.Reached.{run_talk}
use Rattle.law_downlink_scripts.proofs.delivers.Lines.{IsSilent, both_silent, silent_written}

abbrev PlainOutput : Type 0
PlainOutput = Output (Message Token) Pdu

-- what sends nothing is silent
sends_none : (n : NodeId) (os : List PlainOutput) → sent_by n os ≡ [] → IsSilent os
sends_none n [] e = tt
sends_none n (control to ue message ∷ os) e = absurd cc
sends_none n (packet to teid ue bearer dir tag load ∷ os) e = sends_none n os e
sends_none n (radio ue bearer dir epoch tag pdu ∷ os) e = sends_none n os e
sends_none n (deliver ue bearer dir count p ∷ os) e = sends_none n os e
sends_none n (dropped reason ∷ os) e = sends_none n os e
sends_none n (held reason ∷ os) e = sends_none n os e
sends_none n (opened teid ∷ os) e = sends_none n os e
sends_none n (closed teid ∷ os) e = sends_none n os e
sends_none n (failed ue cause ∷ os) e = sends_none n os e
sends_none n (no reason ∷ os) e = sends_none n os e

abbrev Silent : {R : Type 0} → Plain R → Type 0
Silent (gives os r) = IsSilent os
Silent (spent k) = Unit {0}

-- ---- what a terminal does to a bearer

either : {R : Type 0} (t : Bool) (x y : Plain R) → Silent x → Silent y → Silent (if t then x else y)
either true x y p q = p
either false x y p q = q

after : {R S : Type 0} (a : Plain R) (f : R → Plain S) → Silent a → ((r : R) → Silent (f r)) → Silent (a then f)
after {S = S} (gives os r) f p q = by (f r) (q r)
  where
    by : (b : Plain S) → Silent b → Silent (with_outputs os b)
    by (gives more s) next = both_silent os more p next
    by (spent k) next = tt
after (spent k) f p q = tt

number_each_silent : (u : UeNode) (bearer : BearerId) (ps : List (List ℕ)) (b : UeBearer) → Silent (number_each plain_way u bearer ps b)
unfolding number_each
number_each_silent u bearer [] b = tt
number_each_silent u bearer (x ∷ ps) b =
    let on : UeBearer = record b { sender = numbered b.sender x; waiting = ps } in
    either (not (has_room u.plan.sn u.plan.quota b.sender)) (nothing b) _ tt
    (after (if nat_lt last_count b.sender.next then spent counts_spent else puts (data_output plain_way u bearer b.sender.next x) on) (number_each plain_way u bearer ps)
    (either (nat_lt last_count b.sender.next) (spent counts_spent) (puts (data_output plain_way u bearer b.sender.next x) on) tt tt)
    (number_each_silent u bearer ps))

number_waiting_silent : (u : UeNode) (bearer : BearerId) (b : UeBearer) → Silent (number_waiting plain_way u bearer b)
unfolding number_waiting
number_waiting_silent u bearer b =
    either (is_connected u.state) (number_each plain_way u bearer b.waiting b) (nothing b) (number_each_silent u bearer b.waiting b) tt

bearer_silent : (u : UeNode) (bearer : BearerId) (row : UeBearer → Plain UeBearer) → ((b : UeBearer) → Silent (row b)) → Silent (at_bearer plain_way u bearer row)
bearer_silent u bearer row each = by (find bearer_cmp u.bearers bearer)
  where
    by : (b : Option UeBearer) → Silent (of_bearer plain_way u bearer row b)
    by None = tt
    by (Some b) = after (row b) (λ c. nothing (with_bearer plain_way u bearer c)) (each b) (λ c. tt)

offer_silent : (bearer : BearerId) (x : List ℕ) (u : UeNode) → Silent (offer plain_way bearer x u)
unfolding offer
offer_silent bearer x u = by (find bearer_cmp u.bearers bearer)
  where
    by : (b : Option UeBearer) → Silent (offered plain_way u bearer x b)
    by None = tt
    by (Some b) =
        either (nat_lt largest_packet (length x)) (puts (no Size) u) _ tt
        (either (nat_le u.plan.quota (used_uplink plain_way b)) (puts (no Quota) u) _ tt
        (after (number_waiting plain_way u bearer (record b { waiting = b.waiting ++ x ∷ [] })) (λ c. nothing (with_bearer plain_way u bearer c))
        (number_waiting_silent u bearer (record b { waiting = b.waiting ++ x ∷ [] })) (λ c. tt)))

delivered_silent : (u : UeNode) (bearer : BearerId) (es : List (ℕ × List ℕ)) → IsSilent {M = Message Token} {L = Load Pdu} {P = Pdu} (map (λ e. deliver u.plan.ue bearer Dl e.0 e.1) es)
delivered_silent u bearer [] = tt
delivered_silent u bearer (e ∷ es) = delivered_silent u bearer es

took_silent : (u : UeNode) (bearer : BearerId) (content : Content) (b : UeBearer) → Silent (took plain_way u bearer content b)
took_silent u bearer (packet_content None x) b = tt
took_silent u bearer (packet_content (Some count) x) b =
    let new = handed_up (stored b.receiver count x) in
    either (is_duplicate b.receiver count) (drops Duplicate b) _ tt
    (either (is_ahead u.plan.quota b.receiver count) (puts (held Ahead) b) (handed plain_way u bearer b new) tt (delivered_silent u bearer new.packets))
took_silent u bearer (report_content fmc bits) b = number_waiting_silent u bearer (record b { sender = confirmed_by b.sender fmc bits })

confirmed_silent : (u : UeNode) (bearer : BearerId) (content : Content) (b : UeBearer) → Silent (confirmed plain_way u bearer content b)
confirmed_silent u bearer (packet_content count x) b = number_waiting_silent u bearer (confirmed_if plain_way count b)
confirmed_silent u bearer (report_content fmc bits) b = tt

-- ---- a unit

abbrev pub IsPacket : Input Token Pdu → Type 0
IsPacket (control_input from message) = ⊥
IsPacket tick_input = ⊥
IsPacket (order_input order) = ⊥
IsPacket input = Unit {0}

ue_silent : (u : UeNode) (input : Input Token Pdu) → IsPacket input → Silent (ue_acts plain_way u input)
unfolding ue_acts take confirm
ue_silent u (control_input from message) p = absurd p
ue_silent u (packet_input teid item) p = tt
ue_silent u (radio_input who bearer Dl pdu content) p = bearer_silent u bearer (took plain_way u bearer content) (took_silent u bearer content)
ue_silent u (radio_input who bearer Ul pdu content) p = tt
ue_silent u (confirm_input who bearer Dl pdu content) p = tt
ue_silent u (confirm_input who bearer Ul pdu content) p = bearer_silent u bearer (confirmed plain_way u bearer content) (confirmed_silent u bearer content)
ue_silent u (offer_input who bearer x) p = offer_silent bearer x u
ue_silent u tick_input p = absurd p
ue_silent u (order_input order) p = absurd p

up_silent : (n : NodeId) (r : CuUp (Message Token) Token) (input : Input Token Pdu) → IsPacket input → Silent (cu_up_acts plain_way r input)
unfolding cu_up_acts
up_silent n r (control_input from message) p = absurd p
up_silent n r (packet_input teid item) p = by (up_take plain_way teid item r) (up_leaves run_talk n teid item r)
  where
    by : (a : Plain (CuUp (Message Token) Token)) → Leaves run_talk n (up_kept run_talk n) r.transactions a → Silent a
    by (gives os s) h = sends_none n os h.0
    by (spent k) h = tt
up_silent n r (radio_input who bearer dir pdu content) p = tt
up_silent n r (confirm_input who bearer dir pdu content) p = tt
up_silent n r (offer_input who bearer x) p = tt
up_silent n r tick_input p = absurd p
up_silent n r (order_input order) p = absurd p

du_silent : (n : NodeId) (r : Du (Message Token) Token) (input : Input Token Pdu) → IsPacket input → Silent (du_acts plain_way r input)
unfolding du_acts pass_up du_confirm
du_silent n r (control_input from message) p = absurd p
du_silent n r (packet_input teid item) p = by (du_take plain_way teid item r) (du_leaves run_talk n teid item r)
  where
    by : (a : Plain (Du (Message Token) Token)) → Leaves run_talk n (du_kept run_talk n) r.transactions a → Silent a
    by (gives os s) h = sends_none n os h.0
    by (spent k) h = tt
du_silent n r (radio_input who bearer Ul pdu content) p =
    by _ (context_leaves run_talk n r (λ c b. puts (packet b.up b.uplink who bearer Ul Same (uplink pdu)) r) bearer (context_of r who) (λ d b. (refl, refl)))
  where
    by : (a : Plain (Du (Message Token) Token)) → Leaves run_talk n (du_kept run_talk n) r.transactions a → Silent a
    by (gives os s) h = sends_none n os h.0
    by (spent k) h = tt
du_silent n r (radio_input who bearer Dl pdu content) p = tt
du_silent n r (confirm_input who bearer Dl pdu content) p =
    by _ (context_leaves run_talk n r (λ c b. du_confirmed plain_way who bearer r b (plain_way.number c.sn pdu)) bearer (context_of r who)
    (λ d b. confirmed_leaves run_talk n who bearer r b (plain_way.number d.sn pdu)))
  where
    by : (a : Plain (Du (Message Token) Token)) → Leaves run_talk n (du_kept run_talk n) r.transactions a → Silent a
    by (gives os s) h = sends_none n os h.0
    by (spent k) h = tt
du_silent n r (confirm_input who bearer Ul pdu content) p = tt
du_silent n r (offer_input who bearer x) p = tt
du_silent n r tick_input p = absurd p
du_silent n r (order_input order) p = absurd p

cp_silent : (r : CuCpRecord (Message Token) Token) (input : Input Token Pdu) → IsPacket input → Silent (cu_cp_acts plain_way r input)
unfolding cu_cp_acts
cp_silent r (control_input from message) p = absurd p
cp_silent r (packet_input teid item) p = tt
cp_silent r (radio_input who bearer dir pdu content) p = tt
cp_silent r (confirm_input who bearer dir pdu content) p = tt
cp_silent r (offer_input who bearer x) p = tt
cp_silent r tick_input p = absurd p
cp_silent r (order_input order) p = absurd p

-- ---- units of the run

abbrev StepSilent : PlainStepped → Type 0
StepSilent (stepped os v) = IsSilent os
StepSilent (step_spent k) = Unit {0}

abbrev WrittenSilent : WrittenStepped → Type 0
WrittenSilent (stepped os v) = IsSilent os
WrittenSilent (step_spent k) = Unit {0}

module _ (reading : Reading) where
  with_silent : {R : Type 0} (back : R → Units (Message Token) Token) (a : Plain R) → Silent a → StepSilent (stepped_with reading back a)
  with_silent back (gives os r) p = p
  with_silent back (spent k) p = tt

  acted : (u : Units (Message Token) Token) (node : NodeId) (input : Input Token Pdu) → IsPacket input → StepSilent (acts_on reading u node input)
  acted u (CuCp gnb) input p = with_silent (with_cu_cp u gnb) (cu_cp_acts plain_way (cu_cp_of u gnb) input) (cp_silent (cu_cp_of u gnb) input p)
  acted u (up_id gnb number) input p =
      with_silent (with_cu_up u gnb number) (cu_up_acts plain_way (cu_up_of u gnb number) input) (up_silent (up_id gnb number) (cu_up_of u gnb number) input p)
  acted u (du_id gnb number) input p =
      with_silent (with_du u gnb number) (du_acts plain_way (du_of u gnb number) input) (du_silent (du_id gnb number) (du_of u gnb number) input p)
  acted u (Ue ue) input p = by (ue_of u (record { 0 = ue }))
    where
      by : (o : Option UeNode) → StepSilent (ue_stepped reading u ue input o)
      by None = tt
      by (Some x) = with_silent (with_ue u (record { 0 = ue })) (ue_acts plain_way x input) (ue_silent x input p)
  acted u Core input p = tt

  written : (lengths : Lengths) (a : PlainStepped) → StepSilent a → WrittenSilent (written_step lengths a)
  written lengths (stepped os v) p = silent_written lengths os p
  written lengths (step_spent k) p = tt

  -- what is taken of a link, or offered at a terminal
  abbrev pub IsTaken : PlainGiven → Type 0
  IsTaken (item_for teid item) = Unit {0}
  IsTaken (carried_for item) = Unit {0}
  IsTaken (confirmed_for item) = Unit {0}
  IsTaken (offer_for ue bearer x) = Unit {0}
  IsTaken given = ⊥

  by_given : (lengths : Lengths) (u : Units (Message Token) Token) (node : NodeId) (given : PlainGiven) → IsTaken given
      → WrittenSilent (plain_answer reading lengths u node given)
  by_given lengths u node (item_for teid item) p =
      written lengths (acts_on reading u node (packet_input teid (taken_of item.content.says))) (acted u node (packet_input teid (taken_of item.content.says)) tt)
  by_given lengths u node (carried_for item) p =
      let input : Input Token Pdu = radio_input item.key.ue item.key.bearer item.key.dir item.content.says (content_of item.content.says) in
      written lengths (acts_on reading u node input) (acted u node input tt)
  by_given lengths u node (confirmed_for item) p =
      let input : Input Token Pdu = confirm_input item.key.ue item.key.bearer item.key.dir item.content.says (content_of item.content.says) in
      written lengths (acts_on reading u node input) (acted u node input tt)
  by_given lengths u node (offer_for ue bearer x) p =
      written lengths (acts_on reading u node (offer_input ue bearer x)) (acted u node (offer_input ue bearer x) tt)
  by_given lengths u node (control_message_for from message) p = absurd p
  by_given lengths u node tick_for p = absurd p
  by_given lengths u node (order_for order) p = absurd p
  by_given lengths u node (octets_from from octets) p = absurd p
  by_given lengths u node (octets_on teid octets) p = absurd p

  pub takes_silently : (lengths : Lengths) (u v : Units (Message Token) Token) (node : NodeId) (given : PlainGiven)
      (outputs : List (Put (Message Token) (Written (Load Pdu)) (Written Pdu))) → IsTaken given
      → plain_answer reading lengths u node given ≡ stepped outputs v → IsSilent outputs
  takes_silently lengths u v node given outputs p is = subst WrittenSilent is (by_given lengths u node given p)
