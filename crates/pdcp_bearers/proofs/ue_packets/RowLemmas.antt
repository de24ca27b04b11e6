-- The rows at a bearer, one turn after another.
use Rattle.std.proofs.Common.{◌≡◌, ◌==◌, ℕ, ◌+◌, ◌/◌, ◌%◌, ◌^◌, ◌<◌, ◌≤◌, Bool, true, false, cond, not, nat_lt, nat_le, List, [], ◌∷◌, ◌++◌, length, map, Option, Some, None, Ok, Err, refl, sym, ap, ◌∙◌, subst, arith, append-nil, append_assoc}
use Rattle.std.specs.Prelude.{Result}
use Rattle.std.specs.Result.{IsErrAnd}
use Rattle.std.proofs.lemmas.Result.{err_from_is_err_and}
use Rattle.std.proofs.lemmas.Bool.Decides.{nat_tests}
use Rattle.gnb_types.specs.declared.names.SnBits.{SnBits}
use Rattle.gnb_types.specs.declared.names.BearerId.{BearerId}
use Rattle.gnb_types.specs.declared.names.Dir.TheVariants.{Dl, Ul}
use Rattle.gnb_types.specs.declared.outputs.Output.{Output}
use Rattle.gnb_types.specs.declared.outputs.Output.TheVariants as outs
use Rattle.gnb_types.specs.declared.outputs.Tag.TheVariants.{Absent, Own}
use Rattle.gnb_types.specs.declared.reasons.DropReason.TheVariants.{Duplicate}
use Rattle.gnb_types.specs.declared.reasons.HeldReason.TheVariants.{Ahead}
use Rattle.gnb_types.specs.declared.reasons.RefuseReason.TheVariants.{Size, Quota}
use Rattle.pdcp.specs.Near.{last_count}
use Rattle.pdcp.specs.Pdus.{radio_data, report_octets}
use Rattle.pdcp_defs.specs.Counts.{count_below}
use Rattle.pdcp_defs.specs.Senders.{Sender, has_room, numbered, confirmed_by}
use Rattle.pdcp_defs.specs.Receivers.{Receiver, Delivery, is_duplicate, is_ahead, stored, deliver as handed_up, with_packet, received_bits}
use Rattle.pdcp_entities.specs.Bits.{octet_bits, bits_of as entity_bits}
use Rattle.pdcp_entities.specs.Entities.{confirmed_number, confirmed_report, confirmed_if as entity_if}
use Rattle.unit_defs.specs.Ways.{gives, spent, ◌then◌, nothing, puts, drops, held, no, counts_spent, report_pdu}
use Rattle.unit_defs.specs.Ue.{UeBearer, UeNode, on_air, data_output, unconfirmed_outputs, number_each, number_waiting, connect_bearer, delivered, took_data, is_connected, used_uplink, confirmed_if}
use Rattle.unit_defs.specs.octet_defs.Codec.{Codec, octet_way}
use Rattle.unit_defs.specs.octet_defs.Reading.{bits_of}
use Rattle.unit_defs.specs.octet_defs.Units.{OctetAnswer}
use Rattle.unit_defs.specs.octet_defs.Writing.{outputs_of}
use Rattle.unit_messages.specs.steps.Steps.{Step, stepped, stopped, step_after, IsStep}
use Rattle.unit_messages.proofs.steps.StepLaws.{step_with}
use Rattle.unit_messages.specs.declared.steps.StepError.{StepError}
use Rattle.unit_messages.specs.declared.steps.StepError.TheVariants as errors
use Rattle.pdcp_bearers.specs.declared.ue_bearers.sender.Numbered.{Numbered}
use Rattle.pdcp_bearers.specs.declared.ue_bearers.receiver.Delivered.{Delivered}
use Rattle.pdcp_bearers.specs.declared.ue_bearers.receiver.Reception.{Reception}
use Rattle.pdcp_bearers.specs.declared.ue_bearers.receiver.Reception.TheVariants as receptions
use Rattle.pdcp_bearers.specs.ue_bearers.Receivers.{ReceiverState, received, IsDelivered}
use Rattle.pdcp_bearers.specs.ue_bearers.Senders.{IsNumbering, SenderState, Numbering, numbers, stays, ends, numbering, numbering_of, from_on}
use Rattle.pdcp_bearers.specs.ue_packets.Bearers.{offered_at}

abbrev pub uplink : SnBits → ℕ → Sender (List ℕ) → List (List ℕ) → SenderState
uplink sn quota sender waiting = record { sn = sn; quota = quota; sender = sender; waiting = waiting }

abbrev pub with_state : Reception → ReceiverState → Reception × ReceiverState
with_state r d = (r, d)

abbrev pub bearer_of : SenderState → Receiver (List ℕ) → UeBearer
bearer_of d receiver = record { sender = d.sender; waiting = d.waiting; receiver = receiver }

-- what a number leaves of the uplink
numbers_so : (d : SenderState) (w : List (List ℕ)) (after : SenderState) (count : ℕ) (packet : List ℕ) → numbering_of d w ≡ numbers count packet after
    → (after.sn ≡ d.sn) × (after.quota ≡ d.quota) × (length after.waiting < length w)
numbers_so d [] after count packet is = cc
numbers_so d (x ∷ xs) after count packet is = by (has_room d.sn d.quota d.sender) (nat_lt last_count d.sender.next) is
  where
    by : (r l : Bool)
        → cond (not r) stays (cond l ends (numbers d.sender.next x (uplink d.sn d.quota (numbered d.sender x) xs))) ≡ numbers count packet after
        → (after.sn ≡ d.sn) × (after.quota ≡ d.quota) × (length after.waiting < length (x ∷ xs))
    by true true is = cc
    by true false is =
        let same : uplink d.sn d.quota (numbered d.sender x) xs ≡ after = cc in
        let fewer : length xs ≡ length after.waiting = ap (λ (a : SenderState). length a.waiting) same in
        (sym (ap (λ (a : SenderState). a.sn) same), sym (ap (λ (a : SenderState). a.quota) same), omega (arith, fewer))
    by false l is = cc

pub numbers_keeps : (d after : SenderState) (count : ℕ) (packet : List ℕ) → numbering d ≡ numbers count packet after
    → (after.sn ≡ d.sn) × (after.quota ≡ d.quota) × (length after.waiting < length d.waiting)
numbers_keeps d after count packet is = numbers_so d d.waiting after count packet is

module _ (codec : Codec) (u : UeNode) (bearer : BearerId) where
  abbrev pub sent : ℕ → List ℕ → Output
  sent count packet = outs.Radio u.plan.ue bearer Ul u.epoch (Own count) (radio_data u.plan.sn count packet)

  abbrev pub rest : SenderState → Receiver (List ℕ) → OctetAnswer UeBearer
  rest d receiver = number_each (octet_way codec) u bearer d.waiting (bearer_of d receiver)

  -- what a turn of the loop leaves of an answer, by what the uplink gives
  abbrev pub Turn : OctetAnswer UeBearer → SenderState → Receiver (List ℕ) → List Output → Numbering → Type 0
  Turn a d receiver before (numbers count packet after) = step_after before a ≡ step_after (before ++ sent count packet ∷ []) (rest after receiver)
  Turn a d receiver before stays = step_after before a ≡ stepped before (bearer_of d receiver)
  Turn a d receiver before ends = step_after before a ≡ stopped counts_spent

  nothing_more : (before : List Output) (b : UeBearer) → stepped (before ++ []) b ≡ stepped before b
  nothing_more before b = ap (λ (os : List Output). stepped os b) (append-nil before)

  pub turn : (sn : SnBits) (quota : ℕ) (sender : Sender (List ℕ)) (waiting : List (List ℕ)) (receiver : Receiver (List ℕ)) (before : List Output)
      → sn ≡ u.plan.sn → quota ≡ u.plan.quota
      → Turn (rest (uplink sn quota sender waiting) receiver) (uplink sn quota sender waiting) receiver before
      (numbering_of (uplink sn quota sender waiting) waiting)
  unfolding number_each
  turn sn quota sender [] receiver before sn_is quota_is = nothing_more before (bearer_of (uplink sn quota sender []) receiver)
  turn sn quota sender (packet ∷ packets) receiver before sn_is quota_is =
      by (has_room sn quota sender) (has_room u.plan.sn u.plan.quota sender) (nat_lt last_count sender.next)
      (sym (ap (λ (k : SnBits). has_room k quota sender) sn_is ∙ ap (λ (n : ℕ). has_room u.plan.sn n sender) quota_is))
    where
      by : (r s l : Bool) → s ≡ r
          → Turn
          (cond (not s) (nothing (bearer_of (uplink sn quota sender (packet ∷ packets)) receiver))
          (cond l (spent counts_spent)
          (puts (data_output (octet_way codec) u bearer sender.next packet) (bearer_of (uplink sn quota (numbered sender packet) packets) receiver))
          then number_each (octet_way codec) u bearer packets))
          (uplink sn quota sender (packet ∷ packets)) receiver before
          (cond (not r) stays (cond l ends (numbers sender.next packet (uplink sn quota (numbered sender packet) packets))))
      by true true true same = refl
      by true true false same =
          step_with before (data_output (octet_way codec) u bearer sender.next packet ∷ [])
          (number_each (octet_way codec) u bearer packets (bearer_of (uplink sn quota (numbered sender packet) packets) receiver))
      by false false l same = nothing_more before (bearer_of (uplink sn quota sender (packet ∷ packets)) receiver)
      by true false l same = cc
      by false true l same = cc

  module _ (d : SenderState) (receiver : Receiver (List ℕ)) (before : List Output) (sn_is : d.sn ≡ u.plan.sn) (quota_is : d.quota ≡ u.plan.quota) where
    turn_of : (n : Numbering) → numbering d ≡ n → Turn (rest d receiver) d receiver before n
    turn_of n is =
        subst (λ (m : Numbering). Turn (rest d receiver) d receiver before m) is (turn d.sn d.quota d.sender d.waiting receiver before sn_is quota_is)

    pub numbers_one : (after : SenderState) (count : ℕ) (packet pdu : List ℕ) (o : Output) (mid : List Output) → numbering d ≡ numbers count packet after
        → pdu ≡ radio_data d.sn count packet → o ≡ outs.Radio u.plan.ue bearer Ul u.epoch (Own count) pdu → mid ≡ before ++ o ∷ []
        → step_after mid (rest after receiver) ≡ step_after before (rest d receiver)
    numbers_one after count packet pdu o mid is pdu_is o_is mid_is =
        let pdu_now : pdu ≡ radio_data u.plan.sn count packet = pdu_is ∙ ap (λ (k : SnBits). radio_data k count packet) sn_is in
        let o_now : o ≡ sent count packet = o_is ∙ ap (λ (x : List ℕ). outs.Radio u.plan.ue bearer Ul u.epoch (Own count) x) pdu_now in
        ap (λ (os : List Output). step_after os (rest after receiver)) (mid_is ∙ ap (λ (x : Output). before ++ x ∷ []) o_now)
        ∙ sym (turn_of (numbers count packet after) is)

    pub numbers_end : numbering d ≡ stays → step_after before (rest d receiver) ≡ stepped before (bearer_of d receiver)
    numbers_end is = turn_of stays is

    pub numbers_spent : numbering d ≡ ends → step_after before (rest d receiver) ≡ stopped counts_spent
    numbers_spent is = turn_of ends is

  -- ---- what is delivered

  abbrev pub handing : UeBearer → Delivery (List ℕ) → OctetAnswer UeBearer
  handing b d = gives (delivered (octet_way codec) u bearer d) (record b { receiver = d.after })

  pub delivers_one : (before : List Output) (b : UeBearer) (d e : Delivery (List ℕ)) (count : ℕ) (packet : List ℕ) → d ≡ with_packet (count, packet) e
      → step_after before (handing b d) ≡ step_after (before ++ outs.Deliver u.plan.ue bearer Dl count packet ∷ []) (handing b e)
  delivers_one before b d e count packet is =
      ap (λ (x : Delivery (List ℕ)). step_after before (handing b x)) is
      ∙ ap (λ (os : List Output). stepped os (record b { receiver = e.after }))
      (sym (append_assoc before (outs.Deliver u.plan.ue bearer Dl count packet ∷ []) (outputs_of (delivered (octet_way codec) u bearer e))))

  pub delivers_none : (before : List Output) (b : UeBearer) (d : Delivery (List ℕ)) → d ≡ record { packets = []; after = b.receiver }
      → step_after before (handing b d) ≡ stepped before b
  delivers_none before b d is =
      ap (λ (x : Delivery (List ℕ)). step_after before (handing b x)) is ∙ nothing_more before b

  -- ---- what is sent again

  abbrev pub again : List (ℕ × List ℕ) → List Output
  again es = outputs_of (map (λ e. data_output (octet_way codec) u bearer e.0 e.1) es)

  pub sends_one : (before : List Output) (from count : ℕ) (packet : List ℕ) (es : List (ℕ × List ℕ))
      → from_on from es ≡ (count, packet) ∷ from_on (count + 1) es
      → before ++ again (from_on from es) ≡ (before ++ sent count packet ∷ []) ++ again (from_on (count + 1) es)
  sends_one before from count packet es is =
      ap (λ (xs : List (ℕ × List ℕ)). before ++ again xs) is ∙ sym (append_assoc before (sent count packet ∷ []) (again (from_on (count + 1) es)))

  pub sends_none : (before : List Output) (from : ℕ) (es : List (ℕ × List ℕ)) → from_on from es ≡ [] → before ++ again (from_on from es) ≡ before
  sends_none before from es is = ap (λ (xs : List (ℕ × List ℕ)). before ++ again xs) is ∙ append-nil before

  -- ---- while it is connected

  pub numbers_connected : is_connected u.state ≡ true → (b : UeBearer) → number_waiting (octet_way codec) u bearer b ≡ number_each (octet_way codec) u bearer b.waiting b
  unfolding number_waiting
  numbers_connected is b =
      ap (λ (s : Bool). cond s (number_each (octet_way codec) u bearer b.waiting b) (nothing b)) is

  pub numbers_nothing : is_connected u.state ≡ false → (before : List Output) (b : UeBearer)
      → step_after before (number_waiting (octet_way codec) u bearer b) ≡ stepped before b
  unfolding number_waiting
  numbers_nothing is before b =
      ap (λ (c : Bool). step_after before (cond c (number_each (octet_way codec) u bearer b.waiting b) (nothing b))) is ∙ nothing_more before b

  -- ---- a new connection

  pub connects : (before : List Output) (b : UeBearer) (mid after : List Output)
      → mid ≡ before ++ outs.Radio u.plan.ue bearer Ul u.epoch Absent (report_octets b.receiver.deliv (received_bits b.receiver)) ∷ []
      → after ≡ mid ++ outputs_of (unconfirmed_outputs (octet_way codec) u bearer b)
      → step_after before (connect_bearer (octet_way codec) u bearer b) ≡ step_after after (number_waiting (octet_way codec) u bearer b)
  unfolding connect_bearer
  connects before b mid after report again_is =
      let o = on_air (octet_way codec) u bearer Absent ((octet_way codec).write u.plan.sn (report_pdu b.receiver.deliv (received_bits b.receiver))) in
      let us = unconfirmed_outputs (octet_way codec) u bearer b in
      step_with before (o ∷ us) (number_waiting (octet_way codec) u bearer b)
      ∙ ap (λ (os : List Output). step_after os (number_waiting (octet_way codec) u bearer b))
      (sym (append_assoc before (outputs_of (o ∷ [])) (outputs_of us)) ∙ (ap (λ (os : List Output). os ++ outputs_of us) (sym report) ∙ sym again_is))

  -- ---- an offered packet

  pub offers_size : (before after : List Output) (packet : List ℕ) (b : UeBearer) (n : ℕ) → 2048 < n → n ≡ length packet
      → after ≡ before ++ outs.No Size ∷ []
      → step_after before (offered_at (octet_way codec) u bearer packet b) ≡ stepped after b
  offers_size before after packet b n more n_is after_is =
      let long : nat_lt 2048 (length packet) ≡ true = grind (arith, nat_tests) in
      ap (λ (t : Bool). step_after before (cond t (puts (no Size) b) (cond (nat_le u.plan.quota (used_uplink (octet_way codec) b)) (puts (no Quota) b) (number_waiting (octet_way codec) u bearer (record b { waiting = b.waiting ++ packet ∷ [] }))))) long
      ∙ ap (λ (os : List Output). stepped os b) (sym after_is)

  offers : (before : List Output) (packet : List ℕ) (b : UeBearer) (n : ℕ) → n ≤ 2048 → n ≡ length packet
      → step_after before (offered_at (octet_way codec) u bearer packet b)
      ≡ step_after before (cond (nat_le u.plan.quota (used_uplink (octet_way codec) b)) (puts (no Quota) b) (number_waiting (octet_way codec) u bearer (record b { waiting = b.waiting ++ packet ∷ [] })))
  offers before packet b n less n_is =
      let short : nat_lt 2048 (length packet) ≡ false = grind (arith, nat_tests) in
      ap (λ (t : Bool). step_after before (cond t (puts (no Size) b) (cond (nat_le u.plan.quota (used_uplink (octet_way codec) b)) (puts (no Quota) b) (number_waiting (octet_way codec) u bearer (record b { waiting = b.waiting ++ packet ∷ [] }))))) short

  pub offers_quota : (before after : List Output) (packet : List ℕ) (b : UeBearer) (n used quota : ℕ) → n ≤ 2048 → n ≡ length packet
      → quota ≤ used → quota ≡ u.plan.quota → used ≡ used_uplink (octet_way codec) b → after ≡ before ++ outs.No Quota ∷ []
      → step_after before (offered_at (octet_way codec) u bearer packet b) ≡ stepped after b
  offers_quota before after packet b n used quota less n_is full quota_is used_is after_is =
      let full_now : nat_le u.plan.quota (used_uplink (octet_way codec) b) ≡ true = grind (arith, nat_tests) in
      offers before packet b n less n_is
      ∙ (ap (λ (t : Bool). step_after before (cond t (puts (no Quota) b) (number_waiting (octet_way codec) u bearer (record b { waiting = b.waiting ++ packet ∷ [] })))) full_now
      ∙ ap (λ (os : List Output). stepped os b) (sym after_is))

  pub offers_room : (before : List Output) (packet : List ℕ) (b c : UeBearer) (n used quota : ℕ) → n ≤ 2048 → n ≡ length packet
      → used < quota → quota ≡ u.plan.quota → used ≡ used_uplink (octet_way codec) b → c ≡ record b { waiting = b.waiting ++ packet ∷ [] }
      → step_after before (number_waiting (octet_way codec) u bearer c) ≡ step_after before (offered_at (octet_way codec) u bearer packet b)
  offers_room before packet b c n used quota less n_is room quota_is used_is c_is =
      let room_now : nat_le u.plan.quota (used_uplink (octet_way codec) b) ≡ false = grind (arith, nat_tests) in
      ap (λ (x : UeBearer). step_after before (number_waiting (octet_way codec) u bearer x)) c_is
      ∙ sym
      (offers before packet b n less n_is
      ∙ ap (λ (t : Bool). step_after before (cond t (puts (no Quota) b) (number_waiting (octet_way codec) u bearer (record b { waiting = b.waiting ++ packet ∷ [] })))) room_now)

  -- ---- a packet comes

  pub takes_stored : (d new : ReceiverState) (o : Option ℕ) (packet : List ℕ) (b : UeBearer) → b.receiver ≡ d.receiver → d.quota ≡ u.plan.quota
      → (reception : Reception) → reception ≡ receptions.Stored → with_state reception new ≡ received d o packet
      → took_data (octet_way codec) u bearer o packet b ≡ handing b (handed_up new.receiver)
  takes_stored d new None packet b same quota_is reception stored_is is =
      let first : receptions.Stored ≡ receptions.Duplicate = sym stored_is ∙ ap (λ (x : Reception × ReceiverState). x.0) is in cc
  takes_stored d new (Some count) packet b same quota_is reception stored_is is =
      by (is_duplicate d.receiver count) (is_ahead d.quota d.receiver count) (is_duplicate b.receiver count) (is_ahead u.plan.quota b.receiver count)
      (ap (λ (r : Receiver (List ℕ)). is_duplicate r count) same)
      (ap (λ (n : ℕ). is_ahead n b.receiver count) (sym quota_is) ∙ ap (λ (r : Receiver (List ℕ)). is_ahead d.quota r count) same) is
    where
      by : (f g h k : Bool) → h ≡ f → k ≡ g
          → with_state reception new ≡ cond f (with_state receptions.Duplicate d) (cond g (with_state receptions.Ahead d) (with_state receptions.Stored (record d { receiver = stored d.receiver count packet })))
          → cond h (drops Duplicate b) (cond k (puts (held Ahead) b) (handing b (handed_up (stored b.receiver count packet))))
          ≡ handing b (handed_up new.receiver)
      by true g h k hf kg is = let first : receptions.Stored ≡ receptions.Duplicate = sym stored_is ∙ ap (λ (x : Reception × ReceiverState). x.0) is in cc
      by false true h k hf kg is = let first : receptions.Stored ≡ receptions.Ahead = sym stored_is ∙ ap (λ (x : Reception × ReceiverState). x.0) is in cc
      by false false true k hf kg is = cc
      by false false false true hf kg is = cc
      by false false false false hf kg is =
          ap (λ (r : Receiver (List ℕ)). handing b (handed_up (stored r count packet))) same
          ∙ sym (ap (λ (x : Reception × ReceiverState). handing b (handed_up x.1.receiver)) is)

-- from 0 on, all
pub all_from : (es : List (ℕ × List ℕ)) → from_on 0 es ≡ es
all_from [] = refl
all_from (e ∷ es) =
    let all = all_from es in
    let here : nat_le 0 e.0 ≡ true = grind (arith, nat_tests) in
    ap (λ (b : Bool). cond b (e ∷ from_on 0 es) (from_on 0 es)) here ∙ ap (λ (xs : List (ℕ × List ℕ)). e ∷ xs) all

-- ---- the bits of a report

one_octet : (o : ℕ) → map (λ k. o / 2 ^ k % 2 == 1) (7 ∷ 6 ∷ 5 ∷ 4 ∷ 3 ∷ 2 ∷ 1 ∷ 0 ∷ []) ≡ octet_bits o
one_octet o =
    let e : o / 1 ≡ o = omega arith in
    ap (λ (n : ℕ). (o / 128 % 2 == 1) ∷ (o / 64 % 2 == 1) ∷ (o / 32 % 2 == 1) ∷ (o / 16 % 2 == 1) ∷ (o / 8 % 2 == 1) ∷ (o / 4 % 2 == 1) ∷ (o / 2 % 2 == 1) ∷ (n % 2 == 1) ∷ []) e

pub same_bits : (octets : List ℕ) → entity_bits octets ≡ bits_of octets
unfolding entity_bits
same_bits [] = refl
same_bits (o ∷ octets) = ap (λ (bs : List Bool). octet_bits o ++ bs) (same_bits octets) ∙ ap (λ (bs : List Bool). bs ++ bits_of octets) (sym (one_octet o))

-- a report confirms the same in both readings
pub reports : (new old : SenderState) (receiver : Receiver (List ℕ)) (fmc : ℕ) (octets : List ℕ)
    → new ≡ record old { sender = confirmed_report old.sender fmc octets }
    → bearer_of new receiver ≡ record (bearer_of old receiver) { sender = confirmed_by old.sender fmc (bits_of octets) }
unfolding confirmed_report
reports new old receiver fmc octets is =
    ap (λ (d : SenderState). bearer_of d receiver) is
    ∙ ap (λ (bs : List Bool). bearer_of (record old { sender = confirmed_by old.sender fmc bs }) receiver) (same_bits octets)

-- a number confirms the same
pub confirms : (codec : Codec) (new old : SenderState) (receiver : Receiver (List ℕ)) (sn : SnBits) (number : ℕ) → old.sn ≡ sn
    → new ≡ record old { sender = confirmed_number old.sn old.sender number }
    → bearer_of new receiver ≡ confirmed_if (octet_way codec) (count_below sn old.sender.next number) (bearer_of old receiver)
unfolding confirmed_number
confirms codec new old receiver sn number sn_is is =
    ap (λ (d : SenderState). bearer_of d receiver) is
    ∙ (ap (λ (k : SnBits). bearer_of (record old { sender = entity_if old.sender (count_below k old.sender.next number) }) receiver) sn_is
    ∙ by (count_below sn old.sender.next number))
  where
    by : (o : Option ℕ) → bearer_of (record old { sender = entity_if old.sender o }) receiver ≡ confirmed_if (octet_way codec) o (bearer_of old receiver)
    by None = refl
    by (Some count) = refl

-- ---- what calls say of an answer that came

pub numbered_facts : (sn : SnBits) (n : Numbering) (old new : SenderState) (o : Option Numbered) (d : Numbered) → IsNumbering sn n old new (Ok o) → o ≡ Some d
    → (packet : List ℕ) × (n ≡ numbers d.count packet new) × (d.pdu ≡ radio_data sn d.count packet)
numbered_facts sn n old new o d says is = subst (λ (x : Option Numbered). IsNumbering sn n old new (Ok x)) is says

pub not_numbered : (sn : SnBits) (n : Numbering) (old new : SenderState) (o : Option Numbered) → IsNumbering sn n old new (Ok o) → o ≡ None
    → (n ≡ stays) × (new ≡ old)
not_numbered sn n old new o says is = subst (λ (x : Option Numbered). IsNumbering sn n old new (Ok x)) is says

fails_so : {R : Type 0} (X : Type 0) (sn : SnBits) (n : Numbering) (old new : SenderState) (e : StepError) → IsNumbering sn n old new (Err e)
    → (s : Step R) → (n ≡ ends → s ≡ stopped counts_spent) → (out : List Output) (b : R) → IsStep {X = X} s out b (Err e)
fails_so X sn n old new (errors.Spent counter) says s spent_is out b = spent_is says.0 ∙ ap (λ (k : ℕ). stopped k) (sym says.1)
fails_so X sn n old new errors.Memory says s spent_is out b = tt

pub numbers_fails : {X R : Type 0} (sn : SnBits) (n : Numbering) (old new : SenderState) (e : StepError) → IsNumbering sn n old new (Err e)
    → (s : Step R) → (n ≡ ends → s ≡ stopped counts_spent) → (out : List Output) (b : R) (result : Result X StepError)
    → IsErrAnd result (λ y. y ≡ e) → IsStep s out b result
numbers_fails {X} {R} sn n old new e says s spent_is out b result err =
    let p = err_from_is_err_and result err in
    subst (λ (r : Result X StepError). IsStep s out b r) (sym p.1)
    (subst (λ (y : StepError). IsStep {X = X} s out b (Err y)) (sym p.2) (fails_so X sn n old new e says s spent_is out b))

pub delivered_facts : (old new : ReceiverState) (o : Option Delivered) (d : Delivered) → IsDelivered old new o → o ≡ Some d
    → (new ≡ record old { receiver = new.receiver }) × (handed_up old.receiver ≡ with_packet (d.count, d.packet) (handed_up new.receiver))
    × (length new.receiver.stored < length old.receiver.stored)
delivered_facts old new o d says is = subst (λ (x : Option Delivered). IsDelivered old new x) is says

pub not_delivered : (old new : ReceiverState) (o : Option Delivered) → IsDelivered old new o → o ≡ None
    → (new ≡ old) × (handed_up old.receiver ≡ record { packets = []; after = old.receiver })
not_delivered old new o says is = subst (λ (x : Option Delivered). IsDelivered old new x) is says
