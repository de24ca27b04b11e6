-- What a CU-UP and a terminal answer where they are given the packet that they await: it is delivered, first of all, and no control
-- message is put.
use Rattle.std.proofs.Common.{◌≡◌, ℕ, Bool, true, false, ◌&&◌, List, [], ◌∷◌, ◌++◌, map, Option, Some, None, sym, ap, subst}
use Rattle.std.specs.Prelude.{if◌then◌else◌}
use Rattle.std.specs.List.{flat_map, list_all}
use Rattle.gnb_types.specs.declared.names.UeId.{UeId}
use Rattle.gnb_types.specs.declared.names.BearerId.{BearerId}
use Rattle.gnb_types.specs.declared.names.Dir.{Dir}
use Rattle.gnb_types.specs.declared.names.Dir.TheVariants.{Dl, Ul}
use Rattle.gnb_types.specs.declared.reasons.HeldReason.TheVariants.{Ahead}
use Rattle.gnb_types.specs.declared.reasons.DropReason.TheVariants.{Duplicate}
use Rattle.pdcp_defs.specs.Receivers.{is_duplicate, is_ahead, stored, deliver as handed_up}
use Rattle.message_types.specs.declared.rrc.Token.{Token}
use Rattle.unit_defs.specs.Ways.{Message, Pdu, packet_content, Load, Output, deliver, held, closed, packet_input, radio_input, Answer, gives, spent, with_outputs, ◌then◌, nothing, puts, drops}
use Rattle.unit_defs.specs.CuUpRecords.{CuUpBearer, CuUpContext, CuUpTunnel, TunnelKind, n3, f1u_uplink, forwarding_down, forwarding_up, CuUp, CuUpScope, cu_up_scope}
use Rattle.unit_defs.specs.CuUpBearers.{is_over, open_teids, delivered, deliver_stored}
use Rattle.unit_defs.specs.CuUpItems.{stored_at, passed_up, took_uplink, took}
use Rattle.unit_defs.specs.CuUp.{context_of, ended, ended_if_over, end_where_over, with_bearer, taken_by, taken_in, taken_of as taken_of_context, taken_on, take, cu_up_acts}
use Rattle.unit_defs.specs.Ue.{UeBearer, UeNode, of_bearer, handed, took_data, took as took_down, take as take_down, with_bearer as with_ue_bearer, ue_acts}
use Rattle.run_defs.specs.Runs.{plain_way, taken_of}
use Rattle.law_downlink_scripts.specs.delivers.Awaited.{Awaits, Brings, IsAwaitedAt, IsAwaitedBy}
use Rattle.law_downlink_scripts.proofs.delivers.Lines.{IsSilent, both_silent}
use Rattle.law_downlink_scripts.proofs.delivers.Receivers.{no_duplicate, is_delivered}

unless : {A : Type 0} (B : A → Type 0) (t : Bool) (x y : A) → t ≡ false → B y → B (if t then x else y)
unless B true x y e p = absurd cc
unless B false x y e p = p

abbrev PlainOutput : Type 0
PlainOutput = Output (Message Token) Pdu

abbrev Plainly : Type 0 → Type 0
Plainly R = Answer (Message Token) Pdu R

-- the first output delivers this packet, and no other is a control message
abbrev pub Hands : {R : Type 0} → UeId → BearerId → Dir → ℕ → List ℕ → Plainly R → Type 0
Hands ue bearer dir count packet (gives outputs after) =
    (more : List PlainOutput) × (outputs ≡ deliver ue bearer dir count packet ∷ more) × IsSilent more
Hands ue bearer dir count packet (spent counter) = ⊥

-- no control message is put
abbrev Silent : {R : Type 0} → Plainly R → Type 0
Silent (gives outputs after) = IsSilent outputs
Silent (spent counter) = ⊥

hands_then : {R S : Type 0} (ue : UeId) (bearer : BearerId) (dir : Dir) (count : ℕ) (packet : List ℕ) (a : Plainly R) (f : R → Plainly S)
    → Hands ue bearer dir count packet a → ((r : R) → Silent (f r)) → Hands ue bearer dir count packet (a then f)
hands_then {S = S} ue bearer dir count packet (gives outputs r) f h silent = by (f r) (silent r)
  where
    by : (b : Plainly S) → Silent b → Hands ue bearer dir count packet (with_outputs outputs b)
    by (gives more s) q = (h.0 ++ more, ap (λ (os : List PlainOutput). os ++ more) h.1, both_silent h.0 more h.2 q)
    by (spent counter) q = absurd q
hands_then ue bearer dir count packet (spent counter) f h silent = absurd h

-- ---- a CU-UP's bearer

module _ (at : CuUpScope) where
  silent_up : (es : List (ℕ × List ℕ)) → IsSilent (delivered plain_way at es)
  silent_up [] = tt
  silent_up (e ∷ es) = silent_up es

  hands_up : (b : CuUpBearer) (count : ℕ) (p : List ℕ) → Awaits b.receiver count
      → Hands at.ue at.bearer Ul count p (deliver_stored plain_way at (record b { receiver = stored b.receiver count p }))
  unfolding deliver_stored
  hands_up b count p awaits =
      let found = is_delivered b.receiver count awaits p in
      (delivered plain_way at found.0, ap (delivered plain_way at) found.1, silent_up found.0)

  took_hands : (b : CuUpBearer) (count : ℕ) (p : List ℕ) → at.flags.released ≡ false → at.flags.frozen ≡ false → Awaits b.receiver count
      → Hands at.ue at.bearer Ul count p (took_uplink plain_way at (Some count) p b)
  unfolding took_uplink
  took_hands b count p released frozen awaits =
      unless (Hands at.ue at.bearer Ul count p) at.flags.released (passed_up plain_way at count p b) _ released
      (unless (Hands at.ue at.bearer Ul count p) (is_duplicate b.receiver count) (drops Duplicate b) (stored_at plain_way at count p b)
      (no_duplicate b.receiver count awaits p)
      (unless (Hands at.ue at.bearer Ul count p) at.flags.frozen _ (deliver_stored plain_way at (record b { receiver = stored b.receiver count p })) frozen
      (hands_up b count p awaits)))

  item_hands : (kind : TunnelKind) (teid : ℕ) (load : Load Pdu) (b : CuUpBearer) (count : ℕ) (p : List ℕ) → Brings kind load count p
      → at.flags.released ≡ false → at.flags.frozen ≡ false → Awaits b.receiver count
      → Hands at.ue at.bearer Ul count p (took plain_way at kind teid (taken_of load) b)
  unfolding took
  item_hands f1u_uplink teid load b count p brings released frozen awaits =
      subst (λ (l : Load Pdu). Hands at.ue at.bearer Ul count p (took plain_way at f1u_uplink teid (taken_of l) b)) (sym brings)
      (took_hands b count p released frozen awaits)
  item_hands forwarding_up teid load b count p brings released frozen awaits =
      subst (λ (l : Load Pdu). Hands at.ue at.bearer Ul count p (took plain_way at forwarding_up teid (taken_of l) b)) (sym brings.1)
      (took_hands b count p released frozen awaits)
  item_hands n3 teid load b count p brings released frozen awaits = absurd brings
  item_hands forwarding_down teid load b count p brings released frozen awaits = absurd brings

-- ---- a CU-UP

abbrev PlainUp : Type 0
PlainUp = CuUp (Message Token) Token

silent_teids : (teids : List ℕ) → IsSilent {M = Message Token} {L = Load Pdu} {P = Pdu} (map (λ teid. closed teid) teids)
silent_teids [] = tt
silent_teids (t ∷ ts) = silent_teids ts

silent_closings : (es : List (BearerId × CuUpBearer))
    → IsSilent {M = Message Token} {L = Load Pdu} {P = Pdu} (flat_map (λ e. map (λ teid. closed teid) (open_teids e.1)) es)
silent_closings [] = tt
silent_closings (e ∷ es) =
    both_silent (map (λ teid. closed teid) (open_teids e.1)) (flat_map (λ e. map (λ teid. closed teid) (open_teids e.1)) es)
    (silent_teids (open_teids e.1)) (silent_closings es)

ended_silent : (r : PlainUp) (ue : UeId) (c : CuUpContext) → Silent (ended plain_way r ue c)
unfolding ended
ended_silent r ue c = silent_closings c.bearers

over_silent : (ue : UeId) (r : PlainUp) → Silent (end_where_over plain_way ue r)
unfolding end_where_over
over_silent ue r = by (context_of r ue)
  where
    if_over : (c : CuUpContext) (t : Bool) → Silent (if t then ended plain_way r ue c else nothing r)
    if_over c true = ended_silent r ue c
    if_over c false = tt

    by : (c : Option CuUpContext) → Silent (ended_if_over plain_way ue r c)
    by None = tt
    by (Some c) = if_over c (c.flags.released && list_all (λ e. is_over c.flags e.1) c.bearers)

bearer_hands : (r : PlainUp) (ue : UeId) (c : CuUpContext) (bearer : BearerId) (count : ℕ) (p : List ℕ) (a : Plainly CuUpBearer)
    → Hands ue bearer Ul count p a → Hands ue bearer Ul count p (with_bearer plain_way r ue c bearer a)
bearer_hands r ue c bearer count p (gives outputs b) h = h
bearer_hands r ue c bearer count p (spent counter) h = absurd h

pub up_hands : (r : PlainUp) (teid : ℕ) (load : Load Pdu) (count : ℕ) (p : List ℕ) (w : IsAwaitedAt r teid load count p)
    → Hands w.tunnel.ue w.tunnel.bearer Ul count p (cu_up_acts plain_way r (packet_input teid (taken_of load)))
unfolding cu_up_acts take
up_hands r teid load count p w =
    let t : CuUpTunnel = w.tunnel in
    let c : CuUpContext = w.context in
    let b : CuUpBearer = w.bearer in
    subst (λ o. Hands t.ue t.bearer Ul count p (taken_on plain_way r teid (taken_of load) o)) (sym w.is_open)
    (subst (λ o. Hands t.ue t.bearer Ul count p (taken_of_context plain_way r t teid (taken_of load) o)) (sym w.is_there)
    (subst (λ o. Hands t.ue t.bearer Ul count p (taken_in plain_way r t teid (taken_of load) c o)) (sym w.has)
    (subst (λ o. Hands t.ue t.bearer Ul count p (taken_by plain_way r t teid (taken_of load) c b o)) (sym w.isnt_held)
    (hands_then t.ue t.bearer Ul count p
    (with_bearer plain_way r t.ue c t.bearer (took plain_way (cu_up_scope t.ue c t.bearer) t.kind teid (taken_of load) b)) (end_where_over plain_way t.ue)
    (bearer_hands r t.ue c t.bearer count p (took plain_way (cu_up_scope t.ue c t.bearer) t.kind teid (taken_of load) b)
    (item_hands (cu_up_scope t.ue c t.bearer) t.kind teid load b count p w.brings w.released w.frozen w.awaits))
    (over_silent t.ue)))))

-- ---- a terminal

module _ (u : UeNode) (bearer : BearerId) where
  silent_down : (es : List (ℕ × List ℕ)) → IsSilent {M = Message Token} {L = Load Pdu} {P = Pdu} (map (λ e. deliver u.plan.ue bearer Dl e.0 e.1) es)
  silent_down [] = tt
  silent_down (e ∷ es) = silent_down es

  data_hands : (b : UeBearer) (count : ℕ) (p : List ℕ) → Awaits b.receiver count → is_ahead u.plan.quota b.receiver count ≡ false
      → Hands u.plan.ue bearer Dl count p (took_data plain_way u bearer (Some count) p b)
  data_hands b count p awaits room =
      let found = is_delivered b.receiver count awaits p in
      unless (Hands u.plan.ue bearer Dl count p) (is_duplicate b.receiver count) (drops Duplicate b) _ (no_duplicate b.receiver count awaits p)
      (unless (Hands u.plan.ue bearer Dl count p) (is_ahead u.plan.quota b.receiver count) (puts (held Ahead) b)
      (handed plain_way u bearer b (handed_up (stored b.receiver count p))) room (
        map (λ e. deliver u.plan.ue bearer Dl e.0 e.1) found.0,
        ap (λ (es : List (ℕ × List ℕ)). map (λ e. deliver u.plan.ue bearer Dl e.0 e.1) es) found.1,
        silent_down found.0,
      ))

  pub ue_hands : (ue : UeId) (pdu : Pdu) (count : ℕ) (p : List ℕ) → IsAwaitedBy u bearer count
      → Hands u.plan.ue bearer Dl count p (ue_acts plain_way u (radio_input ue bearer Dl pdu (packet_content (Some count) p)))
  unfolding ue_acts take_down
  ue_hands ue pdu count p w =
      subst (λ o. Hands u.plan.ue bearer Dl count p (of_bearer plain_way u bearer (took_down plain_way u bearer (packet_content (Some count) p)) o)) (sym w.has)
      (hands_then u.plan.ue bearer Dl count p (took_down plain_way u bearer (packet_content (Some count) p) w.there)
      (λ c. nothing (with_ue_bearer plain_way u bearer c)) (data_hands w.there count p w.awaits w.room) (λ c. tt))
