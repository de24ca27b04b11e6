-- A frame changes its own bearer alone.
use Rattle.std.proofs.Common.{◌≡◌, ℕ, ◌+◌, Bool, true, false, if◌then◌else◌, List, [], ◌∷◌, ◌++◌, Option, Some, None, refl, sym, ap, subst, ◌∙◌}
use Rattle.std.specs.Ordering.{nat_cmp, eq_by_cmp}
use Rattle.gnb_types.specs.declared.names.UeId.{UeId}
use Rattle.gnb_types.specs.declared.names.BearerId.{BearerId}
use Rattle.gnb_types.specs.declared.names.Dir.TheVariants.{Dl}
use Rattle.gnb_types.specs.declared.outputs.Tag.TheVariants.{Same}
use Rattle.gnb_types.specs.declared.reasons.DropReason.TheVariants.{Gap}
use Rattle.gnb_types.specs.Orders.{ue_cmp, bearer_cmp}
use Rattle.gnb_types.proofs.OrderLemmas.{bearer_total}
use Rattle.tables.specs.Tables.{find, put}
use Rattle.tables.proofs.TableLaws.{find-put-same, find-put-other}
use Rattle.unit_defs.specs.Ways.{Pdu, Taken, fresh_item, numbered_item, frame_item, uplink_item, status_item, end_item, Output, radio, Way, gives, with_outputs, ◌then◌, dropped, puts, drops}
use Rattle.unit_defs.specs.Du.{Du, DuBearer, DuContext, DuTunnel, context_of, told, with_bearer, frame_received, taken_in, taken_of, taken_on, take}
use Rattle.law_downlink_order.specs.path.Paths.{Frame, taken_by, gap_after as shown_gap}
use Rattle.proof_node_orders.specs.du_inputs.Changes.{DuModel, model_with, model_in, model_of, stays, takes, changed, of_frame, of_tunnel, Has}
use Rattle.proof_node_orders.proofs.du_inputs.Contexts.{same_ue, same_bearer, stays_is, put_here, put_far}

module _ {M C : Type 0} (way : Way M C Pdu) (r : Du M C) (ue : UeId) (bearer : BearerId) where
  -- ---- a bearer of some context changes

  with_is : (other : UeId) (q : BearerId) (c : DuContext) (b n : DuBearer) → context_of r other ≡ Some c → find bearer_cmp c.bearers q ≡ Some b
      → model_of (with_bearer way other q c n r) ue bearer
      ≡ (if eq_by_cmp ue_cmp ue other then (if eq_by_cmp bearer_cmp bearer q then Some (record { epoch = c.epoch; sn = c.sn; bearer = n })
      else model_of r ue bearer) else model_of r ue bearer)
  with_is other q c b n there found = by (eq_by_cmp ue_cmp ue other) refl
    where
      now : DuContext
      now = record c { bearers = put bearer_cmp c.bearers q n }

      own : (t : Bool) → eq_by_cmp bearer_cmp bearer q ≡ t → ue ≡ other
          → model_in bearer (Some now) ≡ (if t then Some (record { epoch = c.epoch; sn = c.sn; bearer = n }) else model_of r ue bearer)
      own true is name =
          ap (λ k. model_with now (find bearer_cmp now.bearers k)) (same_bearer bearer q is)
          ∙ ap (model_with now) (find-put-same bearer_total c.bearers q n)
      own false is name =
          ap (model_with now) (find-put-other bearer_total c.bearers q n bearer is)
          ∙ ap (model_in bearer) (sym there) ∙ ap (λ k. model_of r k bearer) (sym name)

      by : (t : Bool) → eq_by_cmp ue_cmp ue other ≡ t
          → model_of (with_bearer way other q c n r) ue bearer
          ≡ (if t then (if eq_by_cmp bearer_cmp bearer q then Some (record { epoch = c.epoch; sn = c.sn; bearer = n })
          else model_of r ue bearer) else model_of r ue bearer)
      by true is =
          ap (λ k. model_in bearer (find ue_cmp (put ue_cmp r.contexts other now) k)) (same_ue ue other is)
          ∙ put_here r.contexts other bearer now ∙ own (eq_by_cmp bearer_cmp bearer q) refl (same_ue ue other is)
      by false is = put_far r.contexts ue other bearer now is

  -- ---- a frame of a bearer

  abbrev pub sent_on : UeId → BearerId → DuContext → Bool → Option Pdu → List (Output M Pdu)
  sent_on other q c gap None = []
  sent_on other q c true (Some pdu) = dropped Gap ∷ []
  sent_on other q c false (Some pdu) = radio other q Dl c.epoch Same pdu ∷ []

  abbrev pub as_item : Frame → Taken Pdu
  as_item f = frame_item f.poll f.restart f.number f.pdu

  pub frame_is : (other : UeId) (q : BearerId) (c : DuContext) (b : DuBearer) (f : Frame)
      → frame_received way other q c b (as_item f) r
      ≡ gives (told way other q b f.poll f.number ++ sent_on other q c (shown_gap b f f.pdu) f.pdu) (with_bearer way other q c (taken_by b f) r)
  frame_is other q c b f = by f.pdu
    where
      by_gap : (g : Bool) (pdu : Pdu) (v : Du M C)
          → with_outputs (told way other q b f.poll f.number) (if g then drops Gap v else puts (radio other q Dl c.epoch Same pdu) v)
          ≡ gives (told way other q b f.poll f.number ++ sent_on other q c g (Some pdu)) v
      by_gap true pdu v = refl
      by_gap false pdu v = refl

      by : (pdu : Option Pdu)
          → frame_received way other q c b (frame_item f.poll f.restart f.number pdu) r
          ≡ gives (told way other q b f.poll f.number ++ sent_on other q c (shown_gap b f pdu) pdu)
          (with_bearer way other q c (record b { awaited = f.number + 1; gap = shown_gap b f pdu }) r)
      by None = refl
      by (Some pdu) = by_gap (shown_gap b f (Some pdu)) pdu
          (with_bearer way other q c (record b { awaited = f.number + 1; gap = shown_gap b f (Some pdu) }) r)

  -- ---- the whole row

  abbrev before : Option DuModel
  before = model_of r ue bearer

  frame_none : (item : Taken Pdu) → changed (of_frame item) None ≡ None
  unfolding changed
  frame_none (frame_item poll restart number pdu) = refl
  frame_none (fresh_item packet) = refl
  frame_none (numbered_item count packet) = refl
  frame_none (uplink_item content) = refl
  frame_none (status_item lost delivered) = refl
  frame_none end_item = refl

  -- where the tunnel's bearer isn't there, nothing changes
  none_moves : (t : DuTunnel) (item : Taken Pdu) → model_of r t.ue t.bearer ≡ None → before ≡ changed (of_tunnel ue bearer item (Some t)) before
  none_moves t item none_there = by (eq_by_cmp ue_cmp ue t.ue) (eq_by_cmp bearer_cmp bearer t.bearer) refl refl
    where
      by : (a b : Bool) → eq_by_cmp ue_cmp ue t.ue ≡ a → eq_by_cmp bearer_cmp bearer t.bearer ≡ b
          → before ≡ changed (if a then (if b then of_frame item else stays) else stays) before
      by true true e h =
          let is : before ≡ None = ap (λ k. model_of r k bearer) (same_ue ue t.ue e) ∙ ap (λ k. model_of r t.ue k) (same_bearer bearer t.bearer h)
          ∙ none_there in
          is ∙ sym (frame_none item) ∙ ap (changed (of_frame item)) (sym is)
      by true false e h = sym (stays_is before)
      by false b e h = sym (stays_is before)

  -- nor by what isn't a frame
  other_moves : (t : DuTunnel) → before ≡ changed (if eq_by_cmp ue_cmp ue t.ue then (if eq_by_cmp bearer_cmp bearer t.bearer then stays else stays) else stays) before
  other_moves t = by (eq_by_cmp ue_cmp ue t.ue) (eq_by_cmp bearer_cmp bearer t.bearer)
    where
      by : (a b : Bool) → before ≡ changed (if a then (if b then stays else stays) else stays) before
      by true true = sym (stays_is before)
      by true false = sym (stays_is before)
      by false b = sym (stays_is before)

  frame_moves : (t : DuTunnel) (c : DuContext) (b : DuBearer) (f : Frame) → context_of r t.ue ≡ Some c → find bearer_cmp c.bearers t.bearer ≡ Some b
      → model_of (with_bearer way t.ue t.bearer c (taken_by b f) r) ue bearer ≡ changed (of_tunnel ue bearer (as_item f) (Some t)) before
  unfolding changed
  frame_moves t c b f there found =
      with_is t.ue t.bearer c b (taken_by b f) there found ∙ by (eq_by_cmp ue_cmp ue t.ue) (eq_by_cmp bearer_cmp bearer t.bearer) refl refl
    where
      by : (x y : Bool) → eq_by_cmp ue_cmp ue t.ue ≡ x → eq_by_cmp bearer_cmp bearer t.bearer ≡ y
          → (if x then (if y then Some (record { epoch = c.epoch; sn = c.sn; bearer = taken_by b f }) else before) else before)
          ≡ changed (if x then (if y then takes f else stays) else stays) before
      by true true e h =
          let is : before ≡ Some (record { epoch = c.epoch; sn = c.sn; bearer = b }) =
          ap (λ k. model_of r k bearer) (same_ue ue t.ue e) ∙ ap (model_in bearer) there
          ∙ ap (λ k. model_with c (find bearer_cmp c.bearers k)) (same_bearer bearer t.bearer h) ∙ ap (model_with c) found in
          sym (ap (changed (takes f)) is)
      by true false e h = sym (stays_is before)
      by false y e h = sym (stays_is before)

  came_has : (t : DuTunnel) (c : DuContext) (b : DuBearer) (item : Taken Pdu) → context_of r t.ue ≡ Some c
      → find bearer_cmp c.bearers t.bearer ≡ Some b
      → Has ue bearer (changed (of_tunnel ue bearer item (Some t)) before) (frame_received way t.ue t.bearer c b item r)
  unfolding Has
  came_has t c b (frame_item poll restart number pdu) there found =
      let f : Frame = record { poll = poll; restart = restart; number = number; pdu = pdu } in
      subst (λ a. Has ue bearer (changed (of_tunnel ue bearer (as_item f) (Some t)) before) a) (sym (frame_is t.ue t.bearer c b f))
      (frame_moves t c b f there found)
  came_has t c b (fresh_item packet) there found = other_moves t
  came_has t c b (numbered_item count packet) there found = other_moves t
  came_has t c b (uplink_item content) there found = other_moves t
  came_has t c b (status_item lost delivered) there found = other_moves t
  came_has t c b end_item there found = other_moves t

  pub take_has : (teid : ℕ) (item : Taken Pdu)
      → Has ue bearer (changed (of_tunnel ue bearer item (find nat_cmp r.tunnels teid)) before) (take way teid item r)
  unfolding take Has
  take_has teid item = by (find nat_cmp r.tunnels teid)
    where
      by_bearer : (t : DuTunnel) (c : DuContext) → context_of r t.ue ≡ Some c → (o : Option DuBearer) → find bearer_cmp c.bearers t.bearer ≡ o
          → Has ue bearer (changed (of_tunnel ue bearer item (Some t)) before) (taken_in way t.ue t.bearer c item r o)
      by_bearer t c there None found = none_moves t item (ap (model_in t.bearer) there ∙ ap (model_with c) found)
      by_bearer t c there (Some b) found = came_has t c b item there found

      by_context : (t : DuTunnel) (o : Option DuContext) → context_of r t.ue ≡ o
          → Has ue bearer (changed (of_tunnel ue bearer item (Some t)) before) (taken_of way t.ue t.bearer item r o)
      by_context t None there = none_moves t item (ap (model_in t.bearer) there)
      by_context t (Some c) there = by_bearer t c there (find bearer_cmp c.bearers t.bearer) refl

      by : (o : Option DuTunnel) → Has ue bearer (changed (of_tunnel ue bearer item o) before) (taken_on way item r o)
      by None = sym (stays_is before)
      by (Some t) = by_context t (context_of r t.ue) refl
