-- What a DU puts for one bearer.
use Rattle.std.proofs.Common.{◌≡◌, ℕ, Bool, true, false, ◌&&◌, ◌||◌, if◌then◌else◌, List, [], ◌∷◌, ◌++◌, Option, Some, None, refl, sym, ap, subst, ◌∙◌}
use Rattle.std.proofs.lemmas.List.{append-nil}
use Rattle.std.specs.Ordering.{nat_cmp, eq_by_cmp}
use Rattle.gnb_types.specs.declared.names.UeId.{UeId}
use Rattle.gnb_types.specs.declared.names.BearerId.{BearerId}
use Rattle.gnb_types.specs.declared.names.Dir.TheVariants.{Dl, Ul}
use Rattle.gnb_types.specs.declared.reasons.DropReason.{DropReason}
use Rattle.gnb_types.specs.declared.reasons.DropReason.TheVariants.{NoContext, NoTunnel, Unexpected}
use Rattle.gnb_types.specs.declared.outputs.Tag.TheVariants.{Absent, Same}
use Rattle.gnb_types.specs.Orders.{ue_cmp, bearer_cmp}
use Rattle.tables.specs.Tables.{find}
use Rattle.unit_defs.specs.Ways.{Pdu, uplink, status, Taken, fresh_item, numbered_item, frame_item, uplink_item, status_item, end_item, Output, packet, Way, Answer, ◌then◌, puts, drops}
use Rattle.unit_defs.specs.Du.{Du, DuBearer, DuContext, DuTunnel, context_of, missing, is_missing, told, frame_received, taken_in, taken_of, taken_on, take, of_bearer, of_context, pass_up, confirmed, confirm}
use Rattle.law_downlink_order.specs.path.Paths.{Frame, gap_after}
use Rattle.proof_node_orders.specs.du_inputs.Changes.{DuModel, model_with, model_in, model_of, Change, stays, takes, of_frame, of_tunnel}
use Rattle.proof_node_orders.specs.du_inputs.Puts.{OnTunnel, is_of, tunnels_put, radio_put, on_uplink, of_change, of_number, of_model, carried_if, carried_of, Puts}
use Rattle.proof_node_orders.proofs.du_inputs.Contexts.{same_ue, same_bearer}
use Rattle.proof_node_orders.proofs.du_inputs.Frames.{sent_on, as_item, frame_is}

module _ {M C : Type 0} (way : Way M C Pdu) (r : Du M C) (ue : UeId) (bearer : BearerId) where
  abbrev before : Option DuModel
  before = model_of r ue bearer

  -- ---- what is put of a frame

  sent_ups : (other : UeId) (q : BearerId) (c : DuContext) (g : Bool) (pdu : Option Pdu) → tunnels_put ue bearer (sent_on way r ue bearer other q c g pdu) ≡ []
  unfolding tunnels_put
  sent_ups other q c g None = refl
  sent_ups other q c true (Some pdu) = refl
  sent_ups other q c false (Some pdu) = refl

  sent_radio : (other : UeId) (q : BearerId) (c : DuContext) (g : Bool) (pdu : Option Pdu)
      → radio_put ue bearer (sent_on way r ue bearer other q c g pdu) ≡ (if is_of ue bearer other q then carried_if g c.epoch pdu else [])
  unfolding radio_put
  sent_radio other q c g None = by (is_of ue bearer other q)
    where
      by : (t : Bool) → ◌≡◌ {A = List (ℕ × Pdu)} [] (if t then [] else [])
      by true = refl
      by false = refl
  sent_radio other q c true (Some pdu) = by (is_of ue bearer other q)
    where
      by : (t : Bool) → ◌≡◌ {A = List (ℕ × Pdu)} [] (if t then [] else [])
      by true = refl
      by false = refl
  sent_radio other q c false (Some pdu) = append-nil (if is_of ue bearer other q then (c.epoch, pdu) ∷ [] else [])

  abbrev model_at : DuContext → DuBearer → DuModel
  model_at c b = record { epoch = c.epoch; sn = c.sn; bearer = b }

  frame_ups : (other : UeId) (q : BearerId) (c : DuContext) (b : DuBearer) (f : Frame)
      → tunnels_put ue bearer (told way other q b f.poll f.number ++ sent_on way r ue bearer other q c (gap_after b f f.pdu) f.pdu)
      ≡ (if is_of ue bearer other q then of_change way (takes f) (model_at c b) else [])
  unfolding tunnels_put
  frame_ups other q c b f = by (is_missing way b f.number || f.poll)
    where
      more : List (Output M Pdu)
      more = sent_on way r ue bearer other q c (gap_after b f f.pdu) f.pdu

      ups : List OnTunnel
      ups = on_uplink (model_at c b) (status (missing way b f.number) None)

      none_put : (t : Bool) → ◌≡◌ {A = List OnTunnel} [] (if t then [] else [])
      none_put true = refl
      none_put false = refl

      by : (t : Bool) → tunnels_put ue bearer ((if t then packet b.up b.uplink other q Dl Absent (status (missing way b f.number) None) ∷ [] else []) ++ more)
          ≡ (if is_of ue bearer other q then (if t then ups else []) else [])
      by true = ap (λ xs. (if is_of ue bearer other q then ups else []) ++ xs) (sent_ups other q c (gap_after b f f.pdu) f.pdu)
          ∙ append-nil (if is_of ue bearer other q then ups else [])
      by false = sent_ups other q c (gap_after b f f.pdu) f.pdu ∙ none_put (is_of ue bearer other q)

  frame_radio : (other : UeId) (q : BearerId) (c : DuContext) (b : DuBearer) (f : Frame)
      → radio_put ue bearer (told way other q b f.poll f.number ++ sent_on way r ue bearer other q c (gap_after b f f.pdu) f.pdu)
      ≡ (if is_of ue bearer other q then carried_of (takes f) (model_at c b) else [])
  unfolding radio_put
  frame_radio other q c b f = by (is_missing way b f.number || f.poll)
    where
      more : List (Output M Pdu)
      more = sent_on way r ue bearer other q c (gap_after b f f.pdu) f.pdu

      by : (t : Bool) → radio_put ue bearer ((if t then packet b.up b.uplink other q Dl Absent (status (missing way b f.number) None) ∷ [] else []) ++ more)
          ≡ (if is_of ue bearer other q then carried_of (takes f) (model_at c b) else [])
      by true = sent_radio other q c (gap_after b f f.pdu) f.pdu
      by false = sent_radio other q c (gap_after b f f.pdu) f.pdu

  -- ---- of a model that is there or isn't

  module _ {X : Type 0} (f : Change → DuModel → List X) (none_of : (d : DuModel) → f stays d ≡ []) where
    stays_puts : (o : Option DuModel) → of_model (f stays) o ≡ []
    stays_puts None = refl
    stays_puts (Some d) = none_of d

    none_puts : (t : DuTunnel) (item : Taken Pdu) → model_of r t.ue t.bearer ≡ None → of_model (f (of_tunnel ue bearer item (Some t))) before ≡ []
    none_puts t item none_there = by (eq_by_cmp ue_cmp ue t.ue) (eq_by_cmp bearer_cmp bearer t.bearer) refl refl
      where
        by : (a b : Bool) → eq_by_cmp ue_cmp ue t.ue ≡ a → eq_by_cmp bearer_cmp bearer t.bearer ≡ b
            → of_model (f (if a then (if b then of_frame item else stays) else stays)) before ≡ []
        by true true e h = ap (of_model (f (of_frame item))) (ap (λ k. model_of r k bearer) (same_ue ue t.ue e)
            ∙ ap (λ k. model_of r t.ue k) (same_bearer bearer t.bearer h) ∙ none_there)
        by true false e h = stays_puts before
        by false b e h = stays_puts before

    other_puts : (t : DuTunnel)
        → of_model (f (if eq_by_cmp ue_cmp ue t.ue then (if eq_by_cmp bearer_cmp bearer t.bearer then stays else stays) else stays)) before ≡ []
    other_puts t = by (eq_by_cmp ue_cmp ue t.ue) (eq_by_cmp bearer_cmp bearer t.bearer)
      where
        by : (a b : Bool) → of_model (f (if a then (if b then stays else stays) else stays)) before ≡ []
        by true true = stays_puts before
        by true false = stays_puts before
        by false b = stays_puts before

    frame_puts : (t : DuTunnel) (c : DuContext) (b : DuBearer) (g : Frame) → context_of r t.ue ≡ Some c → find bearer_cmp c.bearers t.bearer ≡ Some b
        → (if is_of ue bearer t.ue t.bearer then f (takes g) (model_at c b) else []) ≡ of_model (f (of_tunnel ue bearer (as_item way r ue bearer g) (Some t))) before
    frame_puts t c b g there found = by (eq_by_cmp ue_cmp ue t.ue) (eq_by_cmp bearer_cmp bearer t.bearer) refl refl
      where
        by : (x y : Bool) → eq_by_cmp ue_cmp ue t.ue ≡ x → eq_by_cmp bearer_cmp bearer t.bearer ≡ y
            → (if x && y then f (takes g) (model_at c b) else []) ≡ of_model (f (if x then (if y then takes g else stays) else stays)) before
        by true true e h =
            let is : before ≡ Some (model_at c b) =
            ap (λ k. model_of r k bearer) (same_ue ue t.ue e) ∙ ap (model_in bearer) there
            ∙ ap (λ k. model_with c (find bearer_cmp c.bearers k)) (same_bearer bearer t.bearer h) ∙ ap (model_with c) found in
            sym (ap (of_model (f (takes g))) is)
        by true false e h = sym (stays_puts before)
        by false y e h = sym (stays_puts before)

  stays_ups : (d : DuModel) → of_change way stays d ≡ []
  stays_ups d = refl

  stays_carried : (d : DuModel) → carried_of stays d ≡ []
  stays_carried d = refl

  abbrev PutsBy : Change → Answer M Pdu (Du M C) → Type 0
  PutsBy change a = Puts ue bearer (of_model (of_change way change) before) (of_model (carried_of change) before) a

  one_dropped : (change : Change) (reason : DropReason) → of_model (of_change way change) before ≡ [] → of_model (carried_of change) before ≡ []
      → PutsBy change (drops reason r)
  unfolding Puts tunnels_put radio_put
  one_dropped change reason p q = (sym p, sym q)

  none_dropped : (t : DuTunnel) (item : Taken Pdu) (reason : DropReason) → model_of r t.ue t.bearer ≡ None → PutsBy (of_tunnel ue bearer item (Some t)) (drops reason r)
  none_dropped t item reason none_there = one_dropped (of_tunnel ue bearer item (Some t)) reason
      (none_puts (of_change way) stays_ups t item none_there) (none_puts (carried_of) stays_carried t item none_there)

  other_dropped : (t : DuTunnel) → PutsBy (if eq_by_cmp ue_cmp ue t.ue then (if eq_by_cmp bearer_cmp bearer t.bearer then stays else stays) else stays)
      (drops Unexpected r)
  other_dropped t =
      one_dropped (if eq_by_cmp ue_cmp ue t.ue then (if eq_by_cmp bearer_cmp bearer t.bearer then stays else stays) else stays) Unexpected
      (other_puts (of_change way) stays_ups t) (other_puts (carried_of) stays_carried t)

  -- ---- a frame that comes

  came_puts : (t : DuTunnel) (c : DuContext) (b : DuBearer) (item : Taken Pdu) → context_of r t.ue ≡ Some c
      → find bearer_cmp c.bearers t.bearer ≡ Some b
      → PutsBy (of_tunnel ue bearer item (Some t)) (frame_received way t.ue t.bearer c b item r)
  unfolding Puts
  came_puts t c b (frame_item poll restart number pdu) there found =
      let f : Frame = record { poll = poll; restart = restart; number = number; pdu = pdu } in
      subst (λ a. PutsBy (of_tunnel ue bearer (as_item way r ue bearer f) (Some t)) a) (sym (frame_is way r ue bearer t.ue t.bearer c b f)) (
        frame_ups t.ue t.bearer c b f ∙ frame_puts (of_change way) stays_ups t c b f there found,
        frame_radio t.ue t.bearer c b f ∙ frame_puts (carried_of) stays_carried t c b f there found,
      )
  came_puts t c b (fresh_item p) there found = other_dropped t
  came_puts t c b (numbered_item count p) there found = other_dropped t
  came_puts t c b (uplink_item content) there found = other_dropped t
  came_puts t c b (status_item lost delivered) there found = other_dropped t
  came_puts t c b end_item there found = other_dropped t

  pub take_puts : (teid : ℕ) (item : Taken Pdu) → PutsBy (of_tunnel ue bearer item (find nat_cmp r.tunnels teid)) (take way teid item r)
  unfolding take
  take_puts teid item = by (find nat_cmp r.tunnels teid)
    where
      by_bearer : (t : DuTunnel) (c : DuContext) → context_of r t.ue ≡ Some c → (o : Option DuBearer) → find bearer_cmp c.bearers t.bearer ≡ o
          → PutsBy (of_tunnel ue bearer item (Some t)) (taken_in way t.ue t.bearer c item r o)
      by_bearer t c there None found = none_dropped t item NoContext (ap (model_in t.bearer) there ∙ ap (model_with c) found)
      by_bearer t c there (Some b) found = came_puts t c b item there found

      by_context : (t : DuTunnel) (o : Option DuContext) → context_of r t.ue ≡ o
          → PutsBy (of_tunnel ue bearer item (Some t)) (taken_of way t.ue t.bearer item r o)
      by_context t None there = none_dropped t item NoContext (ap (model_in t.bearer) there)
      by_context t (Some c) there = by_bearer t c there (find bearer_cmp c.bearers t.bearer) refl

      by : (o : Option DuTunnel) → PutsBy (of_tunnel ue bearer item o) (taken_on way item r o)
      by None = one_dropped stays NoTunnel (stays_puts (of_change way) stays_ups before) (stays_puts (carried_of) stays_carried before)
      by (Some t) = by_context t (context_of r t.ue) refl

  -- ---- what comes up, and what was confirmed

  -- what one bearer puts, where it is there; of another bearer nothing
  some_put : (other : UeId) (q : BearerId) (f : DuModel → List OnTunnel) (xs : List OnTunnel)
      → xs ≡ of_model f (model_of r other q)
      → (if is_of ue bearer other q then xs else []) ≡ of_model (λ d. if is_of ue bearer other q then f d else []) before
  some_put other q f xs is = by (eq_by_cmp ue_cmp ue other) (eq_by_cmp bearer_cmp bearer q) refl refl
    where
      nothing_of : (o : Option DuModel) → ◌≡◌ {A = List OnTunnel} [] (of_model (λ d. []) o)
      nothing_of None = refl
      nothing_of (Some d) = refl

      by : (x y : Bool) → eq_by_cmp ue_cmp ue other ≡ x → eq_by_cmp bearer_cmp bearer q ≡ y
          → (if x && y then xs else []) ≡ of_model (λ d. if x && y then f d else []) before
      by true true e h = is ∙ sym (ap (of_model f) (ap (λ k. model_of r k bearer) (same_ue ue other e) ∙ ap (λ k. model_of r other k) (same_bearer bearer q h)))
      by true false e h = nothing_of before
      by false y e h = nothing_of before

  abbrev ups_of : (DuModel → List OnTunnel) → List OnTunnel
  ups_of f = of_model f before

  none_radio : (o : Option DuModel) → ◌≡◌ {A = List (ℕ × Pdu)} [] (of_model (carried_of stays) o)
  none_radio None = refl
  none_radio (Some d) = refl

  pub pass_puts : (other : UeId) (q : BearerId) (pdu : Pdu)
      → Puts ue bearer (ups_of (λ d. if is_of ue bearer other q then on_uplink d (uplink pdu) else [])) (of_model (carried_of stays) before)
      (pass_up way other q pdu r)
  unfolding pass_up Puts tunnels_put radio_put
  pass_puts other q pdu = by (context_of r other) refl
    where
      row : DuContext → DuBearer → Answer M Pdu (Du M C)
      row c b = puts (packet b.up b.uplink other q Ul Same (uplink pdu)) r

      f : DuModel → List OnTunnel
      f d = on_uplink d (uplink pdu)

      empty_if : (t : Bool) → ◌≡◌ {A = List OnTunnel} [] (if t then [] else [])
      empty_if true = refl
      empty_if false = refl

      absent : model_of r other q ≡ None → [] ≡ ups_of (λ d. if is_of ue bearer other q then f d else [])
      absent is = empty_if (is_of ue bearer other q) ∙ some_put other q f [] (sym (ap (of_model f) is))

      in_context : (c : DuContext) → context_of r other ≡ Some c → (o : Option DuBearer) → find bearer_cmp c.bearers q ≡ o
          → Puts ue bearer (ups_of (λ d. if is_of ue bearer other q then f d else [])) (of_model (carried_of stays) before)
          (of_bearer way r row c o)
      in_context c there None found = (absent (ap (model_in q) there ∙ ap (model_with c) found), none_radio before)
      in_context c there (Some b) found = (
        append-nil (if is_of ue bearer other q then f (model_at c b) else [])
            ∙ some_put other q f (f (model_at c b)) (sym (ap (of_model f) (ap (model_in q) there ∙ ap (model_with c) found))),
        none_radio before,
      )

      by : (o : Option DuContext) → context_of r other ≡ o
          → Puts ue bearer (ups_of (λ d. if is_of ue bearer other q then f d else [])) (of_model (carried_of stays) before)
          (of_context way r row q o)
      by None there = (absent (ap (model_in q) there), none_radio before)
      by (Some c) there = in_context c there (find bearer_cmp c.bearers q) refl

  pub confirm_puts : (other : UeId) (q : BearerId) (pdu : Pdu)
      → Puts ue bearer (ups_of (λ d. if is_of ue bearer other q then of_number (way.number d.sn pdu) d else []))
      (of_model (carried_of stays) before) (confirm way other q pdu r)
  unfolding confirm Puts tunnels_put radio_put
  confirm_puts other q pdu = by (context_of r other) refl
    where
      row : DuContext → DuBearer → Answer M Pdu (Du M C)
      row c b = confirmed way other q r b (way.number c.sn pdu)

      f : DuModel → List OnTunnel
      f d = of_number (way.number d.sn pdu) d

      empty_if : (t : Bool) → ◌≡◌ {A = List OnTunnel} [] (if t then [] else [])
      empty_if true = refl
      empty_if false = refl

      absent : model_of r other q ≡ None → [] ≡ ups_of (λ d. if is_of ue bearer other q then f d else [])
      absent is = empty_if (is_of ue bearer other q) ∙ some_put other q f [] (sym (ap (of_model f) is))

      in_row : (c : DuContext) (b : DuBearer) (o : Option ℕ) → of_number o (model_at c b) ≡ of_model f (model_of r other q)
          → Puts ue bearer (ups_of (λ d. if is_of ue bearer other q then f d else [])) (of_model (carried_of stays) before)
          (confirmed way other q r b o)
      in_row c b None is = (empty_if (is_of ue bearer other q) ∙ some_put other q f [] is, none_radio before)
      in_row c b (Some number) is = (
        append-nil (if is_of ue bearer other q then on_uplink (model_at c b) (status [] (Some number)) else [])
            ∙ some_put other q f (on_uplink (model_at c b) (status [] (Some number))) is,
        none_radio before,
      )

      in_context : (c : DuContext) → context_of r other ≡ Some c → (o : Option DuBearer) → find bearer_cmp c.bearers q ≡ o
          → Puts ue bearer (ups_of (λ d. if is_of ue bearer other q then f d else [])) (of_model (carried_of stays) before)
          (of_bearer way r row c o)
      in_context c there None found = (absent (ap (model_in q) there ∙ ap (model_with c) found), none_radio before)
      in_context c there (Some b) found =
          in_row c b (way.number c.sn pdu) (sym (ap (of_model f) (ap (model_in q) there ∙ ap (model_with c) found)))

      by : (o : Option DuContext) → context_of r other ≡ o
          → Puts ue bearer (ups_of (λ d. if is_of ue bearer other q then f d else [])) (of_model (carried_of stays) before)
          (of_context way r row q o)
      by None there = (absent (ap (model_in q) there), none_radio before)
      by (Some c) there = in_context c there (find bearer_cmp c.bearers q) refl
