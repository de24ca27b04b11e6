-- What an input of a CU-UP asks of one bearer: its orders, by the record that the CU-UP has then. Where an input is dropped, held or
-- refused, and where it is of another terminal, there are none.
use Rattle.std.specs.Prelude.{◌==◌, ℕ, ◌+◌, Bool, not, ◌&&◌, ◌||◌, if◌then◌else◌, List, [], ◌∷◌, ◌++◌, length, Option, Some, None}
use Rattle.std.specs.List.{list_all}
use Rattle.std.specs.Ordering.{nat_cmp, eq_by_cmp}
use Rattle.gnb_types.specs.declared.names.Gnb.{Gnb}
use Rattle.gnb_types.specs.declared.names.NodeId.TheVariants.{Du}
use Rattle.gnb_types.specs.declared.names.UeId.{UeId}
use Rattle.gnb_types.specs.declared.names.BearerId.{BearerId}
use Rattle.gnb_types.specs.declared.names.SnBits.{SnBits}
use Rattle.gnb_types.specs.declared.keys.Channel.{Channel}
use Rattle.gnb_types.specs.declared.plans.Peer.{Peer}
use Rattle.gnb_types.specs.declared.plans.Tunnel.{Tunnel}
use Rattle.gnb_types.specs.declared.plans.SnStatus.{SnStatus}
use Rattle.gnb_types.specs.declared.inputs.Order.TheVariants as inputs
use Rattle.gnb_types.specs.declared.reasons.HeldReason.{HeldReason}
use Rattle.gnb_types.specs.Orders.{ue_cmp, bearer_cmp}
use Rattle.tables.specs.Tables.{find, put}
use Rattle.transaction_defs.specs.Callees.{Verdict, new, again, stale, verdict}
use Rattle.message_types.specs.declared.e1.E1Message.{E1Message}
use Rattle.message_types.specs.declared.e1.E1Message.TheVariants as e1s
use Rattle.unit_defs.specs.Ways.{Message, e1, Taken, Input, control_input, packet_input, order_input, Way, Answer, gives, spent}
use Rattle.unit_defs.specs.Messages.{mode_uplinks, mode_switch, mode_freeze, mode_status, mode_resume, channel, are_bearers, bearers_of, statuses_of, teid_of}
use Rattle.unit_defs.specs.Transactions.{Kind, request, reply, transfer, kind_of}
use Rattle.unit_defs.specs.CuUpRecords.{CuUpBearer, CuUpContext, CuUp, CuUpTunnel, cu_up_scope}
use Rattle.unit_defs.specs.CuUpBearers.{teids_of_bearer, is_over, has_downlink}
use Rattle.unit_defs.specs.CuUpItems.{held_reason, took}
use Rattle.unit_defs.specs.CuUp.{context_of, bearers_from, fits, teids_from, peer_node, names, as_released, is_own_cu_cp, ue_in}
use Rattle.proof_cu_up_orders.specs.context_orders.Orders.{ContextStep, makes, adds, switches, freezes, knows, resumes, releases, closes, takes, polls}

module _ {M C P : Type 0} (way : Way M C P) where
  abbrev Orders : Type 0
  Orders = List (ContextStep P)

  abbrev pub only_if : Bool → Orders → Orders
  only_if is orders = if is then orders else []

  -- a released context ends where nothing comes any more to any of its bearers
  abbrev pub ends : CuUpContext → Bool
  ends c = c.flags.released && list_all (λ e. is_over c.flags e.1) c.bearers

  abbrev pub closes_if : CuUpContext → Orders
  closes_if c = only_if (ends c) (closes ∷ [])

  -- ---- an item of a tunnel: its bearer takes it, unless it is held; and the context may end then

  abbrev pub closes_after : CuUpContext → BearerId → Answer M P CuUpBearer → Orders
  closes_after c bearer (gives outputs b) = closes_if (record c { bearers = put bearer_cmp c.bearers bearer b })
  closes_after c bearer (spent counter) = []

  abbrev pub taken_by : BearerId → CuUpTunnel → ℕ → Taken P → CuUpContext → CuUpBearer → Option HeldReason → Orders
  taken_by bearer t teid item c b (Some reason) = []
  taken_by bearer t teid item c b None =
      only_if (eq_by_cmp bearer_cmp bearer t.bearer) (takes t.kind teid item ∷ [])
      ++ closes_after c t.bearer (took way (cu_up_scope t.ue c t.bearer) t.kind teid item b)

  abbrev pub taken_in : BearerId → CuUpTunnel → ℕ → Taken P → CuUpContext → Option CuUpBearer → Orders
  taken_in bearer t teid item c None = []
  taken_in bearer t teid item c (Some b) = taken_by bearer t teid item c b (held_reason (cu_up_scope t.ue c t.bearer) b t.kind item)

  abbrev pub taken_of : BearerId → CuUpTunnel → ℕ → Taken P → Option CuUpContext → Orders
  taken_of bearer t teid item None = []
  taken_of bearer t teid item (Some c) = taken_in bearer t teid item c (find bearer_cmp c.bearers t.bearer)

  abbrev pub taken_on : CuUp M C → UeId → BearerId → ℕ → Taken P → Option CuUpTunnel → Orders
  taken_on r ue bearer teid item None = []
  taken_on r ue bearer teid item (Some t) = only_if (eq_by_cmp ue_cmp ue t.ue) (taken_of bearer t teid item (context_of r t.ue))

  -- ---- a poll, unless it is refused

  abbrev pub polls_if : CuUpContext → Option CuUpBearer → Orders
  polls_if c None = []
  polls_if c (Some b) = only_if (not (length b.sender.unconfirmed == 0 || (c.flags.frozen || not (has_downlink b.downlink)))) (polls ∷ [])

  abbrev pub polls_on : BearerId → Option CuUpContext → Orders
  polls_on bearer None = []
  polls_on bearer (Some c) = polls_if c (find bearer_cmp c.bearers bearer)

  -- ---- Bearer Context Setup: where there is no context yet, and room for it

  -- the first TEID of this bearer
  abbrev pub new_teid : Bool → ℕ → List BearerId → BearerId → Option ℕ
  new_teid target next [] bearer = None
  new_teid target next (b ∷ bs) bearer =
      if eq_by_cmp bearer_cmp bearer b then Some next else new_teid target (next + teids_of_bearer target) bs bearer

  abbrev pub makes_with : ℕ → SnBits → ℕ → Bool → Option ℕ → Orders
  makes_with instance sn quota target None = []
  makes_with instance sn quota target (Some teid) = makes instance sn quota target teid ∷ []

  abbrev pub setup_orders : CuUp M C → BearerId → ℕ → SnBits → ℕ → Bool → Option CuUpContext → Orders
  setup_orders r bearer count sn quota target (Some c) = []
  setup_orders r bearer count sn quota target None =
      only_if (fits way count quota r) (makes_with r.next_teid sn quota target (new_teid target r.next_teid (bearers_from 1 count) bearer))

  -- ---- Bearer Context Modification, by its mode

  abbrev pub adds_if : CuUp M C → BearerId → CuUpContext → Orders
  adds_if r bearer c = only_if (not c.flags.released) (adds (teid_of (teids_from way r.next_teid c.bearers) bearer) ∷ [])

  abbrev pub switches_if : Gnb → BearerId → Option ℕ → Option (List Tunnel) → CuUpContext → Orders
  switches_if gnb bearer (Some du) (Some downlinks) c =
      only_if (not (c.flags.released || not (are_bearers (names way c) (bearers_of downlinks)))) (switches (Du gnb du) (teid_of downlinks bearer) ∷ [])
  switches_if gnb bearer du downlinks c = []

  abbrev pub freezes_if : BearerId → Option Peer → Option (List Tunnel) → Option (List Tunnel) → CuUpContext → Orders
  freezes_if bearer (Some peer) (Some down) (Some up) c =
      only_if (not (c.flags.frozen || c.flags.released || not c.flags.arrived || not (are_bearers (names way c) (bearers_of down)) || not (are_bearers (names way c) (bearers_of up)))
      && c.flags.may_serve)
      (freezes (peer_node way peer) (teid_of down bearer) (teid_of up bearer) ∷ [])
  freezes_if bearer peer down up c = []

  -- the status of a bearer in a list, which has one of each bearer of the context
  abbrev pub status_in : List SnStatus → BearerId → SnStatus
  status_in [] bearer = record { bearer = bearer; dl_next = 0; ul_first = 0; ul_received = None }
  status_in (s ∷ ss) bearer = if eq_by_cmp bearer_cmp bearer s.bearer then s else status_in ss bearer

  abbrev pub knows_if : BearerId → Option (List SnStatus) → CuUpContext → Orders
  knows_if bearer (Some ss) c = only_if (not (c.flags.may_serve || not (are_bearers (names way c) (statuses_of ss)))) (knows (status_in ss bearer) ∷ [])
  knows_if bearer None c = []

  abbrev pub modify_orders : CuUp M C → BearerId → E1Message → Option CuUpContext → Orders
  modify_orders r bearer (e1s.BearerContextModificationRequest ue instance downlinks mode peer down up ss du) (Some c) =
      if mode == mode_uplinks then adds_if r bearer c else
      (if mode == mode_switch then switches_if r.gnb bearer du downlinks c else
      (if mode == mode_freeze then freezes_if bearer peer down up c else
      (if mode == mode_status then knows_if bearer ss c else
      (if mode == mode_resume then only_if (c.flags.frozen && not c.flags.released) (resumes ∷ []) else []))))
  modify_orders r bearer message c = []

  -- ---- Bearer Context Release: final, or what still comes is passed on

  abbrev pub release_orders : Bool → Option CuUpContext → Orders
  release_orders is_final None = []
  release_orders is_final (Some c) = if is_final then closes ∷ [] else releases ∷ closes_if (as_released way c)

  -- ---- a request of its own CU-CP, once

  abbrev pub asked_orders : CuUp M C → UeId → BearerId → Message C → Orders
  asked_orders r ue bearer (e1 (e1s.BearerContextSetupRequest u instance count sn quota forward)) =
      only_if (eq_by_cmp ue_cmp ue u) (setup_orders r bearer count sn quota forward (context_of r u))
  asked_orders r ue bearer (e1 (e1s.BearerContextModificationRequest u instance downlinks mode peer down up ss du)) =
      only_if (eq_by_cmp ue_cmp ue u)
      (modify_orders r bearer (e1s.BearerContextModificationRequest u instance downlinks mode peer down up ss du) (context_of r u))
  asked_orders r ue bearer (e1 (e1s.BearerContextReleaseCommand u instance is_final)) =
      only_if (eq_by_cmp ue_cmp ue u) (release_orders is_final (context_of r u))
  asked_orders r ue bearer message = []

  abbrev pub new_orders : Orders → Verdict → Orders
  new_orders orders new = orders
  new_orders orders again = []
  new_orders orders stale = []

  abbrev pub control_orders : CuUp M C → UeId → BearerId → Channel → Message C → Kind → Orders
  control_orders r ue bearer ch message (request u instance) =
      new_orders (asked_orders r ue bearer message) (verdict r.transactions.callee ch instance)
  control_orders r ue bearer ch message (reply u instance) = []
  control_orders r ue bearer ch message (transfer u) = []

  -- ---- the table

  abbrev pub orders_of : CuUp M C → UeId → BearerId → Input C P → Orders
  orders_of r ue bearer (control_input from message) =
      only_if (is_own_cu_cp way r.gnb from) (control_orders r ue bearer (channel (ue_in way (kind_of message)) from) message (kind_of message))
  orders_of r ue bearer (packet_input teid item) = taken_on r ue bearer teid item (find nat_cmp r.tunnels teid)
  orders_of r ue bearer (order_input (inputs.Poll u b)) =
      only_if (eq_by_cmp ue_cmp ue u && eq_by_cmp bearer_cmp bearer b) (polls_on bearer (context_of r u))
  orders_of r ue bearer input = []
