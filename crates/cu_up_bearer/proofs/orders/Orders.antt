-- What the orders come to.
use Rattle.std.proofs.Common.{◌≡◌, ℕ, Bool, true, false, cond, ◌||◌, List, [], Option, Some, Ok, Err, refl, sym, ap, ◌∙◌}
use Rattle.std.specs.Prelude.{Result, OnOk}
use Rattle.gnb_types.specs.declared.names.NodeId.{NodeId}
use Rattle.gnb_types.specs.declared.outputs.Output.{Output}
use Rattle.gnb_types.specs.declared.outputs.Tag.TheVariants.{Absent}
use Rattle.gnb_types.specs.declared.plans.SnStatus.{SnStatus}
use Rattle.pdcp_defs.specs.Receivers.{Receiver, Delivery, deliver as handed_up, deliver_from, received_bits}
use Rattle.unit_defs.specs.Ways.{report_pdu, nothing, ◌then◌}
use Rattle.unit_defs.specs.CuUpRecords.{CuUpBearer, SourceHop}
use Rattle.unit_defs.specs.CuUpBearers.{framed, sent_again, number_waiting, deliver_stored, begin_downlink, begin_where_known, begin_where_arrived, switched, frozen_to, with_status, resumed, thawed, bits_in}
use Rattle.unit_defs.specs.octet_defs.Codec.{Codec, octet_way}
use Rattle.unit_defs.specs.octet_defs.Units.{OctetAnswer}
use Rattle.unit_messages.specs.steps.Steps.{stepped, step_after}
use Rattle.pdcp_bearers.specs.ue_bearers.Receivers.{ReceiverState}
use Rattle.cu_up_bearer.specs.declared.tunnels.at.Scope.{Scope}
use Rattle.cu_up_bearer.specs.declared.tunnels.hop.Hop.{Hop}
use Rattle.cu_up_bearer.specs.tunnels.Tunnels.{at_as, hop_as}
use Rattle.cu_up_bearer.specs.declared.downlink.down.DownSide.{DownSide}
use Rattle.cu_up_bearer.specs.downlink.Downlinks.{with_down, taken_of}
use Rattle.cu_up_bearer.specs.declared.bearers.bearer.Bearer.{Bearer}
use Rattle.cu_up_bearer.specs.bearers.Bearers.{kept, with_receiver}
use Rattle.cu_up_bearer.proofs.bearers.Deliveries.{delivers, delivers_none}
use Rattle.cu_up_bearer.specs.orders.Orders.{IsEmpty, thawed_bearer, status_bearer, all_given, owed_of, marked}

or_true : (t : Bool) → (t || true) ≡ true
or_true true = refl
or_true false = refl

or_false : (t : Bool) → (t || false) ≡ t
or_false true = refl
or_false false = refl

-- nothing is stored: nothing is delivered
abbrev stays_as : Receiver (List ℕ) → Delivery (List ℕ)
stays_as r = record { packets = []; after = r }

none_handed : (r : Receiver (List ℕ)) → r.stored ≡ [] → handed_up r ≡ stays_as r
unfolding handed_up
none_handed r is =
    ap (λ (es : List (ℕ × List ℕ)). deliver_from r.deliv es) is
    ∙ ap (λ (es : List (ℕ × List ℕ)). stays_as (record { deliv = r.deliv; stored = es })) (sym is)

-- a bearer at the numbers of a status, with these lists
abbrev with_lists : SnStatus → CuUpBearer → List (ℕ × List ℕ) → List (ℕ × List ℕ) → CuUpBearer
with_lists s b unconfirmed stored = record b {
  dl_next = s.dl_next;
  sender = record { next = s.dl_next; unconfirmed = unconfirmed };
  receiver = record { deliv = s.ul_first; stored = stored };
}

module _ (codec : Codec) (a : Scope) where
  -- ---- the downlink begins

  abbrev pub report : ℕ → List Bool → CuUpBearer → OctetAnswer CuUpBearer
  report fmc bits b = framed (octet_way codec) (at_as a) false false (Some ((octet_way codec).write a.sn (report_pdu fmc bits))) Absent b

  abbrev pub again : CuUpBearer → OctetAnswer CuUpBearer
  again b = sent_again (octet_way codec) (at_as a) b.sender.unconfirmed b

  abbrev pub numbering : CuUpBearer → OctetAnswer CuUpBearer
  numbering b = number_waiting (octet_way codec) (at_as a) b

  abbrev pub delivering : CuUpBearer → OctetAnswer CuUpBearer
  delivering b = deliver_stored (octet_way codec) (at_as a) b

  pub begins : (fmc : ℕ) (bits : List Bool) (b : CuUpBearer) → begin_downlink (octet_way codec) (at_as a) fmc bits b ≡ (report fmc bits b then again then numbering)
  unfolding begin_downlink
  begins fmc bits b = refl

  abbrev pub beginning : ℕ → List Bool → CuUpBearer → OctetAnswer CuUpBearer
  beginning fmc bits b = begin_downlink (octet_way codec) (at_as a) fmc bits b

  pub begins_as : (fmc n : ℕ) (bits more : List Bool) (b : CuUpBearer) → n ≡ fmc → more ≡ bits → beginning fmc bits b ≡ beginning n more b
  begins_as fmc n bits more b number_is bits_are =
      sym (ap (λ (x : ℕ). beginning x more b) number_is ∙ ap (λ (x : List Bool). beginning fmc x b) bits_are)

  -- ---- switch

  abbrev pub known_row : CuUpBearer → OctetAnswer CuUpBearer
  known_row b = begin_where_known (octet_way codec) (at_as a) b

  pub knows : (b : CuUpBearer) → a.flags.may_serve ≡ true → known_row b ≡ beginning b.receiver.deliv (received_bits b.receiver) b
  knows b is = ap (λ (t : Bool). cond t (beginning b.receiver.deliv (received_bits b.receiver) b) (nothing b)) is

  pub knows_not : (b : CuUpBearer) → a.flags.may_serve ≡ false → known_row b ≡ nothing b
  knows_not b is = ap (λ (t : Bool). cond t (beginning b.receiver.deliv (received_bits b.receiver) b) (nothing b)) is

  abbrev pub to_tunnel : NodeId → ℕ → Bearer → CuUpBearer
  to_tunnel du teid b = record (kept b) { downlink = Some (record { du = du; teid = teid; next = 0 }); restart = false }

  pub switches : (du : NodeId) (teid : ℕ) (b t : Bearer) → t ≡ thawed_bearer b
      → switched (octet_way codec) (at_as a) du teid (kept b) ≡ (delivering (to_tunnel du teid t) then known_row)
  unfolding switched
  switches du teid b t is = ap (λ (x : Bearer). (delivering (to_tunnel du teid x) then known_row)) (sym is)

  pub delivers_nothing : (before : List Output) (b : CuUpBearer) (d : ReceiverState) → d.receiver.stored ≡ []
      → step_after before (delivering (with_receiver b d)) ≡ stepped before (with_receiver b d)
  delivers_nothing before b d is =
      ap (λ (x : OctetAnswer CuUpBearer). step_after before x) (delivers codec a b d)
      ∙ delivers_none codec a b before d (handed_up d.receiver) (none_handed d.receiver is)

  -- ---- freeze

  pub freezes : (h : Hop) (b t : Bearer) → h.up_ended ≡ false → t ≡ thawed_bearer b
      → frozen_to (octet_way codec) (at_as a) h.peer h.down h.up (kept b) ≡ all_given (octet_way codec) (at_as a) (kept (record t { hop = Some h }))
  unfolding frozen_to
  freezes h b t new is =
      ap (λ (e : Bool). all_given (octet_way codec) (at_as a) (record (thawed (kept b)) { hop = hop_as (Some (record h { up_ended = e })) })) (sym new)
      ∙ ap (λ (x : Bearer). all_given (octet_way codec) (at_as a) (kept (record x { hop = Some h }))) (sym is)

  -- ---- the SN status

  abbrev pub arrived_row : SnStatus → CuUpBearer → OctetAnswer CuUpBearer
  arrived_row s b = begin_where_arrived (octet_way codec) (at_as a) s b

  abbrev begun : SnStatus → CuUpBearer → OctetAnswer CuUpBearer
  begun s b = delivering b then begin_downlink (octet_way codec) (at_as a) s.ul_first (bits_in s.ul_received)

  pub arrives : (s : SnStatus) (b : CuUpBearer) → a.flags.arrived ≡ true
      → arrived_row s b ≡ (delivering b then begin_downlink (octet_way codec) (at_as a) s.ul_first (bits_in s.ul_received))
  arrives s b is = ap (λ (t : Bool). cond t (begun s b) (nothing b)) is

  pub arrives_not : (s : SnStatus) (b : CuUpBearer) → a.flags.arrived ≡ false → arrived_row s b ≡ nothing b
  arrives_not s b is = ap (λ (t : Bool). cond t (begun s b) (nothing b)) is

  pub takes_status : (s : SnStatus) (b t : Bearer) → IsEmpty b → t ≡ status_bearer s b
      → with_status (octet_way codec) (at_as a) s (kept b) ≡ arrived_row s (kept t)
  unfolding with_status
  takes_status s b t empty is =
      ap (λ (es : List (ℕ × List ℕ)). arrived_row s (with_lists s (kept b) es b.receiving.receiver.stored)) empty.0
      ∙ ap (λ (es : List (ℕ × List ℕ)). arrived_row s (with_lists s (kept b) [] es)) empty.1
      ∙ ap (λ (x : Bearer). arrived_row s (kept x)) (sym is)

  -- ---- resume

  abbrev pub owing_these : CuUpBearer → List ℕ → OctetAnswer CuUpBearer
  owing_these b came =
      sent_again (octet_way codec) (at_as a) (owed_of b.loss_while_frozen came b.sender.unconfirmed)
      (record (thawed b) { restart = b.restart || b.loss_while_frozen })

  pub resumes : (b : CuUpBearer) (came : List ℕ) → came ≡ b.taken_while_frozen
      → resumed (octet_way codec) (at_as a) b ≡ (owing_these b came then delivering then numbering)
  unfolding resumed
  resumes b came is = ap (λ (ts : List ℕ). (owing_these b ts then delivering then numbering)) (sym is)

  -- what is owed

  abbrev pub owed_row : Bool → List ℕ → CuUpBearer → DownSide → OctetAnswer CuUpBearer
  owed_row loss came b d = sent_again (octet_way codec) (at_as a) (owed_of loss came d.sending.sender.unconfirmed) (with_down b (marked loss d))

  pub owes_all : (loss : Bool) (came : List ℕ) (b : CuUpBearer) (d : DownSide) → loss ≡ true
      → owed_row loss came b d ≡ sent_again (octet_way codec) (at_as a) d.sending.sender.unconfirmed (with_down b (record d { frames = record d.frames { restart = true } }))
  owes_all loss came b d is =
      ap (λ (l : Bool). owed_row l came b d) is
      ∙ ap (λ (r : Bool). sent_again (octet_way codec) (at_as a) d.sending.sender.unconfirmed (with_down b (record d { frames = record d.frames { restart = r } })))
      (or_true d.frames.restart)

  pub owes_these : (loss : Bool) (came : List ℕ) (b : CuUpBearer) (d : DownSide) → loss ≡ false
      → owed_row loss came b d ≡ sent_again (octet_way codec) (at_as a) (taken_of came d.sending.sender.unconfirmed) (with_down b d)
  owes_these loss came b d is =
      ap (λ (l : Bool). owed_row l came b d) is
      ∙ ap (λ (r : Bool). sent_again (octet_way codec) (at_as a) (taken_of came d.sending.sender.unconfirmed) (with_down b (record d { frames = record d.frames { restart = r } })))
      (or_false d.frames.restart)

-- ---- all is given

pub on_ok : {A B : Type 0} {X E : Type 0} (result : Result X E) → (A → B) → OnOk result A → OnOk result B
on_ok (Ok x) f is = f is
on_ok (Err e) f is = tt
