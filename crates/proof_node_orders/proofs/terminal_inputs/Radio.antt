-- What comes to this bearer: packets that are taken, reports, confirmations, offers.
use Rattle.std.proofs.Common.{◌≡◌, ℕ, ◌+◌, Bool, true, false, if◌then◌else◌, nat_lt, nat_le, length, List, [], ◌∷◌, ◌++◌, Some, None, refl, sym, ap, subst, ◌∙◌}
use Rattle.std.proofs.lemmas.List.{append-nil}
use Rattle.std.specs.Ordering.{eq_by_cmp, is_eq}
use Rattle.std.specs.Cmp.{tied_itself}
use Rattle.gnb_types.specs.declared.names.SnBits.{SnBits}
use Rattle.gnb_types.specs.declared.names.BearerId.{BearerId}
use Rattle.gnb_types.specs.declared.reasons.DropReason.TheVariants.{Duplicate}
use Rattle.gnb_types.specs.declared.reasons.HeldReason.TheVariants.{Ahead}
use Rattle.gnb_types.specs.declared.reasons.RefuseReason.TheVariants.{Size, Quota}
use Rattle.gnb_types.specs.Orders.{bearer_cmp}
use Rattle.gnb_types.proofs.OrderLemmas.{bearer_total}
use Rattle.tables.specs.Tables.{IsSorted}
use Rattle.tables.proofs.TableLaws.{find-put-same, sorted-put}
use Rattle.pdcp_defs.specs.Receivers.{Receiver, Delivery, is_duplicate, is_ahead, stored, deliver as handed_up}
use Rattle.unit_defs.specs.Ways.{Pdu, Content, packet_content, report_content, Output, dropped, held, no, Way, Answer, gives, spent, ◌then◌, nothing, puts, drops}
use Rattle.unit_defs.specs.Ue.{UeBearer, UeNode, is_connected, largest_packet, used_uplink, number_waiting, with_bearer, of_bearer, at_bearer, offered, offer, took, handed, take, confirm}
use Rattle.bearer_defs.specs.chain_defs.Models.{Model as DownModel}
use Rattle.bearer_defs.specs.chain_defs.Orders as down
use Rattle.bearer_defs.specs.uplink_defs.Models.{Model}
use Rattle.bearer_defs.specs.uplink_defs.Orders.{ModelStep, offers, acknowledges, reports, run}
use Rattle.proof_node_orders.specs.terminal_rows.Shown.{bearer_of, numbering, Does, delivered_to}
use Rattle.proof_node_orders.proofs.terminal_rows.Rows.{offers_does, reports_does, confirms_does, unknown_does, own_report_does}
use Rattle.proof_node_orders.specs.terminal_inputs.Inputs.{Models, none, rest_of, IsShown, of_taken, of_data, of_pdu, of_confirmed, of_offer, offered_to, told_to, known_to, left_on, packets_put, packets_delivered, IsAfter, Follows}
use Rattle.proof_node_orders.proofs.terminal_inputs.Puts.{orders_if_leave, sent_alone, sent_alone_delivers, delivered_is, delivered_puts}
use Rattle.proof_node_orders.proofs.terminal_inputs.Others.{no_rests}

pub itself : (bearer : BearerId) → eq_by_cmp bearer_cmp bearer bearer ≡ true
itself bearer = ap is_eq (tied_itself bearer_total bearer)

module _ {M C : Type 0} (way : Way M C Pdu) (plain : (sn : SnBits) (pdu : Pdu) → way.write sn pdu ≡ pdu) (u : UeNode)
    (bearer : BearerId) (b : Models) (shown : IsShown u bearer b) where
  -- ---- what is told of a row as one of its bearer's

  does_follows : (os : List ModelStep) (base : Model) → left_on b.up.air os ≡ base.air → (a : Answer M Pdu UeNode)
      → Does way u bearer b.down base (run b.up os) a → Follows bearer b (record { up = os; down = [] }) a
  unfolding Does Follows down.run
  does_follows os base leaves_ (gives outputs v) done = record {
    shown = record {
      seen = done.seen;
      sorted = subst (λ (w : UeNode). IsSorted bearer_cmp w.bearers) (sym done.node)
          (sorted-put bearer_total u.bearers bearer (record done.terminal { receiver = b.down.terminal }) shown.sorted);
    };
    air = ap (λ (x : Model). x.air) done.part
        ∙ ap (λ xs. base.air ++ xs) (sym (ap (λ xs. packets_put bearer xs) done.outputs_are
        ∙ sent_alone way plain u bearer bearer true (itself bearer) done.packets))
        ∙ ap (λ xs. xs ++ packets_put bearer outputs) (sym leaves_);
    delivered = sym (ap (λ xs. b.down.delivered ++ xs) (ap (λ xs. packets_delivered bearer xs) done.outputs_are
        ∙ sent_alone_delivers way plain u bearer bearer done.packets) ∙ append-nil b.down.delivered);
  }
  does_follows os base leaves_ (spent counter) done = tt

  abbrev before : UeBearer
  before = bearer_of b.up b.down

  at_is : (row : UeBearer → Answer M Pdu UeBearer) → at_bearer way u bearer row ≡ (row before then (λ c. nothing (with_bearer way u bearer c)))
  at_is row = ap (of_bearer way u bearer row) shown.seen.there

  -- ---- a packet of the downlink

  received : (downs : List down.ModelStep) (r : Receiver (List ℕ)) (packets : List (ℕ × List ℕ)) (outputs : List (Output M Pdu))
      → (down.run b.down downs).terminal ≡ r → (down.run b.down downs).epoch ≡ b.down.epoch
      → (down.run b.down downs).delivered ≡ b.down.delivered ++ packets
      → packets_put bearer outputs ≡ [] → packets_delivered bearer outputs ≡ packets
      → IsAfter bearer b (record { up = []; down = downs }) (outputs ++ []) (with_bearer way u bearer (record b.up.terminal { receiver = r }))
  unfolding run left_on
  received downs r packets outputs is same more put_none put_all = record {
    shown = record {
      seen = record {
        there = find-put-same bearer_total u.bearers bearer (record b.up.terminal { receiver = r })
            ∙ ap (λ (x : Receiver (List ℕ)). Some (record b.up.terminal { receiver = x })) (sym is);
        connected = shown.seen.connected;
        epoch = shown.seen.epoch ∙ ap (λ n. n + 1) (sym same);
      };
      sorted = sorted-put bearer_total u.bearers bearer (record b.up.terminal { receiver = r }) shown.sorted;
    };
    air = sym (ap (λ xs. b.up.air ++ xs) (ap (λ xs. packets_put bearer xs) (append-nil outputs) ∙ put_none) ∙ append-nil b.up.air);
    delivered = more ∙ ap (λ xs. b.down.delivered ++ xs) (sym (ap (λ xs. packets_delivered bearer xs) (append-nil outputs) ∙ put_all));
  }

  same_received : (outputs : List (Output M Pdu)) → packets_put bearer outputs ≡ [] → packets_delivered bearer outputs ≡ []
      → IsAfter bearer b none (outputs ++ []) (with_bearer way u bearer before)
  unfolding down.run
  same_received outputs p q = received [] b.down.terminal [] outputs refl refl (sym (append-nil b.down.delivered)) p q

  module _ (count : ℕ) (packet : List ℕ) where
    abbrev now : Delivery (List ℕ)
    now = handed_up (stored b.down.terminal count packet)

    abbrev carrying : List down.ModelStep
    carrying = down.carries count packet (rest_of b.down.air) ∷ []

    carried_as : (old : Bool) → is_duplicate b.down.terminal count ≡ old
        → down.run b.down carrying ≡ down.handed (record b.down { air = rest_of b.down.air }) old now
    unfolding down.run down.after
    carried_as old is = ap (λ t. down.handed (record b.down { air = rest_of b.down.air }) t now) is

    data_follows : Follows bearer b (of_data way u b (Some count) packet) (take way bearer (packet_content (Some count) packet) u)
    unfolding take Follows packets_put packets_delivered
    data_follows = subst (λ a. Follows bearer b (of_data way u b (Some count) packet) a) (sym (at_is (took way u bearer (packet_content (Some count) packet))))
        (by (is_duplicate b.down.terminal count) (is_ahead u.plan.quota b.down.terminal count) refl)
      where
        by : (old ahead : Bool) → is_duplicate b.down.terminal count ≡ old
            → Follows bearer b (of_taken way u b old ahead count packet) ((if old then drops Duplicate before else
            (if ahead then puts (held Ahead) before else handed way u bearer before now)) then (λ c. nothing (with_bearer way u bearer c)))
        by true ahead is =
            let e = carried_as true is in
            received carrying b.down.terminal [] (dropped Duplicate ∷ []) (ap (λ (x : DownModel). x.terminal) e) (ap (λ (x : DownModel). x.epoch) e)
            (ap (λ (x : DownModel). x.delivered) e ∙ sym (append-nil b.down.delivered)) refl refl
        by false true is = same_received (held Ahead ∷ []) refl refl
        by false false is =
            let e = carried_as false is in
            received carrying now.after now.packets (delivered_to way u bearer now.packets) (ap (λ (x : DownModel). x.terminal) e)
            (ap (λ (x : DownModel). x.epoch) e) (ap (λ (x : DownModel). x.delivered) e) (delivered_puts way plain u bearer bearer now.packets)
            (delivered_is way plain u bearer bearer true (itself bearer) now.packets)

  -- ---- all that comes from the radio

  pub take_follows : (content : Content) → Follows bearer b (of_pdu way u b content) (take way bearer content u)
  unfolding take Follows packets_put packets_delivered left_on
  take_follows (packet_content (Some count) packet) = data_follows count packet
  take_follows (packet_content None packet) = subst (λ a. Follows bearer b none a) (sym (at_is (took way u bearer (packet_content None packet))))
      (same_received (dropped Duplicate ∷ []) refl refl)
  take_follows (report_content fmc bits) =
      does_follows (reports fmc bits ∷ numbering u (told_to way u b fmc bits)) b.up
      (orders_if_leave (is_connected u.state) u (told_to way u b fmc bits) b.up.air) (take way bearer (report_content fmc bits) u)
      (reports_does way u bearer b.up b.down shown.seen fmc bits)

  pub confirm_follows : (content : Content) → Follows bearer b (of_confirmed way u b content) (confirm way bearer content u)
  unfolding left_on run
  confirm_follows (packet_content (Some count) packet) =
      does_follows (acknowledges count (rest_of b.up.carried) ∷ numbering u (known_to way u b count))
      (record b.up { carried = rest_of b.up.carried })
      (orders_if_leave (is_connected u.state) u (known_to way u b count) b.up.air) (confirm way bearer (packet_content (Some count) packet) u)
      (confirms_does way u bearer b.up b.down shown.seen count packet (rest_of b.up.carried))
  confirm_follows (packet_content None packet) =
      does_follows (numbering u b.up.terminal) b.up (orders_if_leave (is_connected u.state) u b.up.terminal b.up.air)
      (confirm way bearer (packet_content None packet) u) (unknown_does way u bearer b.up b.down shown.seen packet)
  confirm_follows (report_content fmc bits) =
      does_follows [] b.up refl (confirm way bearer (report_content fmc bits) u)
      (own_report_does way u bearer b.up b.down shown.seen fmc bits)

  -- ---- an offered packet

  module _ (packet : List ℕ) where
    offer_is : (large full : Bool) → nat_lt largest_packet (length packet) ≡ large → nat_le u.plan.quota (used_uplink way b.up.terminal) ≡ full
        → offer way bearer packet u ≡ (if large then puts (no Size) u else (if full then puts (no Quota) u else
        (number_waiting way u bearer (record before { waiting = before.waiting ++ packet ∷ [] }) then (λ c. nothing (with_bearer way u bearer c)))))
    unfolding offer
    offer_is large full l f = ap (offered way u bearer packet) shown.seen.there ∙ by
      where
        by : offered way u bearer packet (Some before) ≡ (if large then puts (no Size) u else (if full then puts (no Quota) u else
            (number_waiting way u bearer (record before { waiting = before.waiting ++ packet ∷ [] }) then (λ c. nothing (with_bearer way u bearer c)))))
        by i = if l i then puts (no Size) u else (if f i then puts (no Quota) u else
            (number_waiting way u bearer (record before { waiting = before.waiting ++ packet ∷ [] }) then (λ c. nothing (with_bearer way u bearer c))))

    pub offer_follows : Follows bearer b (of_offer way u b packet) (offer way bearer packet u)
    unfolding Follows left_on
    offer_follows = by (nat_lt largest_packet (length packet)) (nat_le u.plan.quota (used_uplink way b.up.terminal)) refl refl
      where
        by : (large full : Bool) → nat_lt largest_packet (length packet) ≡ large → nat_le u.plan.quota (used_uplink way b.up.terminal) ≡ full
            → Follows bearer b (if large then none else (if full then none else
            record { up = offers packet ∷ numbering u (offered_to way u b packet); down = [] })) (offer way bearer packet u)
        by true full l f = subst (λ a. Follows bearer b none a) (sym (offer_is true full l f)) (no_rests bearer b u shown Size)
        by false true l f = subst (λ a. Follows bearer b none a) (sym (offer_is false true l f)) (no_rests bearer b u shown Quota)
        by false false l f =
            does_follows (offers packet ∷ numbering u (offered_to way u b packet)) (record b.up { offered = b.up.offered + 1 })
            (orders_if_leave (is_connected u.state) u (offered_to way u b packet) b.up.air) (offer way bearer packet u)
            (offers_does way u bearer b.up b.down shown.seen packet l f)
