-- What is of another bearer, and what changes nothing, leaves the models of this one.
use Rattle.std.proofs.Common.{◌≡◌, ℕ, Bool, true, false, if◌then◌else◌, nat_lt, nat_le, length, List, [], ◌∷◌, ◌++◌, Option, Some, None, refl, sym, ap, subst, ◌∙◌}
use Rattle.std.specs.Prelude.{⊤}
use Rattle.std.proofs.lemmas.List.{append-nil}
use Rattle.std.specs.Ordering.{eq_by_cmp}
use Rattle.gnb_types.specs.declared.names.SnBits.{SnBits}
use Rattle.gnb_types.specs.declared.names.BearerId.{BearerId}
use Rattle.gnb_types.specs.declared.reasons.DropReason.{DropReason}
use Rattle.gnb_types.specs.declared.reasons.DropReason.TheVariants.{NoContext, Duplicate}
use Rattle.gnb_types.specs.declared.reasons.HeldReason.TheVariants.{Ahead}
use Rattle.gnb_types.specs.declared.reasons.RefuseReason.{RefuseReason}
use Rattle.gnb_types.specs.declared.reasons.RefuseReason.TheVariants.{Size, Quota}
use Rattle.gnb_types.specs.Orders.{bearer_cmp}
use Rattle.gnb_types.proofs.OrderLemmas.{bearer_total}
use Rattle.tables.specs.Tables.{find}
use Rattle.tables.proofs.TableLaws.{find-put-other, sorted-put}
use Rattle.pdcp_defs.specs.Senders.{confirmed_by}
use Rattle.pdcp_defs.specs.Receivers.{is_duplicate, is_ahead, stored, deliver as handed_up}
use Rattle.unit_defs.specs.Ways.{Pdu, Content, packet_content, report_content, Output, dropped, held, no, Way, Answer, gives, spent, ◌then◌, nothing, puts, drops}
use Rattle.unit_defs.specs.Ue.{UeBearer, UeNode, is_connected, largest_packet, used_uplink, number_each, number_waiting, with_bearer, of_bearer, at_bearer, offered, offer, took, handed, take, confirmed, confirmed_if, confirm}
use Rattle.bearer_defs.specs.chain_defs.Orders as down
use Rattle.bearer_defs.specs.uplink_defs.Orders.{run}
use Rattle.proof_node_orders.specs.terminal_rows.Shown.{Gives, packets_of, numbered_all}
use Rattle.proof_node_orders.proofs.terminal_rows.Numbering.{sends, each_gives}
use Rattle.proof_node_orders.specs.terminal_inputs.Inputs.{Models, none, IsShown, left_on, packets_put, packets_delivered, IsAfter, Follows}
use Rattle.proof_node_orders.proofs.terminal_inputs.Puts.{sent_alone, sent_alone_delivers, delivered_is, delivered_puts}

-- outputs that put nothing on this bearer's radio, and deliver nothing of it
pub record IsSilent {M : Type 0} (bearer : BearerId) (outputs : List (Output M Pdu)) : Type 0 where
  pub puts_none : packets_put bearer outputs ≡ []
  pub delivers_none : packets_delivered bearer outputs ≡ []

pub rests : {M : Type 0} (bearer : BearerId) (b : Models) (outputs : List (Output M Pdu)) (v : UeNode) → IsShown v bearer b
    → IsSilent bearer outputs → IsAfter bearer b none outputs v
unfolding run down.run left_on
rests bearer b outputs v shown silent = record {
  shown = record { seen = shown.seen; sorted = shown.sorted };
  air = sym (ap (λ xs. b.up.air ++ xs) silent.puts_none ∙ append-nil b.up.air);
  delivered = sym (ap (λ xs. b.down.delivered ++ xs) silent.delivers_none ∙ append-nil b.down.delivered);
}

pub drop_rests : {M : Type 0} (bearer : BearerId) (b : Models) (u : UeNode) → IsShown u bearer b → (reason : DropReason)
    → IsAfter {M = M} bearer b none (dropped reason ∷ []) u
unfolding packets_put packets_delivered
drop_rests bearer b u shown reason = rests bearer b (dropped reason ∷ []) u shown (record { puts_none = refl; delivers_none = refl })

pub no_rests : {M : Type 0} (bearer : BearerId) (b : Models) (u : UeNode) → IsShown u bearer b → (reason : RefuseReason)
    → IsAfter {M = M} bearer b none (no reason ∷ []) u
unfolding packets_put packets_delivered
no_rests bearer b u shown reason = rests bearer b (no reason ∷ []) u shown (record { puts_none = refl; delivers_none = refl })

module _ {M C : Type 0} (way : Way M C Pdu) (plain : (sn : SnBits) (pdu : Pdu) → way.write sn pdu ≡ pdu) (u : UeNode)
    (bearer q : BearerId) (far : eq_by_cmp bearer_cmp bearer q ≡ false) where
  -- ---- a row of another bearer puts nothing of this one

  unfoldable Silent : Answer M Pdu UeBearer → Type 0
  Silent (gives outputs c) = IsSilent bearer outputs
  Silent (spent counter) = ⊤

  sends_silent : (ps : List (ℕ × List ℕ)) (r : UeBearer) (a : Answer M Pdu UeBearer) → Gives (sends way u q ps) r a → Silent a
  unfolding Gives Silent
  sends_silent ps r (gives outputs c) g = record {
    puts_none = ap (λ xs. packets_put bearer xs) g.0 ∙ sent_alone way plain u bearer q false far ps;
    delivers_none = ap (λ xs. packets_delivered bearer xs) g.0 ∙ sent_alone_delivers way plain u bearer q ps;
  }
  sends_silent ps r (spent counter) g = tt

  waits_silent : (c : UeBearer) → Silent (number_waiting way u q c)
  unfolding number_waiting Silent packets_put packets_delivered
  waits_silent c = by (is_connected u.state)
    where
      by : (t : Bool) → Silent (if t then number_each way u q c.waiting c else nothing c)
      by true = sends_silent (packets_of u c) (numbered_all u c) (number_each way u q c.waiting c) (each_gives way u q c.waiting c)
      by false = record { puts_none = refl; delivers_none = refl }

  took_silent : (content : Content) (c : UeBearer) → Silent (took way u q content c)
  unfolding Silent packets_put packets_delivered
  took_silent (packet_content None packet) c = record { puts_none = refl; delivers_none = refl }
  took_silent (packet_content (Some count) packet) c = by (is_duplicate c.receiver count) (is_ahead u.plan.quota c.receiver count)
    where
      by : (old ahead : Bool) → Silent (if old then drops Duplicate c else
          (if ahead then puts (held Ahead) c else handed way u q c (handed_up (stored c.receiver count packet))))
      by true ahead = record { puts_none = refl; delivers_none = refl }
      by false true = record { puts_none = refl; delivers_none = refl }
      by false false = record {
        puts_none = delivered_puts way plain u bearer q (handed_up (stored c.receiver count packet)).packets;
        delivers_none = delivered_is way plain u bearer q false far (handed_up (stored c.receiver count packet)).packets;
      }
  took_silent (report_content fmc bits) c = waits_silent (record c { sender = confirmed_by c.sender fmc bits })

  confirmed_silent : (content : Content) (c : UeBearer) → Silent (confirmed way u q content c)
  unfolding Silent packets_put packets_delivered
  confirmed_silent (packet_content count packet) c = waits_silent (confirmed_if way count c)
  confirmed_silent (report_content fmc bits) c = record { puts_none = refl; delivers_none = refl }

  -- ---- and changes nothing of it

  module _ (b : Models) (shown : IsShown u bearer b) where
    row_rests : (a : Answer M Pdu UeBearer) → Silent a → Follows bearer b none (a then (λ c. nothing (with_bearer way u q c)))
    unfolding Silent Follows
    row_rests (gives outputs c) silent = rests bearer b (outputs ++ []) (with_bearer way u q c)
        (record {
          seen = record {
            there = find-put-other bearer_total u.bearers q c bearer far ∙ shown.seen.there;
            connected = shown.seen.connected;
            epoch = shown.seen.epoch;
          };
          sorted = sorted-put bearer_total u.bearers q c shown.sorted;
        })
        (subst (λ xs. IsSilent bearer xs) (sym (append-nil outputs)) silent)
    row_rests (spent counter) silent = tt

    at_rests : (row : UeBearer → Answer M Pdu UeBearer) → ((c : UeBearer) → Silent (row c)) → Follows bearer b none (at_bearer way u q row)
    unfolding Follows
    at_rests row silent = by (find bearer_cmp u.bearers q)
      where
        by : (o : Option UeBearer) → Follows bearer b none (of_bearer way u q row o)
        by None = drop_rests bearer b u shown NoContext
        by (Some c) = row_rests (row c) (silent c)

    pub take_rests : (content : Content) → Follows bearer b none (take way q content u)
    unfolding take
    take_rests content = at_rests (took way u q content) (took_silent content)

    pub confirm_rests : (content : Content) → Follows bearer b none (confirm way q content u)
    unfolding confirm
    confirm_rests content = at_rests (confirmed way u q content) (confirmed_silent content)

    pub offer_rests : (packet : List ℕ) → Follows bearer b none (offer way q packet u)
    unfolding offer Follows
    offer_rests packet = by (find bearer_cmp u.bearers q)
      where
        by_room : (c : UeBearer) (large full : Bool) → Follows bearer b none (if large then puts (no Size) u else (if full then puts (no Quota) u else
            (number_waiting way u q (record c { waiting = c.waiting ++ packet ∷ [] }) then (λ x. nothing (with_bearer way u q x)))))
        by_room c true full = no_rests bearer b u shown Size
        by_room c false true = no_rests bearer b u shown Quota
        by_room c false false = row_rests (number_waiting way u q (record c { waiting = c.waiting ++ packet ∷ [] }))
            (waits_silent (record c { waiting = c.waiting ++ packet ∷ [] }))

        by : (o : Option UeBearer) → Follows bearer b none (offered way u q packet o)
        by None = drop_rests bearer b u shown NoContext
        by (Some c) = by_room c (nat_lt largest_packet (length packet)) (nat_le u.plan.quota (used_uplink way c))
