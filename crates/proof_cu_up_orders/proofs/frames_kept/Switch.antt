-- A switch for the present radio: what is sent on the new tunnel may be sent.
use Rattle.std.proofs.Common.{◌≡◌, ℕ, ◌≤◌, Bool, true, false, if◌then◌else◌, List, [], ◌∷◌, ◌++◌, refl, sym, ap, subst, ◌∙◌, true≢false, arith}
use Rattle.std.specs.List.{AllByRecursion}
use Rattle.gnb_types.specs.declared.names.NodeId.{NodeId}
use Rattle.intervals.specs.Intervals.{HasNoGap, reach}
use Rattle.intervals.proofs.Intervals.{reach-le}
use Rattle.pdcp_defs.specs.Receivers.{received_bits}
use Rattle.bearer_defs.specs.chain_defs.Orders.{switches, known, on_downlink, changed, sent, after, run}
use Rattle.bearer_defs.specs.chain_defs.Models.{Member, Model}
use Rattle.law_downlink_order.proofs.chain.Frames.{set_here}
use Rattle.unit_defs.specs.Du.{DuBearer}
use Rattle.unit_defs.specs.CuUpRecords.{DownlinkTunnel, CuUpBearer, CuUpFlags}
use Rattle.proof_cu_up_orders.specs.context_orders.Orders.{CuUpModel, on_switch}
use Rattle.law_downlink_order.specs.path.Paths.{Sending, packets_sent}
use Rattle.law_downlink_order.specs.path.Steps.{sent_anew}
use Rattle.proof_cu_up_orders.specs.handover_rows.Shown.{handed_up}
use Rattle.law_downlink_order.specs.received_packets.Received.{WasPut}
use Rattle.law_downlink_order.proofs.waiting_frames.Puts.{line_fresh}
use Rattle.law_downlink_order.specs.sent_frames.Senders.{IsSender}
use Rattle.law_downlink_order.proofs.sent_frames.Sends.{begins}
use Rattle.proof_cu_up_orders.specs.down_orders.Down.{IsDown, numbers_if, packets_if, switch_orders, Went}
use Rattle.proof_cu_up_orders.proofs.down_orders.Models.{went_sent}
use Rattle.proof_cu_up_orders.specs.frame_rows.Sent.{none_sent, and_then, switched_to, sent_by_switch}
use Rattle.proof_cu_up_orders.specs.sending_contexts.Sending.{IsSending}
use Rattle.proof_cu_up_orders.proofs.sending_contexts.Lists.{no_gap_first, all_first}
use Rattle.proof_cu_up_orders.proofs.sending_contexts.Facts.{Facts}
use Rattle.proof_cu_up_orders.proofs.sending_contexts.Ends.{Later, facts_here, goes, all_put, no_gap_here, ends, numbers_go, ends_so}

abbrev Packets : Type 0
Packets = List (ℕ × List ℕ)

module _ (s : Model) (x : ℕ) (p : CuUpModel) (is : IsDown (s.members x) p) (facts : Facts s (s.members x)) (du : DuBearer) (waits : Packets) where
  abbrev m : Member
  m = s.members x

  abbrev b : CuUpBearer
  b = p.bearer

  abbrev fresh : ℕ → DuBearer
  fresh teid = record du { downlink = teid; awaited = 0; gap = false }

  pub switch_begins : (epoch : ℕ) (to : NodeId) (teid : ℕ) → epoch ≡ s.epoch
      → let t = run s (switch_orders x epoch to teid p) in Later t x
      → IsSending t x (sent_by_switch p to teid).bearer (record { du = fresh teid; frames = (sent_by_switch p to teid).frames; waits = waits })
  unfolding run after packets_sent HasNoGap reach
  switch_begins epoch to teid present = by p.at.flags.may_serve refl
    where
      downlink : DownlinkTunnel
      downlink = record { du = to; teid = teid; next = 0 }

      c : CuUpBearer
      c = switched_to p to teid

      n : Member
      n = record m { flags = record m.flags { frozen = false; arrived = true }; bearer = on_downlink m.bearer downlink; epoch = epoch }

      first : Packets
      first = if m.flags.may_serve then m.bearer.sender.unconfirmed else []

      t1 : Model
      t1 = sent (changed s x n) n first

      went : Went s t1 x n [] first
      went = went_sent s x n n first refl

      as_one : Sending
      as_one = sent_anew c.receiver.deliv (received_bits c.receiver) c

      knows_it : p.at.flags.may_serve ≡ true → let t = run t1 (numbers_if x (on_switch p).at (on_downlink b downlink)) in Later t x
          → IsSending t x (and_then as_one (λ d. packets_sent (packets_if (on_switch p).at c) d)).bearer
          (record { du = fresh teid; frames = (and_then as_one (λ d. packets_sent (packets_if (on_switch p).at c) d)).frames; waits = waits })
      knows_it known behind =
          let es = packets_if (on_switch p).at c in
          let t = run t1 (numbers_if x (on_switch p).at (on_downlink b downlink)) in
          let k = numbers_go s t1 x n first (on_switch p).at (on_downlink b downlink) went present is.there (set_here s.members x n)
          (ap (λ (u : CuUpBearer). u.waiting) is.bearer) (ap (λ (u : CuUpBearer). u.sender) is.bearer) in
          let un : m.bearer.sender.unconfirmed ≡ b.sender.unconfirmed = ap (λ (u : CuUpBearer). u.sender.unconfirmed) is.bearer in
          let all_there : first ≡ b.sender.unconfirmed =
          ap (λ (f : CuUpFlags). if f.may_serve then m.bearer.sender.unconfirmed else []) is.flags
          ∙ ap (λ (u : Bool). if u then m.bearer.sender.unconfirmed else []) known ∙ un in
          let member_free : k.member.flags.frozen ≡ false = ap (λ (f : CuUpFlags). f.frozen) k.flags in
          let keeps : k.member.flags.released ≡ false =
          ap (λ (o : Member). o.flags.released) (sym k.goes_so.here) ∙ (facts_here s t x k.member (first ++ es) k.goes_so behind).serves (ap (λ (o : Member). o.flags.frozen) k.goes_so.here ∙ member_free) in
          let no_gap : HasNoGap s.terminal.deliv b.sender.unconfirmed = subst (λ (xs : Packets). HasNoGap s.terminal.deliv xs) un
          (no_gap_first s.terminal.deliv m.bearer.sender.unconfirmed es (subst (λ (xs : Packets). HasNoGap s.terminal.deliv xs) k.unconfirmed
          (no_gap_here s t x k.member (first ++ es) k.goes_so behind keeps))) in
          let put = subst (λ (xs : Packets). AllByRecursion (λ (v : ℕ × List ℕ). WasPut t v.0 v.1) xs) all_there
          (all_first (λ (v : ℕ × List ℕ). WasPut t v.0 v.1) first es (all_put s t x k.member (first ++ es) k.goes_so)) in
          let same : s.terminal.deliv ≡ t.terminal.deliv = ap (λ r. r.deliv) (sym k.goes_so.terminal) in
          let begun = begins t (handed_up b) du waits downlink c.receiver.deliv (received_bits c.receiver) put
          (subst (λ (i : ℕ). HasNoGap i b.sender.unconfirmed) same no_gap) in
          let far = reach-le t.terminal.deliv b.sender.unconfirmed in
          ends_so s t x n first es k behind as_one.bearer (fresh teid) as_one.frames waits (reach t.terminal.deliv b.sender.unconfirmed) begun
          (omega (arith, far, same)) (λ e. absurd (true≢false (sym e)))
          (λ e. subst (λ (xs : Packets). reach s.terminal.deliv m.bearer.sender.unconfirmed ≤ reach t.terminal.deliv xs) un
          (subst (λ (i : ℕ). reach s.terminal.deliv m.bearer.sender.unconfirmed ≤ reach i m.bearer.sender.unconfirmed) same (omega arith)))
          (λ e. absurd (true≢false (sym e)))

      waits_for_it : p.at.flags.may_serve ≡ false → Later t1 x
          → IsSending t1 x c (record { du = fresh teid; frames = []; waits = waits })
      waits_for_it unknown behind =
          let g = goes s t1 x n [] first went present is.there in
          let none_there : first ≡ [] =
          ap (λ (f : CuUpFlags). if f.may_serve then m.bearer.sender.unconfirmed else []) is.flags
          ∙ ap (λ (u : Bool). if u then m.bearer.sender.unconfirmed else []) unknown in
          let same : s.terminal.deliv ≡ t1.terminal.deliv = ap (λ r. r.deliv) (sym g.terminal) in
          let keeps : n.flags.released ≡ false =
          ap (λ (o : Member). o.flags.released) (sym g.here) ∙ (facts_here s t1 x n first g behind).serves (ap (λ (o : Member). o.flags.frozen) g.here) in
          let none_held : m.bearer.sender.unconfirmed ≡ [] = facts.early (ap (λ (f : CuUpFlags). f.may_serve) is.flags ∙ unknown) keeps in
          let begun : IsSender t1 c (fresh teid) [] waits t1.terminal.deliv = record {
            downlink = downlink;
            there = refl;
            needed = t1.terminal.deliv;
            line = line_fresh t1 du teid waits;
            marked = omega arith;
          } in
          ends s t1 x n first g c (fresh teid) [] waits t1.terminal.deliv [] begun (omega (arith, same)) tt tt
          (λ e. subst (λ (xs : Packets). reach s.terminal.deliv xs ≤ t1.terminal.deliv) (sym none_held) (omega (arith, same)))
          (λ e. absurd (true≢false (sym e)))

      by : (u : Bool) → p.at.flags.may_serve ≡ u
          → let t = run s (switches x downlink epoch ∷ (if u then numbers_if x (on_switch p).at (on_downlink b downlink) else [])) in Later t x
          → IsSending t x (if u then and_then as_one (λ d. packets_sent (packets_if (on_switch p).at c) d) else none_sent c).bearer
          (record { du = fresh teid; frames = (if u then and_then as_one (λ d. packets_sent (packets_if (on_switch p).at c) d) else none_sent c).frames; waits = waits })
      by true known = knows_it known
      by false unknown = waits_for_it unknown
