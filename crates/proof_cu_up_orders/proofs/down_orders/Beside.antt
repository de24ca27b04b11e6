-- Items of the uplink leave the downlink alone; and a context that is made.
use Rattle.std.proofs.Common.{◌≡◌, ◌==◌, ℕ, Bool, true, false, not, ◌&&◌, ◌||◌, nat_lt, List, [], ◌∷◌, ◌++◌, filter, Option, Some, None, refl, sym, ap, subst, ◌∙◌}
use Rattle.std.specs.Prelude.{if◌then◌else◌}
use Rattle.gnb_types.specs.declared.names.UeId.{UeId}
use Rattle.gnb_types.specs.declared.names.BearerId.{BearerId}
use Rattle.gnb_types.specs.declared.names.SnBits.{SnBits}
use Rattle.gnb_types.specs.declared.outputs.Tag.{Tag}
use Rattle.gnb_types.specs.declared.outputs.Tag.TheVariants.{Absent, Same}
use Rattle.gnb_types.specs.declared.reasons.DropReason.TheVariants.{Duplicate, Unexpected}
use Rattle.pdcp_defs.specs.Receivers.{deliver as handed_up, is_duplicate, stored}
use Rattle.unit_defs.specs.Ways.{packet_content, Load, numbered, end_marker, Taken, numbered_item, uplink_item, end_item, closed, Way, Answer, gives, spent, with_outputs, ◌then◌, nothing, puts, drops}
use Rattle.unit_defs.specs.CuUpRecords.{CuUpBearer, SourceHop, TunnelKind, f1u_uplink, forwarding_up}
use Rattle.unit_defs.specs.CuUpBearers.{no_uplink, delivered, deliver_stored, put_up, forwarded_up}
use Rattle.unit_defs.specs.CuUpItems.{passed_up, stored_at, took_uplink, up_hop_ends_if, uplink_ended, up_ended, took}
use Rattle.bearer_defs.specs.chain_defs.Models.{Item, Member, Model, new_member}
use Rattle.bearer_defs.specs.chain_defs.Orders.{makes, after, run}
use Rattle.law_downlink_order.proofs.chain.Frames.{set_here}
use Rattle.proof_cu_up_orders.specs.chain_rows.Shown.{items_of, pdus_of}
use Rattle.proof_cu_up_orders.proofs.chain_rows.Rows.{items-append, pdus-append}
use Rattle.proof_cu_up_orders.specs.context_orders.Orders.{CuUpModel, kept_in, done, takes}
use Rattle.proof_cu_up_orders.specs.down_orders.Down.{down_of, IsDown, packets_of, Went, Shows, IsOfUplink, new_model}
use Rattle.proof_cu_up_orders.proofs.down_orders.Models.{went_same}

module _ {M C P : Type 0} (way : Way M C P) (s : Model) (x : ℕ) (p : CuUpModel) (is : IsDown (s.members x) p) where
  abbrev b : CuUpBearer
  b = p.bearer

  -- nothing goes to the target's tunnel down, nor to the radio, and the downlink says the same of the bearer
  abbrev Leaves : Answer M P CuUpBearer → Type 0
  Leaves (gives os d) = (items_of os ≡ []) × (pdus_of os ≡ []) × (down_of d ≡ down_of b)
  Leaves (spent k) = Unit {0}

  leaves_if : (t : Bool) (y z : Answer M P CuUpBearer) → Leaves y → Leaves z → Leaves (if t then y else z)
  leaves_if true y z p q = p
  leaves_if false y z p q = q

  leaves_then : (a : Answer M P CuUpBearer) (f : CuUpBearer → Answer M P CuUpBearer) → Leaves a → ((d : CuUpBearer) → down_of d ≡ down_of b → Leaves (f d)) → Leaves (a then f)
  leaves_then (spent k) f h q = tt
  leaves_then (gives os d) f h q = by (f d) (q d h.2)
    where
      by : (a : Answer M P CuUpBearer) → Leaves a → Leaves (with_outputs os a)
      by (spent k) g = tt
      by (gives more e) g = (
        items-append os more ∙ (λ i. h.0 i ++ g.0 i),
        pdus-append os more ∙ (λ i. h.1 i ++ g.1 i),
        g.2,
      )

  leaves_up : (tag : Tag) (load : Load P) (d : CuUpBearer) → down_of d ≡ down_of b → Leaves (forwarded_up way p.at tag load d)
  unfolding forwarded_up items_of pdus_of
  leaves_up tag load d same = by d.hop
    where
      by : (h : Option SourceHop) → Leaves (put_up way p.at tag load d h)
      by None = (refl, refl, same)
      by (Some h) = (refl, refl, same)

  no_items : (es : List (ℕ × List ℕ)) → items_of (delivered way p.at es) ≡ []
  unfolding items_of
  no_items [] = refl
  no_items (e ∷ es) = no_items es

  no_pdus : (es : List (ℕ × List ℕ)) → pdus_of (delivered way p.at es) ≡ []
  unfolding pdus_of
  no_pdus [] = refl
  no_pdus (e ∷ es) = no_pdus es

  leaves_deliver : (d : CuUpBearer) → down_of d ≡ down_of b → Leaves (deliver_stored way p.at d)
  unfolding deliver_stored
  leaves_deliver d same = (no_items (handed_up d.receiver).packets, no_pdus (handed_up d.receiver).packets, same)

  leaves_packet : (count : Option ℕ) (packet : List ℕ) → Leaves (took_uplink way p.at count packet b)
  unfolding took_uplink items_of pdus_of
  leaves_packet None packet = (refl, refl, refl)
  leaves_packet (Some count) packet =
      let on : CuUpBearer = record b { receiver = stored b.receiver count packet } in
      leaves_if p.at.flags.released (passed_up way p.at count packet b) _
      (leaves_if (nat_lt count b.receiver.deliv) (drops Duplicate b) (forwarded_up way p.at Same (numbered p.at.sn count packet) b) (refl, refl, refl)
      (leaves_up Same (numbered p.at.sn count packet) b refl))
      (leaves_if (is_duplicate b.receiver count) (drops Duplicate b) (stored_at way p.at count packet b) (refl, refl, refl)
      (leaves_if p.at.flags.frozen (forwarded_up way p.at Same (numbered p.at.sn count packet) on) (deliver_stored way p.at on)
      (leaves_up Same (numbered p.at.sn count packet) on refl) (leaves_deliver on refl)))

  -- where the End Marker goes on, the hop is marked
  leaves_hop : (d : CuUpBearer) (h : Option SourceHop) → d.hop ≡ h → down_of d ≡ down_of b → Leaves (up_hop_ends_if way p.at h d)
  unfolding items_of pdus_of
  leaves_hop d None is_h same = (refl, refl, same)
  leaves_hop d (Some h) is_h same =
      let marked : CuUpBearer = record d { hop = Some (record h { up_ended = true }) } in
      leaves_if (not h.up_ended && no_uplink d.uplinks && (not p.at.flags.target || d.up_ended)) (forwarded_up way p.at Absent end_marker marked) (nothing d)
      (leaves_up Absent end_marker marked (ap (λ (o : Option SourceHop). down_of (record d { hop = o })) (sym is_h) ∙ same)) (refl, refl, same)

  leaves_end : (teid : ℕ) → Leaves (uplink_ended way p.at teid b)
  unfolding uplink_ended items_of pdus_of
  leaves_end teid =
      let on : CuUpBearer = record b { uplinks = filter (λ t. not (t == teid)) b.uplinks } in
      leaves_then (puts (closed teid) on) (λ c. up_hop_ends_if way p.at c.hop c) (refl, refl, refl) (λ d same. leaves_hop d d.hop refl same)

  leaves_up_end : Leaves (up_ended way p.at b)
  unfolding up_ended items_of pdus_of
  leaves_up_end =
      leaves_if b.up_ended (drops Unexpected b) _ (refl, refl, refl) (leaves_hop (record b { up_ended = true }) b.hop refl refl)

  left : (a : Answer M P CuUpBearer) → Leaves a → Shows way s s x (kept_in p a)
  unfolding packets_of
  left (spent k) h = tt
  left (gives os d) (h0, h1, h2) = record {
    member = s.members x;
    is = record { there = is.there; flags = is.flags; bearer = is.bearer ∙ sym h2 };
    pdus = [];
    puts = h1;
    went = subst (λ (zs : List Item). Went s s x (s.members x) zs []) (sym h0) (went_same s x);
  }

  pub beside : (kind : TunnelKind) (teid : ℕ) (item : Taken P) → IsOfUplink kind item → Shows way s s x (done way (takes kind teid item) p)
  unfolding took
  beside f1u_uplink teid (uplink_item (packet_content count packet)) fit = left (took_uplink way p.at count packet b) (leaves_packet count packet)
  beside f1u_uplink teid end_item fit = left (uplink_ended way p.at teid b) (leaves_end teid)
  beside forwarding_up teid (numbered_item count packet) fit = left (took_uplink way p.at count packet b) (leaves_packet count packet)
  beside forwarding_up teid end_item fit = left (up_ended way p.at b) leaves_up_end
  beside kind teid item fit = absurd fit

pub made_down : (s : Model) (x : ℕ) (ue : UeId) (bearer : BearerId) (instance : ℕ) (sn : SnBits) (quota : ℕ) (target : Bool) (teid : ℕ)
    → IsDown ((run s (makes x target teid ∷ [])).members x) (new_model ue bearer instance sn quota target teid)
unfolding run after
made_down s x ue bearer instance sn quota target teid =
    let here = set_here s.members x (new_member target teid) in record {
      there = ap (λ (c : Member). c.is_there) here;
      flags = ap (λ (c : Member). c.flags) here;
      bearer = ap (λ (c : Member). down_of c.bearer) here;
    }
