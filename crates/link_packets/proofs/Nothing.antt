-- When a packet says nothing on a link: none of the forms that stand there is its.
use Rattle.std.proofs.Common.{◌≡◌, ℕ, Bool, true, false, List, [], Option, Some, None, IfNone, subst, sym}
use Rattle.gnb_types.specs.declared.names.SnBits.{SnBits}
use Rattle.gtpu.specs.declared.Kind.TheVariants.{GPdu}
use Rattle.gtpu.specs.Packets.{GtpuPacket}
use Rattle.nr_user_plane.specs.declared.frames.Frame.TheVariants.{Data, Status}
use Rattle.pdcp.specs.Pdus.{Content}
use Rattle.link_defs.specs.Decoding.{Item, f1u_downlink, f1u_uplink, forwarding_down, forwarding_up, fresh, numbered, pdu, framed, poll, status, end_of_tunnel, CarriesPdu, IsBare, SaysFresh, SaysNumbered, SaysEnd, Says}
use Rattle.link_defs.proofs.OneItem.{one_frame_in}
use Rattle.link_packets.specs.Parts.{HasFrame}

pub nothing_up : (sn : SnBits) (p : GtpuPacket) → (SaysEnd p → ⊥) → ((number : ℕ) (packet : List ℕ) → SaysNumbered sn number packet p → ⊥)
    → (item : Item) → Says forwarding_up sn item p → ⊥
nothing_up sn p no_end no_number (numbered number packet) says = no_number number packet says
nothing_up sn p no_end no_number end_of_tunnel says = no_end says
nothing_up sn p no_end no_number item says = assumption

pub nothing_down : (sn : SnBits) (p : GtpuPacket) → ((packet : List ℕ) → SaysFresh packet p → ⊥)
    → ((item : Item) → Says forwarding_up sn item p → ⊥) → (item : Item) → Says forwarding_down sn item p → ⊥
nothing_down sn p no_fresh no_up (fresh packet) says = no_fresh packet says
nothing_down sn p no_fresh no_up (numbered number packet) says = no_up (numbered number packet) says
nothing_down sn p no_fresh no_up end_of_tunnel says = no_up end_of_tunnel says
nothing_down sn p no_fresh no_up item says = assumption

-- F1-U downlink, without a frame or with one that is no data frame
pub nothing_framed : (sn : SnBits) (p : GtpuPacket) → ((poll restart : Bool) (number : ℕ) → HasFrame (Data poll restart number) p → ⊥)
    → (item : Item) → Says f1u_downlink sn item p → ⊥
nothing_framed sn p no_frame (framed restart number content octets) says = no_frame false restart number (says.0, says.1, says.2)
nothing_framed sn p no_frame (poll restart number) says = no_frame true restart number (says.0, says.1, says.2)
nothing_framed sn p no_frame item says = assumption

pub nothing_uplink : (sn : SnBits) (p : GtpuPacket) → (SaysEnd p → ⊥)
    → ((content : Content) → IsBare GPdu p → CarriesPdu sn content p.payload → ⊥)
    → ((room : ℕ) (lost : List (ℕ × ℕ)) (delivered : Option ℕ) → HasFrame (Status room lost delivered) p → p.payload ≡ [] → ⊥)
    → (item : Item) → Says f1u_uplink sn item p → ⊥
nothing_uplink sn p no_end no_pdu no_status (pdu content octets) says = no_pdu content says.0 (subst (λ (xs : List ℕ). CarriesPdu sn content xs) (sym says.1) says.2)
nothing_uplink sn p no_end no_pdu no_status (status room lost delivered) says = no_status room lost delivered (says.0, says.1, says.2) says.3
nothing_uplink sn p no_end no_pdu no_status end_of_tunnel says = no_end says
nothing_uplink sn p no_end no_pdu no_status item says = assumption

pub nothing_down_where : {T : Type 0} → (r : Option T) (sn : SnBits) (p : GtpuPacket) → ((packet : List ℕ) → SaysFresh packet p → ⊥)
    → ((item : Item) → IfNone r (Says forwarding_up sn item p → ⊥)) → (item : Item) → IfNone r (Says forwarding_down sn item p → ⊥)
nothing_down_where (Some x) sn p no_fresh no_up item = tt
nothing_down_where None sn p no_fresh no_up item = nothing_down sn p no_fresh no_up item

-- a frame isn't of both kinds
pub one_kind_of_frame : (p : GtpuPacket) (poll restart : Bool) (number room : ℕ) (lost : List (ℕ × ℕ)) (delivered : Option ℕ)
    → HasFrame (Data poll restart number) p → HasFrame (Status room lost delivered) p → ⊥
one_kind_of_frame p polls restart number room lost delivered x y =
    let e : Data polls restart number ≡ Status room lost delivered = one_frame_in (Data polls restart number) (Status room lost delivered) x.0 y.0 p x.1 y.1 x.2 y.2 in
    cc
