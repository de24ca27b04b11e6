-- What a CU-UP reads in octets of N3 and of an uplink tunnel, and does.
use Rattle.std.proofs.Common.{◌≡◌, ℕ, ◌^◌, ◌<◌, List, Option, Some, refl, ap, ◌∙◌}
use Rattle.std.specs.Ordering.{nat_cmp}
use Rattle.std.specs.Prelude.{Ok}
use Rattle.gnb_types.specs.declared.inputs.Input.TheVariants as ins
use Rattle.gnb_types.specs.Orders.{bearer_cmp}
use Rattle.message_types.specs.declared.rrc.Token.{Token}
use Rattle.tables.specs.Tables.{find}
use Rattle.nr_user_plane.specs.declared.frames.Frame.TheVariants.{Status}
use Rattle.nr_user_plane.specs.Frames.{FitsFrame}
use Rattle.pdcp_defs.specs.Counts.{number_of}
use Rattle.link_defs.specs.Layouts.{desired_buffer_size, delivery_status, forwarded_fresh}
use Rattle.link_defs.specs.Decoding as on
use Rattle.link_defs.proofs.Written.{forwarded_fresh_decodes, delivery_status_decodes}
use Rattle.unit_defs.specs.Ways.{Message, Pdu, Taken, fresh_item, status_item, packet_input}
use Rattle.unit_defs.specs.CuUpRecords.{CuUpBearer, CuUpContext, TunnelKind, n3, f1u_uplink, forwarding_down, forwarding_up, CuUpTunnel, CuUp, CuUpScope, cu_up_scope}
use Rattle.unit_defs.specs.CuUpItems.{held_reason, took}
use Rattle.unit_defs.specs.CuUp.{context_of, cu_up_acts}
use Rattle.unit_defs.specs.octet_defs.Codec.{Codec, octet_way}
use Rattle.unit_defs.specs.octet_defs.Writing.{on_option}
use Rattle.unit_defs.specs.octet_defs.Reading.{link_of, count_confirmed, up_item_read, read_up_bearer, read_up_context, read_up_item, read_at_cu_up}
use Rattle.unit_defs.specs.octet_defs.Units.{acts_on, cu_up_steps}
use Rattle.unit_defs.specs.codec_defs.Reading.{ReadsItems}
use Rattle.run_defs.specs.States.{Lengths}
use Rattle.run_defs.specs.Runs.{plain_way}
use Rattle.law_octets_say_the_same.specs.octet_rows.Octets.{up_again, answer_again}
use Rattle.law_octets_say_the_same.proofs.octet_rows.Ups.{Again, fresh_as, status_as}
use Rattle.law_octets_say_the_same.proofs.octet_rows.UpItems.{item_as}

module _ (codec : Codec) (reads : ReadsItems codec) (spelled : Message Token → List ℕ) (sn : Lengths) (r : CuUp (Message Token) Token) (teid : ℕ)
    (fits : teid < 2 ^ 32) (t : CuUpTunnel) (c : CuUpContext) (b : CuUpBearer) (is_open : find nat_cmp r.tunnels teid ≡ Some t)
    (there : context_of r t.ue ≡ Some c) (has : find bearer_cmp c.bearers t.bearer ≡ Some b) (long : c.sn ≡ sn t.ue) where
  abbrev at : CuUpScope
  at = cu_up_scope t.ue c t.bearer

  abbrev here : CuUp (List ℕ) (List ℕ)
  here = up_again r

  -- what says this there is what the row takes
  steps_as : (octets : List ℕ) (said : on.Item) (item : Taken Pdu) (read : Taken (List ℕ)) → codec.read_item (link_of t.kind) c.sn octets ≡ Some said
      → up_item_read codec teid c.sn b (link_of t.kind) (Some said) ≡ Ok (packet_input teid read)
      → held_reason at b t.kind read ≡ held_reason at b t.kind item
      → Again codec spelled sn at (took (octet_way codec) at t.kind teid read b) (took plain_way at t.kind teid item b)
      → cu_up_steps codec here (ins.Packet teid octets) ≡ answer_again spelled sn up_again (cu_up_acts plain_way r (packet_input teid item))
  unfolding cu_up_steps read_at_cu_up
  steps_as octets said item read is_read is_item holds takes =
      ap (λ x. acts_on (cu_up_acts (octet_way codec) here) here x)
      (ap (read_up_item codec here teid octets) is_open ∙ ap (read_up_context codec teid octets t) there ∙ ap (read_up_bearer codec teid octets t c) has
      ∙ ap (up_item_read codec teid c.sn b (link_of t.kind)) is_read ∙ is_item)
      ∙ item_as codec spelled sn r teid t c b item read is_open there has holds takes

  -- ---- a packet of N3

  module _ (p : List ℕ) (sized : on.IsSized p) (kind : t.kind ≡ n3) where
    abbrev item : Taken Pdu
    item = fresh_item p

    abbrev read : Taken (List ℕ)
    read = fresh_item p

    holds_packet : (k : TunnelKind) → held_reason at b k read ≡ held_reason at b k item
    unfolding held_reason
    holds_packet n3 = refl
    holds_packet f1u_uplink = refl
    holds_packet forwarding_down = refl
    holds_packet forwarding_up = refl

    takes_packet : (k : TunnelKind) → Again codec spelled sn at (took (octet_way codec) at k teid read b) (took plain_way at k teid item b)
    unfolding took
    takes_packet n3 = fresh_as codec spelled sn at long p b
    takes_packet f1u_uplink = refl
    takes_packet forwarding_down = fresh_as codec spelled sn at long p b
    takes_packet forwarding_up = refl

    pub reads_packet : cu_up_steps codec here (ins.Packet teid (forwarded_fresh teid p)) ≡ answer_again spelled sn up_again (cu_up_acts plain_way r (packet_input teid item))
    reads_packet =
        steps_as (forwarded_fresh teid p) (on.fresh p) item read
        (ap (λ k. codec.read_item (link_of k) c.sn (forwarded_fresh teid p)) kind
        ∙ reads.found on.n3 c.sn (on.fresh p) (forwarded_fresh teid p) (forwarded_fresh_decodes c.sn teid p fits sized))
        refl (holds_packet t.kind) (takes_packet t.kind)

  -- ---- a delivery status of an uplink tunnel

  module _ (lost : List (ℕ × ℕ)) (delivered : Option ℕ) (kind : t.kind ≡ f1u_uplink)
      (found : count_confirmed c.sn b (on_option (number_of (sn t.ue)) delivered) ≡ delivered)
      (framed : FitsFrame (Status desired_buffer_size lost (on_option (number_of (sn t.ue)) delivered))) where
    abbrev numbers : Option ℕ
    numbers = on_option (number_of (sn t.ue)) delivered

    abbrev told : Taken Pdu
    told = status_item lost delivered

    abbrev heard : Taken (List ℕ)
    heard = status_item lost delivered

    holds_status : (k : TunnelKind) → held_reason at b k heard ≡ held_reason at b k told
    unfolding held_reason
    holds_status n3 = refl
    holds_status f1u_uplink = refl
    holds_status forwarding_down = refl
    holds_status forwarding_up = refl

    takes_status : (k : TunnelKind) → Again codec spelled sn at (took (octet_way codec) at k teid heard b) (took plain_way at k teid told b)
    unfolding took
    takes_status n3 = refl
    takes_status f1u_uplink = status_as codec spelled sn at long lost delivered b
    takes_status forwarding_down = refl
    takes_status forwarding_up = refl

    pub reads_status : cu_up_steps codec here (ins.Packet teid (delivery_status teid lost numbers))
        ≡ answer_again spelled sn up_again (cu_up_acts plain_way r (packet_input teid told))
    reads_status =
        steps_as (delivery_status teid lost numbers) (on.status desired_buffer_size lost numbers) told heard
        (ap (λ k. codec.read_item (link_of k) c.sn (delivery_status teid lost numbers)) kind
        ∙ reads.found on.f1u_uplink c.sn (on.status desired_buffer_size lost numbers) (delivery_status teid lost numbers)
        (delivery_status_decodes c.sn teid lost numbers fits framed))
        (ap (λ count. Ok (packet_input teid (status_item lost count))) found) (holds_status t.kind) (takes_status t.kind)
