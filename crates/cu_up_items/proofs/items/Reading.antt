-- What octets say on the link of a tunnel.
use Rattle.std.proofs.Common.{◌≡◌, ℕ, List, Option, Some, None, ap, ◌∙◌}
use Rattle.std.specs.Prelude.{IfSome, IsSomeAnd}
use Rattle.std.specs.Option.{option_map}
use Rattle.gnb_types.specs.declared.names.SnBits.{SnBits}
use Rattle.pdcp.specs.Pdus.{data_pdu, status_report}
use Rattle.link_defs.specs.Decoding.{Link, n3, f1u_uplink, forwarding_down, forwarding_up, Item, fresh, numbered, pdu, framed, poll, status, end_of_tunnel, DecodesOn}
use Rattle.unit_defs.specs.octet_defs.Codec.{Codec}
use Rattle.unit_defs.specs.codec_defs.Reading.{ReadsItems}
use Rattle.cu_up_items.specs.items.Items.{IsSizedItem}

-- a lawful codec reads the same
module _ (codec : Codec) (lawful : ReadsItems codec) (link : Link) (sn : SnBits) (octets : List ℕ) {X : Type 0} (f : X → Item) (r : Option X) where
  pub reads_some : (x : X) → DecodesOn link sn (f x) octets → codec.read_item link sn octets ≡ Some (f x)
  reads_some x says = lawful.found link sn (f x) octets says

  pub reads_none : r ≡ None → ((item : Item) → DecodesOn link sn item octets → IsSomeAnd r (λ x. f x ≡ item)) → codec.read_item link sn octets ≡ None
  reads_none is only = lawful.none link sn octets (λ item says. none item r is (only item says))
    where
      none : (item : Item) (o : Option X) → o ≡ None → IsSomeAnd o (λ x. f x ≡ item) → ⊥
      none item None e some = some
      none item (Some x) e some = absurd cc

-- the packets of items have their size
module _ (sn : SnBits) (octets : List ℕ) where
  pub sized_n3 : (item : Item) → DecodesOn n3 sn item octets → IsSizedItem item
  sized_n3 (fresh packet) says = says.2.2
  sized_n3 (numbered number packet) says = absurd says.2
  sized_n3 (pdu content bytes) says = absurd says.2
  sized_n3 (framed restart number content bytes) says = tt
  sized_n3 (poll restart number) says = tt
  sized_n3 (status room lost delivered) says = tt
  sized_n3 end_of_tunnel says = tt

  pub sized_uplink : (item : Item) → DecodesOn f1u_uplink sn item octets → IsSizedItem item
  sized_uplink (fresh packet) says = absurd says.2
  sized_uplink (numbered number packet) says = absurd says.2
  sized_uplink (pdu (data_pdu number packet) bytes) says = says.2.2.1
  sized_uplink (pdu (status_report fmc bitmap) bytes) says = tt
  sized_uplink (framed restart number content bytes) says = tt
  sized_uplink (poll restart number) says = tt
  sized_uplink (status room lost delivered) says = tt
  sized_uplink end_of_tunnel says = tt

  pub sized_down : (item : Item) → DecodesOn forwarding_down sn item octets → IsSizedItem item
  sized_down (fresh packet) says = says.2.2
  sized_down (numbered number packet) says = says.2.4
  sized_down (pdu content bytes) says = absurd says.2
  sized_down (framed restart number content bytes) says = tt
  sized_down (poll restart number) says = tt
  sized_down (status room lost delivered) says = tt
  sized_down end_of_tunnel says = tt

  pub sized_up : (item : Item) → DecodesOn forwarding_up sn item octets → IsSizedItem item
  sized_up (fresh packet) says = absurd says.2
  sized_up (numbered number packet) says = says.2.4
  sized_up (pdu content bytes) says = absurd says.2
  sized_up (framed restart number content bytes) says = tt
  sized_up (poll restart number) says = tt
  sized_up (status room lost delivered) says = tt
  sized_up end_of_tunnel says = tt
