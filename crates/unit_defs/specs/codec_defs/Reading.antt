-- Lawful codecs, as far as links go: what one reads in octets is what the layouts of links say there, and nothing where they say
-- nothing.
use Rattle.std.specs.Prelude.{◌≡◌, ℕ, List, Some, None}
use Rattle.gnb_types.specs.declared.names.SnBits.{SnBits}
use Rattle.pdcp.specs.Pdus.{Content}
use Rattle.link_defs.specs.Decoding.{Link, Item, DecodesOn, CarriesPdu}
use Rattle.unit_defs.specs.octet_defs.Codec.{Codec}

-- PDUs of a radio (TS 38.323, 6.2)
pub record ReadsPdus (codec : Codec) : Type 0 where
  pub found : (sn : SnBits) (content : Content) (octets : List ℕ) → CarriesPdu sn content octets → codec.read_pdu sn octets ≡ Some content
  pub none : (sn : SnBits) (octets : List ℕ) → ((content : Content) → CarriesPdu sn content octets → ⊥) → codec.read_pdu sn octets ≡ None

-- items of tunnels (TS 29.281, 5.1; TS 38.425, 5.5)
pub record ReadsItems (codec : Codec) : Type 0 where
  pub found : (link : Link) (sn : SnBits) (item : Item) (octets : List ℕ) → DecodesOn link sn item octets
      → codec.read_item link sn octets ≡ Some item
  pub none : (link : Link) (sn : SnBits) (octets : List ℕ) → ((item : Item) → DecodesOn link sn item octets → ⊥)
      → codec.read_item link sn octets ≡ None
