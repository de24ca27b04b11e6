-- From what a packet says on a link to what its octets say.
use Rattle.std.proofs.Common.{◌≡◌, ℕ, List, Option, Some, None, IfSome, IfNone, IsSomeAnd}
use Rattle.gnb_types.specs.declared.names.SnBits.{SnBits}
use Rattle.gtpu.specs.Packets.{GtpuPacket, Gtpu}
use Rattle.link_defs.specs.Decoding.{Link, Item, Says, DecodesOn}
use Rattle.link_defs.proofs.OneItem.{says_of, one_said}

pub found_through : {T : Type 0} → (link : Link) (sn : SnBits) (item_of : T → Item) (octets : List ℕ) (p : GtpuPacket) (r : Option T)
    → Gtpu p octets
    → IfSome r (λ x. Says link sn (item_of x) p) → IfSome r (λ x. DecodesOn link sn (item_of x) octets)
found_through link sn item_of octets p (Some x) read found = (p, read, found)
found_through link sn item_of octets p None read found = tt

pub only_through : {T : Type 0} → (link : Link) (sn : SnBits) (item_of : T → Item) (octets : List ℕ) (p : GtpuPacket) (r : Option T)
    → Gtpu p octets
    → IfSome r (λ x. Says link sn (item_of x) p) → ((item : Item) → IfNone r (Says link sn item p → ⊥)) → (item : Item)
    → DecodesOn link sn item octets → IsSomeAnd r (λ x. item_of x ≡ item)
only_through link sn item_of octets p (Some x) read found none item d = one_said link sn (item_of x) item p found (says_of link sn item octets p read d)
only_through link sn item_of octets p None read found none item d = absurd (none item (says_of link sn item octets p read d))
