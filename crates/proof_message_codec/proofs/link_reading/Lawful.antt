-- The readers of `link_defs::read_defs` read what the layouts of links say, and nothing where they say nothing.
use Rattle.std.proofs.Common.{◌≡◌, ℕ, List, Option, Some, None, option_and_then, refl, ap, ◌∙◌}
use Rattle.std.proofs.lemmas.Option.{option_and_then_some}
use Rattle.gnb_types.specs.declared.names.SnBits.{SnBits}
use Rattle.pdcp.specs.Pdus.{Content}
use Rattle.link_defs.specs.Decoding.{Link, Item, DecodesOn, CarriesPdu}
use Rattle.link_defs.specs.read_defs.Shells.{shell_in}
use Rattle.link_defs.specs.read_defs.Pdus.{pdu_on}
use Rattle.link_defs.specs.read_defs.Items.{item_in, item_on}
pub use Rattle.proof_message_codec.proofs.link_reading.Pdus.{pdu_carried, pdu_found}
use Rattle.proof_message_codec.proofs.link_reading.Shells.{shell_there, shell_read}
use Rattle.proof_message_codec.proofs.link_reading.Items.{item_there, item_read}

none_unless : {A : Type 0} (o : Option A) → ((x : A) → o ≡ Some x → ⊥) → o ≡ None
none_unless None never = refl
none_unless (Some x) never = absurd (never x refl)

-- ---- items of tunnels

pub item_decodes : (link : Link) (sn : SnBits) (item : Item) (octets : List ℕ) → item_on link sn octets ≡ Some item
    → DecodesOn link sn item octets
unfolding item_on
item_decodes link sn item octets e =
    option_and_then_some (item_in link sn) (shell_in octets) item e (λ shell read said.
    let there = shell_there octets shell read in
    (there.0, there.1, item_there link sn shell item there.0 said there.2))

pub item_found : (link : Link) (sn : SnBits) (item : Item) (octets : List ℕ) → DecodesOn link sn item octets
    → item_on link sn octets ≡ Some item
unfolding item_on
item_found link sn item octets d =
    let read = item_read link sn item d.0 d.2 in
    ap (option_and_then (item_in link sn)) (shell_read octets d.0 read.0 d.1 read.1) ∙ read.2

pub item_none : (link : Link) (sn : SnBits) (octets : List ℕ) → ((item : Item) → DecodesOn link sn item octets → ⊥)
    → item_on link sn octets ≡ None
item_none link sn octets never = none_unless (item_on link sn octets) (λ item e. never item (item_decodes link sn item octets e))

-- ---- PDUs of radios

pub pdu_none : (sn : SnBits) (octets : List ℕ) → ((content : Content) → CarriesPdu sn content octets → ⊥) → pdu_on sn octets ≡ None
pdu_none sn octets never = none_unless (pdu_on sn octets) (λ content e. never content (pdu_carried sn octets content e))
