-- What a PDU of a radio is to a DU.
use Rattle.std.specs.Prelude.{◌≡◌, ℕ, List, Option, Some, None}
use Rattle.gnb_types.specs.declared.names.UeId.{UeId}
use Rattle.gnb_types.specs.declared.reasons.DropReason.{DropReason}
use Rattle.gnb_types.specs.declared.reasons.DropReason.TheVariants.{NoContext, Undecodable}
use Rattle.gnb_types.specs.Orders.{ue_cmp}
use Rattle.tables.specs.Tables.{find}
use Rattle.pdcp.specs.Pdus.{Content}
use Rattle.link_defs.specs.Decoding.{CarriesPdu}
use Rattle.unit_defs.specs.Du.{DuContext}
use Rattle.unit_defs.specs.octet_defs.Codec.{number_in}
use Rattle.du_contexts.specs.Tables.{DuTables}

-- a PDU for a terminal with a context: the number of a packet, or none of a report
pub record IsPdu (t : DuTables) (ue : UeId) (octets : List ℕ) (number : Option ℕ) : Type 0 where
  pub context : DuContext
  pub content : Content
  pub has_context : find ue_cmp t.contexts ue ≡ Some context
  pub carries : CarriesPdu context.sn content octets
  pub number_is : number_in (Some content) ≡ number

pub record SaysNothing (t : DuTables) (ue : UeId) (octets : List ℕ) : Type 0 where
  pub context : DuContext
  pub has_context : find ue_cmp t.contexts ue ≡ Some context
  pub none : (content : Content) → CarriesPdu context.sn content octets → ⊥

-- the reason for which it is dropped
abbrev pub IsNoPdu : DuTables → UeId → List ℕ → DropReason → Type 0
IsNoPdu t ue octets NoContext = find ue_cmp t.contexts ue ≡ None
IsNoPdu t ue octets Undecodable = SaysNothing t ue octets
IsNoPdu t ue octets reason = ⊥
