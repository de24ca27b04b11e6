-- Worked octets of tunnels and of radios: what they say, and octets that say nothing there.
use Rattle.std.specs.Prelude.{ℕ, true, false, List, [], ◌∷◌, replicate, Option, Some, None}
use Rattle.gnb_types.specs.declared.names.SnBits.{SnBits}
use Rattle.gnb_types.specs.declared.names.SnBits.TheVariants.{Len12, Len18}
use Rattle.pdcp.specs.Pdus.{Content, data_pdu, status_report}
use Rattle.link_defs.specs.Decoding.{Link, n3, f1u_downlink, f1u_uplink, forwarding_down, forwarding_up, Item, fresh, numbered, pdu, framed, poll, status, end_of_tunnel}
use Rattle.link_defs.specs.read_defs.Pdus.{pdu_on}
use Rattle.link_defs.specs.read_defs.Items.{item_on}

-- octets on a tunnel, and what they say
pub record ItemRow : Type 0 where
  pub link : Link
  pub sn : SnBits
  pub octets : List ℕ
  pub said : Option Item

abbrev pub told_item : ItemRow → Option Item
told_item row = row.said

abbrev pub read_item : ItemRow → Option Item
read_item row = item_on row.link row.sn row.octets

abbrev pub says : Link → SnBits → List ℕ → Item → ItemRow
says link sn octets item = record { link = link; sn = sn; octets = octets; said = Some item }

abbrev pub says_nothing : Link → SnBits → List ℕ → ItemRow
says_nothing link sn octets = record { link = link; sn = sn; octets = octets; said = None }

-- the same of a radio
pub record PduRow : Type 0 where
  pub sn : SnBits
  pub octets : List ℕ
  pub said : Option Content

abbrev pub told_pdu : PduRow → Option Content
told_pdu row = row.said

abbrev pub read_pdu : PduRow → Option Content
read_pdu row = pdu_on row.sn row.octets

-- each layout
abbrev pub item_rows : List ItemRow
item_rows =
    -- a packet
    says n3 Len12 (0x30 ∷ 0xFF ∷ 0 ∷ 2 ∷ 0 ∷ 0 ∷ 0 ∷ 1 ∷ 0x45 ∷ 0 ∷ []) (fresh (0x45 ∷ 0 ∷ []))
    -- the spare bit is set, and E with no header
    ∷ says n3 Len12 (0x3C ∷ 0xFF ∷ 0 ∷ 6 ∷ 0 ∷ 0 ∷ 0 ∷ 1 ∷ 0 ∷ 0 ∷ 0 ∷ 0 ∷ 0x45 ∷ 0 ∷ []) (fresh (0x45 ∷ 0 ∷ []))
    -- the end
    ∷ says n3 Len12 (0x30 ∷ 0xFE ∷ 0 ∷ 0 ∷ 0 ∷ 0 ∷ 0 ∷ 1 ∷ []) end_of_tunnel
    -- a packet with its number, in a frame
    ∷ says f1u_downlink Len12
    (0x34 ∷ 0xFF ∷ 0 ∷ 0x10 ∷ 0 ∷ 0 ∷ 0 ∷ 1 ∷ 0 ∷ 0 ∷ 0 ∷ 0x84 ∷ 2 ∷ 0 ∷ 0 ∷ 0 ∷ 0 ∷ 7 ∷ 0 ∷ 0 ∷ 0x81 ∷ 2 ∷ 0x45 ∷ 0 ∷ [])
    (framed false 7 (data_pdu 258 (0x45 ∷ 0 ∷ [])) (0x81 ∷ 2 ∷ 0x45 ∷ 0 ∷ []))
    -- the same of 18 bits, where the sequence starts again
    ∷ says f1u_downlink Len18
    (0x34 ∷ 0xFF ∷ 0 ∷ 0x11 ∷ 0 ∷ 0 ∷ 0 ∷ 1 ∷ 0 ∷ 0 ∷ 0 ∷ 0x84 ∷ 2 ∷ 0 ∷ 1 ∷ 0 ∷ 1 ∷ 2 ∷ 0 ∷ 0 ∷ 0x81 ∷ 2 ∷ 3 ∷ 0x45 ∷ 0 ∷ [])
    (framed true 258 (data_pdu 66051 (0x45 ∷ 0 ∷ [])) (0x81 ∷ 2 ∷ 3 ∷ 0x45 ∷ 0 ∷ []))
    -- a status report
    ∷ says f1u_downlink Len12
    (0x34 ∷ 0xFF ∷ 0 ∷ 0x12 ∷ 0 ∷ 0 ∷ 0 ∷ 1 ∷ 0 ∷ 0 ∷ 0 ∷ 0x84 ∷ 2 ∷ 0 ∷ 0 ∷ 0 ∷ 0 ∷ 8 ∷ 0 ∷ 0 ∷ 0 ∷ 0 ∷ 0 ∷ 1 ∷ 2 ∷ 0xA0 ∷ [])
    (framed false 8 (status_report 258 (0xA0 ∷ [])) (0 ∷ 0 ∷ 0 ∷ 1 ∷ 2 ∷ 0xA0 ∷ []))
    -- a poll
    ∷ says f1u_downlink Len12 (0x34 ∷ 0xFF ∷ 0 ∷ 0x0C ∷ 0 ∷ 0 ∷ 0 ∷ 1 ∷ 0 ∷ 0 ∷ 0 ∷ 0x84 ∷ 2 ∷ 1 ∷ 0 ∷ 0 ∷ 0 ∷ 9 ∷ 0 ∷ 0 ∷ [])
    (poll false 9)
    -- a packet with its number
    ∷ says f1u_uplink Len12 (0x30 ∷ 0xFF ∷ 0 ∷ 4 ∷ 0 ∷ 0 ∷ 0 ∷ 1 ∷ 0x80 ∷ 5 ∷ 0x45 ∷ 0 ∷ [])
    (pdu (data_pdu 5 (0x45 ∷ 0 ∷ [])) (0x80 ∷ 5 ∷ 0x45 ∷ 0 ∷ []))
    -- a status report
    ∷ says f1u_uplink Len18 (0x30 ∷ 0xFF ∷ 0 ∷ 5 ∷ 0 ∷ 0 ∷ 0 ∷ 1 ∷ 0 ∷ 0 ∷ 0 ∷ 1 ∷ 2 ∷ [])
    (pdu (status_report 258 []) (0 ∷ 0 ∷ 0 ∷ 1 ∷ 2 ∷ []))
    -- lost frames
    ∷ says f1u_uplink Len12
    (0x34 ∷ 0xFF ∷ 0 ∷ 0x14 ∷ 0 ∷ 0 ∷ 0 ∷ 1 ∷ 0 ∷ 0 ∷ 0 ∷ 0x84 ∷ 4 ∷ 0x11 ∷ 0 ∷ 0 ∷ 1 ∷ 0 ∷ 0 ∷ 1 ∷ 0 ∷ 0 ∷ 3 ∷ 0 ∷ 0 ∷ 4 ∷ 0 ∷ 0 ∷ [])
    (status 65536 ((3, 4) ∷ []) None)
    -- the highest number that was delivered
    ∷ says f1u_uplink Len12
    (0x34 ∷ 0xFF ∷ 0 ∷ 0x10 ∷ 0 ∷ 0 ∷ 0 ∷ 1 ∷ 0 ∷ 0 ∷ 0 ∷ 0x84 ∷ 3 ∷ 0x14 ∷ 0 ∷ 0 ∷ 1 ∷ 0 ∷ 0 ∷ 0 ∷ 0 ∷ 9 ∷ 0 ∷ 0 ∷ [])
    (status 65536 [] (Some 9))
    -- nothing was delivered and none is lost
    ∷ says f1u_uplink Len12 (0x34 ∷ 0xFF ∷ 0 ∷ 0x0C ∷ 0 ∷ 0 ∷ 0 ∷ 1 ∷ 0 ∷ 0 ∷ 0 ∷ 0x84 ∷ 2 ∷ 0x10 ∷ 0 ∷ 0 ∷ 1 ∷ 0 ∷ 0 ∷ 0 ∷ [])
    (status 65536 [] None)
    -- the end
    ∷ says f1u_uplink Len18 (0x30 ∷ 0xFE ∷ 0 ∷ 0 ∷ 0 ∷ 0 ∷ 0 ∷ 1 ∷ []) end_of_tunnel
    -- a packet without a number
    ∷ says forwarding_down Len12 (0x30 ∷ 0xFF ∷ 0 ∷ 2 ∷ 0 ∷ 0 ∷ 0 ∷ 1 ∷ 0x45 ∷ 0 ∷ []) (fresh (0x45 ∷ 0 ∷ []))
    -- one with a number of 12 bits
    ∷ says forwarding_down Len12 (0x34 ∷ 0xFF ∷ 0 ∷ 0x0A ∷ 0 ∷ 0 ∷ 0 ∷ 1 ∷ 0 ∷ 0 ∷ 0 ∷ 0xC0 ∷ 1 ∷ 1 ∷ 2 ∷ 0 ∷ 0x45 ∷ 0 ∷ [])
    (numbered 258 (0x45 ∷ 0 ∷ []))
    -- one with a number of 18 bits
    ∷ says forwarding_down Len18 (0x34 ∷ 0xFF ∷ 0 ∷ 0x0E ∷ 0 ∷ 0 ∷ 0 ∷ 1 ∷ 0 ∷ 0 ∷ 0 ∷ 0x82 ∷ 2 ∷ 1 ∷ 2 ∷ 3 ∷ 0 ∷ 0 ∷ 0 ∷ 0 ∷ 0x45 ∷ 0 ∷ [])
    (numbered 66051 (0x45 ∷ 0 ∷ []))
    -- the end
    ∷ says forwarding_down Len12 (0x30 ∷ 0xFE ∷ 0 ∷ 0 ∷ 0 ∷ 0 ∷ 0 ∷ 1 ∷ []) end_of_tunnel
    -- a packet with its number, of which the low bits count
    ∷ says forwarding_up Len12 (0x34 ∷ 0xFF ∷ 0 ∷ 0x0A ∷ 0 ∷ 0 ∷ 0 ∷ 1 ∷ 0 ∷ 0 ∷ 0 ∷ 0xC0 ∷ 1 ∷ 0xF1 ∷ 2 ∷ 0 ∷ 0x45 ∷ 0 ∷ [])
    (numbered 258 (0x45 ∷ 0 ∷ []))
    -- the end
    ∷ says forwarding_up Len12 (0x30 ∷ 0xFE ∷ 0 ∷ 0 ∷ 0 ∷ 0 ∷ 0 ∷ 1 ∷ []) end_of_tunnel
    ∷ []

-- each reason for which octets say nothing
abbrev pub refused_item_rows : List ItemRow
refused_item_rows =
    -- cut off in the first eight octets
    says_nothing n3 Len12 (0x30 ∷ 0xFF ∷ 0 ∷ 0 ∷ 0 ∷ 0 ∷ 0 ∷ [])
    -- version 2
    ∷ says_nothing n3 Len12 (0x50 ∷ 0xFF ∷ 0 ∷ 2 ∷ 0 ∷ 0 ∷ 0 ∷ 1 ∷ 0x45 ∷ 0 ∷ [])
    -- an echo request
    ∷ says_nothing n3 Len12 (0x30 ∷ 1 ∷ 0 ∷ 0 ∷ 0 ∷ 0 ∷ 0 ∷ 1 ∷ [])
    -- a length that is too large
    ∷ says_nothing n3 Len12 (0x30 ∷ 0xFF ∷ 0 ∷ 3 ∷ 0 ∷ 0 ∷ 0 ∷ 1 ∷ 0x45 ∷ 0 ∷ [])
    -- a length that is too small
    ∷ says_nothing n3 Len12 (0x30 ∷ 0xFF ∷ 0 ∷ 1 ∷ 0 ∷ 0 ∷ 0 ∷ 1 ∷ 0x45 ∷ 0 ∷ [])
    -- a flag without the four octets
    ∷ says_nothing n3 Len12 (0x34 ∷ 0xFF ∷ 0 ∷ 3 ∷ 0 ∷ 0 ∷ 0 ∷ 1 ∷ 0 ∷ 0 ∷ 0 ∷ [])
    -- a sequence number
    ∷ says_nothing n3 Len12 (0x32 ∷ 0xFF ∷ 0 ∷ 6 ∷ 0 ∷ 0 ∷ 0 ∷ 1 ∷ 0 ∷ 0 ∷ 0 ∷ 0 ∷ 0x45 ∷ 0 ∷ [])
    -- an N-PDU number
    ∷ says_nothing n3 Len12 (0x31 ∷ 0xFF ∷ 0 ∷ 6 ∷ 0 ∷ 0 ∷ 0 ∷ 1 ∷ 0 ∷ 0 ∷ 0 ∷ 0 ∷ 0x45 ∷ 0 ∷ [])
    -- no packet
    ∷ says_nothing n3 Len12 (0x30 ∷ 0xFF ∷ 0 ∷ 0 ∷ 0 ∷ 0 ∷ 0 ∷ 1 ∷ [])
    -- an End Marker with a payload
    ∷ says_nothing n3 Len12 (0x30 ∷ 0xFE ∷ 0 ∷ 2 ∷ 0 ∷ 0 ∷ 0 ∷ 1 ∷ 0x45 ∷ 0 ∷ [])
    -- a header
    ∷ says_nothing n3 Len12 (0x34 ∷ 0xFF ∷ 0 ∷ 0x0E ∷ 0 ∷ 0 ∷ 0 ∷ 1 ∷ 0 ∷ 0 ∷ 0 ∷ 0x84 ∷ 2 ∷ 0 ∷ 0 ∷ 0 ∷ 0 ∷ 7 ∷ 0 ∷ 0 ∷ 0x45 ∷ 0 ∷ [])
    -- two headers
    ∷ says_nothing f1u_downlink Len12
    (0x34 ∷ 0xFF ∷ 0 ∷ 0x10 ∷ 0 ∷ 0 ∷ 0 ∷ 1 ∷ 0 ∷ 0 ∷ 0 ∷ 0x84 ∷ 2 ∷ 1 ∷ 0 ∷ 0 ∷ 0 ∷ 7 ∷ 0 ∷ 0xC0 ∷ 1 ∷ 0 ∷ 1 ∷ 0 ∷ [])
    -- a header of another type
    ∷ says_nothing f1u_downlink Len12 (0x34 ∷ 0xFF ∷ 0 ∷ 0x0C ∷ 0 ∷ 0 ∷ 0 ∷ 1 ∷ 0 ∷ 0 ∷ 0 ∷ 0xC0 ∷ 1 ∷ 0 ∷ 1 ∷ 0 ∷ 0x80 ∷ 5 ∷ 0x45 ∷ 0 ∷ [])
    -- a header that is unknown and must be known
    ∷ says_nothing f1u_downlink Len12 (0x34 ∷ 0xFF ∷ 0 ∷ 0x0C ∷ 0 ∷ 0 ∷ 0 ∷ 1 ∷ 0 ∷ 0 ∷ 0 ∷ 0x85 ∷ 2 ∷ 1 ∷ 0 ∷ 0 ∷ 0 ∷ 7 ∷ 0 ∷ 0 ∷ [])
    -- a header of no length
    ∷ says_nothing f1u_downlink Len12 (0x34 ∷ 0xFF ∷ 0 ∷ 8 ∷ 0 ∷ 0 ∷ 0 ∷ 1 ∷ 0 ∷ 0 ∷ 0 ∷ 0x84 ∷ 0 ∷ 0 ∷ 0 ∷ 0 ∷ [])
    -- a header past the end
    ∷ says_nothing f1u_downlink Len12 (0x34 ∷ 0xFF ∷ 0 ∷ 8 ∷ 0 ∷ 0 ∷ 0 ∷ 1 ∷ 0 ∷ 0 ∷ 0 ∷ 0x84 ∷ 2 ∷ 0 ∷ 0 ∷ 0 ∷ [])
    -- no header
    ∷ says_nothing f1u_downlink Len12 (0x30 ∷ 0xFF ∷ 0 ∷ 4 ∷ 0 ∷ 0 ∷ 0 ∷ 1 ∷ 0x80 ∷ 5 ∷ 0x45 ∷ 0 ∷ [])
    -- the end
    ∷ says_nothing f1u_downlink Len12 (0x30 ∷ 0xFE ∷ 0 ∷ 0 ∷ 0 ∷ 0 ∷ 0 ∷ 1 ∷ [])
    -- a frame of another kind
    ∷ says_nothing f1u_downlink Len12 (0x34 ∷ 0xFF ∷ 0 ∷ 0x0C ∷ 0 ∷ 0 ∷ 0 ∷ 1 ∷ 0 ∷ 0 ∷ 0 ∷ 0x84 ∷ 2 ∷ 0x20 ∷ 0 ∷ 0 ∷ 0 ∷ 7 ∷ 0 ∷ 0 ∷ [])
    -- a poll with a PDU
    ∷ says_nothing f1u_downlink Len12
    (0x34 ∷ 0xFF ∷ 0 ∷ 0x10 ∷ 0 ∷ 0 ∷ 0 ∷ 1 ∷ 0 ∷ 0 ∷ 0 ∷ 0x84 ∷ 2 ∷ 1 ∷ 0 ∷ 0 ∷ 0 ∷ 7 ∷ 0 ∷ 0 ∷ 0x80 ∷ 5 ∷ 0x45 ∷ 0 ∷ [])
    -- no poll and no PDU
    ∷ says_nothing f1u_downlink Len12 (0x34 ∷ 0xFF ∷ 0 ∷ 0x0C ∷ 0 ∷ 0 ∷ 0 ∷ 1 ∷ 0 ∷ 0 ∷ 0 ∷ 0x84 ∷ 2 ∷ 0 ∷ 0 ∷ 0 ∷ 0 ∷ 7 ∷ 0 ∷ 0 ∷ [])
    -- a delivery status
    ∷ says_nothing f1u_downlink Len12 (0x34 ∷ 0xFF ∷ 0 ∷ 0x0C ∷ 0 ∷ 0 ∷ 0 ∷ 1 ∷ 0 ∷ 0 ∷ 0 ∷ 0x84 ∷ 2 ∷ 0x10 ∷ 0 ∷ 0 ∷ 1 ∷ 0 ∷ 0 ∷ 0 ∷ [])
    -- a delivery status with a PDU
    ∷ says_nothing f1u_uplink Len12
    (0x34 ∷ 0xFF ∷ 0 ∷ 0x10 ∷ 0 ∷ 0 ∷ 0 ∷ 1 ∷ 0 ∷ 0 ∷ 0 ∷ 0x84 ∷ 2 ∷ 0x10 ∷ 0 ∷ 0 ∷ 1 ∷ 0 ∷ 0 ∷ 0 ∷ 0x80 ∷ 5 ∷ 0x45 ∷ 0 ∷ [])
    -- a frame of data
    ∷ says_nothing f1u_uplink Len12
    (0x34 ∷ 0xFF ∷ 0 ∷ 0x10 ∷ 0 ∷ 0 ∷ 0 ∷ 1 ∷ 0 ∷ 0 ∷ 0 ∷ 0x84 ∷ 2 ∷ 0 ∷ 0 ∷ 0 ∷ 0 ∷ 7 ∷ 0 ∷ 0 ∷ 0x80 ∷ 5 ∷ 0x45 ∷ 0 ∷ [])
    -- the number of 18 bits on a bearer of 12
    ∷ says_nothing forwarding_down Len12
    (0x34 ∷ 0xFF ∷ 0 ∷ 0x0E ∷ 0 ∷ 0 ∷ 0 ∷ 1 ∷ 0 ∷ 0 ∷ 0 ∷ 0x82 ∷ 2 ∷ 1 ∷ 2 ∷ 3 ∷ 0 ∷ 0 ∷ 0 ∷ 0 ∷ 0x45 ∷ 0 ∷ [])
    -- a number of 12 bits in a header of two units
    ∷ says_nothing forwarding_down Len12
    (0x34 ∷ 0xFF ∷ 0 ∷ 0x0E ∷ 0 ∷ 0 ∷ 0 ∷ 1 ∷ 0 ∷ 0 ∷ 0 ∷ 0xC0 ∷ 2 ∷ 0 ∷ 1 ∷ 0 ∷ 0 ∷ 0 ∷ 0 ∷ 0 ∷ 0x45 ∷ 0 ∷ [])
    -- a packet without a number
    ∷ says_nothing forwarding_up Len12 (0x30 ∷ 0xFF ∷ 0 ∷ 2 ∷ 0 ∷ 0 ∷ 0 ∷ 1 ∷ 0x45 ∷ 0 ∷ [])
    -- a number without a packet
    ∷ says_nothing forwarding_up Len12 (0x34 ∷ 0xFF ∷ 0 ∷ 8 ∷ 0 ∷ 0 ∷ 0 ∷ 1 ∷ 0 ∷ 0 ∷ 0 ∷ 0xC0 ∷ 1 ∷ 0 ∷ 1 ∷ 0 ∷ [])
    -- a packet of 2,049 octets
    ∷ says_nothing n3 Len12 (0x30 ∷ 0xFF ∷ 8 ∷ 1 ∷ 0 ∷ 0 ∷ 0 ∷ 1 ∷ replicate 2049 0)
    ∷ []

-- each PDU
abbrev pub pdu_rows : List PduRow
pdu_rows =
    -- a packet and its number
    record { sn = Len12; octets = 0x81 ∷ 2 ∷ 0x45 ∷ 0 ∷ []; said = Some (data_pdu 258 (0x45 ∷ 0 ∷ [])) }
    -- reserved bits are set
    ∷ record { sn = Len12; octets = 0xF1 ∷ 2 ∷ 0x45 ∷ 0 ∷ []; said = Some (data_pdu 258 (0x45 ∷ 0 ∷ [])) }
    -- a number of 18 bits
    ∷ record { sn = Len18; octets = 0x83 ∷ 2 ∷ 1 ∷ 0x45 ∷ 0 ∷ []; said = Some (data_pdu 197121 (0x45 ∷ 0 ∷ [])) }
    -- a status report with a bitmap
    ∷ record { sn = Len12; octets = 0x0F ∷ 0 ∷ 0 ∷ 1 ∷ 2 ∷ 0xA0 ∷ []; said = Some (status_report 258 (0xA0 ∷ [])) }
    -- one without
    ∷ record { sn = Len18; octets = 0 ∷ 0 ∷ 0 ∷ 1 ∷ 2 ∷ []; said = Some (status_report 258 []) }
    -- a packet of 2,048 octets
    ∷ record { sn = Len12; octets = 0x80 ∷ 5 ∷ replicate 2048 0; said = Some (data_pdu 5 (replicate 2048 0)) }
    ∷ []

-- octets that are no PDU
abbrev pub refused_pdu_rows : List PduRow
refused_pdu_rows =
    -- nothing
    record { sn = Len12; octets = []; said = None }
    -- a number without a packet
    ∷ record { sn = Len12; octets = 0x81 ∷ 2 ∷ []; said = None }
    -- the same of 18 bits
    ∷ record { sn = Len18; octets = 0x81 ∷ 2 ∷ 3 ∷ []; said = None }
    -- another control type
    ∷ record { sn = Len12; octets = 0x10 ∷ 0 ∷ 0 ∷ 1 ∷ 2 ∷ []; said = None }
    -- cut off in FMC
    ∷ record { sn = Len12; octets = 0 ∷ 0 ∷ 0 ∷ 1 ∷ []; said = None }
    -- a packet of 2,049 octets
    ∷ record { sn = Len12; octets = 0x80 ∷ 5 ∷ replicate 2049 0; said = None }
    -- a status report of 2,049 octets
    ∷ record { sn = Len12; octets = 0 ∷ 0 ∷ 0 ∷ 0 ∷ 0 ∷ replicate 2044 0; said = None }
    ∷ []
