-- PDCP PDUs and data frames as they are written: how many octets they have, and that they are read again.
use Rattle.std.proofs.Common.{◌≡◌, ℕ, ◌+◌, ◌%◌, ◌^◌, ◌<◌, ◌≤◌, Bool, List, [], ◌∷◌, length, refl, arith}
use Rattle.gnb_types.specs.declared.names.SnBits.{SnBits}
use Rattle.gnb_types.specs.declared.names.SnBits.TheVariants.{Len12, Len18}
use Rattle.nr_user_plane.specs.declared.frames.Frame.TheVariants.{Data}
use Rattle.nr_user_plane.specs.Frames.{Nru, nru_octets, filled}
use Rattle.pdcp.specs.declared.pdu.TheConstants.{PACKET_LIMIT}
use Rattle.pdcp.specs.Numbers.{space}
use Rattle.pdcp.specs.Pdus.{data_pdu, status_report, radio_data, report_octets, bitmap}
use Rattle.link_defs.specs.Decoding.{CarriesPdu, IsSized}

pub length-radio_data : (sn : SnBits) (count : ℕ) (packet : List ℕ) → length (radio_data sn count packet) ≤ 3 + length packet
unfolding radio_data
length-radio_data Len12 count packet = omega arith
length-radio_data Len18 count packet = omega arith

pub data_carried : (sn : SnBits) (count : ℕ) (packet : List ℕ) → IsSized packet
    → CarriesPdu sn (data_pdu (count % space sn) packet) (radio_data sn count packet)
unfolding radio_data
data_carried Len12 count [] sized = absurd (omega (arith, sized.0))
data_carried Len12 count (x ∷ xs) sized = ((omega arith, omega arith, refl), sized)
data_carried Len18 count [] sized = absurd (omega (arith, sized.0))
data_carried Len18 count (x ∷ xs) sized = ((omega arith, omega arith, refl), sized)

pub report_carried : (sn : SnBits) (fmc : ℕ) (bits : List Bool) → fmc < 2 ^ 32 → length (report_octets fmc bits) ≤ PACKET_LIMIT
    → CarriesPdu sn (status_report fmc (bitmap bits)) (report_octets fmc bits)
report_carried Len12 fmc bits fits sized = ((omega arith, omega (arith, fits), refl), (omega arith, sized))
report_carried Len18 fmc bits fits sized = ((omega arith, omega (arith, fits), refl), (omega arith, sized))

pub data_frame_read : (poll restart : Bool) (number : ℕ) → number < 2 ^ 24
    → Nru (Data poll restart number) (nru_octets (Data poll restart number))
unfolding filled
data_frame_read poll restart number fits = (refl, refl, omega (arith, fits), (omega arith, refl))

pub length-data_frame : (poll restart : Bool) (number : ℕ) → length (nru_octets (Data poll restart number)) ≡ 6
unfolding filled
length-data_frame poll restart number = refl
