-- The octets that are written for an item carry the packet that it says, and no other.
use Rattle.std.proofs.Common.{◌≡◌, ℕ, ◌%◌, ◌^◌, ◌<◌, zero, suc, true, false, List, [], ◌∷◌, Some, None, refl, sym, ap, ◌∙◌, subst, arith}
use Rattle.std.specs.Prelude.{Contains}
use Rattle.gnb_types.specs.declared.names.NodeId.{NodeId}
use Rattle.gnb_types.specs.declared.names.NodeId.TheVariants.{CuUp, Du}
use Rattle.gnb_types.specs.declared.names.Dir.{Dir}
use Rattle.gnb_types.specs.declared.names.Dir.TheVariants.{Dl, Ul}
use Rattle.gnb_types.specs.declared.names.SnBits.{SnBits}
use Rattle.gtpu.specs.Packets.{gtpu_octets}
use Rattle.nr_user_plane.specs.declared.frames.Frame.TheVariants.{Data, Status}
use Rattle.pdcp.specs.Numbers.{space}
use Rattle.pdcp.specs.Pdus.{data_pdu, radio_data}
use Rattle.link_defs.specs.GPdus.{plain_pdu, pdu_with}
use Rattle.link_defs.specs.Layouts.{frame_header, number_header, desired_buffer_size, f1u_downlink_packet, f1u_uplink_pdu, delivery_status, forwarded_numbered, forwarded_fresh, end_marker as end_octets}
use Rattle.link_defs.specs.Decoding.{Link as LinkKind, n3, f1u_downlink, f1u_uplink, forwarding_down, forwarding_up, Item as Decoded, fresh as fresh_on, numbered as numbered_on, pdu as pdu_on, framed, IsSized, CarriesPdu, Says, DecodesOn}
use Rattle.link_defs.proofs.Written.{number_header_is, frame_header_is, forwarded_fresh_decodes, forwarded_numbered_decodes, forwarded_late_decodes, f1u_uplink_data_decodes, f1u_downlink_packet_decodes}
use Rattle.link_defs.proofs.Pdus.{data_carried}
use Rattle.unit_defs.specs.Ways.{Pdu, packet_pdu, report_pdu, Load, fresh, numbered, frame, uplink, status, end_marker}
use Rattle.unit_defs.specs.octet_defs.Writing.{pdu_octets, load_octets, written_load, on_option}
use Rattle.pdcp_defs.specs.Counts.{number_of}
use Rattle.run_defs.specs.Carried.{kinds_to, packet_of}
use Rattle.law_tunnels_are_owned.specs.link_items.Items.{MayStand, GoesDown, GoesUp, GoesToDu}
use Rattle.law_tunnels_are_owned.specs.run_lengths.Lengths.{IsNumberedBy}
use Rattle.law_units_act_locally.specs.local_packets.Says.{packet_of_pdu as said_of_pdu, packet_of_load}
use Rattle.law_units_act_locally.proofs.local.Packets.{same_teid, same_frame, plain_read, end_read, with_read, carried_data, carried_report, PduHas, IsDown, IsUp, down_plain, down_numbered, down_frame, down_end, up_plain, up_numbered, up_end, to_du, none_of}

-- octets decode on one of these links as an item with this packet
abbrev pub CarriesOn : SnBits → List LinkKind → List ℕ → List ℕ → Type 0
CarriesOn sn kinds octets x = (kind : LinkKind) × Contains kinds kind × (decoded : Decoded) × DecodesOn kind sn decoded octets × (packet_of decoded ≡ Some x)

-- ---- which links these are

one_of_one : (a kind : LinkKind) → Contains (a ∷ []) kind → a ≡ kind
one_of_one a kind (zero, low, same) = same
one_of_one a kind (suc k, low, same) = absurd (omega (arith, low))

is_down : (kind : LinkKind) → Contains (n3 ∷ forwarding_down ∷ []) kind → IsDown kind
is_down kind (zero, low, same) = subst IsDown same tt
is_down kind (suc zero, low, same) = subst IsDown same tt
is_down kind (suc (suc k), low, same) = absurd (omega (arith, low))

is_up : (kind : LinkKind) → Contains (f1u_uplink ∷ forwarding_up ∷ []) kind → IsUp kind
is_up kind (zero, low, same) = subst IsUp same tt
is_up kind (suc zero, low, same) = subst IsUp same tt
is_up kind (suc (suc k), low, same) = absurd (omega (arith, low))

-- ---- no other packet

module _ (teid : ℕ) (sn : SnBits) (x : List ℕ) where
  abbrev Octets : Load Pdu → List ℕ
  Octets load = load_octets teid (written_load sn load)

  down_back : (kind : LinkKind) (d : Decoded) (load : Load Pdu) → IsDown kind → GoesDown load → DecodesOn kind sn d (Octets load) → packet_of d ≡ Some x
      → packet_of_load load ≡ Some x
  unfolding forwarded_fresh forwarded_numbered delivery_status end_octets
  down_back kind d (fresh p) at goes (q, read, says) e =
      ap Some (down_plain kind sn d (teid % 2 ^ 32) p x at (subst (λ (g : _). Says kind sn d g) (plain_read q teid p read) says) e)
  down_back kind d (numbered bits count p) at goes (q, read, says) e =
      ap Some (down_numbered kind sn d (teid % 2 ^ 32) (number_header bits count) p x (number_header_is bits count) at
      (subst (λ (g : _). Says kind sn d g) (with_read q teid (number_header bits count) p (number_header_is bits count) read) says) e)
  down_back kind d (status lost delivered) at goes (q, read, says) e =
      let told = Status desired_buffer_size lost (on_option (number_of sn) delivered) in
      absurd (down_frame kind sn d (teid % 2 ^ 32) told [] x (frame_header_is told) at
      (subst (λ (g : _). Says kind sn d g) (with_read q teid (frame_header told) [] (frame_header_is told) read) says) e)
  down_back kind d end_marker at goes (q, read, says) e =
      absurd (down_end kind sn d (teid % 2 ^ 32) x at (subst (λ (g : _). Says kind sn d g) (end_read q teid read) says) e)
  down_back kind d (frame polls restart number pdu) at goes h e = absurd goes
  down_back kind d (uplink pdu) at goes h e = absurd goes

  pdu_back : (pdu : Pdu) (content : _) → PduHas sn content (pdu_octets sn pdu) x → said_of_pdu pdu ≡ Some x
  pdu_back (packet_pdu count p) content h = ap Some (carried_data sn content count p x h)
  pdu_back (report_pdu fmc bits) content h = absurd (carried_report sn content fmc bits x h)

  up_back : (kind : LinkKind) (d : Decoded) (load : Load Pdu) → IsUp kind → GoesUp load → DecodesOn kind sn d (Octets load) → packet_of d ≡ Some x
      → packet_of_load load ≡ Some x
  unfolding f1u_uplink_pdu forwarded_numbered end_octets
  up_back kind d (uplink pdu) at goes (q, read, says) e =
      let has = up_plain kind sn d (teid % 2 ^ 32) (pdu_octets sn pdu) x at
      (subst (λ (g : _). Says kind sn d g) (plain_read q teid (pdu_octets sn pdu) read) says) e in
      pdu_back pdu has.0 has.1
  up_back kind d (numbered bits count p) at goes (q, read, says) e =
      ap Some (up_numbered kind sn d (teid % 2 ^ 32) (number_header bits count) p x (number_header_is bits count) at
      (subst (λ (g : _). Says kind sn d g) (with_read q teid (number_header bits count) p (number_header_is bits count) read) says) e)
  up_back kind d end_marker at goes (q, read, says) e =
      absurd (up_end kind sn d (teid % 2 ^ 32) x at (subst (λ (g : _). Says kind sn d g) (end_read q teid read) says) e)
  up_back kind d (fresh p) at goes h e = absurd goes
  up_back kind d (frame polls restart number pdu) at goes h e = absurd goes
  up_back kind d (status lost delivered) at goes h e = absurd goes

  du_back : (d : Decoded) (load : Load Pdu) → GoesToDu load → DecodesOn f1u_downlink sn d (Octets load) → packet_of d ≡ Some x
      → packet_of_load load ≡ Some x
  du_back d (frame polls restart number None) goes (q, read, says) e =
      let header = frame_header (Data polls restart number) in
      let has = to_du sn d (teid % 2 ^ 32) header [] x
      (subst (λ (g : _). Says f1u_downlink sn d g) (with_read q teid header [] (frame_header_is (Data polls restart number)) read) says) e in
      absurd (none_of sn has.0 x has.1)
  du_back d (frame polls restart number (Some pdu)) goes (q, read, says) e =
      let header = frame_header (Data polls restart number) in
      let has = to_du sn d (teid % 2 ^ 32) header (pdu_octets sn pdu) x
      (subst (λ (g : _). Says f1u_downlink sn d g) (with_read q teid header (pdu_octets sn pdu) (frame_header_is (Data polls restart number)) read) says) e in
      pdu_back pdu has.0 has.1
  du_back d (fresh p) goes h e = absurd goes
  du_back d (numbered bits count p) goes h e = absurd goes
  du_back d (uplink pdu) goes h e = absurd goes
  du_back d (status lost delivered) goes h e = absurd goes
  du_back d end_marker goes h e = absurd goes

  pub carried_back : (end : NodeId) (dir : Dir) (load : Load Pdu) → MayStand end dir load → CarriesOn sn (kinds_to end dir) (Octets load) x
      → packet_of_load load ≡ Some x
  carried_back (CuUp gnb number) Dl load goes c = down_back c.0 c.2 load (is_down c.0 c.1) goes c.3 c.4
  carried_back (CuUp gnb number) Ul load goes c = up_back c.0 c.2 load (is_up c.0 c.1) goes c.3 c.4
  carried_back (Du gnb number) Dl load goes c =
      du_back c.2 load goes (subst (λ (k : LinkKind). DecodesOn k sn c.2 (Octets load)) (sym (one_of_one f1u_downlink c.0 c.1)) c.3) c.4
  carried_back end dir load goes c = absurd goes

  -- ---- the packet that is said

  abbrev small : ℕ
  small = teid % 2 ^ 32

  fits : small < 2 ^ 32
  fits = omega arith

  first : (a b : LinkKind) → Contains (a ∷ b ∷ []) a
  first a b = (0, omega arith, refl)

  second : (a b : LinkKind) → Contains (a ∷ b ∷ []) b
  second a b = (1, omega arith, refl)

  down_there : (load : Load Pdu) → GoesDown load → IsNumberedBy sn load → packet_of_load load ≡ Some x → IsSized x
      → CarriesOn sn (n3 ∷ forwarding_down ∷ []) (Octets load) x
  unfolding forwarded_fresh forwarded_numbered
  down_there (fresh p) goes k e size =
      let same : p ≡ x = cc in
      let read = forwarded_fresh_decodes sn small p fits (subst IsSized (sym same) size) in
      (forwarding_down, second n3 forwarding_down, fresh_on p, subst (λ (os : List ℕ). DecodesOn forwarding_down sn (fresh_on p) os) (sym (same_teid (plain_pdu teid p))) read, e)
  down_there (numbered bits count p) goes k e size =
      let same : p ≡ x = cc in
      let read = forwarded_numbered_decodes sn small count p fits (subst IsSized (sym same) size) in (
        forwarding_down,
        second n3 forwarding_down,
        numbered_on (count % space sn) p,
        subst (λ (os : List ℕ). DecodesOn forwarding_down sn (numbered_on (count % space sn) p) os)
            (sym (ap (λ (b : SnBits). forwarded_numbered b teid count p) k ∙ same_teid (pdu_with teid (number_header sn count) p))) read,
        e,
      )
  down_there (status lost delivered) goes k e size = absurd cc
  down_there end_marker goes k e size = absurd cc
  down_there (frame polls restart number pdu) goes k e size = absurd goes
  down_there (uplink pdu) goes k e size = absurd goes

  up_there : (load : Load Pdu) → GoesUp load → IsNumberedBy sn load → packet_of_load load ≡ Some x → IsSized x
      → CarriesOn sn (f1u_uplink ∷ forwarding_up ∷ []) (Octets load) x
  unfolding f1u_uplink_pdu forwarded_numbered
  up_there (uplink (packet_pdu count p)) goes k e size =
      let same : p ≡ x = cc in
      let read = f1u_uplink_data_decodes sn small count p fits (subst IsSized (sym same) size) in (
        f1u_uplink,
        first f1u_uplink forwarding_up,
        pdu_on (data_pdu (count % space sn) p) (radio_data sn count p),
        subst (λ (os : List ℕ). DecodesOn f1u_uplink sn (pdu_on (data_pdu (count % space sn) p) (radio_data sn count p)) os) (sym (same_teid (plain_pdu teid (radio_data sn count p)))) read,
        e,
      )
  up_there (uplink (report_pdu fmc bits)) goes k e size = absurd cc
  up_there (numbered bits count p) goes k e size =
      let same : p ≡ x = cc in
      let read = forwarded_late_decodes sn small count p fits (subst IsSized (sym same) size) in (
        forwarding_up,
        second f1u_uplink forwarding_up,
        numbered_on (count % space sn) p,
        subst (λ (os : List ℕ). DecodesOn forwarding_up sn (numbered_on (count % space sn) p) os)
            (sym (ap (λ (b : SnBits). forwarded_numbered b teid count p) k ∙ same_teid (pdu_with teid (number_header sn count) p))) read,
        e,
      )
  up_there end_marker goes k e size = absurd cc
  up_there (fresh p) goes k e size = absurd goes
  up_there (frame polls restart number pdu) goes k e size = absurd goes
  up_there (status lost delivered) goes k e size = absurd goes

  du_there : (load : Load Pdu) → GoesToDu load → packet_of_load load ≡ Some x → IsSized x → CarriesOn sn (f1u_downlink ∷ []) (Octets load) x
  unfolding f1u_downlink_packet
  du_there (frame true restart number (Some (packet_pdu count p))) goes e size = absurd cc
  du_there (frame false restart number (Some (packet_pdu count p))) goes e size =
      let same : p ≡ x = cc in
      let n : ℕ = number % 2 ^ 24 in
      let read = f1u_downlink_packet_decodes restart sn small n count p fits (omega arith) (subst IsSized (sym same) size) in (
        f1u_downlink,
        (0, omega arith, refl),
        framed restart n (data_pdu (count % space sn) p) (radio_data sn count p),
        subst (λ (os : List ℕ). DecodesOn f1u_downlink sn (framed restart n (data_pdu (count % space sn) p) (radio_data sn count p)) os)
            (sym (ap (λ (h : _). gtpu_octets (pdu_with teid h (radio_data sn count p))) (same_frame false restart number)
            ∙ same_teid (pdu_with teid (frame_header (Data false restart n)) (radio_data sn count p)))) read,
        e,
      )
  du_there (frame polls restart number (Some (report_pdu fmc bits))) goes e size = absurd cc
  du_there (frame polls restart number None) goes e size = absurd cc
  du_there (fresh p) goes e size = absurd goes
  du_there (numbered bits count p) goes e size = absurd goes
  du_there (uplink pdu) goes e size = absurd goes
  du_there (status lost delivered) goes e size = absurd goes
  du_there end_marker goes e size = absurd goes

  pub carried_there : (end : NodeId) (dir : Dir) (load : Load Pdu) → MayStand end dir load → IsNumberedBy sn load → packet_of_load load ≡ Some x → IsSized x
      → CarriesOn sn (kinds_to end dir) (Octets load) x
  carried_there (CuUp gnb number) Dl load goes k e size = down_there load goes k e size
  carried_there (CuUp gnb number) Ul load goes k e size = up_there load goes k e size
  carried_there (Du gnb number) Dl load goes k e size = du_there load goes e size
  carried_there end dir load goes k e size = absurd goes

  -- ---- on a radio

  pub air_back : (pdu : Pdu) (number : ℕ) → CarriesPdu sn (data_pdu number x) (pdu_octets sn pdu) → said_of_pdu pdu ≡ Some x
  air_back pdu number h = pdu_back pdu (data_pdu number x) (h, refl)

  pub air_there : (pdu : Pdu) → said_of_pdu pdu ≡ Some x → IsSized x → (number : ℕ) × CarriesPdu sn (data_pdu number x) (pdu_octets sn pdu)
  air_there (packet_pdu count p) e size =
      let same : p ≡ x = cc in
      subst (λ (y : List ℕ). (number : ℕ) × CarriesPdu sn (data_pdu number y) (pdu_octets sn (packet_pdu count p))) same
      (count % space sn, data_carried sn count p (subst IsSized (sym same) size))
  air_there (report_pdu fmc bits) e size = absurd cc
