-- What confirms packets down.
use Rattle.std.proofs.Common.{◌≡◌, ◌==◌, ℕ, Bool, true, false, cond, List, [], ◌∷◌, length, Option, Some, None, refl, sym, ap, ◌∙◌, arith, eqb-true}
use Rattle.gnb_types.specs.declared.names.SnBits.{SnBits}
use Rattle.pdcp_defs.specs.Counts.{count_below}
use Rattle.pdcp_defs.specs.Senders.{confirmed_by}
use Rattle.pdcp_entities.specs.Entities.{confirmed_number, confirmed_report, confirmed_if as entity_if}
use Rattle.unit_defs.specs.Ways.{nothing, ◌then◌}
use Rattle.unit_defs.specs.CuUpRecords.{CuUpBearer}
use Rattle.unit_defs.specs.CuUpBearers.{sent_again, number_waiting}
use Rattle.unit_defs.specs.CuUpItems.{took_report, took_delivery_status, lost_frames, confirmed_if}
use Rattle.unit_defs.specs.octet_defs.Codec.{Codec, octet_way}
use Rattle.unit_defs.specs.octet_defs.Reading.{bits_of, count_confirmed}
use Rattle.unit_defs.specs.octet_defs.Units.{OctetAnswer}
use Rattle.pdcp_bearers.specs.ue_bearers.Senders.{SenderState}
use Rattle.pdcp_bearers.proofs.ue_packets.RowLemmas.{same_bits}
use Rattle.cu_up_bearer.specs.declared.tunnels.at.Scope.{Scope}
use Rattle.cu_up_bearer.specs.declared.tunnels.frames.Frames.{Frames}
use Rattle.cu_up_bearer.specs.tunnels.Tunnels.{at_as}
use Rattle.cu_up_bearer.specs.downlink.Downlinks.{with_down}
use Rattle.cu_up_bearer.proofs.downlink.Numberings.{side}

module _ (codec : Codec) (a : Scope) (b : CuUpBearer) where
  -- ---- a status report

  pub reports : (new old : SenderState) (f : Frames) (fmc : ℕ) (octets : List ℕ) → b ≡ with_down b (side old f)
      → new ≡ record old { sender = confirmed_report old.sender fmc octets }
      → took_report (octet_way codec) (at_as a) fmc (bits_of octets) b ≡ number_waiting (octet_way codec) (at_as a) (with_down b (side new f))
  unfolding took_report confirmed_report
  reports new old f fmc octets b_is is =
      ap (λ (c : CuUpBearer). number_waiting (octet_way codec) (at_as a) (record c { sender = confirmed_by c.sender fmc (bits_of octets) })) b_is
      ∙ ap (λ (bs : List Bool). number_waiting (octet_way codec) (at_as a) (with_down b (side (record old { sender = confirmed_by old.sender fmc bs }) f)))
      (sym (same_bits octets))
      ∙ ap (λ (u : SenderState). number_waiting (octet_way codec) (at_as a) (with_down b (side u f))) (sym is)

  -- ---- lost frames

  abbrev pub lost_row : List (ℕ × ℕ) → OctetAnswer CuUpBearer
  lost_row lost = lost_frames (octet_way codec) (at_as a) lost b

  abbrev pub marked : CuUpBearer
  marked = record b { restart = true }

  pub loses_nothing : (lost : List (ℕ × ℕ)) → (length lost == 0) ≡ true → lost_row lost ≡ nothing b
  loses_nothing [] is = refl
  loses_nothing (e ∷ es) is =
      let none : length (e ∷ es) ≡ 0 = eqb-true (length (e ∷ es)) 0 is in absurd (omega arith)

  pub loses_frozen : (lost : List (ℕ × ℕ)) → (length lost == 0) ≡ false → a.flags.frozen ≡ true
      → lost_row lost ≡ nothing (record b { restart = true; loss_while_frozen = true })
  loses_frozen [] is frozen = cc
  loses_frozen (e ∷ es) is frozen =
      ap (λ (f : Bool). cond f (nothing (record b { restart = true; loss_while_frozen = true })) (sent_again (octet_way codec) (at_as a) b.sender.unconfirmed marked)) frozen

  pub loses_some : (lost : List (ℕ × ℕ)) → (length lost == 0) ≡ false → a.flags.frozen ≡ false
      → lost_row lost ≡ sent_again (octet_way codec) (at_as a) b.sender.unconfirmed marked
  loses_some [] is thawed = cc
  loses_some (e ∷ es) is thawed =
      ap (λ (f : Bool). cond f (nothing (record b { restart = true; loss_while_frozen = true })) (sent_again (octet_way codec) (at_as a) b.sender.unconfirmed marked)) thawed

  -- ---- a delivery status

  pub status_row : (lost : List (ℕ × ℕ)) (o : Option ℕ)
      → took_delivery_status (octet_way codec) (at_as a) lost o b ≡ (lost_frames (octet_way codec) (at_as a) lost (confirmed_if (octet_way codec) o b) then number_waiting (octet_way codec) (at_as a))
  unfolding took_delivery_status
  status_row lost o = refl

-- a number confirms the same
pub confirms_one : (codec : Codec) (new old : SenderState) (f : Frames) (b : CuUpBearer) (sn : SnBits) (o : Option ℕ) (number : ℕ) → o ≡ Some number → old.sn ≡ sn
    → new ≡ record old { sender = confirmed_number old.sn old.sender number }
    → with_down b (side new f) ≡ confirmed_if (octet_way codec) (count_confirmed sn (with_down b (side old f)) o) (with_down b (side old f))
unfolding confirmed_number
confirms_one codec new old f b sn o number o_is sn_is is =
    ap (λ (u : SenderState). with_down b (side u f)) is
    ∙ (ap (λ (k : SnBits). with_down b (side (record old { sender = entity_if old.sender (count_below k old.sender.next number) }) f)) sn_is
    ∙ by (count_below sn old.sender.next number)
    ∙ ap (λ (x : Option ℕ). confirmed_if (octet_way codec) (count_confirmed sn (with_down b (side old f)) x) (with_down b (side old f))) (sym o_is))
  where
    by : (x : Option ℕ) → with_down b (side (record old { sender = entity_if old.sender x }) f) ≡ confirmed_if (octet_way codec) x (with_down b (side old f))
    by None = refl
    by (Some count) = refl

pub confirms_none : (codec : Codec) (b : CuUpBearer) (sn : SnBits) (o : Option ℕ) → o ≡ None
    → b ≡ confirmed_if (octet_way codec) (count_confirmed sn b o) b
confirms_none codec b sn o is = ap (λ (x : Option ℕ). confirmed_if (octet_way codec) (count_confirmed sn b x) b) (sym is)
