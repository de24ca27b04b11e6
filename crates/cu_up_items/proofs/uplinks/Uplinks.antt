-- Packets up: what each case of the tables comes to.
use Rattle.std.proofs.Common.{◌≡◌, ℕ, ◌<◌, ◌≤◌, Bool, true, false, cond, nat_lt, List, Option, Some, None, refl, sym, ap, ◌∙◌, subst, arith}
use Rattle.std.proofs.lemmas.Bool.Decides.{nat_tests}
use Rattle.gnb_types.specs.declared.outputs.Tag.TheVariants.{Same}
use Rattle.gnb_types.specs.declared.reasons.DropReason.TheVariants.{Duplicate}
use Rattle.pdcp_defs.specs.Receivers.{Receiver, is_duplicate, is_ahead, stored}
use Rattle.unit_defs.specs.Ways.{numbered, drops}
use Rattle.unit_defs.specs.CuUpRecords.{CuUpBearer}
use Rattle.unit_defs.specs.CuUpBearers.{forwarded_up, deliver_stored}
use Rattle.unit_defs.specs.CuUpItems.{took_uplink, passed_up}
use Rattle.unit_defs.specs.octet_defs.Codec.{Codec, octet_way}
use Rattle.unit_defs.specs.octet_defs.Units.{OctetAnswer}
use Rattle.pdcp_bearers.specs.declared.ue_bearers.receiver.Reception.{Reception}
use Rattle.pdcp_bearers.specs.declared.ue_bearers.receiver.Reception.TheVariants as receptions
use Rattle.pdcp_bearers.specs.ue_bearers.Receivers.{ReceiverState, received}
use Rattle.pdcp_bearers.specs.ue_bearers.Senders.{IsPacket}
use Rattle.pdcp_bearers.proofs.ue_bearers.StoredLemmas.{all_put}
use Rattle.cu_up_bearer.specs.declared.tunnels.at.Scope.{Scope}
use Rattle.cu_up_bearer.specs.tunnels.Tunnels.{at_as}
use Rattle.cu_up_bearer.specs.bearers.Bearers.{IsUp}
use Rattle.cu_up_items.specs.uplinks.Storing.{kept_at}

module _ (codec : Codec) (a : Scope) (b : CuUpBearer) (p : List ℕ) where
  abbrev pub passed_row : ℕ → OctetAnswer CuUpBearer
  passed_row count = passed_up (octet_way codec) (at_as a) count p b

  abbrev pub up_row : ℕ → OctetAnswer CuUpBearer
  up_row count = forwarded_up (octet_way codec) (at_as a) Same (numbered a.sn count p) b

  pub passes_before : (count deliv : ℕ) → deliv ≡ b.receiver.deliv → count < deliv → passed_row count ≡ drops Duplicate b
  passes_before count deliv is less =
      let before : nat_lt count b.receiver.deliv ≡ true = grind (arith, nat_tests) in
      ap (λ (t : Bool). cond t (drops Duplicate b) (up_row count)) before

  pub passes_late : (count deliv : ℕ) → deliv ≡ b.receiver.deliv → deliv ≤ count → passed_row count ≡ up_row count
  passes_late count deliv is more =
      let after : nat_lt count b.receiver.deliv ≡ false = grind (arith, nat_tests) in
      ap (λ (t : Bool). cond t (drops Duplicate b) (up_row count)) after

  abbrev pub kept_row : ℕ → OctetAnswer CuUpBearer
  kept_row count = kept_at (octet_way codec) (at_as a) count p b

  pub keeps_frozen : (count : ℕ) → a.flags.frozen ≡ true → kept_row count ≡ up_row count
  keeps_frozen count is = ap (λ (f : Bool). cond f (up_row count) (deliver_stored (octet_way codec) (at_as a) b)) is

  pub keeps_thawed : (count : ℕ) → a.flags.frozen ≡ false → kept_row count ≡ deliver_stored (octet_way codec) (at_as a) b
  keeps_thawed count is = ap (λ (f : Bool). cond f (up_row count) (deliver_stored (octet_way codec) (at_as a) b)) is

  -- ---- the row

  abbrev pub uplink_row : Option ℕ → OctetAnswer CuUpBearer
  uplink_row o = took_uplink (octet_way codec) (at_as a) o p b

  pub uplink_none : (o : Option ℕ) → o ≡ None → uplink_row o ≡ drops Duplicate b
  unfolding took_uplink
  uplink_none o is = ap (λ (x : Option ℕ). uplink_row x) is

  module _ (o : Option ℕ) (count : ℕ) (found : o ≡ Some count) where
    abbrev pub stores : CuUpBearer
    stores = record b { receiver = stored b.receiver count p }

    abbrev pub uplink_by : Bool → Bool → OctetAnswer CuUpBearer
    uplink_by released duplicate =
        cond released (passed_row count) (cond duplicate (drops Duplicate b) (kept_at (octet_way codec) (at_as a) count p stores))

    uplink_is : uplink_row o ≡ uplink_by a.flags.released (is_duplicate b.receiver count)
    unfolding took_uplink
    uplink_is = ap (λ (x : Option ℕ). uplink_row x) found

    pub uplink_released : a.flags.released ≡ true → uplink_row o ≡ passed_row count
    uplink_released is = uplink_is ∙ ap (λ (r : Bool). uplink_by r (is_duplicate b.receiver count)) is

    pub uplink_duplicate : a.flags.released ≡ false → is_duplicate b.receiver count ≡ true → uplink_row o ≡ drops Duplicate b
    uplink_duplicate lives is =
        uplink_is ∙ ap (λ (r : Bool). uplink_by r (is_duplicate b.receiver count)) lives ∙ ap (λ (d : Bool). uplink_by false d) is

    pub uplink_stored : a.flags.released ≡ false → is_duplicate b.receiver count ≡ false
        → uplink_row o ≡ kept_at (octet_way codec) (at_as a) count p stores
    uplink_stored lives is =
        uplink_is ∙ ap (λ (r : Bool). uplink_by r (is_duplicate b.receiver count)) lives ∙ ap (λ (d : Bool). uplink_by false d) is

-- ---- what the entity says of a packet that isn't ahead

abbrev pub with_state : Reception → ReceiverState → Reception × ReceiverState
with_state r d = (r, d)

module _ (old new : ReceiverState) (count : ℕ) (p : List ℕ) where
  abbrev pub keeps : ReceiverState
  keeps = record old { receiver = stored old.receiver count p }

  abbrev pub Facts : Reception → Type 0
  Facts receptions.Stored = (is_duplicate old.receiver count ≡ false) × (new ≡ keeps)
  Facts receptions.Duplicate = (is_duplicate old.receiver count ≡ true) × (new ≡ old)
  Facts receptions.Ahead = ⊥

  abbrev pub outcome : Bool → Bool → Reception × ReceiverState
  outcome f g = cond f (with_state receptions.Duplicate old) (cond g (with_state receptions.Ahead old) (with_state receptions.Stored keeps))

  facts_by : (f g : Bool) → is_duplicate old.receiver count ≡ f → g ≡ false → (r : Reception) → with_state r new ≡ outcome f g → Facts r
  facts_by true g fe ge receptions.Duplicate is = (fe, ap (λ (x : Reception × ReceiverState). x.1) is)
  facts_by true g fe ge receptions.Stored is = let first : receptions.Stored ≡ receptions.Duplicate = ap (λ (x : Reception × ReceiverState). x.0) is in absurd cc
  facts_by true g fe ge receptions.Ahead is = let first : receptions.Ahead ≡ receptions.Duplicate = ap (λ (x : Reception × ReceiverState). x.0) is in absurd cc
  facts_by false true fe ge r is = absurd cc
  facts_by false false fe ge receptions.Stored is = (fe, ap (λ (x : Reception × ReceiverState). x.1) is)
  facts_by false false fe ge receptions.Duplicate is = let first : receptions.Duplicate ≡ receptions.Stored = ap (λ (x : Reception × ReceiverState). x.0) is in absurd cc
  facts_by false false fe ge receptions.Ahead is = let first : receptions.Ahead ≡ receptions.Stored = ap (λ (x : Reception × ReceiverState). x.0) is in absurd cc

  pub facts : (r : Reception) → with_state r new ≡ received old (Some count) p → is_ahead old.quota old.receiver count ≡ false → Facts r
  facts r is near = facts_by (is_duplicate old.receiver count) (is_ahead old.quota old.receiver count) refl near r is

  -- it is one packet more
  pub kept_up : (a : Scope) → IsUp a old → IsPacket p → new ≡ keeps → IsUp a new
  unfolding stored
  kept_up a up packet is =
      subst (λ (d : ReceiverState). IsUp a d) (sym is)
      (up.0, up.1, all_put (λ e. IsPacket e.1) old.receiver.stored count p up.2 (λ key same. packet) packet)
