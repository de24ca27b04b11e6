-- A DU takes frames, and passes on what comes up.
use Rattle.std.proofs.Common.{◌≡◌, ℕ, ◌+◌, ◌-◌, Bool, true, false, not, ◌||◌, if◌then◌else◌, nat_lt, List, [], ◌∷◌, ◌++◌, Option, Some, None, refl, ap, ◌∙◌}
use Rattle.std.specs.Ordering.{nat_cmp, eq_by_cmp}
use Rattle.gnb_types.specs.declared.names.UeId.{UeId}
use Rattle.gnb_types.specs.declared.names.BearerId.{BearerId}
use Rattle.gnb_types.specs.declared.names.Dir.TheVariants.{Dl, Ul}
use Rattle.gnb_types.specs.declared.outputs.Tag.TheVariants.{Absent, Same}
use Rattle.gnb_types.specs.declared.reasons.DropReason.TheVariants.{Gap}
use Rattle.gnb_types.specs.Orders.{ue_cmp, bearer_cmp}
use Rattle.gnb_types.proofs.OrderLemmas.{ue_total, bearer_total}
use Rattle.tables.specs.Tables.{find, put}
use Rattle.tables.proofs.TableLaws.{find-put-same, find-put-other}
use Rattle.unit_defs.specs.Ways.{Pdu, uplink, status, Output, packet, radio, Way, Answer, gives, with_outputs, ◌then◌, nothing, puts, drops}
use Rattle.unit_defs.specs.Du.{Du, DuBearer, DuContext, DuTunnel, context_of, told, with_bearer, frame_received, taken_in, taken_of, taken_on, take, of_bearer, of_context, pass_up, confirmed, confirm}
use Rattle.law_downlink_order.specs.path.Paths.{Frame, Path, gap_after, carried_by, taken_by}
use Rattle.law_downlink_order.specs.path.Steps.{takes, after, run, IsReady, IsAssumed, AreKept}
use Rattle.law_downlink_order.proofs.chain.Frames.{set_here}
use Rattle.bearer_defs.specs.chain_defs.Models.{set}
use Rattle.bearer_defs.specs.uplink_defs.Models.{Model, Member, numbered, uplink_tunnel}
use Rattle.bearer_defs.specs.uplink_defs.Orders as up
use Rattle.bearer_defs.specs.uplink_defs.Assumptions.{IsOpen, NoEnd}
use Rattle.bearer_defs.specs.uplink_defs.Assumptions as up_assumptions
use Rattle.proof_node_orders.specs.du_rows.Shown.{IsHeld, item, to_radio, frame_outputs}

-- ---- what a step asks, and what it leaves

pub takes_asked : (s : Path) (f : Frame) (rest : List Frame) → s.tunnel ≡ f ∷ rest → AreKept s (takes f rest ∷ [])
unfolding AreKept IsReady IsAssumed
takes_asked s f rest stands = (stands, tt, tt)

pub takes_air : (s : Path) (f : Frame) (rest : List Frame)
    → (run s (takes f rest ∷ [])).air ≡ s.air ++ carried_by (not s.listens || gap_after s.du f f.pdu) f.pdu
unfolding run after
takes_air s f rest = refl

module _ (s : Model) (count : ℕ) (p : List ℕ) (rest : List (ℕ × List ℕ)) (teid : ℕ) where
  abbrev here : Member
  here = s.members s.station

  pub carries_asked : s.air ≡ (count, p) ∷ rest → IsOpen here (uplink_tunnel teid) → NoEnd (here.uplink teid)
      → up_assumptions.AreKept s (up.carries teid count p rest ∷ [])
  unfolding up_assumptions.AreKept up_assumptions.IsReady up_assumptions.IsAssumed
  carries_asked stands is_open no_end = (stands, (is_open, no_end), tt)

  pub carries_run : ((up.run s (up.carries teid count p rest ∷ [])).members s.station).uplink teid ≡ here.uplink teid ++ numbered count p ∷ []
  unfolding up.run up.after
  carries_run =
      let more = here.uplink teid ++ numbered count p ∷ [] in
      let now : Member = record here { uplink = set here.uplink teid more } in
      ap (λ (m : Member). m.uplink teid) (set_here s.members s.station now) ∙ set_here here.uplink teid more

module _ {M C P : Type 0} (way : Way M C P) where
  module _ (ue : UeId) (bearer : BearerId) (c : DuContext) (r : Du M C) where
    -- ---- a frame

    by_gap : (told_first : List (Output M P)) (g : Bool) (pdu : Pdu) (v : Du M C)
        → with_outputs told_first (if g then drops Gap v else puts (radio ue bearer Dl c.epoch Same (way.write c.sn pdu)) v)
        ≡ gives (told_first ++ to_radio way ue bearer c g (Some pdu)) v
    by_gap told_first true pdu v = refl
    by_gap told_first false pdu v = refl

    frame_is : (b : DuBearer) (f : Frame)
        → frame_received way ue bearer c b (item way c f) r
        ≡ gives (frame_outputs way ue bearer c b f) (with_bearer way ue bearer c (taken_by b f) r)
    frame_is b f = by f.pdu
      where
        by : (pdu : Option Pdu)
            → frame_received way ue bearer c b (item way c (record f { pdu = pdu })) r
            ≡ gives (told way ue bearer b f.poll f.number ++ to_radio way ue bearer c (gap_after b f pdu) pdu)
            (with_bearer way ue bearer c (record b { awaited = f.number + 1; gap = gap_after b f pdu }) r)
        by None = refl
        by (Some pdu) = by_gap (told way ue bearer b f.poll f.number) (gap_after b f (Some pdu)) pdu
            (with_bearer way ue bearer c (record b { awaited = f.number + 1; gap = gap_after b f (Some pdu) }) r)

    pub kept_there : (b : DuBearer) → IsHeld (with_bearer way ue bearer c b r) ue bearer
        (record c { bearers = put bearer_cmp c.bearers bearer b }) b
    kept_there b = record {
      context = find-put-same ue_total r.contexts ue (record c { bearers = put bearer_cmp c.bearers bearer b });
      there = find-put-same bearer_total c.bearers bearer b;
    }

  pub takes_is : (r : Du M C) (teid : ℕ) (t : DuTunnel) (c : DuContext) (s : Path) (f : Frame) (rest : List Frame)
      → find nat_cmp r.tunnels teid ≡ Some t → IsHeld r t.ue t.bearer c s.du
      → take way teid (item way c f) r
      ≡ gives (frame_outputs way t.ue t.bearer c s.du f) (with_bearer way t.ue t.bearer c (run s (takes f rest ∷ [])).du r)
  unfolding take run after
  takes_is r teid t c s f rest is held =
      ap (taken_on way (item way c f) r) is
      ∙ ap (taken_of way t.ue t.bearer (item way c f) r) held.context
      ∙ ap (taken_in way t.ue t.bearer c (item way c f) r) held.there
      ∙ frame_is t.ue t.bearer c r s.du f

  pub others_stay : (ue : UeId) (bearer : BearerId) (c : DuContext) (r : Du M C) (b d : DuBearer) (q : BearerId)
      → context_of r ue ≡ Some c → eq_by_cmp bearer_cmp q bearer ≡ false → IsHeld r ue q c d
      → IsHeld (with_bearer way ue bearer c b r) ue q (record c { bearers = put bearer_cmp c.bearers bearer b }) d
  others_stay ue bearer c r b d q is far held = record {
    context = find-put-same ue_total r.contexts ue (record c { bearers = put bearer_cmp c.bearers bearer b });
    there = find-put-other bearer_total c.bearers bearer b q far ∙ held.there;
  }

  pub terminals_stay : (ue x : UeId) (bearer q : BearerId) (c e : DuContext) (r : Du M C) (b d : DuBearer)
      → eq_by_cmp ue_cmp x ue ≡ false → IsHeld r x q e d → IsHeld (with_bearer way ue bearer c b r) x q e d
  terminals_stay ue x bearer q c e r b d far held = record {
    context = find-put-other ue_total r.contexts ue (record c { bearers = put bearer_cmp c.bearers bearer b }) x far ∙ held.context;
    there = held.there;
  }

  -- ---- what is told

  module _ (ue : UeId) (bearer : BearerId) (b : DuBearer) where
    tells : (poll : Bool) (number : ℕ) (g : Bool) → nat_lt b.awaited number ≡ g
        → told {M = M} way ue bearer b poll number
        ≡ (if g || poll then packet b.up b.uplink ue bearer Dl Absent (status (if g then (b.awaited, number - 1) ∷ [] else []) None) ∷ [] else [])
    tells poll number g is i =
        if is i || poll then packet b.up b.uplink ue bearer Dl Absent (status (if is i then (b.awaited, number - 1) ∷ [] else []) None) ∷ [] else []

    pub tells_loss : (poll : Bool) (number : ℕ) → nat_lt b.awaited number ≡ true
        → told way ue bearer b poll number ≡ packet b.up b.uplink ue bearer Dl Absent (status ((b.awaited, number - 1) ∷ []) None) ∷ []
    tells_loss poll number is = tells poll number true is

    pub answers_poll : (number : ℕ) → nat_lt b.awaited number ≡ false
        → told way ue bearer b true number ≡ packet b.up b.uplink ue bearer Dl Absent (status [] None) ∷ []
    answers_poll number is = tells true number false is

    pub tells_nothing : (number : ℕ) → nat_lt b.awaited number ≡ false → told {M = M} way ue bearer b false number ≡ []
    tells_nothing number is = tells false number false is

  -- ---- what comes up

  module _ (r : Du M C) (ue : UeId) (bearer : BearerId) (c : DuContext) (b : DuBearer) (held : IsHeld r ue bearer c b) where
    row_is : (row : DuContext → DuBearer → Answer M P (Du M C)) → of_context way r row bearer (context_of r ue) ≡ row c b
    row_is row = ap (of_context way r row bearer) held.context ∙ ap (of_bearer way r row c) held.there

    pub passes_is : (pdu : P) → pass_up way ue bearer pdu r ≡ puts (packet b.up b.uplink ue bearer Ul Same (uplink pdu)) r
    unfolding pass_up
    passes_is pdu = row_is (λ d e. puts (packet e.up e.uplink ue bearer Ul Same (uplink pdu)) r)

    confirm_is : (pdu : P) → confirm way ue bearer pdu r ≡ confirmed way ue bearer r b (way.number c.sn pdu)
    unfolding confirm
    confirm_is pdu = row_is (λ d e. confirmed way ue bearer r e (way.number d.sn pdu))

    pub confirms_number : (pdu : P) (number : ℕ) → way.number c.sn pdu ≡ Some number
        → confirm way ue bearer pdu r ≡ puts (packet b.up b.uplink ue bearer Dl Same (status [] (Some number))) r
    confirms_number pdu number is = confirm_is pdu ∙ ap (confirmed way ue bearer r b) is

    pub confirms_nothing : (pdu : P) → way.number c.sn pdu ≡ None → confirm way ue bearer pdu r ≡ nothing r
    confirms_nothing pdu is = confirm_is pdu ∙ ap (confirmed way ue bearer r b) is
