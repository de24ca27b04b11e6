-- What the ends of uplinks come to.
use Rattle.std.proofs.Common.{◌≡◌, ◌==◌, ℕ, suc, ◌+◌, ◌<◌, Bool, true, false, cond, not, ◌&&◌, ◌||◌, List, [], ◌∷◌, ◌++◌, length, filter, get_or, drop, Option, Some, None, refl, sym, ap, ◌∙◌, append_assoc, arith}
use Rattle.std.proofs.lemmas.Bool.Decides.{nat_tests}
use Rattle.std.proofs.Math.Seq.{drop-cons}
use Rattle.gnb_types.specs.declared.names.Dir.TheVariants.{Ul}
use Rattle.gnb_types.specs.declared.outputs.Output.{Output}
use Rattle.gnb_types.specs.declared.outputs.Output.TheVariants as outs
use Rattle.gnb_types.specs.declared.outputs.Tag.TheVariants.{Absent}
use Rattle.gnb_types.specs.declared.reasons.DropReason.TheVariants.{Unexpected}
use Rattle.unit_defs.specs.Ways.{nothing, drops, closed, end_marker}
use Rattle.unit_defs.specs.CuUpRecords.{CuUpBearer}
use Rattle.unit_defs.specs.CuUpBearers.{no_uplink}
use Rattle.unit_defs.specs.CuUpItems.{up_hop_ends_if, uplink_ended, up_ended}
use Rattle.unit_defs.specs.octet_defs.Codec.{Codec, octet_way}
use Rattle.unit_defs.specs.octet_defs.Units.{OctetAnswer}
use Rattle.unit_messages.specs.steps.Steps.{step_after}
use Rattle.unit_messages.proofs.steps.StepLaws.{step_with}
use Rattle.cu_up_bearer.specs.declared.tunnels.at.Scope.{Scope}
use Rattle.cu_up_bearer.specs.declared.tunnels.hop.Hop.{Hop}
use Rattle.cu_up_bearer.specs.tunnels.Tunnels.{at_as, hop_as}
use Rattle.cu_up_items.specs.packets.Passing.{passed_on}

-- ---- no uplink is left

pub none_left : (teids : List ℕ) → (length teids == 0) ≡ no_uplink teids
none_left [] = refl
none_left (t ∷ ts) =
    let some : (length (t ∷ ts) == 0) ≡ false = grind (arith, nat_tests) in some

-- ---- the hop to the target

module _ (codec : Codec) (a : Scope) (b : CuUpBearer) (o : Option Hop) where
  abbrev pub hop_row : OctetAnswer CuUpBearer
  hop_row = up_hop_ends_if (octet_way codec) (at_as a) (hop_as o) b

  pub hop_none : o ≡ None → hop_row ≡ nothing b
  hop_none is = ap (λ (x : Option Hop). up_hop_ends_if (octet_way codec) (at_as a) (hop_as x) b) is

  module _ (h : Hop) (is : o ≡ Some h) where
    abbrev pub due : Bool
    due = not h.up_ended && no_uplink b.uplinks && (not a.flags.target || b.up_ended)

    abbrev pub with_end : CuUpBearer
    with_end = record b { hop = hop_as (Some (record h { up_ended = true })) }

    abbrev pub marker : OctetAnswer CuUpBearer
    marker = passed_on (octet_way codec) Ul (at_as a) Absent end_marker with_end

    hop_is : hop_row ≡ cond due marker (nothing b)
    hop_is = ap (λ (x : Option Hop). up_hop_ends_if (octet_way codec) (at_as a) (hop_as x) b) is

    pub hop_due : due ≡ true → hop_row ≡ marker
    hop_due d = hop_is ∙ ap (λ (t : Bool). cond t marker (nothing b)) d

    pub hop_waits : due ≡ false → hop_row ≡ nothing b
    hop_waits d = hop_is ∙ ap (λ (t : Bool). cond t marker (nothing b)) d

-- ---- each end

module _ (codec : Codec) (a : Scope) (b : CuUpBearer) where
  abbrev pub hop_after : CuUpBearer → OctetAnswer CuUpBearer
  hop_after c = up_hop_ends_if (octet_way codec) (at_as a) c.hop c

  pub up_twice : b.up_ended ≡ true → up_ended (octet_way codec) (at_as a) b ≡ drops Unexpected b
  unfolding up_ended
  up_twice is = ap (λ (t : Bool). cond t (drops Unexpected b) (hop_after (record b { up_ended = true }))) is

  pub up_once : b.up_ended ≡ false → up_ended (octet_way codec) (at_as a) b ≡ hop_after (record b { up_ended = true })
  unfolding up_ended
  up_once is = ap (λ (t : Bool). cond t (drops Unexpected b) (hop_after (record b { up_ended = true }))) is

  pub closes_uplink : (before : List Output) (teid : ℕ) → step_after before (uplink_ended (octet_way codec) (at_as a) teid b)
      ≡ step_after (before ++ outs.Closed teid ∷ []) (hop_after (record b { uplinks = filter (λ t. not (t == teid)) b.uplinks }))
  unfolding uplink_ended
  closes_uplink before teid = step_with before (closed teid ∷ []) (hop_after (record b { uplinks = filter (λ t. not (t == teid)) b.uplinks }))

-- ---- one TEID is left out

module _ (teid : ℕ) where
  abbrev pub others : List ℕ → List ℕ
  others ts = filter (λ t. not (t == teid)) ts

  module _ (left ts : List ℕ) (i d : ℕ) (within : i < length ts) where
    rest_is : others (drop i ts) ≡ cond (not (get_or ts i d == teid)) (get_or ts i d ∷ others (drop (suc i) ts)) (others (drop (suc i) ts))
    rest_is = ap others (drop-cons ts i d within)

    pub other_stays : not (get_or ts i d == teid) ≡ true → (left ++ get_or ts i d ∷ []) ++ others (drop (suc i) ts) ≡ left ++ others (drop i ts)
    other_stays is =
        append_assoc left (get_or ts i d ∷ []) (others (drop (suc i) ts))
        ∙ sym (ap (λ (xs : List ℕ). left ++ xs) (rest_is ∙ ap (λ (b : Bool). cond b (get_or ts i d ∷ others (drop (suc i) ts)) (others (drop (suc i) ts))) is))

    pub this_goes : not (get_or ts i d == teid) ≡ false → left ++ others (drop (suc i) ts) ≡ left ++ others (drop i ts)
    this_goes is =
        sym (ap (λ (xs : List ℕ). left ++ xs) (rest_is ∙ ap (λ (b : Bool). cond b (get_or ts i d ∷ others (drop (suc i) ts)) (others (drop (suc i) ts))) is))
