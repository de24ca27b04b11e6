-- What goes to the target, one packet after another.
use Rattle.std.proofs.Common.{◌≡◌, ℕ, ◌+◌, Bool, true, false, cond, nat_le, List, [], ◌∷◌, ◌++◌, map, length, Option, Some, refl, sym, ap, ◌∙◌, subst, arith, append-nil, append_assoc}
use Rattle.std.specs.List.{AllByRecursion}
use Rattle.gnb_types.specs.declared.names.Dir.{Dir}
use Rattle.gnb_types.specs.declared.names.Dir.TheVariants.{Dl, Ul}
use Rattle.gnb_types.specs.declared.outputs.Output.{Output}
use Rattle.gnb_types.specs.declared.outputs.Output.TheVariants as outs
use Rattle.gnb_types.specs.declared.outputs.Tag.TheVariants.{Absent, Own}
use Rattle.link_defs.specs.Layouts.{forwarded_numbered, forwarded_fresh}
use Rattle.unit_defs.specs.Ways.{fresh, numbered, packet, ◌then◌, with_outputs}
use Rattle.unit_defs.specs.CuUpRecords.{SourceHop, CuUpBearer}
use Rattle.unit_defs.specs.CuUpBearers.{forward_numbered, forward_fresh, forward_late, forwarded_down, forwarded_up, put_down, put_up}
use Rattle.unit_defs.specs.octet_defs.Codec.{Codec, octet_way}
use Rattle.unit_defs.specs.octet_defs.Units.{OctetAnswer}
use Rattle.unit_defs.specs.octet_defs.Writing.{output_of}
use Rattle.unit_messages.specs.steps.Steps.{stepped, step_after}
use Rattle.unit_messages.proofs.steps.StepLaws.{OctetPut, step_with}
use Rattle.pdcp_bearers.specs.ue_bearers.Senders.{from_on, IsPacket}
use Rattle.cu_up_bearer.specs.declared.tunnels.at.Scope.{Scope}
use Rattle.cu_up_bearer.specs.declared.tunnels.hop.Hop.{Hop}
use Rattle.cu_up_bearer.specs.tunnels.Tunnels.{at_as, hop_as, hop_teid}

one_more : (start : List Output) (o : OctetPut) (more : OctetAnswer CuUpBearer) (b : CuUpBearer) (outputs : List Output)
    → ((before : List Output) → step_after before more ≡ stepped (before ++ outputs) b)
    → step_after start (with_outputs (o ∷ []) more) ≡ stepped (start ++ output_of o ∷ outputs) b
one_more start o more b outputs is =
    step_with start (o ∷ []) more ∙ is (start ++ output_of o ∷ [])
    ∙ ap (λ (os : List Output). stepped os b) (append_assoc start (output_of o ∷ []) outputs)

module _ (a : Scope) (h : Hop) where
  -- a packet on the hop, with its COUNT or without one
  abbrev pub counted_output : Dir → ℕ × List ℕ → Output
  counted_output dir e = outs.Packet h.peer (hop_teid h dir) a.ue a.bearer dir (Own e.0) (forwarded_numbered a.sn (hop_teid h dir) e.0 e.1)

  abbrev pub fresh_output : List ℕ → Output
  fresh_output p = outs.Packet h.peer h.down a.ue a.bearer Dl Absent (forwarded_fresh h.down p)

  abbrev pub counted_outputs : Dir → List (ℕ × List ℕ) → List Output
  counted_outputs dir es = map (λ e. counted_output dir e) es

  abbrev pub fresh_outputs : List (List ℕ) → List Output
  fresh_outputs ps = map (λ p. fresh_output p) ps

  pub counted_one : (dir : Dir) (before : List Output) (from count : ℕ) (p : List ℕ) (es : List (ℕ × List ℕ)) → from_on from es ≡ (count, p) ∷ from_on (count + 1) es
      → before ++ counted_outputs dir (from_on from es) ≡ (before ++ counted_output dir (count, p) ∷ []) ++ counted_outputs dir (from_on (count + 1) es)
  counted_one dir before from count p es is =
      ap (λ (xs : List (ℕ × List ℕ)). before ++ counted_outputs dir xs) is
      ∙ sym (append_assoc before (counted_output dir (count, p) ∷ []) (counted_outputs dir (from_on (count + 1) es)))

  pub counted_none : (dir : Dir) (before : List Output) (xs : List (ℕ × List ℕ)) → xs ≡ [] → before ++ counted_outputs dir xs ≡ before
  counted_none dir before xs is = ap (λ (ys : List (ℕ × List ℕ)). before ++ counted_outputs dir ys) is ∙ append-nil before

  pub fresh_none : (before : List Output) (ps : List (List ℕ)) → length ps ≡ 0 → before ++ fresh_outputs ps ≡ before
  fresh_none before [] is = append-nil before
  fresh_none before (p ∷ ps) is = absurd (omega arith)

  -- ---- each row is these outputs

  module _ (codec : Codec) (b : CuUpBearer) (hop_is : b.hop ≡ hop_as (Some h)) where
    pub downs : (es : List (ℕ × List ℕ)) (start : List Output)
        → step_after start (forward_numbered (octet_way codec) (at_as a) es b) ≡ stepped (start ++ counted_outputs Dl es) b
    unfolding forwarded_down
    downs [] start = refl
    downs (e ∷ es) start =
        ap (λ (o : Option SourceHop). step_after start (put_down (octet_way codec) (at_as a) (Own e.0) (numbered a.sn e.0 e.1) b o then forward_numbered (octet_way codec) (at_as a) es)) hop_is
        ∙ one_more start (packet h.peer h.down a.ue a.bearer Dl (Own e.0) (numbered a.sn e.0 e.1)) (forward_numbered (octet_way codec) (at_as a) es b) b (counted_outputs Dl es)
        (downs es)

    pub lates : (es : List (ℕ × List ℕ)) (start : List Output)
        → step_after start (forward_late (octet_way codec) (at_as a) es b) ≡ stepped (start ++ counted_outputs Ul es) b
    unfolding forwarded_up
    lates [] start = refl
    lates (e ∷ es) start =
        ap (λ (o : Option SourceHop). step_after start (put_up (octet_way codec) (at_as a) (Own e.0) (numbered a.sn e.0 e.1) b o then forward_late (octet_way codec) (at_as a) es)) hop_is
        ∙ one_more start (packet h.peer h.up a.ue a.bearer Ul (Own e.0) (numbered a.sn e.0 e.1)) (forward_late (octet_way codec) (at_as a) es b) b (counted_outputs Ul es)
        (lates es)

    pub waiting : (ps : List (List ℕ)) (start : List Output)
        → step_after start (forward_fresh (octet_way codec) (at_as a) ps b) ≡ stepped (start ++ fresh_outputs ps) b
    unfolding forwarded_down
    waiting [] start = refl
    waiting (p ∷ ps) start =
        ap (λ (o : Option SourceHop). step_after start (put_down (octet_way codec) (at_as a) Absent (fresh p) b o then forward_fresh (octet_way codec) (at_as a) ps)) hop_is
        ∙ one_more start (packet h.peer h.down a.ue a.bearer Dl Absent (fresh p)) (forward_fresh (octet_way codec) (at_as a) ps b) b (fresh_outputs ps) (waiting ps)

-- ---- what holds of all, from a COUNT on

all_from_on : (P : ℕ × List ℕ → Type 0) (from : ℕ) (es : List (ℕ × List ℕ)) → AllByRecursion P es → AllByRecursion P (from_on from es)
all_from_on P from [] all = tt
all_from_on P from (e ∷ es) all = by (nat_le from e.0) (all_from_on P from es all.1)
  where
    by : (b : Bool) → AllByRecursion P (from_on from es) → AllByRecursion P (cond b (e ∷ from_on from es) (from_on from es))
    by true later = (all.0, later)
    by false later = later

pub first_packet : (from : ℕ) (es more : List (ℕ × List ℕ)) (count : ℕ) (p : List ℕ) → AllByRecursion (λ e. IsPacket e.1) es
    → from_on from es ≡ (count, p) ∷ more → IsPacket p
first_packet from es more count p all is =
    (subst (λ (xs : List (ℕ × List ℕ)). AllByRecursion (λ e. IsPacket e.1) xs) is (all_from_on (λ e. IsPacket e.1) from es all)).0
