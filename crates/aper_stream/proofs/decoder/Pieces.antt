-- One more piece.
use Rattle.std.proofs.Common.{◌≡◌, ℕ, ◌-◌, ◌/◌, List, ◌++◌, length, take, Result, Ok, Err, refl, sym, ap, subst, ◌∙◌, arith, length-append}
use Rattle.std.specs.Prelude.{IfOk}
use Rattle.asn1_syntax.specs.declared.assignments.assignment.Syntax.{Syntax}
use Rattle.gnb_types.specs.declared.items.Memory.{Memory}
use Rattle.aper_defs.specs.declared.reason.Reason.{Reason}
use Rattle.aper_defs.specs.declared.reason.Reason.TheVariants as reasons
use Rattle.aper_defs.specs.Trees.{Tree}
use Rattle.aper_defs.specs.Reading.{Fault}
use Rattle.aper_defs.specs.feeding_defs.Feeding.{Stage, stage, stage_of, whole, cut, wrong, refused_for}
use Rattle.aper_stream.proofs.aper_resuming.Turned.{with_more}
use Rattle.aper_values.specs.types.Types.{tree}
use Rattle.aper_values.specs.Views.{view}
use Rattle.aper_frames.specs.declared.frame.Frame.{Frame}
use Rattle.aper_frames.specs.Frames.{path_of}
use Rattle.aper_stream.specs.declared.steps.step.Next.{Next}
use Rattle.aper_stream.specs.steps.Steps.{next_left}
use Rattle.aper_stream.specs.declared.decoder.spot.Spot.{Spot}
use Rattle.aper_stream.specs.declared.decoder.turns.End.{End}
use Rattle.aper_stream.specs.declared.decoder.turns.End.TheVariants as ends
use Rattle.aper_stream.specs.declared.decoder.decoder.Reader.{Reader}
use Rattle.aper_stream.specs.declared.decoder.decoder.State.{State}
use Rattle.aper_stream.specs.declared.decoder.decoder.State.TheVariants as states
use Rattle.aper_stream.specs.decoder.inside.Reading.{cursor_at, Stands, IsReadingAt, IsEnd, StandsThen}
use Rattle.aper_stream.specs.decoder.inside.States.{type_of, front, IsFed, IsSameType, PieceEnds, Ends, StateAfter, ReadsPiece}
use Rattle.aper_stream.proofs.decoder.Front.{front_stage, more_front, front_grows, front_short}

module _ (m : Syntax) (t : Tree) (kept piece octets : List ℕ) (is : octets ≡ front (kept ++ piece)) (spot : Spot) (next : Next) (fs : List Frame) where
  pub more_stands : Stands m (length (front kept)) spot next fs → Stands m (length octets) spot next fs
  more_stands s = record {
    inside = (s.inside.0, omega (arith, s.inside.1, front_grows 131073 kept piece, ap length is));
    light = s.light;
    bounded = s.bounded;
  }

  pub more_reading : IsReadingAt m t (front kept) spot next fs → IsReadingAt m t octets spot next fs
  more_reading r =
      subst (λ (os : List ℕ). IsReadingAt m t os spot next fs) (sym (is ∙ more_front 131073 kept piece))
      (with_more t (front kept) (cursor_at spot (front kept)) (next_left (tree m) next fs) r (take (131073 - length kept) piece))

-- where turns ended
pub piece_ends : (r : Reader) (octets : List ℕ) (before : Tree → Type 0) (result : Result End Memory) → octets ≡ front r.kept.items
    → before (type_of r)
    → IfOk result (λ end. (t : Tree) → before t → IsEnd r.module.now t octets r.spot r.frames end)
    → IfOk result (StandsThen r.module.now (length octets) r.spot r.frames) → IfOk result (PieceEnds r)
piece_ends r octets before (Ok end) is b h k = record {
  is = subst (λ (os : List ℕ). IsEnd r.module.now (type_of r) os r.spot r.frames end) is (h (type_of r) b);
  stands = subst (λ (os : List ℕ). StandsThen r.module.now (length os) r.spot r.frames end) is k;
}
piece_ends r octets before (Err e) is b h k = tt

refused_cut : (reason : Reason) (fault : Fault) → reason ≡ reasons.Truncated → refused_for reason fault ≡ cut fault
refused_cut reason fault e = ap (λ (r : Reason). refused_for r fault) e

refused_wrong : (reason : Reason) (fault : Fault) → (reason ≡ reasons.Truncated → ⊥) → refused_for reason fault ≡ wrong fault
refused_wrong reasons.Truncated fault h = absurd (h refl)
refused_wrong reasons.Padding fault h = refl
refused_wrong reasons.Range fault h = refl
refused_wrong reasons.NotMinimal fault h = refl
refused_wrong reasons.Index fault h = refl
refused_wrong reasons.Length fault h = refl
refused_wrong reasons.Character fault h = refl
refused_wrong reasons.Overrun fault h = refl
refused_wrong reasons.Tail fault h = refl
refused_wrong reasons.Required fault h = refl
refused_wrong reasons.Order fault h = refl
refused_wrong reasons.TooLong fault h = refl
refused_wrong reasons.EmptyAdditions fault h = refl

module _ (old new : Reader) (piece : List ℕ) (same : IsSameType old new) (kept : new.kept.items ≡ old.kept.items ++ piece) where
  pub same_type : type_of new ≡ type_of old
  same_type = ap (λ m. tree m new.id.number) same.0 ∙ ap (λ id. tree old.module.now id.number) same.1

  staged : (s : Stage) → stage (type_of new) (front new.kept.items) ≡ s → stage (type_of old) (old.kept.items ++ piece) ≡ s
  staged s h =
      ap (stage (type_of old)) (sym kept)
      ∙ ap (λ (t : Tree). stage t new.kept.items) (sym same_type)
      ∙ sym (front_stage (type_of new) new.kept.items) ∙ h

  pub reads_piece : (end : End) (state : State) → PieceEnds new end → StateAfter (length old.kept.items) end state
      → ReadsPiece old piece new state
  reads_piece (ends.Whole v place) (states.Done w used) e h = record {
    size = place / 8;
    is = staged (whole (view w) (place / 8)) (ap stage_of e.is.is ∙ ap (λ x. whole (view x) (place / 8)) (sym h.0));
    used_is = h.1;
    within = omega (arith, e.stands, h.1, front_short new.kept.items, ap length kept, length-append old.kept.items piece);
  }
  reads_piece (ends.Whole v place) (states.Reading n) e h = absurd h
  reads_piece (ends.Whole v place) (states.Refused b r) e h = absurd h
  reads_piece (ends.Whole v place) states.Failed e h = absurd h
  reads_piece (ends.Wrong bit reason next) (states.Reading n) e h =
      let fault : Fault = record { bit = bit; reason = reason; path = path_of new.frames } in
      record {
        fault = fault;
        is = staged (cut fault) (ap stage_of e.is.0 ∙ refused_cut reason fault h.0);
        kept = kept;
        fed = subst (IsFed new) (sym h.1) (record { reading = e.is.1; stands = e.stands });
      }
  reads_piece (ends.Wrong bit reason next) (states.Refused b r) e h =
      let fault : Fault = record { bit = bit; reason = reason; path = path_of new.frames } in
      staged _ (ap stage_of e.is.0 ∙ refused_wrong reason fault h.2
      ∙ ap (λ (n : ℕ). wrong (record { bit = n; reason = reason; path = path_of new.frames })) (sym h.0)
      ∙ ap (λ (x : Reason). wrong (record { bit = b; reason = x; path = path_of new.frames })) (sym h.1))
  reads_piece (ends.Wrong bit reason next) (states.Done w used) e h = absurd h
  reads_piece (ends.Wrong bit reason next) states.Failed e h = absurd h
