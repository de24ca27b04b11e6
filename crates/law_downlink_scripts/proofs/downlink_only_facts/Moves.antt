-- What an event tells of a bearer, and how it moves on then.
use Rattle.std.proofs.Common.{◌≡◌, ℕ, ◌+◌, Bool, true, false, List, [], ◌∷◌, ◌++◌, length, Option, Some, None, refl, sym, ap, ◌∙◌, subst, arith}
use Rattle.std.specs.Prelude.{if◌then◌else◌}
use Rattle.std.specs.List.{flat_map, list_any, range_with_len, AllByRecursion}
use Rattle.std.proofs.lemmas.List.{append-nil}
use Rattle.gnb_types.specs.declared.names.NodeId.{NodeId}
use Rattle.gnb_types.specs.declared.names.UeId.{UeId}
use Rattle.gnb_types.specs.declared.names.BearerId.{BearerId}
use Rattle.gnb_types.specs.declared.names.Dir.TheVariants.{Dl}
use Rattle.message_types.specs.declared.rrc.Token.{Token}
use Rattle.scenario_text.specs.declared.event.Event.{Event}
use Rattle.unit_defs.specs.Ways.{Message, Pdu, Load}
use Rattle.run_defs.specs.Lines.{RunLine, put_item, got_item, put_message, got_message, delivers, lost_items, lost_message, drops_input, held_at, procedure_failed, is_quiet, is_busy, has_settled, has_not_settled, was_refused}
use Rattle.run_defs.specs.Written.{Written}
use Rattle.run_defs.specs.States.{Stop, goes, stops, told_before, Within, Outcome, RunStep, as_step, entity}
use Rattle.run_defs.specs.Steps.{first_outstanding, entities_of, checked_by, check_spans}
use Rattle.run_defs.specs.Said.{is_refusal, lines_in, offered_by, packets_of, counts_of}
use Rattle.law_downlink_scripts.proofs.downlink_only_facts.Views.{PlainState, Stage}

abbrev pub Line : Type 0
Line = RunLine (Message Token)

abbrev pub PlainStep : Type 0
PlainStep = RunStep (Message Token)

abbrev pub PlainOutcome : Type 0
PlainOutcome = Outcome (Message Token) Token (Written (Load Pdu)) (Written Pdu)

abbrev pub PlainWithin : Type 0
PlainWithin = Within (Message Token) Token (Written (Load Pdu)) (Written Pdu)

-- a line that delivers nothing
abbrev pub IsMute : Line → Type 0
IsMute (delivers key count packet) = ⊥
IsMute line = Unit {0}

abbrev pub AreMute : List Line → Type 0
AreMute lines = AllByRecursion IsMute lines

pub mute_and : (xs ys : List Line) → AreMute xs → AreMute ys → AreMute (xs ++ ys)
mute_and [] ys p q = q
mute_and (x ∷ xs) ys p q = (p.0, mute_and xs ys p.1 q)

module _ (ue : UeId) (bearer : BearerId) where
  abbrev pub packets_in : List Line → List (List ℕ)
  packets_in lines = flat_map (packets_of (entity ue bearer Dl)) lines

  abbrev pub counts_in : List Line → List ℕ
  counts_in lines = flat_map (counts_of (entity ue bearer Dl)) lines

  -- n packets were delivered before, and these left; more are offered, and after the lines these are left
  pub record Moves (n : ℕ) (left offered : List (List ℕ)) (lines : List Line) (m : ℕ) (then_left : List (List ℕ)) : Type 0 where
    pub packets : packets_in lines ++ then_left ≡ left ++ offered
    pub counts : counts_in lines ≡ range_with_len n (length (packets_in lines))
    pub further : m ≡ n + length (packets_in lines)

  -- what a line of a step tells
  mute_packets : (lines : List Line) → AreMute lines → packets_in lines ≡ []
  mute_packets [] p = refl
  mute_packets (put_item link item ∷ lines) p = mute_packets lines p.1
  mute_packets (got_item link item ∷ lines) p = mute_packets lines p.1
  mute_packets (put_message number l ∷ lines) p = mute_packets lines p.1
  mute_packets (got_message number l ∷ lines) p = mute_packets lines p.1
  mute_packets (delivers key count packet ∷ lines) p = absurd p.0
  mute_packets (lost_items link items ∷ lines) p = mute_packets lines p.1
  mute_packets (lost_message number ∷ lines) p = mute_packets lines p.1
  mute_packets (drops_input node reason ∷ lines) p = mute_packets lines p.1
  mute_packets (held_at link reason ∷ lines) p = mute_packets lines p.1
  mute_packets (procedure_failed node who cause ∷ lines) p = mute_packets lines p.1
  mute_packets (is_quiet who b downlink uplink ∷ lines) p = mute_packets lines p.1
  mute_packets (is_busy who b ∷ lines) p = mute_packets lines p.1
  mute_packets (has_settled rounds ∷ lines) p = mute_packets lines p.1
  mute_packets (has_not_settled rounds ∷ lines) p = mute_packets lines p.1
  mute_packets (was_refused reason ∷ lines) p = mute_packets lines p.1

  mute_counts : (lines : List Line) → AreMute lines → counts_in lines ≡ []
  mute_counts [] p = refl
  mute_counts (put_item link item ∷ lines) p = mute_counts lines p.1
  mute_counts (got_item link item ∷ lines) p = mute_counts lines p.1
  mute_counts (put_message number l ∷ lines) p = mute_counts lines p.1
  mute_counts (got_message number l ∷ lines) p = mute_counts lines p.1
  mute_counts (delivers key count packet ∷ lines) p = absurd p.0
  mute_counts (lost_items link items ∷ lines) p = mute_counts lines p.1
  mute_counts (lost_message number ∷ lines) p = mute_counts lines p.1
  mute_counts (drops_input node reason ∷ lines) p = mute_counts lines p.1
  mute_counts (held_at link reason ∷ lines) p = mute_counts lines p.1
  mute_counts (procedure_failed node who cause ∷ lines) p = mute_counts lines p.1
  mute_counts (is_quiet who b downlink uplink ∷ lines) p = mute_counts lines p.1
  mute_counts (is_busy who b ∷ lines) p = mute_counts lines p.1
  mute_counts (has_settled rounds ∷ lines) p = mute_counts lines p.1
  mute_counts (has_not_settled rounds ∷ lines) p = mute_counts lines p.1
  mute_counts (was_refused reason ∷ lines) p = mute_counts lines p.1

  -- where nothing is delivered
  pub still : (n : ℕ) (left offered : List (List ℕ)) (lines : List Line) → packets_in lines ≡ [] → counts_in lines ≡ []
      → Moves n left offered lines n (left ++ offered)
  still n left offered lines p c = record {
    packets = ap (λ (ps : List (List ℕ)). ps ++ (left ++ offered)) p;
    counts = c ∙ ap (λ (ps : List (List ℕ)). range_with_len n (length ps)) (sym p);
    further = let e : n ≡ n + 0 = omega arith in e ∙ ap (λ (ps : List (List ℕ)). n + length ps) (sym p);
  }

  pub mute_moves : (n : ℕ) (left offered : List (List ℕ)) (lines : List Line) → AreMute lines → Moves n left offered lines n (left ++ offered)
  mute_moves n left offered lines p = still n left offered lines (mute_packets lines p) (mute_counts lines p)

  -- ---- an event: the packets that it offers, unless it is refused

  abbrev pub offered_here : Event → List PlainStep → List (List ℕ)
  offered_here event steps = if list_any is_refusal (lines_in steps) then [] else offered_by (entity ue bearer Dl) event

  -- how a bearer is after an event; where the run stops, what it told
  pub record Comes (n : ℕ) (left : List (List ℕ)) (offered : List (List ℕ)) (lines : List Line) (t : PlainState) : Type 0 where
    pub further : ℕ
    pub then_left : List (List ℕ)
    pub moves : Moves n left offered lines further then_left
    pub stage : Stage t ue bearer further then_left

  pub record Ends (n : ℕ) (left : List (List ℕ)) (offered : List (List ℕ)) (lines : List Line) : Type 0 where
    pub further : ℕ
    pub then_left : List (List ℕ)
    pub moves : Moves n left offered lines further then_left

  abbrev pub Fares : Event → ℕ → List (List ℕ) → PlainOutcome → Type 0
  Fares event n left (goes steps t) = Comes n left (offered_here event steps) (lines_in steps) t
  Fares event n left (stops steps why) = Ends n left (offered_here event steps) (lines_in steps)

  ends : (n : ℕ) (left offered : List (List ℕ)) (lines : List Line) (t : PlainState) → Comes n left offered lines t → Ends n left offered lines
  ends n left offered lines t c = record { further = c.further; then_left = c.then_left; moves = c.moves }

  -- a step of these lines, after which the spans are looked at
  pub step_fares : (event : Event) (actor : Option NodeId) (n : ℕ) (left : List (List ℕ)) (lines : List Line) (t : PlainState)
      → Comes n left (offered_here event (record { actor = actor; lines = lines } ∷ [])) lines t
      → Fares event n left (as_step actor (told_before lines (check_spans t)))
  unfolding check_spans
  step_fares event actor n left lines t c = by (first_outstanding t (flat_map entities_of t.plans))
    where
      Told : List Line → Type 0
      Told ls = Comes n left (if list_any is_refusal (ls ++ []) then [] else offered_by (entity ue bearer Dl) event) (ls ++ []) t

      in_step : Told lines
      in_step =
          subst (λ (ls : List Line). Comes n left (if list_any is_refusal (lines ++ []) then [] else offered_by (entity ue bearer Dl) event) ls t)
          (sym (append-nil lines)) c

      in_lines : Told (lines ++ [])
      in_lines = subst Told (sym (append-nil lines)) in_step

      by : (o : Option Stop) → Fares event n left (as_step actor (told_before lines (checked_by t o)))
      by None = in_lines
      by (Some why) = ends n left _ _ t in_lines

  -- without more: what is printed, and a stop at once
  pub printed : (event : Event) (actor : Option NodeId) (n : ℕ) (left : List (List ℕ)) (lines : List Line) (t : PlainState)
      → Comes n left (offered_here event (record { actor = actor; lines = lines } ∷ [])) lines t
      → Fares event n left (goes (record { actor = actor; lines = lines } ∷ []) t)
  printed event actor n left lines t c =
      subst (λ (ls : List Line). Comes n left (if list_any is_refusal (lines ++ []) then [] else offered_by (entity ue bearer Dl) event) ls t)
      (sym (append-nil lines)) c

  -- an event that offers nothing
  pub offers_none : (event : Event) → offered_by (entity ue bearer Dl) event ≡ [] → (steps : List PlainStep) → offered_here event steps ≡ []
  offers_none event none steps = by (list_any is_refusal (lines_in steps))
    where
      by : (t : Bool) → (if t then [] else offered_by (entity ue bearer Dl) event) ≡ []
      by true = refl
      by false = none

  -- where nothing is offered and nothing delivered
  pub still_comes : (event : Event) → offered_by (entity ue bearer Dl) event ≡ [] → (steps : List PlainStep) (n : ℕ) (left : List (List ℕ)) (lines : List Line)
      (t : PlainState) → AreMute lines → Stage t ue bearer n left → Comes n left (offered_here event steps) lines t
  still_comes event none steps n left lines t mute stage =
      subst (λ (xs : List (List ℕ)). Comes n left xs lines t) (sym (offers_none event none steps)) (record {
        further = n;
        then_left = left ++ [];
        moves = mute_moves n left [] lines mute;
        stage = subst (λ (ps : List (List ℕ)). Stage t ue bearer n ps) (sym (append-nil left)) stage;
      })
