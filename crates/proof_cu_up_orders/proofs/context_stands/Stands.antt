-- A bearer has its hop exactly while it is frozen, and stays in one context.
use Rattle.std.proofs.Common.{◌≡◌, ℕ, Bool, true, false, List, [], ◌∷◌, Option, Some, None, refl, sym, true≢false}
use Rattle.gnb_types.specs.declared.names.UeId.{UeId}
use Rattle.gnb_types.specs.declared.names.BearerId.{BearerId}
use Rattle.gnb_types.specs.declared.outputs.Tag.TheVariants.{Absent}
use Rattle.unit_defs.specs.Ways.{Output, Way, Answer, gives, spent, with_outputs, ◌then◌, nothing}
use Rattle.unit_defs.specs.CuUpRecords.{CuUpBearer}
use Rattle.unit_defs.specs.CuUpBearers.{made, with_uplink, switched, frozen_to, with_status, resumed, framed}
use Rattle.unit_defs.specs.CuUpItems.{took}
use Rattle.proof_cu_up_orders.specs.context_orders.Orders.{CuUpModel, ContextStep, makes, adds, switches, freezes, knows, resumes, releases, closes, takes, polls, on_switch, on_freeze, on_status, on_resume, kept_in, begun, done, carried}
use Rattle.proof_cu_up_orders.specs.context_tests.Tests.{IsTested, IsBegun, EndsAfter, AreTested}
use Rattle.proof_cu_up_orders.specs.context_stands.Stands.{Stands, StandsIn, StandsAfter, IsSame, SameAfter}
use Rattle.proof_cu_up_orders.proofs.context_stands.Hops.{HopIs, hop_framed, hop_uplink, hop_status, hop_after_freeze, hop_after_switch, hop_after_resume, hop_took}

module _ {M C P : Type 0} (way : Way M C P) (ue : UeId) (bearer : BearerId) where
  abbrev Model : Type 0
  Model = Option CuUpModel

  -- a row that leaves the hop as the flags say
  kept_stands : (q : CuUpModel) (a : Answer M P CuUpBearer) → (q.at.flags.frozen ≡ true → q.at.flags.may_serve ≡ true)
      → (q.at.flags.frozen ≡ true → q.at.flags.arrived ≡ true) → HopIs way q.at.flags.frozen a → StandsAfter (kept_in q a)
  kept_stands q (gives os d) status arrived hop = record { hop = hop; status = status; arrived = arrived }
  kept_stands q (spent k) status arrived hop = tt

  done_stands : (final : Bool) (o : ContextStep P) (p : CuUpModel) → IsTested final p o → Stands p → StandsAfter (done way o p)
  done_stands final (makes instance sn quota target teid) p tested s = s
  done_stands final (adds teid) p tested s =
      kept_stands p (with_uplink way teid p.bearer) s.status s.arrived (hop_uplink way p.at p.at.flags.frozen teid p.bearer s.hop)
  done_stands final (switches du teid) p tested s =
      let on = on_switch p in
      kept_stands on (switched way on.at du teid p.bearer) (λ e. absurd (true≢false (sym e))) (λ e. absurd (true≢false (sym e)))
      (hop_after_switch way on.at false du teid p.bearer refl)
  done_stands final (freezes peer down up) p tested s =
      let on = on_freeze p in
      kept_stands on (frozen_to way on.at peer down up p.bearer) (λ e. tested.3) (λ e. tested.2) (hop_after_freeze way on.at true peer down up p.bearer refl)
  done_stands final (knows status) p tested s =
      let on = on_status p in
      kept_stands on (with_status way on.at status p.bearer) (λ e. refl) s.arrived (hop_status way on.at p.at.flags.frozen status p.bearer s.hop)
  done_stands final resumes p tested s =
      let on = on_resume p in
      kept_stands on (resumed way on.at p.bearer) (λ e. absurd (true≢false (sym e))) (λ e. absurd (true≢false (sym e)))
      (hop_after_resume way on.at false p.bearer refl)
  done_stands final releases p tested s = record { hop = s.hop; status = s.status; arrived = s.arrived }
  done_stands final closes p tested s = tt
  done_stands final (takes kind teid item) p tested s =
      kept_stands p (took way p.at kind teid item p.bearer) s.status s.arrived (hop_took way p.at p.at.flags.frozen kind teid item p.bearer s.hop)
  done_stands final polls p tested s =
      kept_stands p (framed way p.at true false None Absent p.bearer) s.status s.arrived
      (hop_framed way p.at p.at.flags.frozen true false None Absent p.bearer s.hop)

  begun_stands : (o : ContextStep P) → StandsIn (begun ue bearer o)
  unfolding made
  begun_stands (makes instance sn quota target teid) =
      record { hop = refl; status = λ e. absurd (true≢false (sym e)); arrived = λ e. absurd (true≢false (sym e)) }
  begun_stands (adds teid) = tt
  begun_stands (switches du teid) = tt
  begun_stands (freezes peer down up) = tt
  begun_stands (knows status) = tt
  begun_stands resumes = tt
  begun_stands releases = tt
  begun_stands closes = tt
  begun_stands (takes kind teid item) = tt
  begun_stands polls = tt

  -- ---- and the end then at most

  with_stands : (os : List (Output M P)) (a : Answer M P Model) → StandsAfter a → StandsAfter (with_outputs os a)
  with_stands os (gives more q) h = h
  with_stands os (spent k) h = tt

  then_ends : (os : List (ContextStep P)) (a : Answer M P Model) → EndsAfter os a → StandsAfter a → StandsAfter (a then carried way ue bearer os)
  then_ends os (spent k) ends h = tt
  then_ends [] (gives outputs q) ends h = h
  then_ends (closes ∷ []) (gives outputs None) ends h = tt
  then_ends (closes ∷ []) (gives outputs (Some q)) ends h = tt
  then_ends (closes ∷ o ∷ os) (gives outputs q) ends h = absurd ends
  then_ends (makes instance sn quota target teid ∷ os) (gives outputs q) ends h = absurd ends
  then_ends (adds teid ∷ os) (gives outputs q) ends h = absurd ends
  then_ends (switches du teid ∷ os) (gives outputs q) ends h = absurd ends
  then_ends (freezes peer down up ∷ os) (gives outputs q) ends h = absurd ends
  then_ends (knows status ∷ os) (gives outputs q) ends h = absurd ends
  then_ends (resumes ∷ os) (gives outputs q) ends h = absurd ends
  then_ends (releases ∷ os) (gives outputs q) ends h = absurd ends
  then_ends (takes kind teid item ∷ os) (gives outputs q) ends h = absurd ends
  then_ends (polls ∷ os) (gives outputs q) ends h = absurd ends

  pub stand : (final : Bool) (next : ℕ) (os : List (ContextStep P)) (p : Model) → AreTested way ue bearer final next os p → StandsIn p
      → StandsAfter (carried way ue bearer os p)
  stand final next [] p tested h = h
  stand final next (o ∷ os) None tested h = then_ends os (nothing (begun ue bearer o)) tested.1 (begun_stands o)
  stand final next (o ∷ os) (Some p) tested h = then_ends os (done way o p) tested.1 (done_stands final o p tested.0 h)

  -- ---- one context

  kept_same : (next : ℕ) (p q : CuUpModel) (a : Answer M P CuUpBearer) → q.instance ≡ p.instance → SameAfter next (Some p) (kept_in q a)
  kept_same next p q (gives os d) same = same
  kept_same next p q (spent k) same = tt

  done_same : (next : ℕ) (o : ContextStep P) (p : CuUpModel) → SameAfter next (Some p) (done way o p)
  done_same next (makes instance sn quota target teid) p = refl
  done_same next (adds teid) p = kept_same next p p (with_uplink way teid p.bearer) refl
  done_same next (switches du teid) p = kept_same next p (on_switch p) (switched way (on_switch p).at du teid p.bearer) refl
  done_same next (freezes peer down up) p = kept_same next p (on_freeze p) (frozen_to way (on_freeze p).at peer down up p.bearer) refl
  done_same next (knows status) p = kept_same next p (on_status p) (with_status way (on_status p).at status p.bearer) refl
  done_same next resumes p = kept_same next p (on_resume p) (resumed way (on_resume p).at p.bearer) refl
  done_same next releases p = refl
  done_same next closes p = tt
  done_same next (takes kind teid item) p = kept_same next p p (took way p.at kind teid item p.bearer) refl
  done_same next polls p = kept_same next p p (framed way p.at true false None Absent p.bearer) refl

  begun_same : (next : ℕ) (o : ContextStep P) → IsBegun next o → IsSame next None (begun ue bearer o)
  begun_same next (makes instance sn quota target teid) is = is
  begun_same next (adds teid) is = tt
  begun_same next (switches du teid) is = tt
  begun_same next (freezes peer down up) is = tt
  begun_same next (knows status) is = tt
  begun_same next resumes is = tt
  begun_same next releases is = tt
  begun_same next closes is = tt
  begun_same next (takes kind teid item) is = tt
  begun_same next polls is = tt

  none_then : (next : ℕ) (p : Model) → IsSame next p None
  none_then next None = tt
  none_then next (Some p) = tt

  same_then : (next : ℕ) (p : Model) (os : List (ContextStep P)) (a : Answer M P Model) → EndsAfter os a → SameAfter next p a
      → SameAfter next p (a then carried way ue bearer os)
  same_then next p os (spent k) ends h = tt
  same_then next p [] (gives outputs q) ends h = h
  same_then next p (closes ∷ []) (gives outputs None) ends h = none_then next p
  same_then next p (closes ∷ []) (gives outputs (Some q)) ends h = none_then next p
  same_then next p (closes ∷ o ∷ os) (gives outputs q) ends h = absurd ends
  same_then next p (makes instance sn quota target teid ∷ os) (gives outputs q) ends h = absurd ends
  same_then next p (adds teid ∷ os) (gives outputs q) ends h = absurd ends
  same_then next p (switches du teid ∷ os) (gives outputs q) ends h = absurd ends
  same_then next p (freezes peer down up ∷ os) (gives outputs q) ends h = absurd ends
  same_then next p (knows status ∷ os) (gives outputs q) ends h = absurd ends
  same_then next p (resumes ∷ os) (gives outputs q) ends h = absurd ends
  same_then next p (releases ∷ os) (gives outputs q) ends h = absurd ends
  same_then next p (takes kind teid item ∷ os) (gives outputs q) ends h = absurd ends
  same_then next p (polls ∷ os) (gives outputs q) ends h = absurd ends

  pub same : (final : Bool) (next : ℕ) (os : List (ContextStep P)) (p : Model) → AreTested way ue bearer final next os p
      → SameAfter next p (carried way ue bearer os p)
  same final next [] None tested = tt
  same final next [] (Some p) tested = refl
  same final next (o ∷ os) None tested = same_then next None os (nothing (begun ue bearer o)) tested.1 (begun_same next o tested.0)
  same final next (o ∷ os) (Some p) tested = same_then next (Some p) os (done way o p) tested.1 (done_same next o p)
