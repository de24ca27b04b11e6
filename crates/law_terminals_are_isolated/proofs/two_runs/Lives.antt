-- Whatever steps a run makes, those of a terminal are its acts.
use Rattle.std.proofs.Common.{◌≡◌, ◌==◌, ℕ, Bool, true, false, List, [], ◌∷◌, ◌++◌, Option, Some, None, ◌⊎◌, inl, inr, refl, sym, ap, ◌∙◌, subst, eqb-true}
use Rattle.std.proofs.lemmas.Bool.{eq-eqb}
use Rattle.std.specs.List.{AllByRecursion}
use Rattle.std.specs.Prelude.{◌≢◌, is_some}
use Rattle.gnb_types.specs.declared.names.NodeId.{NodeId}
use Rattle.gnb_types.specs.declared.names.NodeId.TheVariants.{CuCp, CuUp as up_id, Du as du_id, Core, Ue}
use Rattle.gnb_types.specs.declared.names.UeId.{UeId}
use Rattle.message_types.specs.declared.rrc.Token.{Token}
use Rattle.scenario_text.specs.declared.event.Event.{Event}
use Rattle.unit_defs.specs.Ways.{Message}
use Rattle.transport_defs.specs.declared.ControlMessage.{ControlMessage}
use Rattle.run_defs.specs.Lines.{RunLine}
use Rattle.run_defs.specs.States.{goes, stops, told_before, ◌next◌, goes_on, as_step, RunStep}
use Rattle.run_defs.specs.Steps.{carried_out}
use Rattle.run_defs.specs.Runs.{Reading, plain_world}
use Rattle.proof_run_steps.specs.steps.Causes.{by_order, by_tick, by_octets, by_octets_on, by_attach, by_release, by_offer as by_own_offer, by_item, by_air, by_ack, by_control_message, node_of, given_of, count_of, first_of}
use Rattle.proof_run_steps.specs.steps.IsOutcome.{IsDone, IsOutcome, stays, ends, then_made, sets_up, starts, acts as acts_so, holds_item, holds_pdu, offers, core_takes, core_reads, lands, loses_control_message, loses_item, remarks}
use Rattle.law_terminals_are_isolated.specs.projections.Projections.{message_ue}
use Rattle.law_terminals_are_isolated.specs.run_projections.Units.{given_ue}
use Rattle.law_terminals_are_isolated.specs.own_steps.Own.{IsActed}
use Rattle.law_terminals_are_isolated.proofs.own_steps.Steps.{Sound}
use Rattle.law_terminals_are_isolated.specs.own_events.Events.{RunState, RunOutcome}
use Rattle.law_terminals_are_isolated.specs.all_steps.Steps.{AfterSteps, none_yet, one_more, IsNoTick, IsNotMadeBy, IsNotFor, NoneFor}
use Rattle.law_terminals_are_isolated.proofs.all_steps.Paths.{sound_on}
use Rattle.law_terminals_are_isolated.proofs.all_steps.Nones.{item_never, air_never, ack_never}
use Rattle.law_terminals_are_isolated.specs.run_ticks.Ticks.{IsUnit}
use Rattle.law_terminals_are_isolated.specs.step_consistency.Places.{RunCause, Place, in_place}
use Rattle.law_terminals_are_isolated.proofs.step_consistency.Units.{RunUnits, RunPuts}
use Rattle.law_terminals_are_isolated.specs.equal_projections.Cores.{RunWithin, core_does, IsOffered}
use Rattle.law_terminals_are_isolated.specs.two_runs.Acts.{TerminalAct, nowhere, IsBare, ActsItself, Received, received_from, received_on, received_cause, HasActed, not_yet, by_others, by_itself, by_offer, by_core, by_loss, by_ticking, by_static, by_hearing}
use Rattle.law_terminals_are_isolated.proofs.two_runs.EqualStates.{acted_after}

-- ---- what outcomes say

state_of : (l m : List (RunStep (Message Token))) (x y : RunState) → ◌≡◌ {A = RunOutcome} (goes l x) (goes m y) → x ≡ y
state_of l m x y e = cc

pub record Goes (w : RunWithin) (t : RunState) : Type 0 where
  pub lines : List (RunLine (Message Token))
  pub goes_so : w ≡ goes lines t

within : (actor : Option NodeId) (w : RunWithin) (told : List (RunStep (Message Token))) (t : RunState) → as_step actor w ≡ goes told t → Goes w t
within actor (goes lines z) told t e = record { lines = lines; goes_so = ap (λ (x : RunState). goes lines x) (state_of _ told z t e) }
within actor (stops lines why) told t e = absurd cc

pub record Parts (d : RunOutcome) (more : RunState → RunOutcome) (t : RunState) : Type 0 where
  pub before : List (RunStep (Message Token))
  pub middle : RunState
  pub first : d ≡ goes before middle
  pub after : List (RunStep (Message Token))
  pub second : more middle ≡ goes after t

parts : (d : RunOutcome) (more : RunState → RunOutcome) (told : List (RunStep (Message Token))) (t : RunState) → (d next more) ≡ goes told t → Parts d more t
parts (stops l why) more told t e = absurd cc
parts (goes l z) more told t e = by (more z) refl e
  where
    by : (o : RunOutcome) → more z ≡ o → told_before l o ≡ goes told t → Parts (goes l z) more t
    by (goes m y) is so = record {
      before = l;
      middle = z;
      first = refl;
      after = m;
      second = is ∙ ap (λ (x : RunState). goes m x) (state_of (l ++ m) told y t so);
    }
    by (stops m why) is so = absurd cc

-- ---- places

place_of : RunCause → Place
place_of (by_item end item rest) = record { items = rest; pdus = []; number = 0 }
place_of (by_ack key home item rest) = record { items = []; pdus = rest; number = 0 }
place_of (by_control_message number l to) = record { items = []; pdus = []; number = number }
place_of cause = record { items = []; pdus = []; number = 0 }

placed_so : (cause : RunCause) → in_place (place_of cause) (in_place nowhere cause) ≡ cause
unfolding place_of
placed_so (by_order node order) = refl
placed_so (by_tick node) = refl
placed_so (by_octets from to octets) = refl
placed_so (by_octets_on end octets) = refl
placed_so (by_attach plan) = refl
placed_so (by_release gnb who) = refl
placed_so (by_own_offer who bearer p) = refl
placed_so (by_item end item rest) = refl
placed_so (by_air key home item) = refl
placed_so (by_ack key home item rest) = refl
placed_so (by_control_message number l to) = refl

still_bare : (cause : RunCause) → in_place nowhere (in_place nowhere cause) ≡ in_place nowhere cause
still_bare (by_item end item rest) = refl
still_bare cause = refl

module _ (reading : Reading) (ue : UeId) where
  -- ---- whose something is

  is_it : (who : UeId) → (who ≡ ue) ⊎ (who ≢ ue)
  is_it who = by (who.0 == ue.0) refl
    where
      true_not : true ≡ false → ⊥
      true_not h = absurd cc

      by : (b : Bool) → (who.0 == ue.0) ≡ b → (who ≡ ue) ⊎ (who ≢ ue)
      by true e = inl (ap (λ (n : ℕ). record { 0 = n }) (eqb-true who.0 ue.0 e))
      by false e = inr (λ same. true_not (sym (eq-eqb who.0 ue.0 (ap (λ (u : UeId). u.0) same)) ∙ e))

  own_node : (node : NodeId) → IsNotMadeBy ue node ⊎ (node ≡ Ue ue.0)
  own_node (Ue n) = by (is_it (record { 0 = n }))
    where
      by : (record { 0 = n } ≡ ue) ⊎ (record { 0 = n } ≢ ue) → IsNotMadeBy ue (Ue n) ⊎ (Ue n ≡ Ue ue.0)
      by (inl same) = inr (ap (λ (u : UeId). Ue u.0) same)
      by (inr apart) = inl apart
  own_node (CuCp gnb) = inl tt
  own_node (up_id gnb number) = inl tt
  own_node (du_id gnb number) = inl tt
  own_node Core = inl tt

  -- a step of a unit
  pub record StepBy (cause : RunCause) (s t : RunState) : Type 0 where
    pub event : Event
    pub outputs : RunPuts
    pub units : RunUnits
    pub lines : List (RunLine (Message Token))
    pub acted : IsActed (plain_world reading) event s cause outputs units
    pub done : IsDone outputs
    pub goes_so : carried_out (plain_world reading) (node_of cause) (count_of cause) (first_of (plain_world reading) cause) outputs units s ≡ goes lines t

  abbrev Lives : RunState → Type 0
  Lives s = (acts : List TerminalAct) × HasActed reading ue acts s × AllByRecursion IsBare acts

  others_live : (event : Event) (s t : RunState) (e : RunOutcome) (told : List (RunStep (Message Token))) → Lives s
      → (made : IsOutcome (plain_world reading) event s e) → NoneFor reading event ue s e made → e ≡ goes told t → Lives t
  others_live event s t e told l made none goes_so = (l.0, by_others l.0 event s t e told l.1 made none goes_so, l.2)

  its_lives : (cause : RunCause) (s t : RunState) → Lives s → given_ue reading s.units (node_of cause) (given_of cause) ≡ Some ue → StepBy cause s t → Lives t
  its_lives cause s t l its step = (_, by_itself _ l.0 (in_place nowhere cause) (place_of cause) s t l.1 own refl, (still_bare cause, l.2))
    where
      abbrev_own : (c : RunCause) → given_ue reading s.units (node_of c) (given_of c) ≡ Some ue → StepBy c s t → c ≡ in_place (place_of cause) (in_place nowhere cause)
          → ActsItself reading ue (in_place nowhere cause) (place_of cause) s t
      abbrev_own c is a same =
          let b : StepBy (in_place (place_of cause) (in_place nowhere cause)) s t = subst (λ (d : RunCause). StepBy d s t) same a in
          record {
            event = b.event;
            outputs = b.outputs;
            units = b.units;
            lines = b.lines;
            acted = b.acted;
            done = b.done;
            its = subst (λ (d : RunCause). given_ue reading s.units (node_of d) (given_of d) ≡ Some ue) same is;
            goes_so = b.goes_so;
          }

      own : ActsItself reading ue (in_place nowhere cause) (place_of cause) s t
      own = abbrev_own cause its step (sym (placed_so cause))

  received_lives : (received : Received) (s t : RunState) → Lives s → StepBy (received_cause ue received) s t → Lives t
  received_lives received s t l a = (
    _,
    by_hearing _ l.0 received s t l.1 (record {
      event = a.event;
      outputs = a.outputs;
      units = a.units;
      lines = a.lines;
      acted = a.acted;
      done = a.done;
      goes_so = a.goes_so;
    }) refl,
    (tt, l.2),
  )

  -- what is for no terminal, at the terminal's own node, is octets
  receives_lives : (cause : RunCause) (s t : RunState) → Sound s → Lives s → IsNoTick cause → given_ue reading s.units (node_of cause) (given_of cause) ≡ None
      → node_of cause ≡ Ue ue.0 → StepBy cause s t → Lives t
  receives_lives (by_octets from to octets) s t sound l other none at a =
      received_lives (received_from from octets) s t l (subst (λ (n : NodeId). StepBy (by_octets from n octets) s t) at a)
  receives_lives (by_octets_on end octets) s t sound l other none at a =
      received_lives (received_on end.teid octets) s t l (subst (λ (n : NodeId). StepBy (by_octets_on (record { node = n; teid = end.teid }) octets) s t) at a)
  receives_lives (by_order Core order) s t sound l other none at a = absurd cc
  receives_lives (by_order (CuCp gnb) order) s t sound l other none at a = absurd cc
  receives_lives (by_order (up_id gnb number) order) s t sound l other none at a = absurd cc
  receives_lives (by_order (du_id gnb number) order) s t sound l other none at a = absurd cc
  receives_lives (by_order (Ue n) order) s t sound l other none at a = absurd cc
  receives_lives (by_tick Core) s t sound l other none at a = absurd cc
  receives_lives (by_tick (Ue n)) s t sound l other none at a = absurd cc
  receives_lives (by_tick (CuCp gnb)) s t sound l other none at a = absurd other
  receives_lives (by_tick (up_id gnb number)) s t sound l other none at a = absurd other
  receives_lives (by_tick (du_id gnb number)) s t sound l other none at a = absurd other
  receives_lives (by_attach plan) s t sound l other none at a = absurd cc
  receives_lives (by_release gnb who) s t sound l other none at a = absurd cc
  receives_lives (by_own_offer who bearer p) s t sound l other none at a = absurd cc
  receives_lives (by_item end item rest) s t sound l other none at a =
      absurd (item_never reading s sound ue end.node end.teid item.key item.content.says _ (sound.tunnels end (item ∷ rest) a.acted.stands).0
      (ap is_some a.acted.stands) none)
  receives_lives (by_air key home item) s t sound l other none at a = absurd (air_never reading s sound ue home key item a.acted.stands.0 key.dir none)
  receives_lives (by_ack key home item rest) s t sound l other none at a = absurd (ack_never reading s sound ue home key item a.acted.stands.0 key.dir none)
  receives_lives (by_control_message number l Core) s t sound lives other none at a = absurd cc
  receives_lives (by_control_message number l (CuCp gnb)) s t sound lives other none at a = absurd cc
  receives_lives (by_control_message number l (up_id gnb n)) s t sound lives other none at a = absurd cc
  receives_lives (by_control_message number l (du_id gnb n)) s t sound lives other none at a = absurd cc
  receives_lives (by_control_message number l (Ue n)) s t sound lives other none at a = absurd cc

  -- ---- ticks of units

  tick_lives : (node : NodeId) (s t : RunState) → Lives s → IsUnit node → StepBy (by_tick node) s t → Lives t
  tick_lives node s t l unit a = (
    _,
    by_ticking _ l.0 node s t l.1 (record {
      event = a.event;
      outputs = a.outputs;
      units = a.units;
      lines = a.lines;
      unit = unit;
      acted = a.acted;
      done = a.done;
      goes_so = a.goes_so;
    }) refl,
    (tt, l.2),
  )

  pub record IsUnitTick (cause : RunCause) : Type 0 where
    pub node : NodeId
    pub unit : IsUnit node
    pub is : cause ≡ by_tick node

  tick_or : (cause : RunCause) → IsNoTick cause ⊎ IsUnitTick cause
  tick_or (by_tick (CuCp gnb)) = inr (record { node = CuCp gnb; unit = tt; is = refl })
  tick_or (by_tick (up_id gnb number)) = inr (record { node = up_id gnb number; unit = tt; is = refl })
  tick_or (by_tick (du_id gnb number)) = inr (record { node = du_id gnb number; unit = tt; is = refl })
  tick_or (by_tick Core) = inl tt
  tick_or (by_tick (Ue n)) = inl tt
  tick_or (by_order node order) = inl tt
  tick_or (by_octets from to octets) = inl tt
  tick_or (by_octets_on end octets) = inl tt
  tick_or (by_attach plan) = inl tt
  tick_or (by_release gnb who) = inl tt
  tick_or (by_own_offer who bearer p) = inl tt
  tick_or (by_item end item rest) = inl tt
  tick_or (by_air key home item) = inl tt
  tick_or (by_ack key home item rest) = inl tt
  tick_or (by_control_message number l to) = inl tt

  -- ---- a step of a unit, whosever it is

  act_lives : (event : Event) (cause : RunCause) (outputs : RunPuts) (units : RunUnits) (s t : RunState) → Lives s → (made : IsOutcome (plain_world reading) event s
      (as_step (Some (node_of cause)) (carried_out (plain_world reading) (node_of cause) (count_of cause) (first_of (plain_world reading) cause) outputs units s)))
      → (IsNotFor ue cause (given_ue reading s.units (node_of cause) (given_of cause)) → NoneFor reading event ue s _ made)
      → (told : List (RunStep (Message Token)))
      → as_step (Some (node_of cause)) (carried_out (plain_world reading) (node_of cause) (count_of cause) (first_of (plain_world reading) cause) outputs units s) ≡ goes told t
      → StepBy cause s t → Lives t
  act_lives event cause outputs units s t l made none told goes_so a = by (given_ue reading s.units (node_of cause) (given_of cause)) refl
    where
      apart_from : IsNotFor ue cause (given_ue reading s.units (node_of cause) (given_of cause)) → Lives t
      apart_from is = others_live event s t _ told l made (none is) goes_so

      at_none : given_ue reading s.units (node_of cause) (given_of cause) ≡ None → IsNoTick cause ⊎ IsUnitTick cause → Lives t
      at_none e (inr tick) = tick_lives tick.node s t l tick.unit (subst (λ (c : RunCause). StepBy c s t) tick.is a)
      at_none e (inl other) = at_node (own_node (node_of cause))
        where
          at_node : IsNotMadeBy ue (node_of cause) ⊎ (node_of cause ≡ Ue ue.0) → Lives t
          at_node (inl away) = apart_from (subst (λ (o : Option UeId). IsNotFor ue cause o) (sym e) (other, away))
          at_node (inr own) = receives_lives cause s t (sound_on reading s (acted_after reading ue l.0 s l.1)) l other e own a

      by : (o : Option UeId) → given_ue reading s.units (node_of cause) (given_of cause) ≡ o → Lives t
      by None e = at_none e (tick_or cause)
      by (Some who) e = of (is_it who)
        where
          of : (who ≡ ue) ⊎ (who ≢ ue) → Lives t
          of (inl same) = its_lives cause s t l (e ∙ ap (λ (u : UeId). Some u) same) a
          of (inr apart) = apart_from (subst (λ (o : Option UeId). IsNotFor ue cause o) (sym e) apart)

  -- ---- a whole event

  made_lives : (event : Event) (s : RunState) (e : RunOutcome) (made : IsOutcome (plain_world reading) event s e) → Lives s
      → (told : List (RunStep (Message Token))) (t : RunState) → e ≡ goes told t → Lives t
  made_lives event s e (stays x) l told t is = subst (λ (z : RunState). Lives z) (state_of [] told x t is) l
  made_lives event s e (ends x why) l told t is = absurd cc
  made_lives event s e (then_made x d more p q) l told t is =
      let two = parts d more told t is in
      made_lives event two.middle (more two.middle) (q two.middle) (made_lives event x d p l two.before two.middle two.first) two.after t two.second
  made_lives event s e (sets_up x plan same free room teids) l told t is = of (is_it plan.ue)
    where
      of : (plan.ue ≡ ue) ⊎ (plan.ue ≢ ue) → Lives t
      of (inr apart) = others_live event x t _ told l (sets_up x plan same free room teids) apart is
      of (inl its) = (_, by_static _ l.0 plan x t l.1 (record { its = its; free = free; room = room; teids = teids; sets_up = sym (state_of [] told _ t is) }) refl, (tt, l.2))
  made_lives event s e (starts x d p) l told t is =
      let y : RunState = record x { started = true } in
      made_lives event y d p (others_live event x y (goes_on y) [] l (starts x (goes_on y) (stays y)) tt refl) told t is
  made_lives event s e (acts_so x cause outputs units at is fine few) l told t so =
      let step = within (Some (node_of cause)) _ told t so in
      act_lives event cause outputs units x t l (acts_so x cause outputs units at is fine few) (λ none. none) told so (record {
        event = event;
        outputs = outputs;
        units = units;
        lines = step.lines;
        acted = record { stands = at; answers = is; few = few };
        done = fine;
        goes_so = step.goes_so;
      })
  made_lives event s e (holds_item x end reason) l told t is = others_live event x t _ told l (holds_item x end reason) tt is
  made_lives event s e (holds_pdu x key home reason) l told t is = others_live event x t _ told l (holds_pdu x key home reason) tt is
  made_lives event s e (offers x who bearer p path is found) l told t so = of (is_it who)
    where
      of : (who ≡ ue) ⊎ (who ≢ ue) → Lives t
      of (inr apart) = others_live event x t _ told l (offers x who bearer p path is found) apart so
      of (inl its) =
          let step = within (Some Core) _ told t so in (
            _,
            by_offer _ l.0 bearer p x t l.1
                (subst (λ (u : UeId). IsOffered reading u bearer p x t) its (record { path = path; lines = step.lines; found = found; goes_so = step.goes_so })) refl,
            (tt, l.2),
          )
  made_lives event s e (core_takes x number l outputs core found at is few) lives told t so = of (is_it (message_ue l.from l.message))
    where
      of : (message_ue l.from l.message ≡ ue) ⊎ (message_ue l.from l.message ≢ ue) → Lives t
      of (inr apart) = others_live event x t _ told lives (core_takes x number l outputs core found at is few) apart so
      of (inl its) =
          let step = within (Some Core) _ told t so in
          let same : l ≡ record { from = l.from; to = Core; ue = l.ue; message = l.message } = λ i. record { from = l.from; to = at i; ue = l.ue; message = l.message } in (
            _,
            by_core _ lives.0 l.from l.message x t lives.1 (record {
              number = number;
              owner = l.ue;
              outputs = outputs;
              core = core;
              lines = step.lines;
              found = found ∙ ap (λ (k : ControlMessage (Message Token)). Some k) same;
              its = its;
              answers = is;
              few = few;
              goes_so = sym (ap (λ (k : ControlMessage (Message Token)). core_does reading number k outputs core x) same) ∙ step.goes_so;
            }) refl,
            (tt, lives.2),
          )
  made_lives event s e (core_reads x from octets outputs core is) l told t so = others_live event x t _ told l (core_reads x from octets outputs core is) tt so
  made_lives event s e (lands x number control_message to found at) l told t so = others_live event x t _ told l (lands x number control_message to found at) tt so
  made_lives event s e (loses_control_message x number) l told t so = others_live event x t _ told l (loses_control_message x number) tt so
  made_lives event s e (loses_item x end item rest found) l told t so = of (is_it item.key.ue)
    where
      of : (item.key.ue ≡ ue) ⊎ (item.key.ue ≢ ue) → Lives t
      of (inr apart) = others_live event x t _ told l (loses_item x end item rest found) apart so
      of (inl its) = (_, by_loss _ l.0 end item x t l.1 (record { rest = rest; found = found; its = its; loses = sym (state_of _ told _ t so) }) refl, (tt, l.2))
  made_lives event s e (remarks x lines plain) l told t so = others_live event x t _ told l (remarks x lines plain) tt so

  pub each_lives : (t : RunState) → AfterSteps reading t → Lives t
  each_lives t none_yet = ([], not_yet [] t refl refl, tt)
  each_lives t (one_more event x y told p made) = made_lives event x (goes told y) made (each_lives x p) told y refl
