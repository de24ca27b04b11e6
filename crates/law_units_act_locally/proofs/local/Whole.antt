-- The same in the words of the definitions: where each item is got and put, the packet in it is the one as which its octets decode.
use Rattle.std.proofs.Common.{◌≡◌, ℕ, zero, suc, Bool, true, false, List, [], ◌∷◌, ◌++◌, map, Option, Some, None, ◌⊎◌, inl, inr, refl, sym, ap, ◌∙◌, subst, arith}
use Rattle.std.specs.Prelude.{All, Any, if◌then◌else◌}
use Rattle.std.specs.List.{AllByRecursion}
use Rattle.std.specs.Cmp.{Equal-is, tied_itself}
use Rattle.gnb_types.specs.declared.names.NodeId.{NodeId}
use Rattle.gnb_types.specs.declared.keys.EntityKey.{EntityKey}
use Rattle.gnb_types.specs.Orders.{entity_cmp}
use Rattle.gnb_types.proofs.OrderLemmas.{entity_total}
use Rattle.message_types.specs.declared.rrc.Token.{Token}
use Rattle.scenario_text.specs.declared.event.Event.{Event}
use Rattle.scenario_text.specs.declared.event.Event.TheVariants as events
use Rattle.scenario_text.specs.declared.line.Link.{Link}
use Rattle.scenario_text.specs.declared.line.Link.TheVariants.{Tunnel, Radio}
use Rattle.scenario_text.specs.declared.line.Item.{Item as ShownItem}
use Rattle.link_defs.specs.Decoding.{CarriesPdu}
use Rattle.pdcp.specs.Pdus.{data_pdu}
use Rattle.unit_defs.specs.Ways.{Message}
use Rattle.run_defs.specs.Lines.{RunLine, put_item, got_item, put_message, got_message, delivers, lost_items, lost_message, drops_input, held_at, procedure_failed, is_quiet, is_busy, has_settled, has_not_settled, was_refused}
use Rattle.run_defs.specs.Carried.{Carries, kinds_to}
use Rattle.run_defs.specs.Said.{same_entity, offered_by}
use Rattle.run_defs.specs.Local.{item_key, Act, WasOffered, IsGotWith, WasGot, WasAt, IsLocalLine, IsLocalBy, LocalFrom, acts_of_event, acts_of, sn_in, Local}
use Rattle.run_defs.specs.States.{Lengths, RunStep, new_state}
use Rattle.run_defs.specs.Runs.{Reading, Happened, run, Run}
use Rattle.proof_run_steps.proofs.facts.Within.{all_both}
use Rattle.law_tunnels_are_owned.specs.laid_out.Laid.{IsLaidLine, AreLaidBy, IsLaidStep, AreLaid}
use Rattle.law_tunnels_are_owned.proofs.laid_out.Laid.{run_is_laid}
use Rattle.law_units_act_locally.specs.local_packets.Local.{OneOf, IfAny, IsOffered, WasOffered as WasOfferedTo, IsGotWith as IsGotSaying, WasGot as WasGotSaying, WasAt as WasAtSaying, IsLocalLine as IsLineSaying, IsLocalBy as IsBySaying, LocalFrom as LocalSaying}
use Rattle.law_units_act_locally.specs.local_lengths.Long.{SaysLong, PutsLong}
use Rattle.law_units_act_locally.specs.local.Offered.{OffersHaveOctets}
use Rattle.law_units_act_locally.proofs.local.Carries.{CarriesOn, carried_back, carried_there, air_back, air_there}
use Rattle.law_units_act_locally.proofs.local.Offers.{IsOffer, ActOk, acts_ok}
use Rattle.law_units_act_locally.proofs.local.Runs.{SaysSized, sized_local}

abbrev Told : Type 0
Told = Act (Message Token)

abbrev Line : Type 0
Line = RunLine (Message Token)

-- ---- lists by recursion and by index

one_later : {X : Type 0} (P : X → Type 0) (y : X) (ys : List X) → Any P ys → Any P (y ∷ ys)
one_later P y ys (k, x, low, at, p) = (suc k, x, omega (arith, low), at, p)

any_of : {X : Type 0} (P : X → Type 0) (xs : List X) → OneOf P xs → Any P xs
any_of P [] h = absurd h
any_of P (x ∷ xs) (inl h) = (0, x, omega arith, refl, h)
any_of P (x ∷ xs) (inr h) = one_later P x xs (any_of P xs h)

pub all_of : {X : Type 0} (P : X → Type 0) (xs : List X) → AllByRecursion P xs → All P xs
all_of P [] h k d low = absurd (omega (arith, low))
all_of P (x ∷ xs) h zero d low = h.0
all_of P (x ∷ xs) h (suc k) d low = all_of P xs h.1 k d (omega (arith, low))

one_front : {X : Type 0} (P : X → Type 0) (xs ys : List X) → OneOf P xs → OneOf P (xs ++ ys)
one_front P [] ys h = absurd h
one_front P (x ∷ xs) ys (inl h) = inl h
one_front P (x ∷ xs) ys (inr h) = inr (one_front P xs ys h)

one_end : {X : Type 0} (P : X → Type 0) (xs : List X) (x : X) → P x → OneOf P (xs ++ x ∷ [])
one_end P [] x h = inl h
one_end P (y ∷ xs) x h = inr (one_end P xs x h)

one_mapped : {X : Type 0} (P Q : X → Type 0) (xs : List X) → ((x : X) → P x → Q x) → OneOf P xs → OneOf Q xs
one_mapped P Q [] f h = h
one_mapped P Q (x ∷ xs) f (inl h) = inl (f x h)
one_mapped P Q (x ∷ xs) f (inr h) = inr (one_mapped P Q xs f h)

-- the acts before, the first one first
abbrev first_first : List Told → List Told
first_first [] = []
first_first (act ∷ acts) = first_first acts ++ act ∷ []

turned : (P Q : Told → Type 0) (seen : List Told) → AllByRecursion ActOk seen → ((act : Told) → ActOk act → P act → Q act) → OneOf P seen → OneOf Q (first_first seen)
turned P Q [] ok f h = h
turned P Q (act ∷ seen) ok f (inl h) = one_end Q (first_first seen) act (f act ok.0 h)
turned P Q (act ∷ seen) ok f (inr h) = one_front Q (first_first seen) (act ∷ []) (turned P Q seen ok.1 f h)

-- ---- the packet in an item

itself : (key : EntityKey) → same_entity key key ≡ true
itself key = (Equal-is (entity_cmp key key)).1 (tied_itself entity_total key)

module _ (L : Lengths) where
  back : (link : Link) (item : ShownItem) (said : Option (List ℕ)) (x : List ℕ) → SaysLong L link item said → Carries (L item.ue) link item x → said ≡ Some x
  back (Tunnel end teid) item said x h c =
      h.1 ∙ carried_back teid (L item.ue) x end item.dir h.0 h.2
      (subst (λ (os : List ℕ). CarriesOn (L item.ue) (kinds_to end item.dir) os x) h.5 c)
  back (Radio ue bearer dir epoch) item said x h c =
      h.1 ∙ air_back 0 (L item.ue) x h.0 c.0 (subst (λ (os : List ℕ). CarriesPdu (L item.ue) (data_pdu c.0 x) os) h.3 c.1)

  there : (link : Link) (item : ShownItem) (x : List ℕ) → SaysSized L link item (Some x) → Carries (L item.ue) link item x
  there (Tunnel end teid) item x (h, size) =
      subst (λ (os : List ℕ). CarriesOn (L item.ue) (kinds_to end item.dir) os x) (sym h.5)
      (carried_there teid (L item.ue) x end item.dir h.0 h.2 h.4 (sym h.1) size)
  there (Radio ue bearer dir epoch) item x (h, size) =
      subst (λ (os : List ℕ). (number : ℕ) × CarriesPdu (L item.ue) (data_pdu number x) os) (sym h.3)
      (air_there 0 (L item.ue) x h.0 (sym h.1) size)

  -- ---- where a packet was

  got_line : (key : EntityKey) (x : List ℕ) (line : Line) → IsGotSaying (SaysSized L) key x line → IsGotWith L key x line
  got_line key x (got_item link item) h = (subst (λ (k : EntityKey). same_entity k (item_key item) ≡ true) h.0 (itself (item_key item)), there link item x h.1)
  got_line key x line h = absurd h

  offer_at : (key : EntityKey) (x : List ℕ) (event : Event) → IsOffered key x event → IsOffer event × (offered_by key event ≡ x ∷ [])
  offer_at key x (events.Offer ue bearer dir p) h = (tt, by (subst (λ (k : EntityKey). same_entity key k ≡ true) (sym h.0) (itself key)))
    where
      by : same_entity key (record { ue = ue; bearer = bearer; dir = dir }) ≡ true
          → (if same_entity key (record { ue = ue; bearer = bearer; dir = dir }) then p ∷ [] else []) ≡ x ∷ []
      by same = ap (λ (t : Bool). if t then p ∷ [] else []) same ∙ ap (λ (y : List ℕ). y ∷ []) h.1
  offer_at key x event h = absurd h

  act_at : (node : NodeId) (key : EntityKey) (x : List ℕ) (act : Told) → ActOk act
      → WasOfferedTo node key x act ⊎ WasGotSaying (SaysSized L) node key x act → WasOffered node key x act ⊎ WasGot L node key x act
  act_at node key x act ok (inl h) =
      let at = offer_at key x act.event h.1 in
      by (ok at.0) at.1
    where
      by : (act.refused ≡ false) ⊎ (act.step.actor ≡ None) → offered_by key act.event ≡ x ∷ [] → WasOffered node key x act ⊎ WasGot L node key x act
      by (inl clean) e = inl (h.0, clean, e)
      by (inr none) e = let both : Some node ≡ None = sym h.0 ∙ none in absurd cc
  act_at node key x act ok (inr h) =
      inr (
        h.0,
        any_of (IsGotWith L key x) act.step.lines
            (one_mapped (IsGotSaying (SaysSized L) key x) (IsGotWith L key x) act.step.lines (got_line key x) h.1),
      )

  was_at : (seen : List Told) (node : NodeId) (key : EntityKey) (x : List ℕ) → AllByRecursion ActOk seen → WasAtSaying (SaysSized L) seen node key x
      → WasAt L (first_first seen) node key x
  was_at seen node key x ok h =
      any_of (λ (act : Told). WasOffered node key x act ⊎ WasGot L node key x act) (first_first seen)
      (turned (λ (act : Told). WasOfferedTo node key x act ⊎ WasGotSaying (SaysSized L) node key x act)
      (λ (act : Told). WasOffered node key x act ⊎ WasGot L node key x act) seen ok (act_at node key x) h)

  -- ---- lines, steps, and a run

  module _ (IsSpelled : NodeId → NodeId → Message Token → Type 0) (spelled : (from to : NodeId) (message : Message Token) → IsSpelled from to message) where
    if_said : (P : List ℕ → Type 0) (said : Option (List ℕ)) (x : List ℕ) → said ≡ Some x → IfAny P said → P x
    if_said P None x e h = absurd cc
    if_said P (Some y) x e h = let same : y ≡ x = cc in subst P same h

    line_whole : (seen : List Told) (actor : NodeId) (line : Line) → AllByRecursion ActOk seen → IsLineSaying (SaysSized L) (PutsLong L) seen actor line
        → IsLaidLine actor line → IsLocalLine L IsSpelled (first_first seen) actor line
    line_whole seen actor (put_item link item) ok h laid = (
      h.1.1,
      λ x carries.
          was_at seen actor (item_key item) x ok
          (if_said (WasAtSaying (SaysSized L) seen actor (item_key item)) h.0 x (back link item h.0 x h.1.0 carries) h.2),
    )
    line_whole seen actor (delivers key count x) ok h laid = was_at seen actor key x ok h
    line_whole seen actor (put_message number control_message) ok h laid = (laid, spelled actor control_message.to control_message.message)
    line_whole seen actor (got_item link item) ok h laid = tt
    line_whole seen actor (got_message number control_message) ok h laid = tt
    line_whole seen actor (lost_items link items) ok h laid = tt
    line_whole seen actor (lost_message number) ok h laid = tt
    line_whole seen actor (drops_input node reason) ok h laid = tt
    line_whole seen actor (held_at link reason) ok h laid = tt
    line_whole seen actor (procedure_failed node ue cause) ok h laid = tt
    line_whole seen actor (is_quiet ue bearer down up) ok h laid = tt
    line_whole seen actor (is_busy ue bearer) ok h laid = tt
    line_whole seen actor (has_settled rounds) ok h laid = tt
    line_whole seen actor (has_not_settled rounds) ok h laid = tt
    line_whole seen actor (was_refused reason) ok h laid = tt

    lines_whole : (seen : List Told) (actor : NodeId) (lines : List Line) → AllByRecursion ActOk seen
        → AllByRecursion (IsLineSaying (SaysSized L) (PutsLong L) seen actor) lines → AllByRecursion (IsLaidLine actor) lines
        → AllByRecursion (IsLocalLine L IsSpelled (first_first seen) actor) lines
    lines_whole seen actor [] ok h laid = tt
    lines_whole seen actor (line ∷ lines) ok h laid = (line_whole seen actor line ok h.0 laid.0, lines_whole seen actor lines ok h.1 laid.1)

    step_whole : (seen : List Told) (actor : Option NodeId) (lines : List Line) → AllByRecursion ActOk seen
        → IsBySaying (SaysSized L) (PutsLong L) seen actor lines → AreLaidBy actor lines → IsLocalBy L IsSpelled (first_first seen) actor lines
    step_whole seen None lines ok h laid = laid
    step_whole seen (Some actor) lines ok h laid = all_of (IsLocalLine L IsSpelled (first_first seen) actor) lines (lines_whole seen actor lines ok h laid)

    from_whole : (seen acts : List Told) → AllByRecursion ActOk seen → AllByRecursion ActOk acts → AllByRecursion (λ (act : Told). IsLaidStep act.step) acts
        → LocalSaying (SaysSized L) (PutsLong L) seen acts → LocalFrom L IsSpelled (first_first seen) acts
    from_whole seen [] ok good laid h = tt
    from_whole seen (act ∷ acts) ok good laid h = (
      step_whole (act ∷ seen) act.step.actor act.step.lines (good.0, ok) h.0 laid.0,
      from_whole (act ∷ seen) acts (good.0, ok) good.1 laid.1 h.1,
    )

-- ---- each step of a run is laid out

steps_laid : (event : Event) (was : Bool) (steps : List (RunStep (Message Token))) → AllByRecursion IsLaidStep steps
    → AllByRecursion (λ (act : Told). IsLaidStep act.step) (map (λ (step : RunStep (Message Token)). record { event = event; refused = was; step = step }) steps)
steps_laid event was [] all = tt
steps_laid event was (step ∷ steps) all = (all.0, steps_laid event was steps all.1)

acts_laid : (happened : List (Happened (Message Token))) → AreLaid happened → AllByRecursion (λ (act : Told). IsLaidStep act.step) (acts_of happened)
acts_laid [] all = tt
acts_laid (h ∷ happened) all =
    all_both (λ (act : Told). IsLaidStep act.step) (acts_of_event h) (acts_of happened) (steps_laid h.event _ h.steps all.0) (acts_laid happened all.1)

its_acts : (reading : Reading) (script : List Event) → AllByRecursion ActOk (acts_of (Run reading script).events)
unfolding Run run
its_acts reading script = acts_ok reading script new_state

pub whole_local : (reading : Reading) (script : List Event) (is_spelled : NodeId → NodeId → Message Token → Bool) → OffersHaveOctets script
    → ((from to : NodeId) (message : Message Token) → is_spelled from to message ≡ true)
    → Local (λ from to message. is_spelled from to message ≡ true) (Run reading script).events
whole_local reading script is_spelled octets spelled =
    let happened : List (Happened (Message Token)) = (Run reading script).events in
    from_whole (sn_in happened) (λ from to message. is_spelled from to message ≡ true) spelled [] (acts_of happened) tt (its_acts reading script)
    (acts_laid happened (run_is_laid reading script)) (sized_local reading script octets)
