-- A transcript whose control messages are told in other words is as local as before; and what prints the same is such a transcript.
use Rattle.std.proofs.Common.{◌≡◌, ℕ, zero, suc, Bool, List, [], ◌∷◌, ◌++◌, map, Option, Some, None, ◌⊎◌, inl, inr, refl, sym, ap, ◌∙◌, subst, arith}
use Rattle.std.specs.Prelude.{All, Any, ◌||◌, if◌then◌else◌}
use Rattle.std.specs.List.{list_any}
use Rattle.std.proofs.lemmas.List.Elements.{All-nil, All-cons, All-head, All-tail}
use Rattle.gnb_types.specs.declared.names.NodeId.{NodeId}
use Rattle.gnb_types.specs.declared.names.UeId.{UeId}
use Rattle.gnb_types.specs.declared.names.SnBits.{SnBits}
use Rattle.gnb_types.specs.declared.keys.EntityKey.{EntityKey}
use Rattle.scenario_text.specs.declared.line.OutLine.{OutLine}
use Rattle.scenario_text.specs.declared.line.OutLine.TheVariants as outs
use Rattle.run_defs.specs.Printing.{out_line}
use Rattle.run_defs.specs.Lines.{ControlMessage, RunLine, put_item, got_item, put_message, got_message, delivers, lost_items, lost_message, drops_input, held_at, procedure_failed, is_quiet, is_busy, has_settled, has_not_settled, was_refused}
use Rattle.run_defs.specs.Carried.{Carries, IsLaidOut}
use Rattle.run_defs.specs.Said.{is_refusal, lines_in}
use Rattle.run_defs.specs.States.{Lengths, RunStep}
use Rattle.run_defs.specs.Runs.{Happened, Transcript}
use Rattle.run_defs.specs.Local.{item_key, Act, WasOffered, IsGotWith, WasGot, WasAt, IsLocalLine, puts_something, IsLocalBy, LocalFrom, acts_of_event, acts_of, sn_by, sn_or, sn_in, Local}
use Rattle.law_octets_say_the_same.specs.octet_runs.Printed.{PrintedStep, PrintedEvent, Printed, printed_step, printed_event, printed}

-- ---- lists

pub append_mapped : {A B : Type 0} (f : A → B) (xs ys : List A) → map f (xs ++ ys) ≡ map f xs ++ map f ys
append_mapped f [] ys = refl
append_mapped f (x ∷ xs) ys = ap (λ (zs : List _). f x ∷ zs) (append_mapped f xs ys)

twice : {A B C : Type 0} (g : B → C) (f : A → B) (h : A → C) → ((x : A) → g (f x) ≡ h x) → (xs : List A) → map g (map f xs) ≡ map h xs
twice g f h same [] = refl
twice g f h same (x ∷ xs) =
    ap (λ (y : _). y ∷ map g (map f xs)) (same x) ∙ ap (λ (ys : List _). h x ∷ ys) (twice g f h same xs)

unchanged : {A : Type 0} (h : A → A) → ((x : A) → h x ≡ x) → (xs : List A) → map h xs ≡ xs
unchanged h same [] = refl
unchanged h same (x ∷ xs) = ap (λ (y : _). y ∷ map h xs) (same x) ∙ ap (λ (ys : List _). x ∷ ys) (unchanged h same xs)

any_test : {A B : Type 0} (p : A → Bool) (q : B → Bool) (f : A → B) → ((x : A) → q (f x) ≡ p x) → (xs : List A) → list_any q (map f xs) ≡ list_any p xs
any_test p q f same [] = refl
any_test p q f same (x ∷ xs) =
    ap (λ (b : Bool). b || list_any q (map f xs)) (same x) ∙ ap (λ (b : Bool). p x || b) (any_test p q f same xs)

one_later : {A : Type 0} (P : A → Type 0) (y : A) (ys : List A) → Any P ys → Any P (y ∷ ys)
one_later P y ys (k, x, low, at, p) = (suc k, x, omega (arith, low), at, p)

any_mapped : {A B : Type 0} (P : A → Type 0) (Q : B → Type 0) (f : A → B) → ((x : A) → P x → Q (f x)) → (xs : List A) → Any P xs → Any Q (map f xs)
any_mapped P Q f to [] (k, x, low, at, p) = absurd (omega (arith, low))
any_mapped P Q f to (y ∷ ys) (zero, x, low, at, p) = (0, f x, omega arith, ap f at, to x p)
any_mapped P Q f to (y ∷ ys) (suc k, x, low, at, p) = one_later Q (f y) (map f ys) (any_mapped P Q f to ys (k, x, omega (arith, low), at, p))

pub all_mapped : {A B : Type 0} (P : A → Type 0) (Q : B → Type 0) (f : A → B) → ((x : A) → P x → Q (f x)) → (xs : List A) → All P xs → All Q (map f xs)
all_mapped P Q f to [] h = All-nil Q
all_mapped P Q f to (x ∷ xs) h = All-cons Q (f x) (map f xs) (to x (All-head P x xs h)) (all_mapped P Q f to xs (All-tail P x xs h))

module _ {M N : Type 0} (f : M → N) where
  -- ---- a transcript in other words

  abbrev pub relet : ControlMessage M → ControlMessage N
  relet l = record { from = l.from; to = l.to; ue = l.ue; message = f l.message }

  abbrev pub reline : RunLine M → RunLine N
  reline (put_item link item) = put_item link item
  reline (got_item link item) = got_item link item
  reline (put_message number control_message) = put_message number (relet control_message)
  reline (got_message number control_message) = got_message number (relet control_message)
  reline (delivers key count packet) = delivers key count packet
  reline (lost_items link items) = lost_items link items
  reline (lost_message number) = lost_message number
  reline (drops_input node reason) = drops_input node reason
  reline (held_at link reason) = held_at link reason
  reline (procedure_failed node ue cause) = procedure_failed node ue cause
  reline (is_quiet ue bearer downlink uplink) = is_quiet ue bearer downlink uplink
  reline (is_busy ue bearer) = is_busy ue bearer
  reline (has_settled rounds) = has_settled rounds
  reline (has_not_settled rounds) = has_not_settled rounds
  reline (was_refused reason) = was_refused reason

  abbrev pub restep : RunStep M → RunStep N
  restep s = record { actor = s.actor; lines = map reline s.lines }

  abbrev pub rehap : Happened M → Happened N
  rehap h = record { event = h.event; steps = map restep h.steps }

  abbrev pub react : Act M → Act N
  react a = record { event = a.event; refused = a.refused; step = restep a.step }

  -- ---- what is refused, and the lengths of numbers

  refuses : (l : RunLine M) → is_refusal (reline l) ≡ is_refusal l
  refuses (was_refused reason) = refl
  refuses l = refl

  puts : (l : RunLine M) → puts_something (reline l) ≡ puts_something l
  puts (put_item link item) = refl
  puts l = refl

  pub its_lines : (steps : List (RunStep M)) → lines_in (map restep steps) ≡ map reline (lines_in steps)
  its_lines [] = refl
  its_lines (s ∷ steps) = ap (λ (ls : List (RunLine N)). map reline s.lines ++ ls) (its_lines steps) ∙ sym (append_mapped reline s.lines (lines_in steps))

  pub refused : (steps : List (RunStep M)) → list_any is_refusal (lines_in (map restep steps)) ≡ list_any is_refusal (lines_in steps)
  refused steps = ap (λ (ls : List (RunLine N)). list_any is_refusal ls) (its_lines steps) ∙ any_test is_refusal is_refusal reline refuses (lines_in steps)

  pub lengths : (hs : List (Happened M)) (ue : UeId) → sn_in hs ue ≡ sn_in (map rehap hs) ue
  lengths [] ue = refl
  lengths (h ∷ hs) ue =
      ap (λ (r : Bool). if r then sn_in hs ue else sn_or (sn_by ue h.event) (sn_in hs ue)) (sym (refused h.steps))
      ∙ ap
      (λ (later : SnBits). if list_any is_refusal (lines_in (map restep h.steps)) then later else sn_or (sn_by ue h.event) later)
      (lengths hs ue)

  -- ---- acts

  its_acts : (h : Happened M) → acts_of_event (rehap h) ≡ map react (acts_of_event h)
  its_acts h =
      ap
      (λ (r : Bool). map (λ (step : RunStep N). record { event = h.event; refused = r; step = step }) (map restep h.steps))
      (refused h.steps)
      ∙ twice (λ (step : RunStep N). record { event = h.event; refused = list_any is_refusal (lines_in h.steps); step = step }) restep
      (λ (step : RunStep M). record { event = h.event; refused = list_any is_refusal (lines_in h.steps); step = restep step }) (λ step. refl) h.steps
      ∙ sym (twice react (λ (step : RunStep M). record { event = h.event; refused = list_any is_refusal (lines_in h.steps); step = step })
      (λ (step : RunStep M). record { event = h.event; refused = list_any is_refusal (lines_in h.steps); step = restep step }) (λ step. refl) h.steps)

  all_acts : (hs : List (Happened M)) → acts_of (map rehap hs) ≡ map react (acts_of hs)
  all_acts [] = refl
  all_acts (h ∷ hs) =
      ap (λ (ys : List (Act N)). ys ++ acts_of (map rehap hs)) (its_acts h)
      ∙ ap (λ (ys : List (Act N)). map react (acts_of_event h) ++ ys) (all_acts hs)
      ∙ sym (append_mapped react (acts_of_event h) (acts_of hs))

  -- ---- as local as before

  module _ (L R : Lengths) (same : (ue : UeId) → L ue ≡ R ue) where
    got_line : (key : EntityKey) (x : List ℕ) (l : RunLine M) → IsGotWith L key x l → IsGotWith R key x (reline l)
    got_line key x (got_item link item) h = (h.0, subst (λ (sn : SnBits). Carries sn link item x) (same item.ue) h.1)
    got_line key x l h = absurd h

    was : (node : NodeId) (key : EntityKey) (x : List ℕ) (a : Act M) → WasOffered node key x a ⊎ WasGot L node key x a
        → WasOffered node key x (react a) ⊎ WasGot R node key x (react a)
    was node key x a (inl h) = inl h
    was node key x a (inr h) = inr (h.0, any_mapped (IsGotWith L key x) (IsGotWith R key x) reline (got_line key x) a.step.lines h.1)

    was_at : (acts : List (Act M)) (node : NodeId) (key : EntityKey) (x : List ℕ) → WasAt L acts node key x → WasAt R (map react acts) node key x
    was_at acts node key x h =
        any_mapped (λ (a : Act M). WasOffered node key x a ⊎ WasGot L node key x a) (λ (a : Act N). WasOffered node key x a ⊎ WasGot R node key x a)
        react (was node key x) acts h

    module _ (P : NodeId → NodeId → M → Type 0) (Q : NodeId → NodeId → N → Type 0) (to : (a b : NodeId) (m : M) → P a b m → Q a b (f m)) where
      line_local : (acts : List (Act M)) (actor : NodeId) (l : RunLine M) → IsLocalLine L P acts actor l → IsLocalLine R Q (map react acts) actor (reline l)
      line_local acts actor (put_item link item) h = (
        subst (λ (sn : SnBits). IsLaidOut sn actor link item) (same item.ue) h.0,
        λ x carries. was_at acts actor (item_key item) x (h.1 x (subst (λ (sn : SnBits). Carries sn link item x) (sym (same item.ue)) carries)),
      )
      line_local acts actor (delivers key count x) h = was_at acts actor key x h
      line_local acts actor (put_message number l) h = (h.0, to actor l.to l.message h.1)
      line_local acts actor l h = tt

      by_local : (acts : List (Act M)) (actor : Option NodeId) (ls : List (RunLine M)) → IsLocalBy L P acts actor ls
          → IsLocalBy R Q (map react acts) actor (map reline ls)
      by_local acts None ls h = any_test puts_something puts_something reline puts ls ∙ h
      by_local acts (Some actor) ls h =
          all_mapped (IsLocalLine L P acts actor) (IsLocalLine R Q (map react acts) actor) reline (line_local acts actor) ls h

      from_local : (past acts : List (Act M)) → LocalFrom L P past acts → LocalFrom R Q (map react past) (map react acts)
      from_local past [] h = tt
      from_local past (a ∷ acts) h =
          subst (λ (seen : List (Act N)). IsLocalBy R Q seen a.step.actor (map reline a.step.lines) × LocalFrom R Q seen (map react acts))
          (append_mapped react past (a ∷ []))
          (by_local (past ++ a ∷ []) a.step.actor a.step.lines h.0, from_local (past ++ a ∷ []) acts h.1)

  pub retold_local : (P : NodeId → NodeId → M → Type 0) (Q : NodeId → NodeId → N → Type 0) → ((a b : NodeId) (m : M) → P a b m → Q a b (f m))
      → (hs : List (Happened M)) → Local P hs → Local Q (map rehap hs)
  retold_local P Q to hs h =
      subst (λ (acts : List (Act N)). LocalFrom (sn_in (map rehap hs)) Q [] acts) (sym (all_acts hs))
      (from_local (sn_in hs) (sn_in (map rehap hs)) (lengths hs) P Q to [] (acts_of hs) h)

-- ---- what is printed says all but the words of messages

abbrev back_line : OutLine → RunLine (List ℕ)
back_line (outs.Put link item) = put_item link item
back_line (outs.Got link item) = got_item link item
back_line (outs.PutMessage m) = put_message m.number (record { from = m.from; to = m.to; ue = m.ue; message = m.bytes })
back_line (outs.GotMessage m) = got_message m.number (record { from = m.from; to = m.to; ue = m.ue; message = m.bytes })
back_line (outs.Deliver ue bearer dir count packet) = delivers (record { ue = ue; bearer = bearer; dir = dir }) count packet
back_line (outs.Lost link items) = lost_items link items
back_line (outs.LostMessage number) = lost_message number
back_line (outs.Drop node reason) = drops_input node reason
back_line (outs.Held link reason) = held_at link reason
back_line (outs.Failed node ue cause) = procedure_failed node ue cause
back_line (outs.Quiet ue bearer downlink uplink) = is_quiet ue bearer downlink uplink
back_line (outs.Busy ue bearer) = is_busy ue bearer
back_line (outs.Settled rounds) = has_settled rounds
back_line (outs.Unsettled rounds) = has_not_settled rounds
back_line (outs.Refused reason) = was_refused reason
back_line line = lost_message 0

abbrev back_step : PrintedStep → RunStep (List ℕ)
back_step s = record { actor = s.actor; lines = map back_line s.lines }

abbrev back_event : PrintedEvent → Happened (List ℕ)
back_event h = record { event = h.event; steps = map back_step h.steps }

module _ {M : Type 0} (encode : M → List ℕ) where
  line_back : (l : RunLine M) → back_line (out_line encode l) ≡ reline encode l
  line_back (put_item link item) = refl
  line_back l = refl

  step_back : (s : RunStep M) → back_step (printed_step encode s) ≡ restep encode s
  step_back s = ap (λ (ls : List (RunLine (List ℕ))). record { actor = s.actor; lines = ls }) (twice back_line (out_line encode) (reline encode) line_back s.lines)

  event_back : (h : Happened M) → back_event (printed_event encode h) ≡ rehap encode h
  event_back h = ap (λ (ss : List (RunStep (List ℕ))). record { event = h.event; steps = ss }) (twice back_step (printed_step encode) (restep encode) step_back h.steps)

  run_back : (hs : List (Happened M)) → map back_event (map (printed_event encode) hs) ≡ map (rehap encode) hs
  run_back hs = twice back_event (printed_event encode) (rehap encode) event_back hs

abbrev Octets : Type 0
Octets = List ℕ

abbrev itself : Octets → Octets
itself octets = octets

line_itself : (l : RunLine Octets) → reline itself l ≡ l
line_itself (put_item link item) = refl
line_itself l = refl

step_itself : (s : RunStep Octets) → restep itself s ≡ s
step_itself s = ap (λ (ls : List (RunLine Octets)). record { actor = s.actor; lines = ls }) (unchanged (reline itself) line_itself s.lines)

event_itself : (h : Happened Octets) → rehap itself h ≡ h
event_itself h = ap (λ (ss : List (RunStep Octets)). record { event = h.event; steps = ss }) (unchanged (restep itself) step_itself h.steps)

pub told_so : {M : Type 0} (encode : M → Octets) (said : Transcript M) (told : Transcript Octets) → printed itself told ≡ printed encode said
    → map (rehap encode) said.events ≡ told.events
told_so encode said told e =
    sym (run_back encode said.events) ∙ ap (λ (p : Printed). map back_event p.events) (sym e) ∙ run_back itself told.events
    ∙ unchanged (rehap itself) event_itself told.events

pub as_local : {M : Type 0} (encode : M → Octets) (P : NodeId → NodeId → M → Type 0) (Q : NodeId → NodeId → Octets → Type 0)
    → ((a b : NodeId) (m : M) → P a b m → Q a b (encode m)) → (said : Transcript M) (told : Transcript Octets)
    → printed itself told ≡ printed encode said → Local P said.events → Local Q told.events
as_local encode P Q to said told e h = subst (λ (hs : List (Happened Octets)). Local Q hs) (told_so encode said told e) (retold_local encode P Q to said.events h)
