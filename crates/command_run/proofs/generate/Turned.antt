-- The events of moments, of a packet's turn, and of all turns.
use Rattle.std.proofs.Common.{◌≡◌, ◌==◌, ℕ, suc, ◌+◌, ◌-◌, ◌/◌, ◌%◌, ◌<◌, ◌≤◌, Bool, true, false, if◌then◌else◌, List, [], ◌∷◌, ◌++◌, None, length, map, drop, get_or, drop-cons, add-one, sym, ap, subst, arith}
use Rattle.std.specs.Prelude.{Result, Ok, Err}
use Rattle.std.proofs.Math.ListN.{drop_of_length-le}
use Rattle.scenario_text.specs.declared.event.Event.{Event}
use Rattle.scenario_text.specs.declared.event.Event.TheVariants.{Ask}
use Rattle.run_links.specs.Networks.{OctetWorld}
use Rattle.world_steps.specs.declared.cause.Cause.{Cause}
use Rattle.command_run.specs.declared.generate.script.Moment.{Moment}
use Rattle.command_run.specs.declared.generate.script.Moment.TheVariants.{Offer}
use Rattle.command_run.specs.declared.generate.script.Place.{Place}
use Rattle.command_run.specs.generate.Script.{u1, b1, packet_events, return_events, turn_events, turns_from}
use Rattle.command_run.specs.generate.inside.Moments.{event_at}
use Rattle.command_run.specs.generate.inside.Passing.{RunAt, Follows}
use Rattle.command_run.proofs.generate.Passed.{then_follows, stops_first, none_follow, no_more}

-- what is left follows from here, and so all follows from the beginning
abbrev pub Continues : OctetWorld → List Event → RunAt → List Event → RunAt → Type 0
Continues world all old left here =
    (new : RunAt) (result : Result (Unit {0}) Cause) → Follows world left here new result → Follows world all old new result

-- ---- moments

pub first_of : (moments : List Moment) (i : ℕ) → i < length moments → drop i moments ≡ get_or moments i Offer ∷ drop (i + 1) moments
first_of moments i h = rw add-one (drop-cons moments i Offer h)

pub none_of : (moments : List Moment) (i : ℕ) → length moments ≤ i → drop i moments ≡ []
none_of moments i h = drop_of_length-le moments h

module _ (world : OctetWorld) (place : Place) (all : List Event) (old here : RunAt) (left : List Moment)
    (so_far : Continues world all old (map (event_at place) left) here) where
  pub one_moment : (moment : Moment) (rest : List Moment) (next : RunAt) → left ≡ moment ∷ rest
      → Follows world (event_at place moment ∷ []) here next (Ok tt) → Continues world all old (map (event_at place) rest) next
  one_moment moment rest next e h = λ new result k.
      so_far new result
      (subst (λ (ms : List Moment). Follows world (map (event_at place) ms) here new result) (sym e)
      (then_follows world (event_at place moment ∷ []) (map (event_at place) rest) here next new result h k))

  pub moment_stops : (moment : Moment) (rest : List Moment) (next : RunAt) (cause : Cause) → left ≡ moment ∷ rest
      → Follows world (event_at place moment ∷ []) here next (Err cause) → Follows world all old next (Err cause)
  moment_stops moment rest next cause e h =
      so_far next (Err cause)
      (subst (λ (ms : List Moment). Follows world (map (event_at place) ms) here next (Err cause)) (sym e)
      (stops_first world (event_at place moment ∷ []) (map (event_at place) rest) here next cause h))

  pub moments_end : left ≡ [] → here.world.stop ≡ None → Follows world all old here (Ok tt)
  moments_end e going =
      so_far here (Ok tt)
      (subst (λ (ms : List Moment). Follows world (map (event_at place) ms) here here (Ok tt)) (sym e) (none_follow world here going))

-- ---- a turn

returns_at : ℕ → Bool → List Event
returns_at packet comes = if comes then return_events (packet / 100 + 1) else []

turn_is : (packet : ℕ) (comes : Bool) → ((packet + 1) % 100 == 0) ≡ comes
    → turn_events packet ≡ packet_events packet (packet / 100) ++ returns_at packet comes
unfolding returns_at
turn_is packet comes e =
    ap (λ (b : Bool). packet_events packet (packet / 100) ++ (if b then return_events (packet / 100 + 1) else [])) e

module _ (world : OctetWorld) (packet : ℕ) (old mid : RunAt) where
  pub turn_passes : ((packet + 1) % 100 == 0) ≡ false → Follows world (packet_events packet (packet / 100)) old mid (Ok tt)
      → Follows world (turn_events packet) old mid (Ok tt)
  unfolding returns_at
  turn_passes e h =
      subst (λ (es : List Event). Follows world es old mid (Ok tt)) (sym (turn_is packet false e))
      (no_more world (packet_events packet (packet / 100)) old mid (Ok tt) h)

  pub turn_returns : (new : RunAt) (result : Result (Unit {0}) Cause) → ((packet + 1) % 100 == 0) ≡ true
      → Follows world (packet_events packet (packet / 100)) old mid (Ok tt)
      → Follows world (return_events (packet / 100 + 1)) mid new result → Follows world (turn_events packet) old new result
  unfolding returns_at
  turn_returns new result e h k =
      subst (λ (es : List Event). Follows world es old new result) (sym (turn_is packet true e))
      (then_follows world (packet_events packet (packet / 100)) (return_events (packet / 100 + 1)) old mid new result h k)

  pub turn_stops : (cause : Cause) → Follows world (packet_events packet (packet / 100)) old mid (Err cause)
      → Follows world (turn_events packet) old mid (Err cause)
  turn_stops cause h =
      stops_first world (packet_events packet (packet / 100)) (if (packet + 1) % 100 == 0 then return_events (packet / 100 + 1) else []) old mid cause h

-- ---- all turns

counted : (P : ℕ → Type 0) (times done : ℕ) → done < times → P (suc (times - (done + 1))) → P (times - done)
counted P times done h p = let e : suc (times - (done + 1)) ≡ times - done = omega arith in subst P e p

none_left : (P : ℕ → Type 0) (times done : ℕ) → times ≤ done → P 0 → P (times - done)
none_left P times done h p = let e : 0 ≡ times - done = omega arith in subst P e p

module _ (world : OctetWorld) (all : List Event) (old here : RunAt) (packets done : ℕ)
    (so_far : Continues world all old (turns_from done (packets - done)) here) where
  pub one_turn : (next : RunAt) → done < packets → Follows world (turn_events done) here next (Ok tt)
      → Continues world all old (turns_from (done + 1) (packets - (done + 1))) next
  unfolding turns_from
  one_turn next below h = λ new result k.
      so_far new result
      (counted (λ (n : ℕ). Follows world (turns_from done n) here new result) packets done below
      (then_follows world (turn_events done) (turns_from (done + 1) (packets - (done + 1))) here next new result h k))

  pub last_turn : (next : RunAt) (cause : Cause) → done < packets → Follows world (turn_events done) here next (Err cause)
      → Follows world all old next (Err cause)
  unfolding turns_from
  last_turn next cause below h =
      so_far next (Err cause)
      (counted (λ (n : ℕ). Follows world (turns_from done n) here next (Err cause)) packets done below
      (stops_first world (turn_events done) (turns_from (done + 1) (packets - (done + 1))) here next cause h))

  pub asks : (new : RunAt) (result : Result (Unit {0}) Cause) → packets ≤ done → Follows world (Ask u1 b1 ∷ []) here new result
      → Follows world all old new result
  unfolding turns_from
  asks new result end h =
      so_far new result (none_left (λ (n : ℕ). Follows world (turns_from done n) here new result) packets done end h)
