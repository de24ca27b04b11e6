-- Control messages are put, given and lost: what the calls of the bag give, and what the run makes of it.
use Rattle.std.proofs.Common.{◌≡◌, ℕ, ◌+◌, ◌<◌, Bool, true, false, List, [], ◌∷◌, ◌++◌, length, Option, Some, None, refl, sym, ◌∙◌, ap}
use Rattle.std.specs.Prelude.{Result, Ok, Err, nat_lt}
use Rattle.std.proofs.lemmas.List.{length-append}
use Rattle.std.proofs.lemmas.Bool.Decides.{Decides-ltb}
use Rattle.scenario_text.specs.declared.line.OutLine.{OutLine}
use Rattle.scenario_text.specs.declared.line.OutLine.TheVariants as outs
use Rattle.transport_defs.specs.declared.ControlMessage.{ControlMessage}
use Rattle.transport_defs.specs.Links.{Bag, most_control_messages, put_control_message, control_message, landed, is_in}
use Rattle.links.specs.declared.links_bag.error.LinkError.{LinkError}
use Rattle.links.specs.declared.links_bag.error.LinkError.TheVariants as errors
use Rattle.links.specs.links_bag.Answers.{gives, refuses, AnswersSurely}
use Rattle.links.specs.links_bag.Bags.{put, give, lose, lose_in}
use Rattle.run_defs.specs.Printing.{shown_message}
use Rattle.run_defs.specs.Steps.{put_control}
use Rattle.run_defs.specs.Events.{landed_as, lose_message, lose_message_on}
use Rattle.run_defs.specs.UnitRuns.{Records, unit_world}
use Rattle.run_links.specs.declared.network.Network.{Network}
use Rattle.run_links.specs.Networks.{Octets, OctetWorld, OctetCore, state_of}
use Rattle.run_links.specs.Told.{EndsAt, Makes, Ends, lost_line}

-- ---- one is put

puts : (old new : Bag Octets) (l : ControlMessage Octets) (number : ℕ) → put old l ≡ gives number new → length old.control_messages < most_control_messages
    → (number ≡ length old.control_messages + 1) × (new ≡ put_control_message old l)
puts old new l number h few =
    let open_ : nat_lt (length old.control_messages) most_control_messages ≡ true = (Decides-ltb (length old.control_messages) most_control_messages).1 few in
    let k : gives (length old.control_messages + 1) (put_control_message old l) ≡ gives number new = rw open_ at h in (cc, cc)

pub put_makes : (old new : Network) (l : ControlMessage Octets) (number : ℕ) (before lines : List OutLine) → put old.bag l ≡ gives number new.bag
    → length old.bag.control_messages < most_control_messages → new ≡ record old { bag = new.bag }
    → lines ≡ before ++ outs.PutMessage (shown_message (λ octets. octets) number l) ∷ [] → Makes (λ world. put_control world l) old new before lines
unfolding put_control
put_makes old new l number before lines h few same told codec answer units core =
    let k = puts old.bag new.bag l number h few in (
      told ∙ ap (λ (n : ℕ). before ++ outs.PutMessage (shown_message (λ octets. octets) n l) ∷ []) k.0,
      ap (λ (b : Bag Octets). state_of units core (record old { bag = b })) (sym k.1) ∙ ap (λ (g : Network). state_of units core g) (sym same),
    )

pub put_longer : (old new : Bag Octets) (l : ControlMessage Octets) (number : ℕ) → put old l ≡ gives number new → length old.control_messages < most_control_messages
    → length new.control_messages ≡ length old.control_messages + 1
unfolding put_control_message
put_longer old new l number h few =
    ap (λ (b : Bag Octets). length b.control_messages) (puts old new l number h few).1
    ∙ length-append old.control_messages ((length old.control_messages + 1, l) ∷ [])

-- ---- one is given

gives_control_message : (old new : Bag Octets) (l value : ControlMessage Octets) (number : ℕ) → give old number ≡ gives value new → control_message old number ≡ Some l
    → (value ≡ l) × (new ≡ landed old number)
gives_control_message old new l value number h there = let k : gives l (landed old number) ≡ gives value new = rw there at h in (cc, cc)

pub land_makes : (old new : Network) (l value : ControlMessage Octets) (number : ℕ) (before lines : List OutLine) → give old.bag number ≡ gives value new.bag
    → new ≡ record old { bag = new.bag } → control_message old.bag number ≡ Some l
    → lines ≡ before ++ outs.GotMessage (shown_message (λ octets. octets) number value) ∷ []
    → Makes (λ world. landed_as world number l) old new before lines
land_makes old new l value number before lines h same there told codec answer units core =
    let k = gives_control_message old.bag new.bag l value number h there in (
      told ∙ ap (λ (v : ControlMessage Octets). before ++ outs.GotMessage (shown_message (λ octets. octets) number v) ∷ []) k.0,
      ap (λ (b : Bag Octets). state_of units core (record old { bag = b })) (sym k.1) ∙ ap (λ (g : Network). state_of units core g) (sym same),
    )

-- ---- one is lost

lose_on : (world : OctetWorld) (old new : Network) (units : Records) (core : OctetCore) (number : ℕ) (before lines : List OutLine)
    (result : Result (Unit {0}) LinkError) (there : Option (ControlMessage Octets)) (flies : Bool) → is_in number old.bag.flight ≡ flies
    → AnswersSurely (lose_in old.bag number there) old.bag new.bag result → new ≡ record old { bag = new.bag }
    → lines ≡ before ++ lost_line number result ∷ []
    → EndsAt before (lose_message_on world number (state_of units core old) there) lines (state_of units core new)
lose_on world old new units core number before lines (Ok done) None flies is h same told = absurd cc
lose_on world old new units core number before lines (Err error) None flies is h same told =
    let k : errors.NoSuch ≡ error = cc in (
      told ∙ ap (λ (e : LinkError). before ++ lost_line number (Err e) ∷ []) (sym k),
      sym (ap (λ (g : Network). state_of units core g) same ∙ ap (λ (b : Bag Octets). state_of units core (record old { bag = b })) h.1),
    )
lose_on world old new units core number before lines (Ok done) (Some l) true is h same told =
    let k : gives tt (landed old.bag number) ≡ gives done new.bag = rw is at h in
    let left : landed old.bag number ≡ new.bag = cc in
    rw is (
      told,
      ap (λ (b : Bag Octets). state_of units core (record old { bag = b })) left ∙ ap (λ (g : Network). state_of units core g) (sym same),
    )
lose_on world old new units core number before lines (Err error) (Some l) true is h same told =
    let k : gives tt (landed old.bag number) ≡ refuses error = rw is at h.0 in absurd cc
lose_on world old new units core number before lines (Ok done) (Some l) false is h same told =
    let k : refuses errors.Empty ≡ gives done new.bag = rw is at h in absurd cc
lose_on world old new units core number before lines (Err error) (Some l) false is h same told =
    let k : refuses errors.Empty ≡ refuses error = rw is at h.0 in
    let e : errors.Empty ≡ error = cc in
    rw is (
      told ∙ ap (λ (e : LinkError). before ++ lost_line number (Err e) ∷ []) (sym e),
      sym (ap (λ (g : Network). state_of units core g) same ∙ ap (λ (b : Bag Octets). state_of units core (record old { bag = b })) h.1),
    )

pub lose_makes : (old new : Network) (number : ℕ) (before lines : List OutLine) (result : Result (Unit {0}) LinkError)
    → AnswersSurely (lose old.bag number) old.bag new.bag result → new ≡ record old { bag = new.bag }
    → lines ≡ before ++ lost_line number result ∷ [] → Ends (λ world. lose_message world number) old new before lines
unfolding lose_message
lose_makes old new number before lines result h same told codec answer units core =
    lose_on (unit_world codec answer) old new units core number before lines result (control_message old.bag number) (is_in number old.bag.flight) refl h same told
