-- The outputs of a step, one after another.
use Rattle.std.proofs.Common.{◌≡◌, ℕ, ◌+◌, ◌≤◌, List, [], ◌∷◌, Option, cond, refl, sym, ◌∙◌, ap, subst, arith, add-zero}
use Rattle.std.specs.Prelude.{map}
use Rattle.std.proofs.lemmas.List.{append-nil}
use Rattle.std.proofs.lemmas.List.Sums.{sum_by-cons}
use Rattle.gnb_types.specs.declared.names.NodeId.{NodeId}
use Rattle.gnb_types.specs.declared.keys.EntityKey.{EntityKey}
use Rattle.gnb_types.specs.declared.outputs.Tag.{Tag}
use Rattle.gnb_types.specs.declared.outputs.Tag.TheVariants.{Absent, Own, Same}
use Rattle.gnb_types.specs.declared.outputs.Output.{Output}
use Rattle.scenario_text.specs.declared.line.OutLine.{OutLine}
use Rattle.transport_defs.specs.Links.{most_control_messages}
use Rattle.run_defs.specs.Steps.{noted, put_out, put_out_all}
use Rattle.run_defs.specs.UnitRuns.{Records, unit_world, put_of}
use Rattle.run_links.specs.declared.network.Network.{Network}
use Rattle.run_links.specs.Networks.{OctetCore, OctetState, state_of, noted_in, is_control_message, control_messages_in}
use Rattle.run_links.specs.Told.{GoesTo, Act, Makes}
use Rattle.run_links.proofs.Goes.{then_goes}

control_messages_cons : (o : Output) (os : List Output) → control_messages_in (o ∷ os) ≡ control_messages_in (o ∷ []) + control_messages_in os
control_messages_cons o os = sum_by-cons (λ x. cond (is_control_message x) 1 0) o os ∙ ap (λ (n : ℕ). n + control_messages_in os) (sym (add-zero (cond (is_control_message o) 1 0)) ∙ sym (one o))
  where
    one : (o : Output) → control_messages_in (o ∷ []) ≡ cond (is_control_message o) 1 0 + 0
    one o = sum_by-cons (λ x. cond (is_control_message x) 1 0) o []

-- the room that is left once an output is put
pub room_left : (before after : ℕ) (o : Output) (os all : List Output) → all ≡ o ∷ os → after ≡ before + control_messages_in (o ∷ [])
    → before + control_messages_in all ≤ most_control_messages → after + control_messages_in os ≤ most_control_messages
room_left before after o os all is more room =
    let there : before + control_messages_in (o ∷ os) ≤ most_control_messages = subst (λ (l : List Output). before + control_messages_in l ≤ most_control_messages) is room in
    let parts : control_messages_in (o ∷ os) ≡ control_messages_in (o ∷ []) + control_messages_in os = control_messages_cons o os in
    left after before (control_messages_in (o ∷ os)) (control_messages_in (o ∷ [])) (control_messages_in os) most_control_messages there parts more
  where
    left : (a b n k m most : ℕ) → b + n ≤ most → n ≡ k + m → a ≡ b + k → a + m ≤ most
    left a b n k m most h e f = omega arith

pub put_none : (node : NodeId) (taken : Option ℕ) (g : Network) (lines : List OutLine)
    → Makes (λ world. put_out_all world node taken []) g g lines lines
unfolding put_out_all
put_none node taken g lines codec answer units core = (sym (append-nil lines), refl)

pub put_then : (node : NodeId) (taken : Option ℕ) (o : Output) (os : List Output) (old middle new : Network) (before between lines : List OutLine)
    → Makes (λ world. put_out world node taken (put_of o)) old middle before between
    → Makes (λ world. put_out_all world node taken (map put_of os)) middle new between lines
    → Makes (λ world. put_out_all world node taken (map put_of (o ∷ os))) old new before lines
unfolding put_out_all
put_then node taken o os old middle new before between lines h k codec answer units core =
    let world = unit_world codec answer in
    then_goes (put_out world node taken (put_of o) (state_of units core old)) (put_out_all world node taken (map put_of os)) before between lines
    (state_of units core middle) (state_of units core new) (h codec answer units core) (k codec answer units core)

-- ---- a COUNT that a unit gives is numbered, before its item is put

noted_state : (units : Records) (core : OctetCore) (g : Network) (key : EntityKey) (tag : Tag)
    → state_of units core (record g { books = noted_in g.books key tag }) ≡ noted key tag (state_of units core g)
noted_state units core g key Absent = refl
noted_state units core g key (Own count) = refl
noted_state units core g key Same = refl

pub after_noted : (act : Act) (key : EntityKey) (tag : Tag) (old middle new : Network) (before lines : List OutLine)
    → middle ≡ record old { books = noted_in old.books key tag } → Makes act middle new before lines
    → Makes (λ world s. act world (noted key tag s)) old new before lines
after_noted act key tag old middle new before lines is h codec answer units core =
    subst (λ (s : OctetState). GoesTo before (act (unit_world codec answer) s) lines (state_of units core new))
    (ap (λ (g : Network). state_of units core g) is ∙ noted_state units core old key tag) (h codec answer units core)
