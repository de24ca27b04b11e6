use Rattle.std.proofs.Common.{◌≡◌, ℕ, ◌+◌, ◌-◌, ◌<◌, ◌≤◌, ◌≢◌, ◌==◌, true, List, [], ◌∷◌, ◌++◌, Option, Some, length, arith, sym, ap, ◌∙◌, refl, eqb-true}
use Rattle.std.proofs.lemmas.Bool.Decides.{nat_tests}
use Rattle.std.proofs.lemmas.Bool.{eqb-false}
use Rattle.circular_buffer.specs.Buffer.{Buffer}
use Rattle.pdcp_entities.specs.declared.ring.Ring.{Ring}
use Rattle.pdcp_entities.specs.inside.Rings.{held, held_from, padded, IsLastFull}
use Rattle.pdcp_entities.proofs.SlotLemmas.{appended, no_items, last-after}
use Rattle.pdcp_entities.proofs.ring.Ring.append.Goals.{then-is_empty, else-is_empty}
use Rattle.pdcp_entities.proofs.ring.Ring.append.Goals as goal

pub returns-clause-held : goal.returns-clause-held
returns-clause-held c =
    let old = c.args.self.now in
    let mid = c.if-is_empty.self in
    let same : held_from mid.first old.slots.items ≡ held old =
    elim c.if-is_empty.branch [
      | then-is_empty w ↦ no_items mid.first old.first old.slots.items (sym c.is_empty.ensures ∙ w.if-is_empty.true)
      | else-is_empty w ↦ ap (λ (r : Ring). held_from r.first old.slots.items) w.self-is
    ] in
    let slots : mid.slots.items ≡ old.slots.items =
    elim c.if-is_empty.branch [
      | then-is_empty w ↦ ap (λ (r : Ring). r.slots.items) w.self-is
      | else-is_empty w ↦ ap (λ (r : Ring). r.slots.items) w.self-is
    ] in
    let from : mid.first ≤ c.args.count =
    elim c.if-is_empty.branch [
      | then-is_empty w ↦ omega (arith, ap (λ (r : Ring). r.first) w.self-is)
      | else-is_empty w ↦
          let some : length old.slots.items ≢ 0 = eqb-false (length old.slots.items) 0 (sym c.is_empty.ensures ∙ w.if-is_empty.false) in
          let after = c.requires.after (omega arith) in
          omega (arith, ap (λ (r : Ring). r.first) w.self-is)
    ] in
    let within : length old.slots.items ≤ c.args.count - mid.first =
    elim c.if-is_empty.branch [
      | then-is_empty w ↦ omega (arith, eqb-true (length old.slots.items) 0 (sym c.is_empty.ensures ∙ w.if-is_empty.true))
      | else-is_empty w ↦
          let some : length old.slots.items ≢ 0 = eqb-false (length old.slots.items) 0 (sym c.is_empty.ensures ∙ w.if-is_empty.false) in
          let after = c.requires.after (omega arith) in
          omega (arith, ap (λ (r : Ring). r.first) w.self-is)
    ] in
    ap (λ n. held_from n c.push.new.self.slots.items) c.push.ensures.first
    ∙ (ap (λ b. held_from mid.first b.items) c.push.ensures.slots
    ∙ (ap (λ ss. held_from mid.first (padded ss (c.args.count - mid.first) ++ Some c.args.place ∷ [])) slots
    ∙ appended old.first mid.first c.args.count old.slots.items c.args.place same from within))

pub returns-clause-last_full : goal.returns-clause-last_full
returns-clause-last_full c = rw c.push.ensures.slots (last-after (padded c.if-is_empty.self.slots.items (c.args.count - c.if-is_empty.self.first)) c.args.place)
