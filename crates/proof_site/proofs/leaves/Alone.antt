-- An answer of one output, by which a unit makes no step.
use Rattle.std.proofs.Common.{◌≡◌, ℕ, List, [], ◌∷◌, refl, sym, ap, ◌∙◌, subst}
use Rattle.gnb_types.specs.declared.outputs.Output.{Output}
use Rattle.gnb_types.specs.declared.outputs.Output.TheVariants as outs
use Rattle.unit_defs.specs.Ways.{Put, Load, control, packet, radio, deliver, dropped, held, opened, closed, failed, no, gives, spent}
use Rattle.unit_defs.specs.octet_defs.Codec.{Codec}
use Rattle.unit_defs.specs.octet_defs.Units.{OctetAnswer}
use Rattle.unit_defs.specs.octet_defs.Writing.{output_of}
use Rattle.run_defs.specs.UnitRuns.{Records, UnitAnswer, unit_gives, unit_spent, answered_with}
use Rattle.proof_site.specs.lone_units.Lone.{IsMade, Makes, StaysWhereLone}

-- that a unit holds its input, or refuses an event
abbrev pub IsAlone : Output → Type 0
IsAlone (outs.Held reason) = Unit {0}
IsAlone (outs.No reason) = Unit {0}
IsAlone output = ⊥

abbrev OctetPut : Type 0
OctetPut = Put (List ℕ) (Load (List ℕ)) (List ℕ)

abbrev after_in : Records → UnitAnswer → Records
after_in r (unit_gives outputs after) = after
after_in r (unit_spent counter) = r

not_alone : (o : OctetPut) → IsMade o → IsAlone (output_of o) → ⊥
not_alone (held reason) p is = p
not_alone (no reason) p is = p
not_alone o p is = is

stays_alone : {R : Type 0} (r x : R) (o : OctetPut) → StaysWhereLone r (gives (o ∷ []) x) → IsAlone (output_of o) → x ≡ r
stays_alone r x (held reason) h is = h
stays_alone r x (no reason) h is = h
stays_alone r x o h is = absurd is

module _ (codec : Codec) {R : Type 0} (back : R → Records) where
  -- a step that is made puts something else
  pub made_apart : (a : OctetAnswer R) → Makes a → (o : Output) (after : Records) → IsAlone o → answered_with codec back a ≡ unit_gives (o ∷ []) after → ⊥
  made_apart (gives [] x) p o after is e = cc
  made_apart (gives (q ∷ os) x) p o after is e =
      let same : output_of q ≡ o = cc in not_alone q p.0 (subst (λ (y : Output). IsAlone y) (sym same) is)
  made_apart (spent counter) p o after is e = cc

  -- what stands alone leaves the unit as it was
  pub alone_after : (r : R) (a : OctetAnswer R) → StaysWhereLone r a → (o : Output) (after : Records) → IsAlone o
      → answered_with codec back a ≡ unit_gives (o ∷ []) after → after ≡ back r
  alone_after r (gives [] x) h o after is e = absurd cc
  alone_after r (gives (q ∷ []) x) h o after is e =
      let same : output_of q ≡ o = cc in
      sym (ap (after_in (back x)) e) ∙ ap back (stays_alone r x q h (subst (λ (y : Output). IsAlone y) (sym same) is))
  alone_after r (gives (q ∷ w ∷ os) x) h o after is e = absurd cc
  alone_after r (spent counter) h o after is e = absurd cc
