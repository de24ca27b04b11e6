-- What a call comes to once it is noted whether memory ran out.
use Rattle.std.proofs.Common.{◌≡◌, ◌⊎◌, inl, inr, Bool, true, false, List, Result, Ok, Err, refl, sym, ap, ◌∙◌, subst}
use Rattle.std.specs.Prelude.{IfOk, IfErr}
use Rattle.um_defs.specs.declared.types.error.UmError.{UmError}
use Rattle.um_defs.specs.declared.types.error.UmError.TheVariants as errors
use Rattle.um_defs.specs.declared.types.out.Out.{Out}
use Rattle.um_defs.specs.Receivers.{UmReceiver}
use Rattle.um.specs.um_pdcp.Entity.{UmState, with_entity, runs_out, StaysOut}

-- an entity that lacked memory before
pub still_out : {A : Type 0} (old : UmState) → old.lacks_memory ≡ true → StaysOut {A = A} old old (Err errors.Memory)
still_out old lacks = record { lacks = lacks; stays = λ h. (refl, refl) }

module _ (old mid new : UmState) (b : Bool) (had : old.lacks_memory ≡ false) (set : new ≡ record mid { lacks_memory = b }) where
  abbrev lacking : Bool → UmState → UmState
  lacking x u = record u { lacks_memory = x }

  pub new_entity : new.entity ≡ mid.entity
  new_entity = ap (λ (u : UmState). u.entity) set

  pub new_numbers : mid.sn ≡ old.sn → new.sn ≡ old.sn
  new_numbers same = ap (λ (u : UmState). u.sn) set ∙ same

  same_again : b ≡ false → mid ≡ old → new ≡ old
  same_again none same =
      set ∙ ap (λ (x : Bool). lacking x mid) none ∙ ap (lacking false) same ∙ ap (λ (x : Bool). lacking x old) (sym had)

  same_but_entity : b ≡ false → mid ≡ with_entity old mid.entity → new ≡ with_entity old new.entity
  same_but_entity none same =
      set ∙ ap (λ (x : Bool). lacking x mid) none ∙ ap (lacking false) same
      ∙ ap (λ (x : Bool). lacking x (with_entity old mid.entity)) (sym had)
      ∙ ap (with_entity old) (sym new_entity)

  module _ (answer : Result (List Out) UmError) (is : b ≡ runs_out answer) where
    pub same_where_ok : IfOk answer (λ outs. mid ≡ with_entity old mid.entity) → IfOk answer (λ outs. new ≡ with_entity old new.entity)
    same_where_ok h = by answer is h
      where
        by : (r : Result (List Out) UmError) → b ≡ runs_out r → IfOk r (λ outs. mid ≡ with_entity old mid.entity)
            → IfOk r (λ outs. new ≡ with_entity old new.entity)
        by (Ok outs) none h = same_but_entity none h
        by (Err e) out h = tt

    pub refused_again : (P : UmError → Type 0) → IfErr answer (λ e. (e ≡ errors.Memory) ⊎ (P e × (mid ≡ old)))
        → IfErr answer (λ e. (e ≡ errors.Memory) ⊎ (P e × (new ≡ old)))
    refused_again P h = by answer is h
      where
        on : {e : UmError} → b ≡ false → (e ≡ errors.Memory) ⊎ (P e × (mid ≡ old)) → (e ≡ errors.Memory) ⊎ (P e × (new ≡ old))
        on none (inl memory) = inl memory
        on none (inr h) = inr (h.0, same_again none h.1)

        by : (r : Result (List Out) UmError) → b ≡ runs_out r → IfErr r (λ e. (e ≡ errors.Memory) ⊎ (P e × (mid ≡ old)))
            → IfErr r (λ e. (e ≡ errors.Memory) ⊎ (P e × (new ≡ old)))
        by (Ok outs) none h = tt
        by (Err errors.Memory) out h = inl refl
        by (Err errors.NoCount) none h = on none h
        by (Err (errors.Late count)) none h = on none h
        by (Err (errors.Duplicate count)) none h = on none h
        by (Err (errors.Ahead count)) none h = on none h

    pub noted : StaysOut old new answer
    noted = record {
      lacks = ap (λ (u : UmState). u.lacks_memory) set ∙ is;
      stays = λ lacked. absurd (let clash : false ≡ true = sym had ∙ lacked in cc);
    }
