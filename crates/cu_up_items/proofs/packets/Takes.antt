-- Packets down: what each case of the tables comes to.
use Rattle.std.proofs.Common.{◌≡◌, ℕ, Bool, true, false, cond, List, [], ◌∷◌, ◌++◌, Option, Some, None, Ok, Err, refl, sym, ap, ◌∙◌, subst}
use Rattle.std.specs.Prelude.{Result}
use Rattle.std.specs.Result.{IsErrAnd}
use Rattle.std.proofs.lemmas.Result.{err_from_is_err_and}
use Rattle.gnb_types.specs.declared.outputs.Output.{Output}
use Rattle.gnb_types.specs.declared.names.Dir.TheVariants.{Dl}
use Rattle.gnb_types.specs.declared.outputs.Tag.TheVariants.{Absent, Same}
use Rattle.gnb_types.specs.declared.reasons.DropReason.TheVariants.{Duplicate}
use Rattle.pdcp_defs.specs.Senders.{may_restore, restored}
use Rattle.unit_defs.specs.Ways.{fresh, numbered, drops}
use Rattle.unit_defs.specs.CuUpRecords.{CuUpBearer}
use Rattle.unit_defs.specs.CuUpBearers.{sent, number_waiting}
use Rattle.unit_defs.specs.CuUpItems.{took_fresh, took_numbered, restored_at}
use Rattle.unit_defs.specs.octet_defs.Codec.{Codec, octet_way}
use Rattle.unit_defs.specs.octet_defs.Units.{OctetAnswer}
use Rattle.unit_messages.specs.declared.steps.StepError.{StepError}
use Rattle.unit_messages.specs.declared.steps.StepError.TheVariants as errors
use Rattle.unit_messages.specs.steps.Steps.{Step, IsStep}
use Rattle.cu_up_bearer.specs.declared.tunnels.at.Scope.{Scope}
use Rattle.cu_up_bearer.specs.tunnels.Tunnels.{at_as}
use Rattle.cu_up_items.specs.packets.Passing.{passed_on}

fails_by : {R : Type 0} (X Y : Type 0) (s : Step R) (out : List Output) (r : R) (e : StepError) → IsStep {X = X} s out r (Err e)
    → (after : List Output) (t : R) → IsStep {X = Y} s after t (Err e)
fails_by X Y s out r (errors.Spent counter) is after t = is
fails_by X Y s out r errors.Memory is after t = tt

-- a call that gave no step
pub fails_alike : {R : Type 0} (X Y : Type 0) (s : Step R) (out : List Output) (r : R) (e : StepError) → IsStep {X = X} s out r (Err e)
    → (after : List Output) (t : R) (result : Result Y StepError) → IsErrAnd result (λ y. y ≡ e) → IsStep s after t result
fails_alike {R} X Y s out r e is after t result err =
    let q = err_from_is_err_and result err in
    subst (λ (x : Result Y StepError). IsStep s after t x) (sym q.1)
    (subst (λ (y : StepError). IsStep {X = Y} s after t (Err y)) (sym q.2) (fails_by X Y s out r e is after t))

module _ (codec : Codec) (a : Scope) (b : CuUpBearer) (p : List ℕ) where
  abbrev pub waits : CuUpBearer
  waits = record b { waiting = b.waiting ++ p ∷ [] }

  abbrev pub fresh_row : OctetAnswer CuUpBearer
  fresh_row = took_fresh (octet_way codec) (at_as a) p b

  abbrev pub fresh_passed : CuUpBearer → OctetAnswer CuUpBearer
  fresh_passed c = passed_on (octet_way codec) Dl (at_as a) Absent (fresh p) c

  abbrev pub fresh_by : Bool → Bool → OctetAnswer CuUpBearer
  fresh_by released frozen = cond released (fresh_passed b) (cond frozen (fresh_passed waits) (number_waiting (octet_way codec) (at_as a) waits))

  fresh_is : fresh_row ≡ fresh_by a.flags.released a.flags.frozen
  unfolding took_fresh
  fresh_is = refl

  pub fresh_released : a.flags.released ≡ true → fresh_row ≡ fresh_passed b
  fresh_released is = fresh_is ∙ ap (λ (r : Bool). fresh_by r a.flags.frozen) is

  pub fresh_frozen : a.flags.released ≡ false → a.flags.frozen ≡ true → fresh_row ≡ fresh_passed waits
  fresh_frozen lives is = fresh_is ∙ ap (λ (r : Bool). fresh_by r a.flags.frozen) lives ∙ ap (λ (f : Bool). fresh_by false f) is

  pub fresh_goes : a.flags.released ≡ false → a.flags.frozen ≡ false → fresh_row ≡ number_waiting (octet_way codec) (at_as a) waits
  fresh_goes lives is = fresh_is ∙ ap (λ (r : Bool). fresh_by r a.flags.frozen) lives ∙ ap (λ (f : Bool). fresh_by false f) is

  -- ---- with a number

  abbrev pub numbered_row : Option ℕ → OctetAnswer CuUpBearer
  numbered_row o = took_numbered (octet_way codec) (at_as a) o p b

  pub numbered_none : (o : Option ℕ) → o ≡ None → numbered_row o ≡ drops Duplicate b
  unfolding took_numbered
  numbered_none o is = ap (λ (x : Option ℕ). numbered_row x) is

  module _ (o : Option ℕ) (count : ℕ) (found : o ≡ Some count) where
    abbrev pub holds : CuUpBearer
    holds = record b { sender = restored b.sender count p }

    abbrev pub came : CuUpBearer
    came = record b { sender = restored b.sender count p; taken_while_frozen = b.taken_while_frozen ++ count ∷ [] }

    abbrev pub numbered_passed : CuUpBearer → OctetAnswer CuUpBearer
    numbered_passed c = passed_on (octet_way codec) Dl (at_as a) Same (numbered a.sn count p) c

    abbrev pub numbered_by : Bool → Bool → Bool → OctetAnswer CuUpBearer
    numbered_by released may frozen =
        cond released (numbered_passed b)
        (cond may (cond frozen (numbered_passed came) (sent (octet_way codec) (at_as a) count p Same holds)) (drops Duplicate b))

    numbered_is : numbered_row o ≡ numbered_by a.flags.released (may_restore a.sn a.quota b.sender count) a.flags.frozen
    unfolding took_numbered
    numbered_is = ap (λ (x : Option ℕ). numbered_row x) found

    pub numbered_released : a.flags.released ≡ true → numbered_row o ≡ numbered_passed b
    numbered_released is =
        numbered_is ∙ ap (λ (r : Bool). numbered_by r (may_restore a.sn a.quota b.sender count) a.flags.frozen) is

    numbered_lives : (may : Bool) → a.flags.released ≡ false → may_restore a.sn a.quota b.sender count ≡ may → numbered_row o ≡ numbered_by false may a.flags.frozen
    numbered_lives may lives is =
        numbered_is ∙ ap (λ (r : Bool). numbered_by r (may_restore a.sn a.quota b.sender count) a.flags.frozen) lives
        ∙ ap (λ (m : Bool). numbered_by false m a.flags.frozen) is

    pub numbered_refused : a.flags.released ≡ false → may_restore a.sn a.quota b.sender count ≡ false → numbered_row o ≡ drops Duplicate b
    numbered_refused lives is = numbered_lives false lives is

    pub numbered_sent : a.flags.released ≡ false → may_restore a.sn a.quota b.sender count ≡ true → a.flags.frozen ≡ false
        → numbered_row o ≡ sent (octet_way codec) (at_as a) count p Same holds
    numbered_sent lives is thawed = numbered_lives true lives is ∙ ap (λ (f : Bool). numbered_by false true f) thawed

    pub numbered_frozen : a.flags.released ≡ false → may_restore a.sn a.quota b.sender count ≡ true → a.flags.frozen ≡ true
        → numbered_row o ≡ numbered_passed came
    numbered_frozen lives is frozen = numbered_lives true lives is ∙ ap (λ (f : Bool). numbered_by false true f) frozen
