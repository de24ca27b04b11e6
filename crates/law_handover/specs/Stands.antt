-- A state of a handover stands for the context and the attempt of the procedure tables, and a call of it for a row.
use Rattle.std.specs.Prelude.{◌≡◌, is_some, List, Option, Some, None}
use Rattle.unit_defs.specs.declared.StateName.{StateName}
use Rattle.unit_defs.specs.declared.StateName.TheVariants.{Serving}
use Rattle.unit_defs.specs.CuCpRecords.{Attempt as CpAttempt, CuCpContext, Action, Row, row, row_spent}
use Rattle.unit_defs.specs.CuCpRows.{CuCpScope}
use Rattle.handover.specs.declared.names.Send.{Send}
use Rattle.handover.specs.declared.attempt.Attempt.{Attempt}
use Rattle.handover.specs.Rows.{Onward, Ending}
use Rattle.law_handover.specs.Named.{all_named, all_sent}

-- the attempt of the tables is this one: what it is, with which epoch, and what was switched
pub record IsAttempt (h : Attempt) (a : CpAttempt) : Type 0 where
  pub kind : a.kind ≡ h.kind
  pub epoch : a.epoch ≡ h.epoch
  pub switched : a.switched ≡ h.switched
  pub path : a.path_open ≡ is_some h.awaits.core

abbrev pub IsOf : Attempt → Option CpAttempt → Type 0
IsOf h None = ⊥
IsOf h (Some a) = IsAttempt h a

-- a context in this state, with this attempt
abbrev pub IsIn : StateName → Attempt → Option CuCpContext → Type 0
IsIn state h None = ⊥
IsIn state h (Some c) = (c.state ≡ state) × IsOf h c.attempt

-- where a step begins: the unit and the terminal, its context, and its attempt
pub record Place : Type 0 where
  pub at : CuCpScope
  pub context : CuCpContext
  pub attempt : CpAttempt

abbrev pub place : CuCpScope → CuCpContext → CpAttempt → Place
place at c a = record { at = at; context = c; attempt = a }

abbrev pub Says : {C : Type 0} → Place → Option Attempt → List Send → List (Action C) → Type 0
Says p next sends says = all_named says ≡ all_sent p.at p.context p.attempt next sends

-- the row says what the call says, in order, and leaves a context in this state with the next attempt
abbrev pub Goes : {C : Type 0} → Place → StateName → Onward → Row C → Type 0
Goes p state onward (row says after) = Says p (Some onward.0) onward.1 says × IsIn state onward.0 after.context
Goes p state onward (row_spent counter) = ⊥

-- the attempt is over: the terminal is served, or has no context any more
abbrev pub IsServed : Option CuCpContext → Type 0
IsServed None = ⊥
IsServed (Some c) = (c.state ≡ Serving) × (c.attempt ≡ None)

abbrev pub Serves : {C : Type 0} → Place → List Send → Row C → Type 0
Serves p sends (row says after) = Says p None sends says × IsServed after.context
Serves p sends (row_spent counter) = ⊥

abbrev pub GivesUp : {C : Type 0} → Place → List Send → Row C → Type 0
GivesUp p sends (row says after) = Says p None sends says × (after.context ≡ None)
GivesUp p sends (row_spent counter) = ⊥

-- the same where the state may be the last one: the terminal is served then
abbrev pub MayEndBy : {C : Type 0} → Place → StateName → Option Attempt → List Send → Row C → Type 0
MayEndBy p state None sends r = Serves p sends r
MayEndBy p state (Some h) sends r = Goes p state (h, sends) r

abbrev pub MayEnd : {C : Type 0} → Place → StateName → Ending → Row C → Type 0
MayEnd p state ending r = MayEndBy p state ending.0 ending.1 r
