-- The receiving entity of an unacknowledged bearer as contracts see it: the length of its numbers, the ticks of its timer, the entity of
-- TS 38.323, 5.2.2, and whether memory ran out.
use Rattle.std.specs.Prelude.{◌≡◌, ℕ, Bool, true, false, List, Result, Ok, Err}
use Rattle.gnb_types.specs.declared.names.SnBits.{SnBits}
use Rattle.um_defs.specs.declared.types.error.UmError.{UmError}
use Rattle.um_defs.specs.declared.types.error.UmError.TheVariants as errors
use Rattle.um_defs.specs.Receivers.{UmReceiver, new_um_receiver}

pub record UmState : Type 0 where
  pub sn : SnBits
  pub ticks : ℕ
  pub entity : UmReceiver (List ℕ)
  -- memory ran out in a call
  pub lacks_memory : Bool

abbrev pub new_um_state : SnBits → ℕ → UmState
new_um_state sn ticks = record { sn = sn; ticks = ticks; entity = new_um_receiver; lacks_memory = false }

abbrev pub with_entity : UmState → UmReceiver (List ℕ) → UmState
with_entity u entity = record u { entity = entity }

abbrev pub runs_out : {A : Type 0} → Result A UmError → Bool
runs_out (Ok value) = false
runs_out (Err errors.Memory) = true
runs_out (Err error) = false

-- Once memory ran out the entity answers that in each call, and stays as it is.
pub record StaysOut {A : Type 0} (old new : UmState) (result : Result A UmError) : Type 0 where
  pub lacks : new.lacks_memory ≡ runs_out result
  pub stays : old.lacks_memory ≡ true → (result ≡ Err errors.Memory) × (new ≡ old)
