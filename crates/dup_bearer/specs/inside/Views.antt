-- Internal: what the code of a bearer keeps.
use Rattle.std.specs.Prelude.{◌≡◌, ℕ, ◌+◌, ◌≤◌, List, None}
use Rattle.gnb_types.specs.declared.names.SnBits.{SnBits}
use Rattle.pdcp.specs.Near.{last_count}
use Rattle.um.specs.um_pdcp.Stored.{AreGiven}
use Rattle.dup_bearer.specs.dup_pdcp.Entity.{DupTxState}
use Rattle.dup_bearer.specs.legs.Legs.{LegsState}
use Rattle.dup_defs.specs.dup_run_defs.Run.{DupRun}
use Rattle.dup_bearer.specs.Bearers.{BearerState}

abbrev pub run_state : DupTxState → LegsState → ℕ → List (ℕ × List ℕ) → DupRun
run_state tx legs deliv stored =
    record { entity = tx.entity; first = legs.first; second = legs.second; receiver = record { deliv = deliv; stored = stored } }

abbrev pub bearer_state : SnBits → DupTxState → LegsState → ℕ → List (ℕ × List ℕ) → BearerState
bearer_state n tx legs deliv stored = record { sn = n; quota = tx.quota; run = run_state tx legs deliv stored; gone = tx.ended }

-- the transmitting entity has the same numbers as long as it is of use; no COUNT above the last one that is given is stored or was delivered
pub record IsBearer (n : SnBits) (tx : DupTxState) (deliv : ℕ) (stored : List (ℕ × List ℕ)) : Type 0 where
  pub sn : tx.ended ≡ None → tx.sn ≡ n
  pub given : AreGiven stored
  pub awaited : deliv ≤ last_count + 1
