-- A CU-UP at which a packet is unconfirmed is there.
use Rattle.std.proofs.Common.{◌≡◌, ℕ, true, Option, Some, None, is_some, refl}
use Rattle.std.specs.Prelude.{unwrap_or}
use Rattle.gnb_types.specs.declared.names.Gnb.{Gnb}
use Rattle.gnb_types.specs.declared.names.NodeId.TheVariants.{CuUp}
use Rattle.gnb_types.specs.declared.names.UeId.{UeId}
use Rattle.gnb_types.specs.declared.names.BearerId.{BearerId}
use Rattle.gnb_types.specs.Orders.{node_cmp}
use Rattle.tables.specs.Tables.{find, at}
use Rattle.unit_defs.specs.CuUpRecords.{CuUp as CuUpRecord}
use Rattle.unit_defs.specs.CuUp.{new_cu_up}
use Rattle.unit_defs.specs.Accessors.{is_unconfirmed}
use Rattle.run_defs.specs.Units.{cu_up_of}
use Rattle.run_defs.specs.UnitRuns.{Records}
use Rattle.run_links.specs.Networks.{Octets}

pub unconfirmed_there : (r : Records) (gnb : Gnb) (number : ℕ) (ue : UeId) (bearer : BearerId)
    → true ≡ is_unconfirmed (cu_up_of r gnb number) ue bearer → is_some (find node_cmp r.ups (CuUp gnb number)) ≡ true
unfolding at find
unconfirmed_there r gnb number ue bearer h = by (find node_cmp r.ups (CuUp gnb number)) h
  where
    by : (o : Option (CuUpRecord Octets Octets)) → true ≡ is_unconfirmed (unwrap_or o (new_cu_up gnb number)) ue bearer → is_some o ≡ true
    by None k = absurd cc
    by (Some up) k = refl
