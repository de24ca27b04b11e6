-- A terminal that shows two models shows any that look the same.
use Rattle.std.proofs.Common.{ℕ, ◌+◌, List, Some, sym, ap, subst, ◌∙◌}
use Rattle.gnb_types.specs.declared.names.UeId.{UeId}
use Rattle.gnb_types.specs.declared.names.BearerId.{BearerId}
use Rattle.run_defs.specs.Runs.{Reading}
use Rattle.proof_node_orders.specs.terminal_inputs.Inputs.{Models}
use Rattle.proof_run_steps.specs.radio_steps.Radios.{on_air}
use Rattle.proof_bearer_refinement.specs.uplink_radio.Radio.{RunState, IsRadio, up_key, IsAtTerminal}
use Rattle.proof_bearer_refinement.specs.ue_view.Looks.{DownSame, UpSame}

pub looks_same : (reading : Reading) (ue : UeId) (bearer : BearerId) (s : RunState) (b c : Models) → DownSame b.down c.down → UpSame b.up c.up
    → IsAtTerminal reading ue bearer s b → IsAtTerminal reading ue bearer s c
looks_same reading ue bearer s b c d u refinement = record {
  terminal = refinement.terminal;
  there = refinement.there;
  itself = refinement.itself;
  attached = refinement.attached;
  shown = record {
    seen = record {
      there = refinement.shown.seen.there ∙ (λ i. Some (record (sym u.terminal i) { receiver = sym d.terminal i }));
      connected = u.connected ∙ refinement.shown.seen.connected;
      epoch = refinement.shown.seen.epoch ∙ ap (λ (e : ℕ). e + 1) (sym d.epoch);
    };
    sorted = refinement.shown.sorted;
  };
  epoch = refinement.epoch;
  radio = record {
    radio = subst (λ (xs : List ℕ). IsRadio (on_air s (up_key ue bearer)).radio xs c.up.air) (sym u.carried)
        (subst (λ (xs : List (ℕ × List ℕ)). IsRadio (on_air s (up_key ue bearer)).radio b.up.carried xs) (sym u.air) refinement.radio.radio);
    off = refinement.radio.off;
    quiet = λ off.
        let both = refinement.radio.quiet (sym u.connected ∙ off) in (u.carried ∙ both.0, u.air ∙ both.1);
  };
}
