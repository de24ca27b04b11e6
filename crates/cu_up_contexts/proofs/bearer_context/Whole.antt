-- The bearers of a context as one slice, which is written whole.
use Rattle.std.proofs.Common.{◌≡◌, ℕ, ◌≤◌, length, List, sym, ap, ◌∙◌, subst}
use Rattle.std.specs.Global.{Vec}
use Rattle.std.specs.Vec.{with_items}
use Rattle.gnb_types.specs.declared.names.SnBits.{SnBits}
use Rattle.unit_defs.specs.CuUpRecords.{CuUpContext}
use Rattle.cu_up_bearer.specs.declared.tunnels.at.Flags.{Flags}
use Rattle.cu_up_bearer.specs.declared.bearers.bearer.Bearer.{Bearer}
use Rattle.cu_up_contexts.specs.bearer_context.Bearers.{shared, AreServed, IsContext, context_as}
use Rattle.cu_up_contexts.proofs.bearer_context.Numbered.{length-numbered, with_all}

-- how many there are
pub seen_length : (instance : ℕ) (sn : SnBits) (quota : ℕ) (flags : Flags) (bs : List Bearer) (c : CuUpContext)
    → context_as instance sn quota flags bs ≡ c → length c.bearers ≡ length bs
seen_length instance sn quota flags bs c seen = sym (ap (λ (x : CuUpContext). length x.bearers) seen) ∙ length-numbered 1 bs

-- an order that keeps them served, where the flags that count are the same
pub sound_with : (sn : SnBits) (quota : ℕ) (flags : Flags) (v : Vec Bearer) (slice ws : List Bearer) → slice ≡ v.items → length ws ≡ length slice
    → IsContext sn quota flags v.items → (AreServed (shared sn quota flags) slice → AreServed (shared sn quota flags) ws)
    → IsContext sn quota flags (with_items v ws).items
sound_with sn quota flags v slice ws slice_is count sound keeps =
    let size : length ws ≡ v.len = count ∙ ap length slice_is ∙ sym v.ok.0 in
    subst (λ (bs : List Bearer). IsContext sn quota flags bs) (sym (with_all v ws size))
    (record {
      few = subst (λ (n : ℕ). n ≤ 8) (sym (count ∙ ap length slice_is)) sound.few;
      served = keeps (subst (λ (bs : List Bearer). AreServed (shared sn quota flags) bs) (sym slice_is) sound.served);
      known = sound.known;
    })
