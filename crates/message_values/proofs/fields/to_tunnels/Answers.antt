use Rattle.std.proofs.Common.{◌≡◌, ◌+◌, ◌++◌, List, drop, subst, arith}
use Rattle.std.specs.List.{All}
use Rattle.std.proofs.lemmas.List.Elements.{All-head, All-tail}
use Rattle.aper_defs.specs.Values as seen
use Rattle.aper_values.specs.declared.value.Value.{Value}
use Rattle.aper_values.specs.Views.{view, values_view}
use Rattle.message_defs.specs.Fields.{to_each, to_tunnel}
use Rattle.message_values.specs.Parts.{members_in}
use Rattle.message_values.specs.Fitting.{IsTunnel}
use Rattle.message_values.proofs.Shapes.{member_next, read_next}
use Rattle.message_values.proofs.fields.to_tunnels.Goals as goal

pub to_tunnel-requires : goal.to_tunnel-requires
to_tunnel-requires c =
    let i = c.loop-member.member-index in
    let xs : List Value = c.members_in-member-items.result.now in
    let x : Value = c.member-item.result in
    let here : values_view (drop i xs) ≡ seen.value (view x) (values_view (drop (i + 1) xs)) =
    member_next xs i x (omega arith) c.member-item.is in
    All-head IsTunnel (to_tunnel (view x)) (to_each to_tunnel (values_view (drop (i + 1) xs)))
    (subst (λ vs. All IsTunnel (to_each to_tunnel vs)) here c.loop-member.invariant.all)

pub loop-member-preserved : goal.loop-member-preserved
loop-member-preserved c =
    let i = c.loop-member.member-index in
    let xs : List Value = c.members_in-member-items.result.now in
    let x : Value = c.member-item.result in
    let here : values_view (drop i xs) ≡ seen.value (view x) (values_view (drop (i + 1) xs)) =
    member_next xs i x (omega arith) c.member-item.is in
    record {
      all = All-tail IsTunnel (to_tunnel (view x)) (to_each to_tunnel (values_view (drop (i + 1) xs)))
          (subst (λ vs. All IsTunnel (to_each to_tunnel vs)) here c.loop-member.invariant.all);
      read = read_next c.loop-member.tunnels _ c.to_tunnel.result (to_tunnel (view x)) (to_each to_tunnel (values_view (drop (i + 1) xs))) _ c.in_ok-push.ensures.ok c.to_tunnel.ensures
          (subst (λ vs. c.loop-member.tunnels ++ to_each to_tunnel vs ≡ to_each to_tunnel (members_in (view c.args.value.now))) here c.loop-member.invariant.read);
    }
