use Rattle.std.proofs.Common.{◌≡◌, List, [], ◌∷◌, ◌++◌, Result, sym, ap, subst}
use Rattle.std.specs.Prelude.{is_some}
use Rattle.serde_json.specs.Data.{Data, Members}
use Rattle.serde_json.specs.View.{view as json, members_view}
use Rattle.aper_defs.specs.Fields.{Path}
use Rattle.aper_defs.specs.Values.{Value as SeenValue}
use Rattle.aper_values.specs.declared.value.Value.{Value}
use Rattle.aper_values.specs.Views.{view}
use Rattle.json_defs.specs.Demands.{Demand, shape, raw_demands}
use Rattle.json_fields.specs.declared.simple.refusal.Refusal.{Refusal}
use Rattle.json_read.specs.wholes.Reads.{ReadsAs}
use Rattle.json_defs.specs.declared.fault.JsonFault.TheVariants.{Shape}
use Rattle.json_defs.specs.Members.{Text, are_keys_among, has_member, member_of, or_null, criticality_key, raw_key}
use Rattle.json_defs.specs.Readings.{raw_in, raw_of}
use Rattle.json_read.proofs.wholes.Demanded.{one_none, told_first, reads_later}
use Rattle.json_read.proofs.wholes.Passed.{here_told}
use Rattle.json_read.proofs.wholes.contents.unknown_in.Goals as goal

pub returns-in_default : goal.returns-in_default
returns-in_default c =
    let ms : Members = members_view c.args.members.now.entries in
    let keys : List Text = raw_key ∷ criticality_key ∷ c.args.number.now ∷ [] in
    told_first (λ p. shape p (has_member raw_key ms) ∷ []) (λ p. raw_demands p (member_of raw_key ms) ++ shape p (are_keys_among keys ms) ∷ [])
    c.shape.result
    (here_told Shape c.shape.result (λ p. has_member raw_key ms) c.shape.ensures (λ p. ap is_some (sym c.in_default.ensures)))

pub returns : goal.returns
returns c =
    let ms : Members = members_view c.args.members.now.entries in
    let keys : List Text = raw_key ∷ criticality_key ∷ c.args.number.now ∷ [] in
    let r : Result Value Refusal = c.keyed.result in
    let d : Data = json c.in-Some.d.now in
    let same : d ≡ member_of raw_key ms = ap or_null c.in-Some.ensures in
    let told : ReadsAs (λ p. raw_demands p d ++ shape p (are_keys_among keys ms) ∷ []) (raw_in d) r =
    c.keyed.ensures (λ p. raw_demands p d) (raw_in d) c.raw_in.ensures in
    reads_later (λ (x : Value). view x ≡ raw_of ms) (λ p. shape p (has_member raw_key ms) ∷ [])
    (λ p. raw_demands p (member_of raw_key ms) ++ shape p (are_keys_among keys ms) ∷ []) r
    (λ p. one_none p Shape (has_member raw_key ms) (ap is_some (sym c.in-Some.ensures)))
    (subst (λ (e : Data). ReadsAs (λ p. raw_demands p e ++ shape p (are_keys_among keys ms) ∷ []) (raw_in e) r) same told)
