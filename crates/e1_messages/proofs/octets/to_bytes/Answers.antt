use Rattle.std.proofs.Common.{◌≡◌, ◌<◌, ◌≤◌, [], length, sym, ap, ◌∙◌, subst}
use Rattle.asn1_syntax.specs.declared.assignments.assignment.Syntax.{Syntax}
use Rattle.aper_defs.specs.Trees.{Tree}
use Rattle.aper_defs.specs.Values.{Value}
use Rattle.aper_defs.specs.Bits.{octet_count}
use Rattle.aper_defs.specs.Membership.{Has}
use Rattle.aper_defs.specs.Spelling.{Spells, spelling_limit, whole_layout}
use Rattle.aper_values.specs.types.Types.{tree}
use Rattle.aper_values.specs.Views.{view}
use Rattle.message_defs.specs.profile_defs.Profile.{e1_type}
use Rattle.message_defs.specs.E1.{written_e1}
use Rattle.e1_messages.proofs.octets.to_bytes.Goals as goal

pub encode-octets-requires : goal.encode-octets-requires
encode-octets-requires c =
    let same : e1_type ≡ tree c.module-module.result.now c.e1_pdu-id.result.number =
    sym (ap (λ (m : Syntax). tree m c.e1_pdu-id.result.number) c.module-module.ensures.syntax ∙ c.e1_pdu-id.ensures.is) in
    let seen : written_e1 c.args.msg.now ≡ view c.in_ok-value.value = sym c.in_ok-value.ensures in
    record {
      inside = subst (λ (m : Syntax). c.e1_pdu-id.result.number < length m.nodes) (sym c.module-module.ensures.syntax) c.e1_pdu-id.ensures.inside;
      member = subst (λ (t : Tree). Has [] t (view c.in_ok-value.value)) same (subst (λ (v : Value). Has [] e1_type v) seen c.requires.member);
      short = subst (λ (t : Tree). octet_count (whole_layout t (view c.in_ok-value.value)) ≤ spelling_limit) same
          (subst (λ (v : Value). octet_count (whole_layout e1_type v) ≤ spelling_limit) seen c.requires.short);
    }

pub returns : goal.returns
returns c =
    let same : tree c.module-module.result.now c.e1_pdu-id.result.number ≡ e1_type =
    ap (λ (m : Syntax). tree m c.e1_pdu-id.result.number) c.module-module.ensures.syntax ∙ c.e1_pdu-id.ensures.is in
    subst (λ (v : Value). Spells e1_type v c.in_ok-octets.field-0) c.in_ok-value.ensures
    (subst (λ (t : Tree). Spells t (view c.in_ok-value.value) c.in_ok-octets.field-0) same c.in_ok-octets.ensures)
