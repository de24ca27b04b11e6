use Rattle.std.proofs.Common.{◌≡◌, ◌<◌, ◌≤◌, [], length, sym, ap, subst}
use Rattle.asn1_syntax.specs.declared.assignments.assignment.Syntax.{Syntax}
use Rattle.aper_defs.specs.Trees.{Tree}
use Rattle.aper_defs.specs.Values.{Value}
use Rattle.aper_defs.specs.Bits.{octet_count}
use Rattle.aper_defs.specs.Membership.{Has}
use Rattle.aper_defs.specs.Spelling.{Spells, spelling_limit, whole_layout}
use Rattle.aper_values.specs.types.Types.{tree}
use Rattle.aper_values.specs.Views.{view}
use Rattle.profile.specs.Versions.{number_of}
use Rattle.message_defs.specs.profile_defs.Profile.{xn_type}
use Rattle.profile.proofs.xn.Spellings.{spells, is_short}
use Rattle.message_defs.specs.Xn.{written_xn}
use Rattle.message_octets.proofs.xn_octets.to_bytes.Goals as goal

pub encode-octets-requires : goal.encode-octets-requires
encode-octets-requires c =
    let own : Tree = tree c.args.profile.now.syntax c.xn_pdu-id.result.number in
    let type : Tree = xn_type (number_of c.args.profile.now.version) in
    let same : own ≡ tree c.module-module.result.now c.xn_pdu-id.result.number =
    sym (ap (λ (m : Syntax). tree m c.xn_pdu-id.result.number) c.module-module.ensures.syntax) in
    let seen : written_xn c.args.msg.now ≡ view c.in_ok-value.value = sym c.in_ok-value.ensures in
    record {
      inside = subst (λ (m : Syntax). c.xn_pdu-id.result.number < length m.nodes) (sym c.module-module.ensures.syntax) c.xn_pdu-id.ensures.inside;
      member = subst (λ (t : Tree). Has [] t (view c.in_ok-value.value)) same
          (subst (λ (v : Value). Has [] own v) seen (c.xn_pdu-id.ensures.alike.had (written_xn c.args.msg.now) c.requires.member));
      short = subst (λ (t : Tree). octet_count (whole_layout t (view c.in_ok-value.value)) ≤ spelling_limit) same
          (subst (λ (v : Value). octet_count (whole_layout own v) ≤ spelling_limit) seen
          (is_short own type c.xn_pdu-id.ensures.alike (written_xn c.args.msg.now) c.requires.short));
    }

pub returns : goal.returns
returns c =
    let own : Tree = tree c.args.profile.now.syntax c.xn_pdu-id.result.number in
    let type : Tree = xn_type (number_of c.args.profile.now.version) in
    let same : tree c.module-module.result.now c.xn_pdu-id.result.number ≡ own =
    ap (λ (m : Syntax). tree m c.xn_pdu-id.result.number) c.module-module.ensures.syntax in
    spells own type c.xn_pdu-id.ensures.alike (written_xn c.args.msg.now) c.in_ok-octets.field-0
    (subst (λ (v : Value). Spells own v c.in_ok-octets.field-0) c.in_ok-value.ensures
    (subst (λ (t : Tree). Spells t (view c.in_ok-value.value) c.in_ok-octets.field-0) same c.in_ok-octets.ensures))
