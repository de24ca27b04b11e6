-- Types that encodings don't tell apart have the same spellings, and octets are read alike for both.
use Rattle.std.proofs.Common.{◌≡◌, ℕ, ◌≤◌, List, [], sym, ap, ◌∙◌, subst}
use Rattle.aper_defs.specs.Trees.{Tree}
use Rattle.aper_defs.specs.Values.{Value}
use Rattle.aper_defs.specs.Fields.{Field}
use Rattle.aper_defs.specs.Bits.{octet_count, closed, put_all}
use Rattle.aper_defs.specs.Spelling.{Spells, spelling_limit, whole_layout}
use Rattle.aper_defs.specs.Questions.{Prog}
use Rattle.aper_defs.specs.Reading.{at_first, run, only, decoded}
use Rattle.profile.specs.xn.Alike.{IsAlike}

module _ (a b : Tree) (alike : IsAlike a b) where
  pub spells : (v : Value) (octets : List ℕ) → Spells a v octets → Spells b v octets
  spells v octets s = record {
    has = alike.has v s.has;
    bits = s.bits ∙ ap (λ (fs : List Field). put_all [] (closed [] fs)) (alike.layouts v);
    short = s.short;
  }

  pub spelled : (v : Value) (octets : List ℕ) → Spells b v octets → Spells a v octets
  spelled v octets s = record {
    has = alike.had v s.has;
    bits = s.bits ∙ ap (λ (fs : List Field). put_all [] (closed [] fs)) (sym (alike.layouts v));
    short = s.short;
  }

  pub is_short : (v : Value) → octet_count (whole_layout b v) ≤ spelling_limit → octet_count (whole_layout a v) ≤ spelling_limit
  is_short v h = subst (λ (fs : List Field). octet_count (closed [] fs) ≤ spelling_limit) (sym (alike.layouts v)) h

  pub same_decoded : (octets : List ℕ) → decoded a octets ≡ decoded b octets
  same_decoded octets = ap (λ (questions : Prog). only (run questions (at_first octets))) alike.questions
