-- Lists in braces, with `...`: where some parts are read, what follows joins them.
use Rattle.std.proofs.Common.{◌≡◌, ℕ, List, [], ◌∷◌, ◌++◌, true, Option, Some, None, subst, sym}
use Rattle.std.proofs.lemmas.List.{append_assoc, append-nil}
use Rattle.asn1_tokens.specs.declared.token.Sign.TheVariants as signs
use Rattle.asn1_tokens.specs.declared.token.Token.TheVariants as tokens
use Rattle.asn1_syntax.specs.declared.types.definition.Extensible.{Extensible}
use Rattle.asn1_syntax.specs.declared.types.definition.Node.{Node}
use Rattle.asn1_syntax.specs.types.Reading.{Left}
use Rattle.asn1_syntax.specs.types.Members.{no_parts, put_part, with_part, extended}
use Rattle.asn1_syntax.specs.types.inside.Members.{can_extend}
use Rattle.asn1_defs.specs.ItemMeanings.{The}

-- what items mean, from some types to more
abbrev pub Told : Type 0 → Type 1
Told T = List Node → Left → T → List Node → Left → Type 0

-- how parts make a list, and those behind its `...`
pub record Lists {T : Type 0} (One : Told T) (Whole : Told (Extensible T)) (Added : Told (List T)) : Type 0 where
  pub mark : {nodes all : List Node} {added : List T} {ts a rest : Left} → The (tokens.Sign signs.Ellipsis) ts a → Added nodes a added all rest → Whole nodes ts (record { root = []; additions = Some added }) all rest
  pub last : {nodes all : List Node} {found : T} {ts a rest : Left} → One nodes ts found all a → The (tokens.Sign signs.RightBrace) a rest → Whole nodes ts (record { root = found ∷ []; additions = None }) all rest
  pub more : {nodes inside all : List Node} {found : T} {parts : Extensible T} {ts a b rest : Left} → One nodes ts found inside a → The (tokens.Sign signs.Comma) a b → Whole inside b parts all rest → Whole nodes ts (record { root = found ∷ parts.root; additions = parts.additions }) all rest
  pub none : {nodes : List Node} {ts rest : Left} → The (tokens.Sign signs.RightBrace) ts rest → Added nodes ts [] nodes rest
  pub one : {nodes inside all : List Node} {found : T} {parts : List T} {ts a b rest : Left} → The (tokens.Sign signs.Comma) ts a → One nodes a found inside b → Added inside b parts all rest → Added nodes ts (found ∷ parts) all rest

-- from an entry on, and behind one, where these parts are read before: all parts then
pub data FromEntry {T : Type 0} (One : Told T) (Whole : Told (Extensible T)) (Added : Told (List T)) : Extensible T → List Node → Left → Extensible T → List Node → Left → Type 0 where
  in_root : {root : List T} {parts : Extensible T} {nodes all : List Node} {ts rest : Left} → Whole nodes ts parts all rest → FromEntry One Whole Added (record { root = root; additions = None }) nodes ts (record { root = root ++ parts.root; additions = parts.additions }) all rest
  in_additions : {root added parts : List T} {found : T} {nodes inside all : List Node} {ts a rest : Left} → One nodes ts found inside a → Added inside a parts all rest
      → FromEntry One Whole Added (record { root = root; additions = Some added }) nodes ts (record { root = root; additions = Some (added ++ found ∷ parts) }) all rest

pub data BehindEntry {T : Type 0} (One : Told T) (Whole : Told (Extensible T)) (Added : Told (List T)) : Extensible T → List Node → Left → Extensible T → List Node → Left → Type 0 where
  ends : {root : List T} {nodes : List Node} {ts rest : Left} → The (tokens.Sign signs.RightBrace) ts rest → BehindEntry One Whole Added (record { root = root; additions = None }) nodes ts (record { root = root; additions = None }) nodes rest
  goes_on : {root : List T} {parts : Extensible T} {nodes all : List Node} {ts a rest : Left} → The (tokens.Sign signs.Comma) ts a → Whole nodes a parts all rest
      → BehindEntry One Whole Added (record { root = root; additions = None }) nodes ts (record { root = root ++ parts.root; additions = parts.additions }) all rest
  adds : {root added parts : List T} {nodes all : List Node} {ts rest : Left} → Added nodes ts parts all rest → BehindEntry One Whole Added (record { root = root; additions = Some added }) nodes ts (record { root = root; additions = Some (added ++ parts) }) all rest

-- a part, and what follows it
joined : {T : Type 0} {One : Told T} {Whole : Told (Extensible T)} {Added : Told (List T)} → Lists One Whole Added → (root : List T) (additions : Option (List T)) (found : T) (nodes inside : List Node) (ts a : Left) (last : Extensible T) (all : List Node) (rest : Left)
    → One nodes ts found inside a → BehindEntry One Whole Added (put_part root additions found) inside a last all rest → FromEntry One Whole Added (record { root = root; additions = additions }) nodes ts last all rest
joined lists root None found nodes inside ts a _ all rest m (ends t) = in_root (lists.last m t)
joined {One} {Whole} {Added} lists root None found nodes inside ts a _ all rest m (goes_on {parts} t later) =
    subst (λ r. FromEntry One Whole Added (record { root = root; additions = None }) nodes ts (record { root = r; additions = parts.additions }) all rest) (sym (append_assoc root (found ∷ []) parts.root)) (in_root (lists.more m t later))
joined {One} {Whole} {Added} lists root (Some added) found nodes inside ts a _ all rest m (adds {parts} later) =
    subst (λ r. FromEntry One Whole Added (record { root = root; additions = Some added }) nodes ts (record { root = root; additions = Some r }) all rest) (sym (append_assoc added (found ∷ []) parts)) (in_additions m later)

pub part_from : {T : Type 0} {One : Told T} {Whole : Told (Extensible T)} {Added : Told (List T)} → Lists One Whole Added → (so_far : Extensible T) (found : T) (nodes inside : List Node) (ts a : Left) (last : Extensible T) (all : List Node) (rest : Left)
    → One nodes ts found inside a → BehindEntry One Whole Added (with_part so_far found) inside a last all rest → FromEntry One Whole Added so_far nodes ts last all rest
part_from lists so_far found nodes inside ts a last all rest m later = joined lists so_far.root so_far.additions found nodes inside ts a last all rest m later

-- `...`, and what follows it
marked : {T : Type 0} {One : Told T} {Whole : Told (Extensible T)} {Added : Told (List T)} → Lists One Whole Added → (root : List T) (additions : Option (List T)) (least : ℕ) → can_extend least (record { root = root; additions = additions }) ≡ true → (nodes : List Node) (ts a : Left) (last : Extensible T) (all : List Node) (rest : Left)
    → The (tokens.Sign signs.Ellipsis) ts a → BehindEntry One Whole Added (record { root = root; additions = Some [] }) nodes a last all rest → FromEntry One Whole Added (record { root = root; additions = additions }) nodes ts last all rest
marked {One} {Whole} {Added} lists root None least h nodes ts a _ all rest t (adds {parts} later) =
    subst (λ r. FromEntry One Whole Added (record { root = root; additions = None }) nodes ts (record { root = r; additions = Some parts }) all rest) (append-nil root) (in_root (lists.mark t later))
marked lists root (Some added) least h nodes ts a last all rest t later = cc

pub mark_from : {T : Type 0} {One : Told T} {Whole : Told (Extensible T)} {Added : Told (List T)} → Lists One Whole Added → (so_far : Extensible T) (least : ℕ) → can_extend least so_far ≡ true → (nodes : List Node) (ts a : Left) (last : Extensible T) (all : List Node) (rest : Left)
    → The (tokens.Sign signs.Ellipsis) ts a → BehindEntry One Whole Added (extended so_far) nodes a last all rest → FromEntry One Whole Added so_far nodes ts last all rest
mark_from lists so_far least h nodes ts a last all rest t later = marked lists so_far.root so_far.additions least h nodes ts a last all rest t later

-- behind an entry: a comma and another one, or the brace
pub comma_behind : {T : Type 0} {One : Told T} {Whole : Told (Extensible T)} {Added : Told (List T)} → Lists One Whole Added → (so_far : Extensible T) (nodes : List Node) (ts a : Left) (last : Extensible T) (all : List Node) (rest : Left)
    → The (tokens.Sign signs.Comma) ts a → FromEntry One Whole Added so_far nodes a last all rest → BehindEntry One Whole Added so_far nodes ts last all rest
comma_behind lists _ nodes ts a _ all rest t (in_root later) = goes_on t later
comma_behind lists _ nodes ts a _ all rest t (in_additions m later) = adds (lists.one t m later)

closed : {T : Type 0} {One : Told T} {Whole : Told (Extensible T)} {Added : Told (List T)} → Lists One Whole Added → (root : List T) (additions : Option (List T)) (nodes : List Node) (ts rest : Left)
    → The (tokens.Sign signs.RightBrace) ts rest → BehindEntry One Whole Added (record { root = root; additions = additions }) nodes ts (record { root = root; additions = additions }) nodes rest
closed lists root None nodes ts rest t = ends t
closed {One} {Whole} {Added} lists root (Some added) nodes ts rest t =
    subst (λ r. BehindEntry One Whole Added (record { root = root; additions = Some added }) nodes ts (record { root = root; additions = Some r }) nodes rest) (append-nil added) (adds (lists.none t))

pub brace_behind : {T : Type 0} {One : Told T} {Whole : Told (Extensible T)} {Added : Told (List T)} → Lists One Whole Added → (so_far : Extensible T) (nodes : List Node) (ts rest : Left)
    → The (tokens.Sign signs.RightBrace) ts rest → BehindEntry One Whole Added so_far nodes ts so_far nodes rest
brace_behind lists so_far nodes ts rest t = closed lists so_far.root so_far.additions nodes ts rest t

-- a list from its first entry on
pub whole_from : {T : Type 0} {One : Told T} {Whole : Told (Extensible T)} {Added : Told (List T)} (nodes : List Node) (ts : Left) (last : Extensible T) (all : List Node) (rest : Left)
    → FromEntry One Whole Added no_parts nodes ts last all rest → Whole nodes ts last all rest
whole_from nodes ts _ all rest (in_root m) = m
