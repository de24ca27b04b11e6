-- The module and the events of a whole script are found once in its lines.
use Rattle.std.proofs.Common.{◌≡◌, ◌⊎◌, ◌+◌, ◌-◌, ℕ, List, [], ◌∷◌, ◌++◌, length, map, take, drop, true, false, Option, Some, None, Result, Ok, Err, refl, sym, ap, ◌∙◌, subst, inl, inr, append-nil, append_assoc, length-append, arith}
use Rattle.std.proofs.lemmas.Grind.{flat_map-append}
use Rattle.std.proofs.lemmas.List.{take_all}
use Rattle.std.specs.List.{flat_map}
use Rattle.gnb_base.specs.Lines.{line_feed, lines_of}
use Rattle.command_defs.specs.input_defs.Split.{InputSplit, joined, Divides, Bare}
use Rattle.command_defs.specs.input_defs.Split as division
use Rattle.commands.proofs.input_lines.Wholes.{TakesOf, lines_of-joined, taken_is, all_lines, next_of}
use Rattle.asn1_syntax.specs.declared.assignments.assignment.Syntax.{Syntax}
use Rattle.asn1_defs.specs.Readings.{Reads}
use Rattle.proof_asn1_modules.proofs.asn1_proof_module.Faults.{reading_once}
use Rattle.profile.specs.declared.version.Version.{Version}
use Rattle.profile.specs.declared.version.Version.TheVariants.{One}
use Rattle.message_defs.specs.profile_defs.Profile.{profile_types}
use Rattle.message_defs.specs.profile_defs.Agreement.{differs}
use Rattle.commands.specs.declared.input_module.header.ModuleHeader.TheVariants as headers
use Rattle.commands.specs.declared.input_module.module.GivenModule.{GivenModule}
use Rattle.commands.specs.declared.input_module.module.GivenModule.TheVariants as given
use Rattle.commands.specs.input_module.Header.{header_of, builtin_line}
use Rattle.commands.specs.input_module.Text.{IsClosed, IsUnclosed, IsBlank, is_end}
use Rattle.commands.specs.input_module.Module.{IsUpToEnd, HasText, GivesModule, IsWrongModule, Empty, NoHeader, Unended}
use Rattle.scenario_text.specs.declared.event.Event.{Event}
use Rattle.scenario_text.specs.declared.script_words.reason.TextReason.{TextReason}
use Rattle.scenario_text.specs.Grammar.{is_skipped, event_of}
use Rattle.command_run.specs.Run.{AreEvents, meanings, IsOther}
use Rattle.command_run.specs.Whole.{NamesScript, TextScript, text_line}

abbrev pub all_read : List Event → List (Result Event TextReason)
all_read events = map (λ event. Ok event) events

-- ---- a wrong line is in no script

no_error : (xs ys : List (Result Event TextReason)) (reason : TextReason) (events : List Event)
    → xs ++ Err reason ∷ ys ≡ all_read events → ⊥
no_error [] ys reason [] e = cc
no_error [] ys reason (event ∷ events) e = cc
no_error (x ∷ xs) ys reason [] e = cc
no_error (x ∷ xs) ys reason (event ∷ events) e = no_error xs ys reason events (cc)

wrong_means : (line : List ℕ) (reason : TextReason) → is_skipped line ≡ false → event_of line ≡ Err reason
    → meanings line ≡ Err reason ∷ []
wrong_means line reason skip read = rw (skip, read) refl

pub wrong_line : (lines : List (List ℕ)) (line : List ℕ) (more : List (List ℕ)) (reason : TextReason) (events : List Event)
    → is_skipped line ≡ false → event_of line ≡ Err reason
    → AreEvents (lines ++ line ∷ more) events → ⊥
wrong_line lines line more reason events skip read script =
    no_error (flat_map meanings lines) (flat_map meanings more) reason events
    (ap (λ (ms : List (Result Event TextReason)). flat_map meanings lines ++ ms) (ap (λ (ms : List (Result Event TextReason)). ms ++ flat_map meanings more) (sym (wrong_means line reason skip read)))
    ∙ sym (flat_map-append meanings lines (line ∷ more)) ∙ script)

pub same_events : (xs ys : List Event) → all_read xs ≡ all_read ys → xs ≡ ys
same_events [] [] e = refl
same_events [] (y ∷ ys) e = absurd (cc)
same_events (x ∷ xs) [] e = absurd (cc)
same_events (x ∷ xs) (y ∷ ys) e = let rest = same_events xs ys (cc) in cc

-- the events of the lines that were handed out, among those of the input
pub record IsFront (some all : List Event) : Type 0 where
  pub rest : List Event
  pub parts : all ≡ some ++ rest

pub front_of : (some all : List Event) (more : List (Result Event TextReason)) → all_read some ++ more ≡ all_read all → IsFront some all
front_of [] all more e = record { rest = all; parts = refl }
front_of (x ∷ some) [] more e = absurd (cc)
front_of (x ∷ some) (y ∷ all) more e =
    let same : x ≡ y = cc in
    let later = front_of some all more (cc) in
    record { rest = later.rest; parts = ap (λ (z : Event). z ∷ all) (sym same) ∙ ap (λ (zs : List Event). x ∷ zs) later.parts }

-- ---- the lines of a text end once

cancel : (front rest : List (List ℕ)) → front ++ rest ≡ front → rest ≡ []
cancel [] rest e = e
cancel (line ∷ front) rest e = cancel front rest (cc)

same_end : (front : List (List ℕ)) (last : List ℕ) (rest others : List (List ℕ)) (end : List ℕ) (more : List (List ℕ))
    → IsUnclosed front → is_end last ≡ true
    → IsUnclosed others → is_end end ≡ true → front ++ last ∷ rest ≡ others ++ end ∷ more
    → (front ++ last ∷ [] ≡ others ++ end ∷ []) × (rest ≡ more)
same_end [] last rest [] end more h e k f same = (cc, cc)
same_end [] last rest (line ∷ others) end more h e k f same =
    let first : last ≡ line = cc in
    let clash : true ≡ false = sym e ∙ ap is_end first ∙ k.0 in
    absurd (cc)
same_end (line ∷ front) last rest [] end more h e k f same =
    let first : line ≡ end = cc in
    let clash : false ≡ true = sym h.0 ∙ ap is_end first ∙ f in
    absurd (cc)
same_end (line ∷ front) last rest (other ∷ others) end more h e k f same =
    let first : line ≡ other = cc in
    let tail : front ++ last ∷ rest ≡ others ++ end ∷ more = cc in
    let one = same_end front last rest others end more h.1 e k.1 f tail in
    (ap (λ (l : List ℕ). l ∷ (front ++ last ∷ [])) first ∙ ap (λ (ls : List (List ℕ)). other ∷ ls) one.0, one.1)

with_rest : (body rest : List (List ℕ)) (closed : IsClosed body) → body ++ rest ≡ closed.front ++ closed.last ∷ rest
with_rest body rest closed = ap (λ (ls : List (List ℕ)). ls ++ rest) closed.parts ∙ append_assoc closed.front (closed.last ∷ []) rest

same_body : (body rest others more : List (List ℕ)) → IsClosed body → IsClosed others → body ++ rest ≡ others ++ more
    → (body ≡ others) × (rest ≡ more)
same_body body rest others more a b same =
    let one = same_end a.front a.last rest b.front b.last more a.others a.end b.others b.end (sym (with_rest body rest a) ∙ same ∙ with_rest others more b) in
    (a.parts ∙ one.0 ∙ sym b.parts, one.1)

open_fails : (front : List (List ℕ)) (last : List ℕ) (rest : List (List ℕ)) → is_end last ≡ true → IsUnclosed (front ++ last ∷ rest) → ⊥
open_fails [] last rest e h = let clash : true ≡ false = sym e ∙ h.0 in cc
open_fails (line ∷ front) last rest e h = open_fails front last rest e h.1

not_open : (body rest all : List (List ℕ)) → IsClosed body → IsUnclosed all → all ≡ body ++ rest → ⊥
not_open body rest all closed h same =
    open_fails closed.front closed.last rest closed.end (subst (λ (ls : List (List ℕ)). IsUnclosed ls) (same ∙ with_rest body rest closed) h)

-- ---- the lines that were handed out, among those of the input

pub lines_after : (input : List ℕ) (left : Option (List ℕ)) (split : InputSplit) → TakesOf input left split → Divides left split
    → (more : List (List ℕ)) × (lines_of input ≡ split.lines ++ more)
lines_after input None split t d = absurd t.consumes
lines_after input (Some ys) split t (division.Whole f) = (
  lines_of (split.kept ++ ys),
  ap lines_of (t.consumes ∙ ap (λ (bytes : List ℕ). bytes ++ ys) f ∙ append_assoc (joined split.lines) split.kept ys) ∙ lines_of-joined split.lines (split.kept ++ ys) t.each,
)
lines_after input (Some ys) split t (Bare front last p some bytes none at_end) = ([], all_lines t none at_end ∙ sym (append-nil split.lines))

-- the octets of a text's lines, of what was taken and of the input
cut_same : (input : List ℕ) (left : Option (List ℕ)) (split : InputSplit) (header : List ℕ) (body rest : List (List ℕ)) → TakesOf input left split
    → Divides left split → split.lines ≡ (header ∷ body) ++ rest
    → take (length split.taken - (length header + 1)) (joined body) ≡ take (length input - (length header + 1)) (joined body)
cut_same input None split header body rest t d parts = absurd t.consumes
cut_same input (Some ys) split header body rest t (division.Whole f) parts =
    let a : length split.taken ≡ length (joined split.lines) + length split.kept = ap length f ∙ length-append (joined split.lines) split.kept in
    let b : length (joined split.lines) ≡ length (header ++ line_feed ∷ []) + length (joined (body ++ rest)) =
    ap (λ (ls : List (List ℕ)). length (joined ls)) parts ∙ length-append (header ++ line_feed ∷ []) (joined (body ++ rest)) in
    let c : length (header ++ line_feed ∷ []) ≡ length header + 1 = length-append header (line_feed ∷ []) in
    let d : length (joined (body ++ rest)) ≡ length (joined body) + length (joined rest) =
    ap length (flat_map-append (λ (l : List ℕ). l ++ line_feed ∷ []) body rest) ∙ length-append (joined body) (joined rest) in
    let all : length input ≡ length split.taken + length ys = ap length t.consumes ∙ length-append split.taken ys in
    take_all (length split.taken - (length header + 1)) (joined body) (omega (arith, a, b, c, d))
    ∙ sym (take_all (length input - (length header + 1)) (joined body) (omega (arith, a, b, c, d, all)))
cut_same input (Some ys) split header body rest t (Bare front last p some bytes none at_end) parts =
    ap (λ (bytes : List ℕ). take (length bytes - (length header + 1)) (joined body)) (sym (taken_is input split.taken (Some ys) t.consumes at_end))

-- ---- of a script with the text of the profile

module _ {input : List ℕ} {events : List Event} {left : Option (List ℕ)} {split : InputSplit} (x : TextScript input events) (t : TakesOf input left split) where
  bodies : (front rest more : List (List ℕ)) (text : List ℕ) (has : HasText One left split front text) → split.lines ≡ front ++ rest
      → lines_of input ≡ split.lines ++ more
      → x.body ++ x.lines ≡ has.body ++ (rest ++ more) → (has.body ≡ x.body) × (rest ++ more ≡ x.lines)
  bodies front rest more text has parts all tail = by x.whole has.whole
    where
      none : IsUpToEnd left split front has.body → rest ++ more ≡ []
      none up =
          let no_rest : rest ≡ [] = cancel front rest (sym parts ∙ up.alone) in
          let no_more : more ≡ [] = cancel split.lines more (sym all ∙ all_lines t up.all.nothing up.all.at_end) in
          ap (λ (ls : List (List ℕ)). ls ++ more) no_rest ∙ no_more

      by : IsClosed x.body ⊎ (IsUnclosed x.body × (x.lines ≡ [])) → IsClosed has.body ⊎ IsUpToEnd left split front has.body
          → (has.body ≡ x.body) × (rest ++ more ≡ x.lines)
      by (inl a) (inl b) = let one = same_body x.body x.lines has.body (rest ++ more) a b tail in (sym one.0, sym one.1)
      by (inl a) (inr up) =
          absurd (not_open x.body x.lines has.body a up.others (sym (append-nil has.body) ∙ ap (λ (ls : List (List ℕ)). has.body ++ ls) (sym (none up)) ∙ sym tail))
      by (inr a) (inl b) =
          absurd (not_open has.body (rest ++ more) x.body b a.0 (sym (append-nil x.body) ∙ ap (λ (ls : List (List ℕ)). x.body ++ ls) (sym a.1) ∙ tail))
      by (inr a) (inr up) = (
        sym (append-nil has.body) ∙ ap (λ (ls : List (List ℕ)). has.body ++ ls) (sym (none up)) ∙ sym tail ∙ ap (λ (ls : List (List ℕ)). x.body ++ ls) a.1 ∙ append-nil x.body,
        none up ∙ sym a.1,
      )

  text_found : (front rest more : List (List ℕ)) (text : List ℕ) (has : HasText One left split front text) → split.lines ≡ front ++ rest
      → lines_of input ≡ split.lines ++ more
      → (text ≡ x.text) × (rest ++ more ≡ x.lines)
  text_found front rest more text has parts all =
      let both : text_line ∷ (x.body ++ x.lines) ≡ has.header ∷ (has.body ++ (rest ++ more)) =
      sym x.parts ∙ all ∙ ap (λ (ls : List (List ℕ)). ls ++ more) (parts ∙ ap (λ (ls : List (List ℕ)). ls ++ rest) has.parts)
      ∙ append_assoc (has.header ∷ has.body) rest more in
      let first : has.header ≡ text_line = cc in
      let tail : x.body ++ x.lines ≡ has.body ++ (rest ++ more) = cc in
      let same = bodies front rest more text has parts all tail in (
        has.octets
            ∙ cut_same input left split has.header has.body rest t t.divides (parts ∙ ap (λ (ls : List (List ℕ)). ls ++ rest) has.parts)
            ∙ ap (λ (h : List ℕ). take (length input - (length h + 1)) (joined has.body)) first
            ∙ ap (λ (b : List (List ℕ)). take (length input - (length text_line + 1)) (joined b)) same.0
            ∙ sym x.octets,
        same.1,
      )

  -- with nothing handed out after the text
  pub whole_text : (text : List ℕ) → HasText One left split split.lines text → text ≡ x.text
  whole_text text has =
      let more = lines_after input left split t t.divides in
      (text_found split.lines [] more.0 text has (sym (append-nil split.lines)) more.1).0

  not_named : (header : List ℕ) (version : Version) (others : List (List ℕ)) → lines_of input ≡ header ∷ others
      → header_of One header ≡ Ok (headers.Builtin version) → ⊥
  not_named header version others all is =
      let both : text_line ∷ (x.body ++ x.lines) ≡ header ∷ others = sym x.parts ∙ all in
      let first : text_line ≡ header = cc in
      let clash : Ok headers.Text ≡ Ok (headers.Builtin version) = ap (header_of One) first ∙ is in
      cc

  pub text_rest : (front lines more : List (List ℕ)) (found : GivenModule) → GivesModule One left split front found → split.lines ≡ front ++ lines
      → lines_of input ≡ split.lines ++ more
      → lines ++ more ≡ x.lines
  text_rest front lines more (given.Text m) gives parts all = (text_found front lines more gives.text gives.has parts all).1
  text_rest front lines more (given.Builtin version) gives parts all =
      absurd (not_named gives.header version (lines ++ more) (all ∙ ap (λ (ls : List (List ℕ)). ls ++ more) (parts ∙ ap (λ (ls : List (List ℕ)). ls ++ lines) gives.parts)) gives.is_header)

  text_reads : (text : List ℕ) (m : Syntax) (octets : ℕ) → HasText One left split split.lines text → Reads text octets m
      → (m ≡ x.m) × (octets ≡ x.is.octets)
  text_reads text m octets has reads =
      let one = reading_once x.text m x.m octets x.is.octets (subst (λ (bytes : List ℕ). Reads bytes octets m) (whole_text text has) reads) x.is.reads in
      (one.0, one.1)

  pub text_wrong : (place : ℕ) (reason : TextReason) → IsWrongModule One left split place reason → ⊥
  text_wrong place reason (Empty e word) =
      let none : text_line ∷ (x.body ++ x.lines) ≡ [] = sym x.parts ∙ all_lines t e.nothing e.at_end ∙ e.no_line in
      cc
  text_wrong place reason (NoHeader e) =
      let next = next_of t e.next in
      let same : text_line ∷ (x.body ++ x.lines) ≡ e.line ∷ next.more = sym x.parts ∙ next.split ∙ ap (λ (ls : List (List ℕ)). ls ++ e.line ∷ next.more) e.none in
      let first : text_line ≡ e.line = cc in
      let clash : Ok headers.Text ≡ Err reason = ap (header_of One) first ∙ e.wrong in
      cc
  text_wrong place reason (Unended e) =
      let one = text_reads e.text e.m e.octets e.has e.reads in
      e.more (subst IsBlank (ap (λ (n : ℕ). drop n x.text) (sym one.1) ∙ ap (λ (bytes : List ℕ). drop e.octets bytes) (sym (whole_text e.text e.has))) x.is.alone)

  pub text_alike : (name : List ℕ) → IsOther left split name → ⊥
  text_alike name e =
      let one = text_reads e.gives.text e.m e.gives.is.octets e.gives.has e.gives.is.reads in
      let clash : Some name ≡ None = sym e.differs ∙ ap (λ (s : Syntax). differs (profile_types 1) s) one.0 ∙ x.agrees in
      cc

-- ---- of a script with the header of the profile

module _ {input : List ℕ} {events : List Event} {left : Option (List ℕ)} {split : InputSplit} (n : NamesScript input events) (t : TakesOf input left split) where
  no_text : (header : List ℕ) (others : List (List ℕ)) → lines_of input ≡ header ∷ others → header_of One header ≡ Ok headers.Text → ⊥
  no_text header others all is =
      let both : builtin_line One ∷ n.lines ≡ header ∷ others = sym n.parts ∙ all in
      let first : builtin_line One ≡ header = cc in
      let clash : Ok (headers.Builtin One) ≡ Ok headers.Text = ap (header_of One) first ∙ is in
      cc

  no_text_at : (front rest more : List (List ℕ)) (text : List ℕ) → HasText One left split front text → split.lines ≡ front ++ rest
      → lines_of input ≡ split.lines ++ more → ⊥
  no_text_at front rest more text has parts all =
      no_text has.header (has.body ++ rest ++ more) (all ∙ ap (λ (ls : List (List ℕ)). ls ++ more) (parts ∙ ap (λ (ls : List (List ℕ)). ls ++ rest) has.parts)) has.is_header

  pub no_text_here : (text : List ℕ) → HasText One left split split.lines text → ⊥
  no_text_here text has =
      let more = lines_after input left split t t.divides in
      no_text_at split.lines [] more.0 text has (sym (append-nil split.lines)) more.1

  pub names_rest : (front lines more : List (List ℕ)) (found : GivenModule) → GivesModule One left split front found → split.lines ≡ front ++ lines
      → lines_of input ≡ split.lines ++ more
      → lines ++ more ≡ n.lines
  names_rest front lines more (given.Text m) gives parts all = absurd (no_text_at front lines more gives.text gives.has parts all)
  names_rest front lines more (given.Builtin version) gives parts all =
      let both : builtin_line One ∷ n.lines ≡ gives.header ∷ (lines ++ more) = sym n.parts ∙ all ∙ ap (λ (ls : List (List ℕ)). ls ++ more) (parts ∙ ap (λ (ls : List (List ℕ)). ls ++ lines) gives.parts) in
      cc

  pub names_wrong : (place : ℕ) (reason : TextReason) → IsWrongModule One left split place reason → ⊥
  names_wrong place reason (Empty e word) =
      let none : builtin_line One ∷ n.lines ≡ [] = sym n.parts ∙ all_lines t e.nothing e.at_end ∙ e.no_line in
      cc
  names_wrong place reason (NoHeader e) =
      let next = next_of t e.next in
      let same : builtin_line One ∷ n.lines ≡ e.line ∷ next.more = sym n.parts ∙ next.split ∙ ap (λ (ls : List (List ℕ)). ls ++ e.line ∷ next.more) e.none in
      let first : builtin_line One ≡ e.line = cc in
      let clash : Ok (headers.Builtin One) ≡ Err reason = ap (header_of One) first ∙ e.wrong in
      cc
  names_wrong place reason (Unended e) = no_text_here e.text e.has
