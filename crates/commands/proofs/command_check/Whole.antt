-- A whole module is found and reported, unless memory runs out; and a stop at a line is near it.
use Rattle.std.proofs.Common.{◌≡◌, ◌≤◌, ◌⊎◌, ℕ, ◌+◌, List, [], ◌∷◌, ◌++◌, length, drop, true, false, Option, Some, None, Result, Ok, Err, refl, sym, ap, ◌∙◌, subst, inl, inr, append_assoc, append-nil, length-append, arith}
use Rattle.std.specs.Prelude.{codes}
use Rattle.std.proofs.lemmas.Slice.Eq.{bytes_eq-Decides}
use Rattle.std.specs.Io.KnownBytes.{Consumes}
use Rattle.gnb_base.specs.Lines.{line_feed, HasNoLf, lines_of}
use Rattle.gnb_base.proofs.LinesOf.{lines_of-line, lines_of-last}
use Rattle.gnb_base.specs.Reading.{input_limit}
use Rattle.gnb_base.specs.Outside.{SourceAt}
use Rattle.command_defs.specs.declared.input_defs.InputEnd.TheVariants as inputs
use Rattle.command_defs.specs.input_defs.Split.{InputSplit, joined, Divides, Whole, Bare}
use Rattle.command_defs.specs.input_defs.Ends.{ComesNext, IsReadToEnd, IsTooLong}
use Rattle.commands.proofs.input_lines.Sources.{rest_known}
use Rattle.commands.proofs.input_lines.Standing.{both_nil}
use Rattle.commands.proofs.input_lines.Wholes.{TakesOf, takes_known, lines_of-joined, taken_is, all_lines, some_next, next_of}
use Rattle.scenario_text.specs.declared.script_words.reason.TextReason.{TextReason}
use Rattle.asn1_syntax.specs.declared.assignments.assignment.Syntax.{Syntax}
use Rattle.asn1_tokens.specs.Words.{is_text}
use Rattle.asn1_defs.specs.Readings.{Reads}
use Rattle.asn1_defs.specs.Targets.{type_ids}
use Rattle.proof_asn1_modules.proofs.asn1_proof_module.Faults.{reading_once, never_both}
use Rattle.profile.specs.declared.version.Version.{Version}
use Rattle.profile.specs.declared.version.Version.TheVariants.{One, Two}
use Rattle.message_defs.specs.profile_defs.Profile.{module_name}
use Rattle.commands.specs.declared.input_module.header.ModuleHeader.TheVariants as headers
use Rattle.commands.specs.declared.input_module.module.GivenModule.{GivenModule}
use Rattle.commands.specs.declared.input_module.module.GivenModule.TheVariants as given
use Rattle.commands.specs.declared.input_module.stop.ModuleStop.{ModuleStop}
use Rattle.commands.specs.declared.input_module.stop.ModuleStop.TheVariants.{NoModule, Script, Input}
use Rattle.commands.specs.input_module.Header.{header_of, builtin_line}
use Rattle.commands.specs.input_module.Text.{IsUnclosed, IsClosed, IsBlank, is_end}
use Rattle.commands.specs.input_module.Module.{IsUpToEnd, HasText, GivesModule, IsWrongModule, Empty, NoHeader, Unended}
use Rattle.commands.specs.declared.command_check.input.CheckedModule.{CheckedModule}
use Rattle.commands.specs.command_check.Check.{IsModuleOf, IsWrongInput, NotGiven, Further, CheckAnswers, ChecksInput}
use Rattle.commands.specs.command_check.Whole.{IsWholeText, IsHeaderAlone, IsWhole, OfText, OfProfile, FindsModule}
use Rattle.commands.proofs.command_check.Joining.{text_stands}

-- ---- the lines of a text

abbrev header0 : List ℕ
header0 = codes "module text"

none_of : (bytes : List ℕ) → lines_of bytes ≡ [] → bytes ≡ []
none_of [] e = refl
none_of (byte ∷ bytes) e = absurd (grind arith)

open_fails : (front : List (List ℕ)) (last : List ℕ) (rest : List (List ℕ)) → is_end last ≡ true → IsUnclosed ((front ++ last ∷ []) ++ rest)
    → ⊥
open_fails [] last rest e h = let clash : true ≡ false = sym e ∙ h.0 in cc
open_fails (line ∷ front) last rest e h = open_fails front last rest e h.1

closed_once : (front : List (List ℕ)) (last : List ℕ) (rest others : List (List ℕ)) (end : List ℕ) → is_end last ≡ true → IsUnclosed others
    → (front ++ last ∷ []) ++ rest ≡ others ++ end ∷ [] → rest ≡ []
closed_once [] last rest [] end e h same = cc
closed_once [] last rest (line ∷ others) end e h same =
    let first : last ≡ line = cc in
    let clash : true ≡ false = sym e ∙ ap is_end first ∙ h.0 in
    absurd (cc)
closed_once (line ∷ []) last rest [] end e h same = absurd (cc)
closed_once (line ∷ (next ∷ front)) last rest [] end e h same = absurd (cc)
closed_once (line ∷ front) last rest (other ∷ others) end e h same =
    let tail : (front ++ last ∷ []) ++ rest ≡ others ++ end ∷ [] = cc in
    closed_once front last rest others end e h.1 tail

nothing_after : (lines body rest : List (List ℕ)) → IsClosed body → lines ≡ body ++ rest → IsClosed lines ⊎ IsUnclosed lines → rest ≡ []
nothing_after lines body rest closed e (inl whole) =
    closed_once closed.front closed.last rest whole.front whole.last closed.end whole.others (ap (λ (ls : List (List ℕ)). ls ++ rest) (sym closed.parts) ∙ sym e ∙ whole.parts)
nothing_after lines body rest closed e (inr whole) =
    absurd (open_fails closed.front closed.last rest closed.end (subst (λ (ls : List (List ℕ)). IsUnclosed ls) (e ∙ ap (λ (ls : List (List ℕ)). ls ++ rest) closed.parts) whole))

-- ---- what was taken

no_lf : HasNoLf header0
no_lf = search arith

lines_are : (input text : List ℕ) → input ≡ header0 ++ line_feed ∷ text → lines_of input ≡ header0 ∷ lines_of text
lines_are input text e = ap lines_of e ∙ lines_of-line header0 text no_lf

-- all of the input was taken, and its text is this one
pub record AllTaken (input text : List ℕ) (split : InputSplit) (found : List ℕ) : Type 0 where
  pub all : split.taken ≡ input
  pub none : split.kept ≡ []
  pub same : found ≡ text

same_text : (input text taken kept found header : List ℕ) → input ≡ header0 ++ line_feed ∷ text → header ≡ header0 → taken ≡ input
    → kept ≡ [] → drop (length header + 1) taken ≡ found ++ kept → found ≡ text
same_text input text taken kept found header e h all none d =
    sym (ap (λ (bytes : List ℕ). found ++ bytes) none ∙ append-nil found) ∙ sym d
    ∙ ap (λ (bytes : List ℕ). drop (length header + 1) bytes) (all ∙ e)
    ∙ ap (λ (bytes : List ℕ). drop (length bytes + 1) (header0 ++ line_feed ∷ text)) h

first_line : (header : List ℕ) (body rest lines : List (List ℕ)) → header0 ∷ lines ≡ (header ∷ body) ++ rest
    → (header ≡ header0) × (lines ≡ body ++ rest)
first_line header body rest lines e = (cc, cc)

-- where the input is at its end
at_the_end : {input : List ℕ} {left : Option (List ℕ)} {split : InputSplit} {found : List ℕ} (text : List ℕ)
    → input ≡ header0 ++ line_feed ∷ text → TakesOf input left split → IsReadToEnd left split
    → HasText Two left split split.lines found → AllTaken input text split found
at_the_end {input = input} {left = left} {split = split} {found = found} text e t end has =
    let all = taken_is input split.taken left t.consumes end.at_end in
    let same = sym (lines_are input text e) ∙ all_lines t end.nothing end.at_end ∙ has.parts in
    let first = first_line has.header has.body [] (lines_of text) (same ∙ sym (append-nil (has.header ∷ has.body))) in
    record { all = sym all; none = end.nothing; same = same_text input text split.taken split.kept found has.header e first.0 (sym all) end.nothing (text_stands has t.divides) }

-- where the text has ended
after_text : (input text found : List ℕ) (left : Option (List ℕ)) (split : InputSplit) → input ≡ header0 ++ line_feed ∷ text
    → IsClosed (lines_of text) ⊎ IsUnclosed (lines_of text)
    → TakesOf input left split → Divides left split → (has : HasText Two left split split.lines found) → IsClosed has.body → AllTaken input text split found
after_text input text found None split e whole t d has closed = absurd t.consumes
after_text input text found (Some ys) split e whole t (Whole f) has closed =
    let parts : input ≡ joined split.lines ++ (split.kept ++ ys) = t.consumes ∙ ap (λ (bytes : List ℕ). bytes ++ ys) f
    ∙ append_assoc (joined split.lines) split.kept ys in
    let same : header0 ∷ lines_of text ≡ (has.header ∷ has.body) ++ lines_of (split.kept ++ ys) =
    sym (lines_are input text e) ∙ ap lines_of parts ∙ lines_of-joined split.lines (split.kept ++ ys) t.each
    ∙ ap (λ (ls : List (List ℕ)). ls ++ lines_of (split.kept ++ ys)) has.parts in
    let first = first_line has.header has.body (lines_of (split.kept ++ ys)) (lines_of text) same in
    let none = both_nil split.kept ys (none_of (split.kept ++ ys) (nothing_after (lines_of text) has.body (lines_of (split.kept ++ ys)) closed first.1 whole)) in
    let all : split.taken ≡ input = sym (t.consumes ∙ ap (λ (bytes : List ℕ). split.taken ++ bytes) none.1 ∙ append-nil split.taken) in
    record { all = all; none = none.0; same = same_text input text split.taken split.kept found has.header e first.0 all none.0 (text_stands has t.divides) }
after_text input text found (Some ys) split e whole t (Bare front last parts some bytes none at_end) has closed =
    at_the_end text e t (record { nothing = none; at_end = at_end }) has

all_taken : {input text : List ℕ} {m : Syntax} {left : Option (List ℕ)} {split : InputSplit} {found : List ℕ} → IsWholeText input text m
    → TakesOf input left split → HasText Two left split split.lines found → AllTaken input text split found
all_taken {input = input} {text = text} {left = left} {split = split} {found = found} w t has = go has.whole
  where
    go : IsClosed has.body ⊎ IsUpToEnd left split split.lines has.body → AllTaken input text split found
    go (inl closed) = after_text input text found left split w.parts w.whole t t.divides has closed
    go (inr rest) = at_the_end text w.parts t rest.all has

-- ---- each end of an input with a text

-- a version of the profile is named in no line of it
not_builtin : {input text : List ℕ} {m : Syntax} {left : Option (List ℕ)} {split : InputSplit} (header : List ℕ) (version : Version)
    → IsWholeText input text m → TakesOf input left split
    → split.lines ≡ header ∷ [] → header_of Two header ≡ Ok (headers.Builtin version) → ⊥
not_builtin {input = input} {text = text} {left = left} {split = split} header version w t parts is = by_division left t t.divides
  where
    wrong : (more : List (List ℕ)) → header0 ∷ lines_of text ≡ header ∷ more → ⊥
    wrong more same =
        let first : header0 ≡ header = cc in
        let clash : Ok headers.Text ≡ Ok (headers.Builtin version) = ap (header_of Two) first ∙ is in
        cc

    by_division : (left : Option (List ℕ)) → TakesOf input left split → Divides left split → ⊥
    by_division None t1 d = t1.consumes
    by_division (Some ys) t1 (Whole f) =
        wrong (lines_of (split.kept ++ ys))
        (sym (lines_are input text w.parts) ∙ ap lines_of (t1.consumes ∙ ap (λ (bytes : List ℕ). bytes ++ ys) f ∙ append_assoc (joined split.lines) split.kept ys) ∙ lines_of-joined split.lines (split.kept ++ ys) t.each ∙ ap (λ (ls : List (List ℕ)). ls ++ lines_of (split.kept ++ ys)) parts)
    by_division (Some ys) t1 (Bare front last p some bytes none at_end) =
        wrong [] (sym (lines_are input text w.parts) ∙ all_lines t1 none at_end ∙ parts)

of_wrong : {input text : List ℕ} {m : Syntax} {left : Option (List ℕ)} {split : InputSplit} (place : ℕ) (reason : TextReason)
    → IsWholeText input text m → TakesOf input left split
    → IsWrongModule Two left split place reason → ⊥
of_wrong {input = input} {text = text} place reason w t (Empty e word) =
    let none : header0 ∷ lines_of text ≡ [] = sym (lines_are input text w.parts) ∙ all_lines t e.nothing e.at_end ∙ e.no_line in
    cc
of_wrong {input = input} {text = text} place reason w t (NoHeader e) =
    let next = next_of t e.next in
    let same : header0 ∷ lines_of text ≡ e.line ∷ next.more = sym (lines_are input text w.parts) ∙ next.split
    ∙ ap (λ (ls : List (List ℕ)). ls ++ e.line ∷ next.more) e.none in
    let first : header0 ≡ e.line = cc in
    let clash : Ok headers.Text ≡ Err reason = ap (header_of Two) first ∙ e.wrong in
    cc
of_wrong {text = text} {m = m} place reason w t (Unended e) =
    let a = all_taken w t e.has in
    let one = reading_once text e.m m e.octets w.is.octets (subst (λ (bytes : List ℕ). Reads bytes e.octets e.m) a.same e.reads) w.is.reads in
    absurd (e.more (subst IsBlank (ap (λ (n : ℕ). drop n text) (sym one.1) ∙ ap (λ (bytes : List ℕ). drop e.octets bytes) (sym a.same)) w.is.alone))

of_line : {input text : List ℕ} {m : Syntax} {left : Option (List ℕ)} {split : InputSplit} (found : GivenModule) (line : List ℕ)
    → IsWholeText input text m → TakesOf input left split
    → GivesModule Two left split split.lines found → ComesNext left split.kept line → ⊥
of_line (given.Text n) line w t gives next = some_next next.next (all_taken w t gives.has).none
of_line (given.Builtin version) line w t gives next = not_builtin gives.header version w t gives.parts gives.is_header

wrong_text : {input text : List ℕ} {m : Syntax} {left : Option (List ℕ)} {split : InputSplit} (place : ℕ) (reason : TextReason)
    → IsWholeText input text m → TakesOf input left split
    → IsWrongInput left split place reason → ⊥
wrong_text place reason w t (NotGiven e) = of_wrong place reason w t e
wrong_text place reason w t (Further e) = of_line e.found e.line w t e.gives e.next

long_by : (input : List ℕ) (left : Option (List ℕ)) (split : InputSplit) → length input ≤ input_limit
    → Consumes (Some input) left split.taken → IsTooLong split → ⊥
long_by input None split within h e = h
long_by input (Some ys) split within h e = omega (arith, within, ap length h, length-append split.taken ys, e.at)

-- the module of the text
found_text : {input text : List ℕ} {m : Syntax} {left : Option (List ℕ)} {split : InputSplit} (found : GivenModule) (n : Syntax)
    → IsWholeText input text m → TakesOf input left split
    → GivesModule Two left split split.lines found → IsModuleOf found n → n ≡ m
found_text {text = text} {m = m} (given.Text k) n w t gives is =
    let a = all_taken w t gives.has in
    let one = reading_once text k m gives.is.octets w.is.octets (subst (λ (bytes : List ℕ). Reads bytes gives.is.octets k) a.same gives.is.reads) w.is.reads in
    is ∙ one.0
found_text (given.Builtin version) n w t gives is = absurd (not_builtin gives.header version w t gives.parts gives.is_header)

text_answer : (input text : List ℕ) (m : Syntax) (left : Option (List ℕ)) (split : InputSplit) (result : Result CheckedModule ModuleStop)
    → IsWholeText input text m → TakesOf input left split
    → CheckAnswers left split result → ((taken : ℕ) → result ≡ Err (Input (inputs.ReadFault taken)) → ⊥)
    → FindsModule m.name (length (type_ids m.assignments)) result
text_answer input text m left split (Ok checked) w t e none =
    let same = found_text e.found e.summarises.m w t e.gives e.summarises.is in (
      e.summarises.summary.name ∙ ap (λ (s : Syntax). s.name) same,
      e.summarises.summary.types ∙ ap (λ (s : Syntax). length (type_ids s.assignments)) same,
    )
text_answer input text m left split (Err (NoModule line column reason)) w t e none =
    let a = all_taken w t e.has in
    absurd (never_both e.text w.is.octets e.line_of_text column m reason (subst (λ (bytes : List ℕ). Reads bytes w.is.octets m) (sym a.same) w.is.reads) e.wrong)
text_answer input text m left split (Err (Script place reason)) w t e none = absurd (wrong_text place reason w t e)
text_answer input text m left split (Err (Input (inputs.ReadFault taken))) w t e none = absurd (none taken refl)
text_answer input text m left split (Err (Input inputs.TooLong)) w t e none = absurd (long_by input left split w.within t.consumes e.1)
text_answer input text m left split (Err (Input inputs.Memory)) w t e none = refl

-- ---- each end of an input that is the header of a version of the profile

builtin_no_lf : (version : Version) → HasNoLf (builtin_line version)
builtin_no_lf One = search arith
builtin_no_lf Two = search arith

builtin_some : (version : Version) → builtin_line version ≡ [] → ⊥
builtin_some One e = cc
builtin_some Two e = cc

-- its one line
one_line : (input : List ℕ) (version : Version) → IsHeaderAlone input version → lines_of input ≡ builtin_line version ∷ []
one_line input version (inl e) = ap lines_of e ∙ lines_of-last (builtin_line version) (builtin_no_lf version) (builtin_some version)
one_line input version (inr e) = ap lines_of e ∙ lines_of-line (builtin_line version) [] (builtin_no_lf version)

short_lines : (input : List ℕ) (version : Version) → IsHeaderAlone input version → length input ≤ input_limit
short_lines input One (inl e) = omega (arith, ap length e)
short_lines input One (inr e) = omega (arith, ap length e)
short_lines input Two (inl e) = omega (arith, ap length e)
short_lines input Two (inr e) = omega (arith, ap length e)

names_version : (version : Version) → header_of Two (builtin_line version) ≡ Ok (headers.Builtin version)
names_version One = refl
names_version Two = refl

-- the first line that was handed out is this header
first_of : {input : List ℕ} {left : Option (List ℕ)} {split : InputSplit} (version : Version) (header : List ℕ) (body : List (List ℕ))
    → IsHeaderAlone input version → TakesOf input left split
    → split.lines ≡ header ∷ body → header_of Two header ≡ Ok (headers.Builtin version)
first_of {input = input} {left = left} {split = split} version header body w t parts = by_division left t t.divides
  where
    by_line : (more : List (List ℕ)) → builtin_line version ∷ [] ≡ header ∷ more → header_of Two header ≡ Ok (headers.Builtin version)
    by_line more same = let first : builtin_line version ≡ header = cc in ap (header_of Two) (sym first) ∙ names_version version

    by_division : (left : Option (List ℕ)) → TakesOf input left split → Divides left split
        → header_of Two header ≡ Ok (headers.Builtin version)
    by_division None t1 d = absurd t1.consumes
    by_division (Some ys) t1 (Whole f) =
        by_line (body ++ lines_of (split.kept ++ ys))
        (sym (one_line input version w) ∙ ap lines_of (t1.consumes ∙ ap (λ (bytes : List ℕ). bytes ++ ys) f ∙ append_assoc (joined split.lines) split.kept ys) ∙ lines_of-joined split.lines (split.kept ++ ys) t.each ∙ ap (λ (ls : List (List ℕ)). ls ++ lines_of (split.kept ++ ys)) parts)
    by_division (Some ys) t1 (Bare front last p some bytes none at_end) =
        by_line body (sym (one_line input version w) ∙ all_lines t1 none at_end ∙ parts)

-- so no text is there
no_text : {input : List ℕ} {left : Option (List ℕ)} {split : InputSplit} {text : List ℕ} (version : Version) → IsHeaderAlone input version
    → TakesOf input left split → HasText Two left split split.lines text → ⊥
no_text version w t has =
    let clash : Ok headers.Text ≡ Ok (headers.Builtin version) = sym has.is_header ∙ first_of version has.header has.body w t has.parts in
    cc

wrong_builtin : {input : List ℕ} {left : Option (List ℕ)} {split : InputSplit} (version : Version) (place : ℕ) (reason : TextReason)
    → IsHeaderAlone input version → TakesOf input left split
    → IsWrongModule Two left split place reason → ⊥
wrong_builtin {input = input} version place reason w t (Empty e word) =
    let none : builtin_line version ∷ [] ≡ [] = sym (one_line input version w) ∙ all_lines t e.nothing e.at_end ∙ e.no_line in
    cc
wrong_builtin {input = input} version place reason w t (NoHeader e) =
    let next = next_of t e.next in
    let same : builtin_line version ∷ [] ≡ e.line ∷ next.more = sym (one_line input version w) ∙ next.split
    ∙ ap (λ (ls : List (List ℕ)). ls ++ e.line ∷ next.more) e.none in
    let first : builtin_line version ≡ e.line = cc in
    let clash : Ok (headers.Builtin version) ≡ Err reason = sym (names_version version) ∙ ap (header_of Two) first ∙ e.wrong in
    cc
wrong_builtin version place reason w t (Unended e) = no_text version w t e.has

-- nor a second line
one_alone : {input : List ℕ} {left : Option (List ℕ)} {split : InputSplit} (version : Version) (header line : List ℕ) (body : List (List ℕ))
    → IsHeaderAlone input version → TakesOf input left split
    → split.lines ≡ header ∷ body → ComesNext left split.kept line → ⊥
one_alone {input = input} version header line body w t parts next =
    let found = next_of t next in
    never body found.more (sym (one_line input version w) ∙ found.split ∙ ap (λ (ls : List (List ℕ)). ls ++ line ∷ found.more) parts)
  where
    never : (body more : List (List ℕ)) → builtin_line version ∷ [] ≡ header ∷ (body ++ line ∷ more) → ⊥
    never [] more e = cc
    never (other ∷ body) more e = cc

first_given : (left : Option (List ℕ)) (split : InputSplit) (found : GivenModule) → GivesModule Two left split split.lines found
    → (header : List ℕ) × (body : List (List ℕ)) × (split.lines ≡ header ∷ body)
first_given left split (given.Text m) gives = (gives.has.header, gives.has.body, gives.has.parts)
first_given left split (given.Builtin version) gives = (gives.header, [], gives.parts)

wrong_line : {input : List ℕ} {left : Option (List ℕ)} {split : InputSplit} (version : Version) (place : ℕ) (reason : TextReason)
    → IsHeaderAlone input version → TakesOf input left split
    → IsWrongInput left split place reason → ⊥
wrong_line {left = left} {split = split} version place reason w t (NotGiven e) = wrong_builtin version place reason w t e
wrong_line {left = left} {split = split} version place reason w t (Further e) =
    let first = first_given left split e.found e.gives in one_alone version first.0 e.line first.1 w t first.2 e.next

name_is : (name : List ℕ) → is_text name module_name ≡ true → name ≡ module_name
unfolding is_text
name_is name h = (bytes_eq-Decides name module_name).0 h

-- it is the profile's module
found_builtin : {input : List ℕ} {left : Option (List ℕ)} {split : InputSplit} (version : Version) (found : GivenModule) (m : Syntax)
    → IsHeaderAlone input version → TakesOf input left split
    → GivesModule Two left split split.lines found → IsModuleOf found m → (m.name ≡ module_name) × (length (type_ids m.assignments) ≡ 53)
found_builtin version (given.Text k) m w t gives is = absurd (no_text version w t gives.has)
found_builtin version (given.Builtin other) m w t gives is = (name_is m.name is.name, is.count)

builtin_answer : (input : List ℕ) (version : Version) (left : Option (List ℕ)) (split : InputSplit) (result : Result CheckedModule ModuleStop)
    → IsHeaderAlone input version → TakesOf input left split
    → CheckAnswers left split result → ((taken : ℕ) → result ≡ Err (Input (inputs.ReadFault taken)) → ⊥)
    → FindsModule module_name 53 result
builtin_answer input version left split (Ok checked) w t e none =
    let is = found_builtin version e.found e.summarises.m w t e.gives e.summarises.is in
    (e.summarises.summary.name ∙ is.0, e.summarises.summary.types ∙ is.1)
builtin_answer input version left split (Err (NoModule line column reason)) w t e none = absurd (no_text version w t e.has)
builtin_answer input version left split (Err (Script place reason)) w t e none = absurd (wrong_line version place reason w t e)
builtin_answer input version left split (Err (Input (inputs.ReadFault taken))) w t e none = absurd (none taken refl)
builtin_answer input version left split (Err (Input inputs.TooLong)) w t e none = absurd (long_by input left split (short_lines input version w) t.consumes e.1)
builtin_answer input version left split (Err (Input inputs.Memory)) w t e none = refl

-- ---- both

same_report : (result : Result CheckedModule ModuleStop) (name name1 : List ℕ) (types types1 : ℕ) → name ≡ name1 → types ≡ types1
    → FindsModule name1 types1 result → FindsModule name types result
same_report result name name1 types types1 e f h =
    subst (λ (n : List ℕ). FindsModule n types result) (sym e) (subst (λ (k : ℕ). FindsModule name1 k result) (sym f) h)

by_answer : (input name : List ℕ) (types : ℕ) (left : Option (List ℕ)) (split : InputSplit) (result : Result CheckedModule ModuleStop)
    → IsWhole input name types → TakesOf input left split
    → CheckAnswers left split result → ((taken : ℕ) → result ≡ Err (Input (inputs.ReadFault taken)) → ⊥) → FindsModule name types result
by_answer input name types left split result (OfText text m w e f) t answers none =
    same_report result name _ types _ e f (text_answer input text m left split result w t answers none)
by_answer input name types left split result (OfProfile version w e f) t answers none =
    same_report result name _ types _ e f (builtin_answer input version left split result w t answers none)

pub finds_module : (before after : SourceAt) (result : Result CheckedModule ModuleStop) → ChecksInput before after result
    → (input name : List ℕ) (types : ℕ) → before.left ≡ Some input
    → IsWhole input name types → ((taken : ℕ) → result ≡ Err (Input (inputs.ReadFault taken)) → ⊥) → FindsModule name types result
finds_module before after result c input name types known w none =
    by_answer input name types after.left c.split result w (takes_known input known c.input)
    (subst (λ (left : Option (List ℕ)). CheckAnswers left c.split result) (rest_known before after input known) c.answers) none
