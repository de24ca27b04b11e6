-- Of a whole input each line is answered, unless memory runs out; and a stop at a line is near it.
use Rattle.std.proofs.Common.{◌≡◌, ◌⊎◌, ◌+◌, ◌-◌, ℕ, List, [], ◌∷◌, ◌++◌, length, take, drop, Option, Some, None, Ok, Err, refl, sym, ap, ◌∙◌, subst, inl, inr, append-nil, append_assoc, length-append, arith}
use Rattle.std.specs.List.{AllByRecursion}
use Rattle.std.specs.Io.KnownBytes.{Consumes}
use Rattle.commands.proofs.command_output.Faults.{no_read_fault, no_write_fault}
use Rattle.gnb_base.specs.Lines.{lines_of}
use Rattle.gnb_base.specs.Outside.{SourceAt}
use Rattle.command_defs.specs.input_defs.Split.{InputSplit, rest_of, joined, TakesInput}
use Rattle.command_defs.specs.input_defs.Ends.{IsReadToEnd, IsTooLong}
use Rattle.command_defs.specs.input_defs.Near.{StopsNear}
use Rattle.commands.proofs.input_lines.Near.{near_handed, near_empty, near_next}
use Rattle.commands.proofs.input_lines.Sources.{rest_known}
use Rattle.commands.proofs.input_lines.Wholes.{TakesOf, takes_known, all_lines, next_of}
use Rattle.asn1_syntax.specs.declared.types.definition.TypeId.{TypeId}
use Rattle.asn1_syntax.specs.declared.types.fault.ModuleReason.{ModuleReason}
use Rattle.asn1_syntax.specs.declared.assignments.assignment.Syntax.{Syntax}
use Rattle.asn1_defs.specs.Readings.{Reads}
use Rattle.asn1_defs.specs.Targets.{find_type}
use Rattle.proof_asn1_modules.proofs.asn1_proof_module.Faults.{reading_once, never_both}
use Rattle.profile.specs.declared.version.Version.{Version}
use Rattle.profile.specs.declared.version.Version.TheVariants.{One, Two}
use Rattle.profile.specs.Versions.{text_of}
use Rattle.profile.specs.profile_module.Profiles.{IsBuiltin}
use Rattle.commands.specs.declared.input_module.header.ModuleHeader.TheVariants as headers
use Rattle.commands.specs.declared.input_module.module.GivenModule.{GivenModule}
use Rattle.commands.specs.declared.input_module.module.GivenModule.TheVariants as given
use Rattle.commands.specs.input_module.Header.{header_of, builtin_line}
use Rattle.commands.specs.input_module.Text.{IsClosed, IsUnclosed, IsBlank}
use Rattle.commands.specs.input_module.Module.{IsUpToEnd, HasText, GivesModule, IsNoModule, IsWrongModule, Empty, NoHeader, Unended}
use Rattle.scenario_text.specs.declared.script_words.reason.TextReason.{TextReason}
use Rattle.commands.specs.command_check.Check.{IsModuleOf}
use Rattle.command_defs.specs.declared.CommonEnd.TheVariants.{ReadFault, TooLong, WriteFault, Memory}
use Rattle.command_defs.specs.Outside.{OutsideAt}
use Rattle.command_defs.specs.Output.{Prints}
use Rattle.command_values.specs.declared.answer.Wrong.{Wrong}
use Rattle.command_values.specs.declared.end.Stop.TheVariants.{NoModule, NoType, Script, Value}
use Rattle.command_values.specs.declared.end.ValuesEnd.{ValuesEnd}
use Rattle.command_values.specs.declared.end.ValuesEnd.TheVariants.{Done, Stopped, Common}
use Rattle.command_values.specs.Answers.{IsWrong, AreAnswered}
use Rattle.command_values.specs.Ends.{values_status, StopsAtValue}
use Rattle.command_values.specs.Values.{Job, HasValues, IsUntyped, IsWrongLine, ValuesEndMeets, ValuesMeet}
use Rattle.command_values.specs.Whole.{text_line, NamesProfile, GivesText, AreAccepted, IsWhole, AnswersWholly}
use Rattle.command_values.proofs.Texts.{cancel, same_body, not_open, lines_after, cut_same}

-- the module that was found, and the lines after it, are those of the whole input
abbrev IsSame : Syntax → List (List ℕ) → Syntax → List (List ℕ) → Type 0
IsSame k rest m lines = (k ≡ m) × (rest ≡ lines)

-- ---- of an input with the text of a module

module _ {input : List ℕ} {m : Syntax} {lines : List (List ℕ)} {left : Option (List ℕ)} {split : InputSplit} (x : GivesText input m lines) (t : TakesOf input left split) where
  bodies : (front rest more : List (List ℕ)) (text : List ℕ) (has : HasText Two left split front text) → split.lines ≡ front ++ rest
      → lines_of input ≡ split.lines ++ more
      → x.body ++ lines ≡ has.body ++ (rest ++ more) → (has.body ≡ x.body) × (rest ++ more ≡ lines)
  bodies front rest more text has parts all tail = by x.whole has.whole
    where
      none : IsUpToEnd left split front has.body → rest ++ more ≡ []
      none up =
          let no_rest : rest ≡ [] = cancel front rest (sym parts ∙ up.alone) in
          let no_more : more ≡ [] = cancel split.lines more (sym all ∙ all_lines t up.all.nothing up.all.at_end) in
          ap (λ (ls : List (List ℕ)). ls ++ more) no_rest ∙ no_more

      by : IsClosed x.body ⊎ (IsUnclosed x.body × (lines ≡ [])) → IsClosed has.body ⊎ IsUpToEnd left split front has.body
          → (has.body ≡ x.body) × (rest ++ more ≡ lines)
      by (inl a) (inl b) = let one = same_body x.body lines has.body (rest ++ more) a b tail in (sym one.0, sym one.1)
      by (inl a) (inr up) =
          absurd (not_open x.body lines has.body a up.others (sym (append-nil has.body) ∙ ap (λ (ls : List (List ℕ)). has.body ++ ls) (sym (none up)) ∙ sym tail))
      by (inr a) (inl b) =
          absurd (not_open has.body (rest ++ more) x.body b a.0 (sym (append-nil x.body) ∙ ap (λ (ls : List (List ℕ)). x.body ++ ls) (sym a.1) ∙ tail))
      by (inr a) (inr up) = (
        sym (append-nil has.body) ∙ ap (λ (ls : List (List ℕ)). has.body ++ ls) (sym (none up)) ∙ sym tail ∙ ap (λ (ls : List (List ℕ)). x.body ++ ls) a.1 ∙ append-nil x.body,
        none up ∙ sym a.1,
      )

  text_found : (front rest more : List (List ℕ)) (text : List ℕ) (has : HasText Two left split front text) → split.lines ≡ front ++ rest
      → lines_of input ≡ split.lines ++ more
      → (text ≡ x.text) × (rest ++ more ≡ lines)
  text_found front rest more text has parts all =
      let both : text_line ∷ (x.body ++ lines) ≡ has.header ∷ (has.body ++ (rest ++ more)) =
      sym x.parts ∙ all ∙ ap (λ (ls : List (List ℕ)). ls ++ more) (parts ∙ ap (λ (ls : List (List ℕ)). ls ++ rest) has.parts)
      ∙ append_assoc (has.header ∷ has.body) rest more in
      let first : has.header ≡ text_line = cc in
      let tail : x.body ++ lines ≡ has.body ++ (rest ++ more) = cc in
      let same = bodies front rest more text has parts all tail in (
        has.octets
            ∙ cut_same input left split has.header has.body rest t t.divides (parts ∙ ap (λ (ls : List (List ℕ)). ls ++ rest) has.parts)
            ∙ ap (λ (h : List ℕ). take (length input - (length h + 1)) (joined has.body)) first
            ∙ ap (λ (b : List (List ℕ)). take (length input - (length text_line + 1)) (joined b)) same.0
            ∙ sym x.octets,
        same.1,
      )

  -- with nothing handed out after the text
  whole_text : (text : List ℕ) → HasText Two left split split.lines text → text ≡ x.text
  whole_text text has =
      let more = lines_after input left split t t.divides in
      (text_found split.lines [] more.0 text has (sym (append-nil split.lines)) more.1).0

  not_named : (header : List ℕ) (version : Version) (others : List (List ℕ)) → lines_of input ≡ header ∷ others
      → header_of Two header ≡ Ok (headers.Builtin version) → ⊥
  not_named header version others all is =
      let both : text_line ∷ (x.body ++ lines) ≡ header ∷ others = sym x.parts ∙ all in
      let first : text_line ≡ header = cc in
      let clash : Ok headers.Text ≡ Ok (headers.Builtin version) = ap (header_of Two) first ∙ is in
      cc

  text_reads : (k : Syntax) (octets : ℕ) (text : List ℕ) → text ≡ x.text → Reads text octets k → (k ≡ m) × (octets ≡ x.is.octets)
  text_reads k octets text same reads =
      reading_once x.text k m octets x.is.octets (subst (λ (bytes : List ℕ). Reads bytes octets k) same reads) x.is.reads

  text_same : (k : Syntax) (front rest more : List (List ℕ)) (found : GivenModule) → GivesModule Two left split front found → IsModuleOf found k
      → split.lines ≡ front ++ rest → lines_of input ≡ split.lines ++ more → IsSame k (rest ++ more) m lines
  text_same k front rest more (given.Text n) gives is parts all =
      let one = text_found front rest more gives.text gives.has parts all in
      (is ∙ (text_reads n gives.is.octets gives.text one.0 gives.is.reads).0, one.1)
  text_same k front rest more (given.Builtin version) gives is parts all =
      absurd (not_named gives.header version (rest ++ more) (all ∙ ap (λ (ls : List (List ℕ)). ls ++ more) (parts ∙ ap (λ (ls : List (List ℕ)). ls ++ rest) gives.parts)) gives.is_header)

  text_wrong : (place : ℕ) (reason : TextReason) → IsWrongModule Two left split place reason → ⊥
  text_wrong place reason (Empty e word) =
      let none : text_line ∷ (x.body ++ lines) ≡ [] = sym x.parts ∙ all_lines t e.nothing e.at_end ∙ e.no_line in
      cc
  text_wrong place reason (NoHeader e) =
      let next = next_of t e.next in
      let same : text_line ∷ (x.body ++ lines) ≡ e.line ∷ next.more = sym x.parts ∙ next.split ∙ ap (λ (ls : List (List ℕ)). ls ++ e.line ∷ next.more) e.none in
      let first : text_line ≡ e.line = cc in
      let clash : Ok headers.Text ≡ Err reason = ap (header_of Two) first ∙ e.wrong in
      cc
  text_wrong place reason (Unended e) =
      let same = whole_text e.text e.has in
      let one = text_reads e.m e.octets e.text same e.reads in
      e.more (subst IsBlank (ap (λ (n : ℕ). drop n x.text) (sym one.1) ∙ ap (λ (bytes : List ℕ). drop e.octets bytes) (sym same)) x.is.alone)

  text_no_module : (line column : ℕ) (reason : ModuleReason) → IsNoModule Two left split line column reason → ⊥
  text_no_module line column reason e =
      never_both e.text x.is.octets e.line_of_text column m reason
      (subst (λ (bytes : List ℕ). Reads bytes x.is.octets m) (sym (whole_text e.text e.has)) x.is.reads) e.wrong

-- ---- of an input with the header of the profile

names_version : (version : Version) → header_of Two (builtin_line version) ≡ Ok (headers.Builtin version)
names_version One = refl
names_version Two = refl

module _ {input : List ℕ} {m : Syntax} {lines : List (List ℕ)} {left : Option (List ℕ)} {split : InputSplit} (n : NamesProfile input m lines) (t : TakesOf input left split) where
  -- the header that was found names this version
  names_header : (header : List ℕ) (others : List (List ℕ)) → lines_of input ≡ header ∷ others
      → (header_of Two header ≡ Ok (headers.Builtin n.version)) × (others ≡ lines)
  names_header header others all =
      let both : builtin_line n.version ∷ lines ≡ header ∷ others = sym n.parts ∙ all in
      let first : builtin_line n.version ≡ header = cc in
      (ap (header_of Two) (sym first) ∙ names_version n.version, cc)

  no_text_at : (front rest more : List (List ℕ)) (text : List ℕ) → HasText Two left split front text → split.lines ≡ front ++ rest
      → lines_of input ≡ split.lines ++ more → ⊥
  no_text_at front rest more text has parts all =
      let named = (names_header has.header (has.body ++ rest ++ more)
      (all ∙ ap (λ (ls : List (List ℕ)). ls ++ more) (parts ∙ ap (λ (ls : List (List ℕ)). ls ++ rest) has.parts))).0 in
      let clash : Ok headers.Text ≡ Ok (headers.Builtin n.version) = sym has.is_header ∙ named in
      cc

  no_text_here : (text : List ℕ) → HasText Two left split split.lines text → ⊥
  no_text_here text has =
      let more = lines_after input left split t t.divides in
      no_text_at split.lines [] more.0 text has (sym (append-nil split.lines)) more.1

  names_module : (k : Syntax) (version : Version) → n.version ≡ version → IsBuiltin version (record { syntax = k; version = version }) → k ≡ m
  names_module k version same is =
      (reading_once (text_of version) k m is.octets n.is.octets is.reads
      (subst (λ (v : Version). Reads (text_of v) n.is.octets m) same n.is.reads)).0

  names_same : (k : Syntax) (front rest more : List (List ℕ)) (found : GivenModule) → GivesModule Two left split front found → IsModuleOf found k
      → split.lines ≡ front ++ rest → lines_of input ≡ split.lines ++ more → IsSame k (rest ++ more) m lines
  names_same k front rest more (given.Text other) gives is parts all = absurd (no_text_at front rest more gives.text gives.has parts all)
  names_same k front rest more (given.Builtin version) gives is parts all =
      let named = names_header gives.header (rest ++ more)
      (all ∙ ap (λ (ls : List (List ℕ)). ls ++ more) (parts ∙ ap (λ (ls : List (List ℕ)). ls ++ rest) gives.parts)) in
      let one : Ok (headers.Builtin n.version) ≡ Ok (headers.Builtin version) = sym named.0 ∙ gives.is_header in
      (names_module k version (cc) is, named.1)

  names_wrong : (place : ℕ) (reason : TextReason) → IsWrongModule Two left split place reason → ⊥
  names_wrong place reason (Empty e word) =
      let none : builtin_line n.version ∷ lines ≡ [] = sym n.parts ∙ all_lines t e.nothing e.at_end ∙ e.no_line in
      cc
  names_wrong place reason (NoHeader e) =
      let next = next_of t e.next in
      let named = (names_header e.line next.more (next.split ∙ ap (λ (ls : List (List ℕ)). ls ++ e.line ∷ next.more) e.none)).0 in
      let clash : Ok (headers.Builtin n.version) ≡ Err reason = sym named ∙ e.wrong in
      cc
  names_wrong place reason (Unended e) = no_text_here e.text e.has

-- ---- of either

same_id : (o : Option TypeId) (a b : TypeId) → o ≡ Some a → o ≡ Some b → a ≡ b
same_id o a b e f = let both : Some a ≡ Some b = sym e ∙ f in cc

accepted_at : (P : List ℕ → Type 0) (front : List (List ℕ)) (line : List ℕ) (more : List (List ℕ))
    → AllByRecursion P (front ++ line ∷ more) → P line
accepted_at P [] line more h = h.0
accepted_at P (other ∷ front) line more h = accepted_at P front line more h.1

module _ {job : Job} {input : List ℕ} {m : Syntax} {id : TypeId} {lines : List (List ℕ)} {left : Option (List ℕ)} {split : InputSplit} (w : IsWhole job input m id lines) (t : TakesOf input left split) where
  same : (k : Syntax) (front rest more : List (List ℕ)) (found : GivenModule) → GivesModule Two left split front found → IsModuleOf found k
      → split.lines ≡ front ++ rest → lines_of input ≡ split.lines ++ more → IsSame k (rest ++ more) m lines
  same k front rest more found gives is parts all = by w.given
    where
      by : NamesProfile input m lines ⊎ GivesText input m lines → IsSame k (rest ++ more) m lines
      by (inl n) = names_same n t k front rest more found gives is parts all
      by (inr x) = text_same x t k front rest more found gives is parts all

  of_module : (place : ℕ) (reason : TextReason) → IsWrongModule Two left split place reason → ⊥
  of_module place reason e = by w.given
    where
      by : NamesProfile input m lines ⊎ GivesText input m lines → ⊥
      by (inl n) = names_wrong n t place reason e
      by (inr x) = text_wrong x t place reason e

  of_no_module : (line column : ℕ) (reason : ModuleReason) → IsNoModule Two left split line column reason → ⊥
  of_no_module line column reason e = by w.given
    where
      by : NamesProfile input m lines ⊎ GivesText input m lines → ⊥
      by (inl n) = no_text_here n t e.text e.has
      by (inr x) = text_no_module x t line column reason e

  of_untyped : IsUntyped job left split → ⊥
  of_untyped e =
      let more = lines_after input left split t t.divides in
      let is = (same e.m split.lines [] more.0 e.found e.gives e.is (sym (append-nil split.lines)) more.1).0 in
      let clash : None ≡ Some id = sym e.none ∙ ap (λ (s : Syntax). find_type job.name s.assignments) is ∙ w.has in
      cc

  -- the type that was found
  typed : (texts : List (List ℕ)) (e : HasValues job left split texts) → e.m ≡ m → e.id ≡ id
  typed texts e is =
      same_id (find_type job.name m.assignments) e.id id (subst (λ (s : Syntax). find_type job.name s.assignments ≡ Some e.id) is e.has) w.has

  of_wrong : (texts : List (List ℕ)) (place : ℕ) (wrong : Wrong) → IsWrongLine job left split texts (place, wrong) → ⊥
  of_wrong texts place wrong e =
      let next = next_of t e.next in
      let one = same e.before.m e.before.front e.before.lines (e.line ∷ next.more) e.before.found e.before.gives e.before.is e.before.parts next.split in
      let accepted : (v : Wrong) → IsWrong job.way m id.number e.line v → ⊥ =
      accepted_at (λ line. (v : Wrong) → IsWrong job.way m id.number line v → ⊥) e.before.lines e.line next.more
      (subst (AreAccepted job m id.number) (sym one.1) w.accepted) in
      accepted wrong
      (subst (λ (i : TypeId). IsWrong job.way m i.number e.line wrong) (typed texts e.before one.0)
      (subst (λ (s : Syntax). IsWrong job.way s e.before.id.number e.line wrong) one.0 e.wrong))

  of_done : (texts : List (List ℕ)) → HasValues job left split texts → IsReadToEnd left split → AreAnswered job.way m id.number lines texts
  of_done texts e all =
      let whole : lines_of input ≡ split.lines ++ [] = all_lines t all.nothing all.at_end ∙ sym (append-nil split.lines) in
      let one = same e.m e.front e.lines [] e.found e.gives e.is e.parts whole in
      subst (λ (ls : List (List ℕ)). AreAnswered job.way m id.number ls texts) (sym (append-nil e.lines) ∙ one.1)
      (subst (λ (i : TypeId). AreAnswered job.way m i.number e.lines texts) (typed texts e one.0)
      (subst (λ (s : Syntax). AreAnswered job.way s e.id.number e.lines texts) one.0 e.are))

  of_long : IsTooLong split → ⊥
  of_long e = by left t.consumes
    where
      by : (o : Option (List ℕ)) → Consumes (Some input) o split.taken → ⊥
      by None h = h
      by (Some ys) h = omega (arith, w.within, ap length h, length-append split.taken ys, e.at)

-- what the end means, of an input whose bytes were reported
meets_known : (job : Job) (before after : OutsideAt) (end : ValuesEnd) (r : ValuesMeet job before after end) (input : List ℕ)
    → before.source.left ≡ Some input → ValuesEndMeets job after.source.left r.split r.texts end
meets_known job before after end r input known =
    subst (λ (left : Option (List ℕ)). ValuesEndMeets job left r.split r.texts end) (rest_known before.source after.source input known) r.ends

module _ (job : Job) (before after : OutsideAt) where
  pub complete : (end : ValuesEnd) → ValuesMeet job before after end → AnswersWholly job before after (values_status end)
  complete Done r input m id lines known w none =
      let t = takes_known input known r.input in
      let e = meets_known job before after Done r input known in
      inl (
        refl,
        record {
          texts = r.texts;
          are = of_done w t r.texts e.0 e.1;
          prints = subst (λ (text : List ℕ). Prints before.sink after.sink text) (append-nil (joined r.texts)) r.prints;
        },
      )
  complete (Stopped (NoModule line column reason)) r input m id lines known w none =
      absurd (of_no_module w (takes_known input known r.input) line column reason
      (meets_known job before after (Stopped (NoModule line column reason)) r input known).1)
  complete (Stopped NoType) r input m id lines known w none =
      absurd (of_untyped w (takes_known input known r.input) (meets_known job before after (Stopped NoType) r input known).1)
  complete (Stopped (Script place reason)) r input m id lines known w none =
      absurd (of_module w (takes_known input known r.input) place reason
      (meets_known job before after (Stopped (Script place reason)) r input known).1)
  complete (Stopped (Value place wrong)) r input m id lines known w none =
      absurd (of_wrong w (takes_known input known r.input) r.texts place wrong
      (meets_known job before after (Stopped (Value place wrong)) r input known))
  complete (Common (ReadFault taken)) r input m id lines known w none = absurd (no_read_fault refl none.reads r.calls.reads)
  complete (Common TooLong) r input m id lines known w none = absurd (of_long w (takes_known input known r.input) r.ends.1)
  complete (Common WriteFault) r input m id lines known w none = absurd (no_write_fault refl none.writes r.calls.writes)
  complete (Common Memory) r input m id lines known w none = inr refl

-- ---- a stop at a line

by_module : (before after : SourceAt) (split : InputSplit) (place : ℕ) (reason : TextReason) → TakesInput before after split
    → IsWrongModule Two (rest_of before after) split place reason
    → (bytes : List ℕ) → before.left ≡ Some bytes → StopsNear bytes after.left place
by_module before after split place reason t (Empty e word) bytes known = near_empty place t e bytes known
by_module before after split place reason t (NoHeader e) bytes known =
    let at : place ≡ length split.lines + 1 = e.at ∙ ap (λ (ls : List (List ℕ)). length ls + 1) (sym e.none) in
    near_next e.line place t e.next at bytes known
by_module before after split place reason t (Unended e) bytes known = near_handed place t e.few (sym e.at) bytes known

other_code : (n : ℕ) → (n ≡ 4) ⊎ (n ≡ 8) → (n ≡ 4 → ⊥) → (n ≡ 8 → ⊥) → ⊥
other_code n (inl e) a b = a e
other_code n (inr e) a b = b e

module _ (job : Job) (before after : OutsideAt) where
  pub near : (end : ValuesEnd) → ValuesMeet job before after end → StopsAtValue before.source after.source (values_status end)
  near Done r bytes known stop = absurd (other_code 0 stop (λ (e : 0 ≡ 4). omega arith) (λ (e : 0 ≡ 8). omega arith))
  near (Stopped (NoModule line column reason)) r bytes known stop = absurd (other_code 3 stop (λ (e : 3 ≡ 4). omega arith) (λ (e : 3 ≡ 8). omega arith))
  near (Stopped NoType) r bytes known stop = absurd (other_code 3 stop (λ (e : 3 ≡ 4). omega arith) (λ (e : 3 ≡ 8). omega arith))
  near (Stopped (Script place reason)) r bytes known stop = by_module before.source after.source r.split place reason r.input r.ends.1 bytes known
  near (Stopped (Value place wrong)) r bytes known stop = near_next r.ends.line place r.input r.ends.next r.ends.at bytes known
  near (Common (ReadFault taken)) r bytes known stop = absurd (other_code 6 stop (λ (e : 6 ≡ 4). omega arith) (λ (e : 6 ≡ 8). omega arith))
  near (Common TooLong) r bytes known stop = absurd (other_code 11 stop (λ (e : 11 ≡ 4). omega arith) (λ (e : 11 ≡ 8). omega arith))
  near (Common WriteFault) r bytes known stop = absurd (other_code 7 stop (λ (e : 7 ≡ 4). omega arith) (λ (e : 7 ≡ 8). omega arith))
  near (Common Memory) r bytes known stop = absurd (other_code 9 stop (λ (e : 9 ≡ 4). omega arith) (λ (e : 9 ≡ 8). omega arith))
