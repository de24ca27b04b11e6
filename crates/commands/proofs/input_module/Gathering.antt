-- The text so far, one line more, and each end.
use Rattle.std.proofs.Common.{◌≡◌, ℕ, ◌+◌, ◌-◌, take, List, [], ◌∷◌, ◌++◌, length, true, false, Option, Some, None, Result, Ok, Err, refl, sym, ap, ◌∙◌, subst, inl, inr, length-append, arith}
use Rattle.gnb_types.proofs.Choices.{by_test}
use Rattle.gnb_base.specs.declared.lines.Line.{Line}
use Rattle.gnb_base.specs.declared.lines.ReadPhase.TheVariants.{Going}
use Rattle.gnb_base.specs.Lines.{line_feed}
use Rattle.gnb_base.specs.Outside.{SourceAt}
use Rattle.gnb_base.specs.Reading.{Reading, fresh}
use Rattle.command_defs.specs.declared.input_defs.InputEnd.{InputEnd}
use Rattle.command_defs.specs.declared.input_defs.InputEnd.TheVariants as inputs
use Rattle.command_defs.specs.input_defs.Ends.{EndsReading}
use Rattle.command_defs.specs.input_defs.Split.{InputSplit, input_split, rest_of, joined}
use Rattle.command_defs.specs.input_defs.Standing.{StandsAfter, split_of}
use Rattle.commands.specs.input_lines.ReadsLine.{StopsReading}
use Rattle.commands.proofs.input_lines.Standing.{stands_first, takes_of, line_stands, comes_next, ends_at, end_stands, joined-more, each_more}
use Rattle.commands.proofs.input_lines.Stopped.{stops_at, going_at, takes_on}
use Rattle.profile.specs.declared.version.Version.{Version}
use Rattle.commands.specs.declared.input_module.header.ModuleHeader.{ModuleHeader}
use Rattle.commands.specs.declared.input_module.header.ModuleHeader.TheVariants.{Text, Builtin}
use Rattle.commands.specs.declared.input_module.stop.ModuleStop.{ModuleStop}
use Rattle.commands.specs.declared.input_module.stop.ModuleStop.TheVariants.{Input}
use Rattle.commands.specs.declared.input_module.text.FirstLine.{FirstLine}
use Rattle.commands.specs.declared.input_module.text.Gathered.{Gathered}
use Rattle.commands.specs.declared.input_module.text.Taken.{Taken}
use Rattle.commands.specs.input_module.Header.{header_of}
use Rattle.commands.specs.input_module.Text.{IsUnclosed, is_end}
use Rattle.commands.specs.input_module.Module.{StopsModule, IsUnfinished, AtHeader, InText, IsPart, Unfinished, Whole, Empty, NoHeader}
use Rattle.commands.specs.input_module.Taking.{StopsTaking}
use Rattle.commands.specs.input_module.inside.Steps.{HasHeader, HeaderStops, HeaderUnread, NoLine, WrongLine, TextAt, text_at, TakesLine, TakesNone, TurnStops, Unread, NoRoom, TakesText, TakesProfile, TurnMeets, TakenMeets}

-- ---- an end where no line could be handed out

-- no cause lies in the lines before it, whatever bytes were taken after them
abbrev pub PassesOn : (newest : Version) → Reading → List ℕ → List (List ℕ) → Type 0
PassesOn newest old taken lines = old.phase ≡ Going → (more : List ℕ) → IsUnfinished newest (input_split (taken ++ more) lines (old.kept ++ more))

stops_input : (newest : Version) (left : Option (List ℕ)) (split : InputSplit) (why : InputEnd) → IsUnfinished newest split
    → EndsReading split why → StopsModule newest left split (Input why)
stops_input newest left split (inputs.ReadFault taken) passes h = (passes, h)
stops_input newest left split inputs.TooLong passes h = (passes, h)
stops_input newest left split inputs.Memory passes h = Unfinished passes

unread : {newest : Version} {s0 s1 s2 : SourceAt} {old new : Reading} {taken : List ℕ} {lines : List (List ℕ)} (why : InputEnd) (stop : ModuleStop)
    → StandsAfter s0 s1 old taken lines
    → PassesOn newest old taken lines → StopsReading old new s1 s2 why → stop ≡ Input why → StopsTaking newest s0 s2 stop
unread {newest = newest} {s0 = s0} {s2 = s2} {old = old} {taken = taken} {lines = lines} why stop h passes s e =
    let found = stops_at h why s in
    subst (λ (x : ModuleStop). StopsTaking newest s0 s2 x) (sym e)
    (record {
      split = input_split (taken ++ s.meets.taken) lines (old.kept ++ s.meets.taken);
      input = found.takes;
      stops = stops_input newest (rest_of s0 s2) _ why (passes (going_at h s.error s.meets) s.meets.taken) found.ends;
      reads = found.reads;
    })

-- ---- the header

header_stops : (newest : Version) (s0 s1 : SourceAt) (new : Reading) (stop : ModuleStop) → HeaderStops newest fresh new s0 s1 stop
    → StopsTaking newest s0 s1 stop
header_stops newest s0 s1 new stop (HeaderUnread why s e) = unread why stop (stands_first s0) (λ going more. AtHeader refl) s e
header_stops newest s0 s1 new stop (NoLine m e) =
    let end = ends_at (stands_first s0) m in
    subst (λ (x : ModuleStop). StopsTaking newest s0 s1 x) (sym e)
    (record {
      split = input_split m.taken [] [];
      input = end.takes;
      stops = Empty (record { no_line = refl; nothing = refl; at_end = end.at_end; first = refl }) refl;
      reads = record { faults = m.faults; failed = m.failed };
    })
header_stops newest s0 s1 new stop (WrongLine line reason m wrong e) =
    subst (λ (x : ModuleStop). StopsTaking newest s0 s1 x) (sym e)
    (record {
      split = input_split m.taken [] m.taken;
      input = takes_on (stands_first s0) refl m;
      stops = NoHeader (record { line = line.text; none = refl; next = comes_next s0 line m; wrong = wrong; at = refl });
      reads = record { faults = m.faults; failed = m.failed };
    })

-- ---- the lines of the text so far

pub record SoFar (newest : Version) (before : SourceAt) (now : TextAt) (size last : ℕ) : Type 0 where
  pub taken : List ℕ
  pub header : List ℕ
  pub body : List (List ℕ)
  pub stands : StandsAfter before now.source now.reading taken (header ∷ body)
  pub is_header : header_of newest header ≡ Ok Text
  pub others : IsUnclosed body
  pub size-is : size ≡ length header
  pub octets : now.octets ≡ joined body
  pub last-is : last ≡ length body + 1

pub begins : (newest : Version) (s0 s1 : SourceAt) (old reading : Reading) (first : FirstLine) (octets : List ℕ) → old ≡ fresh
    → HasHeader newest old reading s0 s1 first → first.header ≡ Text → octets ≡ []
    → SoFar newest s0 (text_at reading s1 octets) first.octets 1
begins newest s0 s1 old reading first octets e h0 is none =
    let h = subst (λ (r : Reading). HasHeader newest r reading s0 s1 first) e h0 in
    record {
      taken = h.meets.taken;
      header = h.line.text;
      body = [];
      stands = line_stands h.line (stands_first s0) h.meets;
      is_header = h.header ∙ ap (λ (x : ModuleHeader). Ok x) is;
      others = tt;
      size-is = h.size-is;
      octets = none;
      last-is = refl;
    }

-- a version of the profile is named
pub names_profile : (newest : Version) (s0 s1 : SourceAt) (old reading : Reading) (first : FirstLine) (version : Version) → old ≡ fresh
    → HasHeader newest old reading s0 s1 first → first.header ≡ Builtin version
    → TakesProfile newest s0 s1 reading version
names_profile newest s0 s1 old reading first version e h0 is =
    let h = subst (λ (r : Reading). HasHeader newest r reading s0 s1 first) e h0 in
    record {
      taken = h.meets.taken;
      header = h.line.text;
      stands = line_stands h.line (stands_first s0) h.meets;
      is_header = h.header ∙ ap (λ (x : ModuleHeader). Ok x) is;
    }

octets_more : (octets0 octets1 text : List ℕ) (body : List (List ℕ)) → octets0 ≡ joined body → octets1 ≡ octets0 ++ (text ++ line_feed ∷ [])
    → octets1 ≡ joined (body ++ text ∷ [])
octets_more octets0 octets1 text body e f = f ∙ ap (λ (o : List ℕ). o ++ (text ++ line_feed ∷ [])) e ∙ sym (joined-more body text)

abbrev pub gathered_at : TextAt → ℕ → ℕ → Gathered
gathered_at now size last = record { header = size; octets = now.octets; last = last }

module _ {newest : Version} {s0 : SourceAt} {old : TextAt} (new : TextAt) {size last : ℕ} (s : SoFar newest s0 old size last) where
  last_more : (line : Line) (t : TakesLine old new line) → line.number ≡ length (s.body ++ line.text ∷ []) + 1
  last_more line t =
      t.meets.answers.number ∙ ap (λ (n : ℕ). n + 1) (s.stands.count ∙ sym (omega arith))
      ∙ ap (λ (n : ℕ). n + 1) (sym (length-append s.body (line.text ∷ [])))

  goes_on : (line : Line) (t : TakesLine old new line) → is_end line.text ≡ false → SoFar newest s0 new size line.number
  goes_on line t open_still = record {
    taken = s.taken ++ t.meets.taken;
    header = s.header;
    body = s.body ++ line.text ∷ [];
    stands = line_stands line s.stands t.meets;
    is_header = s.is_header;
    others = each_more (λ (l : List ℕ). is_end l ≡ false) s.body line.text s.others open_still;
    size-is = s.size-is;
    octets = octets_more old.octets new.octets line.text s.body s.octets t.octets;
    last-is = last_more line t;
  }

  closes : (line : Line) (t : TakesLine old new line) → is_end line.text ≡ true
      → TakesText newest s0 new.source new.reading (gathered_at new size line.number)
  closes line t is_last = record {
    taken = s.taken ++ t.meets.taken;
    header = s.header;
    body = s.body ++ line.text ∷ [];
    stands = line_stands line s.stands t.meets;
    is_header = s.is_header;
    whole = inl (record { front = s.body; last = line.text; parts = refl; others = s.others; end = is_last });
    size = s.size-is;
    octets = octets_more old.octets new.octets line.text s.body s.octets t.octets;
    last = last_more line t;
  }

  ends : (t : TakesNone old new) → TakesText newest s0 new.source new.reading (gathered_at new size last)
  ends t = record {
    taken = s.taken ++ t.meets.taken;
    header = s.header;
    body = s.body;
    stands = end_stands s.stands t.meets;
    is_header = s.is_header;
    whole = inr (s.others, t.meets.answers.phase);
    size = s.size-is;
    octets = t.octets ∙ s.octets;
    last = s.last-is;
  }

-- the lines with one more, which may be the last one
part_more : {newest : Version} {left : Option (List ℕ)} {split : InputSplit} (header : List ℕ) (body : List (List ℕ)) (line : List ℕ)
    → split.lines ≡ header ∷ body ++ line ∷ [] → header_of newest header ≡ Ok Text → IsUnclosed body
    → IsPart newest left split
part_more {newest = newest} {left = left} {split = split} header body line parts is others =
    by_test (IsPart newest left split) (is_end line)
    (λ last. Whole (take (length split.taken - (length header + 1)) (joined (body ++ line ∷ []))) (record {
      header = header;
      body = body ++ line ∷ [];
      parts = parts;
      is_header = is;
      whole = inl (record { front = body; last = line; parts = refl; others = others; end = last });
      octets = refl;
    }))
    (λ still. Unfinished (InText header (body ++ line ∷ []) parts is (each_more (λ (l : List ℕ). is_end l ≡ false) body line others still)))

pub turn_stops : {newest : Version} {s0 : SourceAt} {old : TextAt} (new : TextAt) {size last : ℕ} (stop : ModuleStop)
    → SoFar newest s0 old size last → TurnStops old new stop
    → StopsTaking newest s0 new.source stop
turn_stops new stop s (Unread why u e) = unread why stop s.stands (λ going more. InText s.header s.body refl s.is_header s.others) u e
turn_stops {newest = newest} {s0 = s0} new stop s (NoRoom line m e) =
    let stands = line_stands line s.stands m in
    subst (λ (x : ModuleStop). StopsTaking newest s0 new.source x) (sym e)
    (record { split = split_of new.reading (s.taken ++ m.taken) (s.header ∷ s.body ++ line.text ∷ []); input = takes_of stands; stops = part_more s.header s.body line.text refl s.is_header s.others; reads = stands.reads })

-- ---- at the exits of the code

pub text_stops : (newest : Version) (s0 s1 : SourceAt) (reading : Reading) (stop : ModuleStop) (result : Result Taken ModuleStop) → result ≡ Err stop
    → StopsTaking newest s0 s1 stop → TakenMeets newest s0 s1 reading result
text_stops newest s0 s1 reading stop result e s = subst (λ (r : Result Taken ModuleStop). TakenMeets newest s0 s1 reading r) (sym e) s

pub header_stops_at : (newest : Version) (s0 s1 : SourceAt) (old new : Reading) (stop : ModuleStop) → old ≡ fresh
    → HeaderStops newest old new s0 s1 stop → StopsTaking newest s0 s1 stop
header_stops_at newest s0 s1 old new stop e h =
    header_stops newest s0 s1 new stop (subst (λ (r : Reading). HeaderStops newest r new s0 s1 stop) e h)

taken_at : (old new : TextAt) (found : Option Line) (line : Line) → found ≡ Some line → TurnMeets old new (Ok found)
    → TakesLine old new line
taken_at old new found line e t = subst (λ (o : Option Line). TurnMeets old new (Ok o)) e t

pub goes_on_at : {newest : Version} {s0 : SourceAt} {old : TextAt} (new : TextAt) {size last : ℕ} (found : Option Line) (line : Line) → SoFar newest s0 old size last
    → found ≡ Some line → TurnMeets old new (Ok found) → (test : _) → test ≡ is_end line.text → test ≡ false → SoFar newest s0 new size line.number
goes_on_at {old = old} new found line s e t test is still = goes_on new s line (taken_at old new found line e t) (sym is ∙ still)

pub closes_at : {newest : Version} {s0 : SourceAt} {old : TextAt} (new : TextAt) {size last : ℕ} (found : Option Line) (line : Line) → SoFar newest s0 old size last
    → found ≡ Some line → TurnMeets old new (Ok found) → (test : _) → test ≡ is_end line.text → test ≡ true
    → TakesText newest s0 new.source new.reading (gathered_at new size line.number)
closes_at {old = old} new found line s e t test is last = closes new s line (taken_at old new found line e t) (sym is ∙ last)

pub ends_at_last : {newest : Version} {s0 : SourceAt} {old : TextAt} (new : TextAt) {size last : ℕ} (found : Option Line) → SoFar newest s0 old size last
    → found ≡ None → TurnMeets old new (Ok found) → TakesText newest s0 new.source new.reading (gathered_at new size last)
ends_at_last {old = old} new found s e t = ends new s (subst (λ (o : Option Line). TurnMeets old new (Ok o)) e t)
