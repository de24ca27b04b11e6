-- What is read of the text that was taken.
use Rattle.std.proofs.Common.{◌≡◌, ◌⊎◌, ℕ, ◌+◌, ◌-◌, List, [], ◌∷◌, ◌++◌, append_assoc, length-append, length, take, Option, Result, Ok, Err, refl, sym, ap, ◌∙◌, subst, inl, inr, arith}
use Rattle.std.proofs.lemmas.List.{take_all}
use Rattle.gnb_base.specs.declared.lines.ReadPhase.TheVariants.{Going, Ended}
use Rattle.gnb_base.specs.Lines.{line_feed}
use Rattle.gnb_base.specs.Outside.{SourceAt}
use Rattle.gnb_base.specs.Reading.{Reading}
use Rattle.command_defs.specs.declared.input_defs.InputEnd.TheVariants as inputs
use Rattle.command_defs.specs.input_defs.Ends.{IsReadToEnd}
use Rattle.command_defs.specs.input_defs.Split.{InputSplit, joined, rest_of}
use Rattle.command_defs.specs.input_defs.Standing.{Stands, Within, AtEnd, split_of}
use Rattle.commands.proofs.input_lines.Standing.{takes_of, within}
use Rattle.asn1_syntax.specs.declared.assignments.assignment.Syntax.{Syntax}
use Rattle.profile.specs.declared.version.Version.{Version}
use Rattle.commands.specs.declared.input_module.module.GivenModule.{GivenModule}
use Rattle.commands.specs.declared.input_module.module.GivenModule.TheVariants as given
use Rattle.commands.specs.declared.input_module.stop.ModuleStop.{ModuleStop}
use Rattle.commands.specs.declared.input_module.stop.ModuleStop.TheVariants.{NoModule, Script, Input}
use Rattle.commands.specs.declared.input_module.text.Gathered.{Gathered}
use Rattle.commands.specs.input_module.Text.{IsUnclosed, IsClosed, IsOneModule}
use Rattle.commands.specs.input_module.Module.{IsUpToEnd, HasText, NamesProfile, GivesModule, StopsModule, Whole, Unended}
use Rattle.commands.specs.input_module.Taking.{FaultsOfStop, StillGives, TakesModule}
use Rattle.commands.specs.declared.input_module.text.Taken.{Taken}
use Rattle.commands.specs.declared.input_module.text.Taken.TheVariants as takes
use Rattle.commands.specs.input_module.inside.Steps.{TakesText, TakenMeets, AloneMeets}

-- ---- the text

pub ended_none : {left : Option (List ℕ)} {reading : Reading} {taken : List ℕ} {lines : List (List ℕ)} → reading.phase ≡ Ended
    → Stands left reading taken lines → IsReadToEnd left (split_of reading taken lines)
ended_none ended (Within going e) = absurd (cc)
ended_none ended (AtEnd same none at_end divides) = record { nothing = none; at_end = at_end }

whole_at : {left : Option (List ℕ)} {reading : Reading} {taken : List ℕ} {lines : List (List ℕ)} (body : List (List ℕ))
    → Stands left reading taken lines
    → IsClosed body ⊎ (IsUnclosed body × (reading.phase ≡ Ended))
    → IsClosed body ⊎ IsUpToEnd left (split_of reading taken lines) lines body
whole_at body stands (inl closed) = inl closed
whole_at body stands (inr rest) = inr (record { others = rest.0; alone = refl; all = ended_none rest.1 stands })

-- the lines of a text were taken
pub text_taken : {newest : Version} {s0 s1 : SourceAt} {reading : Reading} (found : Taken) (gathered : Gathered) → found ≡ takes.Text gathered
    → TakenMeets newest s0 s1 reading (Ok found)
    → TakesText newest s0 s1 reading gathered
text_taken {newest = newest} {s0 = s0} {s1 = s1} {reading = reading} found gathered e h =
    subst (λ (x : Taken). TakenMeets newest s0 s1 reading (Ok x)) e h

-- the octets that the code cuts off are those that were taken
same_cut : (header : List ℕ) (body : List (List ℕ)) (taken octets text : List ℕ) (read size : ℕ) → read ≡ length taken → size ≡ length header
    → octets ≡ joined body
    → text ≡ take (read - (size + 1)) octets → text ≡ take (length taken - (length header + 1)) (joined body)
same_cut header body taken octets text read size e f g h =
    h ∙ ap (λ (n : ℕ). take (n - (size + 1)) octets) e ∙ ap (λ (n : ℕ). take (length taken - (n + 1)) octets) f
    ∙ ap (take (length taken - (length header + 1))) g

-- nor do more bytes change it, while the input goes on
more_cut : (header : List ℕ) (body : List (List ℕ)) (taken more kept all text : List ℕ) → taken ≡ joined (header ∷ body) ++ kept
    → all ≡ taken ++ more
    → text ≡ take (length taken - (length header + 1)) (joined body) → text ≡ take (length all - (length header + 1)) (joined body)
more_cut header body taken more kept all text e f g =
    let size : length taken ≡ (length header + 1) + (length (joined body) + length kept) =
    ap length (e ∙ append_assoc (header ++ line_feed ∷ []) (joined body) kept) ∙ length-append (header ++ line_feed ∷ []) (joined body ++ kept)
    ∙ ap (λ (n : ℕ). n + length (joined body ++ kept)) (length-append header (line_feed ∷ []))
    ∙ ap (λ (n : ℕ). (length header + 1) + n) (length-append (joined body) kept)
    in
    let long : length all ≡ length taken + length more = ap length f ∙ length-append taken more in
    g ∙ take_all (length taken - (length header + 1)) (joined body) (omega (arith, size))
    ∙ sym (take_all (length all - (length header + 1)) (joined body) (omega (arith, size, long)))

still_closed : (reading : Reading) (body : List (List ℕ)) → reading.phase ≡ Going
    → IsClosed body ⊎ (IsUnclosed body × (reading.phase ≡ Ended)) → IsClosed body
still_closed reading body going (inl closed) = closed
still_closed reading body going (inr rest) = let ended = rest.1 in absurd (cc)

module _ {newest : Version} {s0 s1 : SourceAt} {reading : Reading} {gathered : Gathered} (t : TakesText newest s0 s1 reading gathered) (text : List ℕ) (read : ℕ)
    (read-is : read ≡ reading.taken) (text-is : text ≡ take (read - (gathered.header + 1)) gathered.octets) where
  has_text : HasText newest (rest_of s0 s1) (split_of reading t.taken (t.header ∷ t.body)) (t.header ∷ t.body) text
  has_text = record {
    header = t.header;
    body = t.body;
    parts = refl;
    is_header = t.is_header;
    whole = whole_at t.body t.stands.stands t.whole;
    octets = same_cut t.header t.body t.taken gathered.octets text read gathered.header (read-is ∙ t.stands.bytes) t.size t.octets text-is;
  }

  later_text : (m : Syntax) → IsOneModule text m → StillGives newest reading t.taken (t.header ∷ t.body) (given.Text m)
  unfolding has_text
  later_text m is going left split more e = record {
    text = text;
    has = record {
      header = t.header;
      body = t.body;
      parts = refl;
      is_header = t.is_header;
      whole = inl (still_closed reading t.body going t.whole);
      octets = more_cut t.header t.body t.taken more reading.kept split.taken text (within going t.stands.stands) e has_text.octets;
    };
    is = is;
  }

  stops_so : (stop : ModuleStop) → AloneMeets text gathered.last (Err stop)
      → StopsModule newest (rest_of s0 s1) (split_of reading t.taken (t.header ∷ t.body)) stop × FaultsOfStop s0 s1 stop
  stops_so (NoModule line column reason) h =
      (record { text = text; line_of_text = h.line_of_text; has = has_text; wrong = h.wrong; at = h.at }, t.stands.reads)
  stops_so (Script place reason) h = (
    Unended (record {
      text = text;
      octets = h.octets;
      m = h.m;
      has = has_text;
      reads = h.reads;
      more = h.more;
      at = h.at ∙ t.last ∙ omega arith;
      few = t.stands.few;
      extra = h.extra;
    }),
    t.stands.reads,
  )
  stops_so (Input (inputs.ReadFault taken)) h = absurd h
  stops_so (Input inputs.TooLong) h = absurd h
  stops_so (Input inputs.Memory) h = (Whole text has_text, t.stands.reads)

  pub module_stops : (stop : ModuleStop) (result : Result GivenModule ModuleStop) → result ≡ Err stop → AloneMeets text gathered.last (Err stop)
      → TakesModule newest s0 s1 reading result
  module_stops stop result r h =
      let ends = stops_so stop h in
      subst (λ (x : Result GivenModule ModuleStop). TakesModule newest s0 s1 reading x) (sym r)
      (record { split = split_of reading t.taken (t.header ∷ t.body); input = takes_of t.stands; stops = ends.0; reads = ends.1 })

  pub module_given : (m : Syntax) → IsOneModule text m → TakesModule newest s0 s1 reading (Ok (given.Text m))
  module_given m is =
      record { taken = t.taken; lines = t.header ∷ t.body; stands = t.stands; gives = record { text = text; has = has_text; is = is }; later = later_text m is }

-- ---- a version of the profile

pub profile_given : {newest : Version} {s0 s1 : SourceAt} (reading : Reading) (found : Taken) (version : Version) → found ≡ takes.Builtin version
    → TakenMeets newest s0 s1 reading (Ok found)
    → TakesModule newest s0 s1 reading (Ok (given.Builtin version))
profile_given {newest = newest} {s0 = s0} {s1 = s1} reading found version e h =
    let t = subst (λ (x : Taken). TakenMeets newest s0 s1 reading (Ok x)) e h in
    let names : NamesProfile newest (t.header ∷ []) version = record { header = t.header; parts = refl; is_header = t.is_header } in
    record { taken = t.taken; lines = t.header ∷ []; stands = t.stands; gives = names; later = λ going left split more same. names }

-- ---- at the end of the input

-- where it has ended, it makes no difference when it was found to have
pub gives_at_end : (newest : Version) (left left1 : Option (List ℕ)) (split split1 : InputSplit) (lines : List (List ℕ)) (found : GivenModule)
    → split1.taken ≡ split.taken → split1.lines ≡ split.lines
    → IsReadToEnd left1 split1 → GivesModule newest left split lines found → GivesModule newest left1 split1 lines found
gives_at_end newest left left1 split split1 lines (given.Text m) e same all h = record {
  text = h.text;
  has = record {
    header = h.has.header;
    body = h.has.body;
    parts = h.has.parts;
    is_header = h.has.is_header;
    whole = by_end h.has.whole;
    octets = h.has.octets ∙ ap (λ (bytes : List ℕ). take (length bytes - (length h.has.header + 1)) (joined h.has.body)) (sym e);
  };
  is = h.is;
}
  where
    by_end : IsClosed h.has.body ⊎ IsUpToEnd left split lines h.has.body → IsClosed h.has.body ⊎ IsUpToEnd left1 split1 lines h.has.body
    by_end (inl closed) = inl closed
    by_end (inr rest) = inr (record { others = rest.others; alone = same ∙ rest.alone; all = all })
gives_at_end newest left left1 split split1 lines (given.Builtin version) e same all h = h
