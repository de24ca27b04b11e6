-- A text has one reading: it isn't sound and unsound, and the rule that it breaks first is one.
use Rattle.std.proofs.Common.{◌≡◌, ◌⊎◌, ℕ, ◌+◌, ◌<◌, List, [], ◌∷◌, ◌++◌, map, length, reverse, refl, ap, ◌∙◌, sym, subst, arith, append_assoc, inl, inr}
use Rattle.std.specs.List.{AllByRecursion}
use Rattle.std.proofs.lemmas.List.{append-nil, reverse-append, reverse-reverse}
use Rattle.std.proofs.lemmas.Bool.{cases_lt}
use Rattle.transcript_defs.specs.declared.line.TextLine.{TextLine}
use Rattle.transcript_defs.specs.declared.rule.Rule.{Rule}
use Rattle.transcript_defs.specs.declared.rule.Rule.TheVariants as rules
use Rattle.transcript_defs.specs.Lines.{text_of, IsProper}
use Rattle.transcript_defs.specs.Rules.{Spelling, AtPlace, a_line, no_line, the_end, Keeps, IsFinished, rule_number}
use Rattle.transcript_defs.specs.Sound.{AreSound, texts_of, Stands, Sound, IsUnsound}
use Rattle.proof_transcript_lines.proofs.TextLines.{one_text_line}
use Rattle.proof_sound_transcripts.proofs.RuleNumbers.{one_rule}

-- ---- lines by their texts

heads : (a b : List ℕ) (xs ys : List (List ℕ)) → a ∷ xs ≡ b ∷ ys → (a ≡ b) × (xs ≡ ys)
heads a b xs ys h = (cc, cc)

-- the lines xs are ys and more, where the texts after them are the same
record GoesOn (xs ys : List TextLine) (after_xs after_ys : List (List ℕ)) : Type 0 where
  more : List TextLine
  lines_are : xs ≡ ys ++ more
  texts_are : map text_of more ++ after_xs ≡ after_ys

one_longer : (x y : TextLine) (xs ys : List TextLine) (after_xs after_ys : List (List ℕ)) → x ≡ y → GoesOn xs ys after_xs after_ys
    → GoesOn (x ∷ xs) (y ∷ ys) after_xs after_ys
one_longer x y xs ys after_xs after_ys same on = record {
  more = on.more;
  lines_are = ap (λ l. l ∷ xs) same ∙ ap (λ ls. y ∷ ls) on.lines_are;
  texts_are = on.texts_are;
}

-- of two readings of a text one goes on where the other ends
compare : (xs ys : List TextLine) (after_xs after_ys : List (List ℕ)) → AllByRecursion IsProper xs → AllByRecursion IsProper ys
    → map text_of xs ++ after_xs ≡ map text_of ys ++ after_ys
    → GoesOn xs ys after_xs after_ys ⊎ GoesOn ys xs after_ys after_xs
compare xs [] after_xs after_ys h k e = inl (record { more = xs; lines_are = refl; texts_are = e })
compare [] (y ∷ ys) after_xs after_ys h k e = inr (record { more = y ∷ ys; lines_are = refl; texts_are = sym e })
compare (x ∷ xs) (y ∷ ys) after_xs after_ys h k e =
    let both = heads (text_of x) (text_of y) (map text_of xs ++ after_xs) (map text_of ys ++ after_ys) e in
    let same : x ≡ y = one_text_line x y h.0 k.0 both.0 in
    elim (compare xs ys after_xs after_ys h.1 k.1 both.1) [
      | inl on ↦ inl (one_longer x y xs ys after_xs after_ys same on)
      | inr on ↦ inr (one_longer y x ys xs after_ys after_xs (sym same) on)
    ]

proper-append : (xs ys : List TextLine) → AllByRecursion IsProper xs → AllByRecursion IsProper ys → AllByRecursion IsProper (xs ++ ys)
proper-append [] ys h k = k
proper-append (x ∷ xs) ys h k = (h.0, proper-append xs ys h.1 k)

proper-reverse : (xs : List TextLine) → AllByRecursion IsProper xs → AllByRecursion IsProper (reverse xs)
proper-reverse [] h = tt
proper-reverse (x ∷ xs) h =
    subst (AllByRecursion IsProper) (sym (reverse-append (x ∷ []) xs)) (proper-append (reverse xs) (x ∷ []) (proper-reverse xs h.1) (h.0, tt))

-- the same of lists that have the newest line first
backwards : (xs ys more : List TextLine) → reverse xs ≡ reverse ys ++ more → xs ≡ reverse more ++ ys
backwards xs ys more e =
    sym (reverse-reverse xs) ∙ ap reverse e ∙ reverse-append (reverse ys) more ∙ ap (λ l. reverse more ++ l) (reverse-reverse ys)

backwards_one : (xs ys zs : List TextLine) (z : TextLine) → xs ≡ reverse (z ∷ zs) ++ ys → xs ≡ reverse zs ++ z ∷ ys
backwards_one xs ys zs z e = e ∙ ap (λ l. l ++ ys) (reverse-append (z ∷ []) zs) ∙ append_assoc (reverse zs) (z ∷ []) ys

sound_front : (encode : Spelling) (newer past : List TextLine) → AreSound encode (newer ++ past) → AreSound encode past
sound_front encode [] past h = h
sound_front encode (x ∷ newer) past h = sound_front encode newer past h.0

proper_front : (newer past : List TextLine) → AllByRecursion IsProper (newer ++ past) → AllByRecursion IsProper past
proper_front [] past h = h
proper_front (x ∷ newer) past h = proper_front newer past h.1

-- ---- places

one_place : (rest : List (List ℕ)) (a b : AtPlace) → Stands rest a → Stands rest b → a ≡ b
one_place [] the_end the_end p q = refl
one_place (text ∷ rest) (a_line l) (a_line m) p q = ap a_line (one_text_line l m p.proper q.proper (sym p.text_is ∙ q.text_is))
one_place (text ∷ rest) (a_line l) no_line p q = absurd (q l p)
one_place (text ∷ rest) no_line (a_line m) p q = absurd (p m q)
one_place (text ∷ rest) no_line no_line p q = refl
one_place rest a b p q = absurd assumption

-- where something stands that keeps all rules, none is broken
not_kept : (encode : Spelling) (texts : List (List ℕ)) (place : ℕ) (rule : Rule) (u : IsUnsound encode texts place rule) (at : AtPlace)
    → Stands u.rest at → ((other : Rule) → Keeps encode other u.past at) → ⊥
not_kept encode texts place rule u at stands kept =
    u.broken (subst (λ a. Keeps encode rule u.past a) (one_place u.rest at u.at stands u.stands) (kept rule))

-- lines that keep all rules go on past the place
not_gone_on : (encode : Spelling) (texts : List (List ℕ)) (place : ℕ) (rule : Rule) (u : IsUnsound encode texts place rule)
    → (past : List TextLine) (z : TextLine) (zs : List TextLine) (after : List (List ℕ))
    → AreSound encode past → AllByRecursion IsProper past → past ≡ reverse (z ∷ zs) ++ u.past → map text_of (z ∷ zs) ++ after ≡ u.rest → ⊥
not_gone_on encode texts place rule u past z zs after sound proper is rest_is =
    let is_now : past ≡ reverse zs ++ z ∷ u.past = backwards_one past u.past zs z is in
    let s : AreSound encode (z ∷ u.past) = sound_front encode (reverse zs) (z ∷ u.past) (subst (AreSound encode) is_now sound) in
    let p : AllByRecursion IsProper (z ∷ u.past) = proper_front (reverse zs) (z ∷ u.past) (subst (AllByRecursion IsProper) is_now proper) in
    not_kept encode texts place rule u (a_line z) (subst (λ ts. Stands ts (a_line z)) rest_is (record { text_is = refl; proper = p.0 })) s.1

ended : (encode : Spelling) (past : List TextLine) → IsFinished past → (rule : Rule) → Keeps encode rule past the_end
ended encode past finished rules.End = finished
ended encode past finished rule = tt

not_ended : (encode : Spelling) (texts : List (List ℕ)) (place : ℕ) (rule : Rule) (u : IsUnsound encode texts place rule)
    → (past : List TextLine) → IsFinished past → past ≡ u.past → [] ≡ u.rest → ⊥
not_ended encode texts place rule u past finished is rest_is =
    not_kept encode texts place rule u the_end (subst (λ ts. Stands ts the_end) rest_is tt) (ended encode u.past (subst IsFinished is finished))

-- ---- sound and unsound

pub not_both : (encode : Spelling) (texts : List (List ℕ)) (place : ℕ) (rule : Rule) → Sound encode texts → IsUnsound encode texts place rule → ⊥
not_both encode texts place rule s u =
    elim (compare (reverse s.past) (reverse u.past) [] u.rest (proper-reverse s.past s.proper) (proper-reverse u.past u.proper)
    (append-nil (texts_of s.past) ∙ sym s.texts_are ∙ u.texts_are)) [
      | inl on ↦ longer on.more (backwards s.past u.past on.more on.lines_are) on.texts_are
      | inr on ↦ shorter on.more (backwards u.past s.past on.more on.lines_are) on.texts_are
    ]
  where
    longer : (more : List TextLine) → s.past ≡ reverse more ++ u.past → map text_of more ++ [] ≡ u.rest → ⊥
    longer [] is rest_is = not_ended encode texts place rule u s.past s.finished is rest_is
    longer (z ∷ zs) is rest_is = not_gone_on encode texts place rule u s.past z zs [] s.sound s.proper is rest_is

    shorter : (more : List TextLine) → u.past ≡ reverse more ++ s.past → map text_of more ++ u.rest ≡ [] → ⊥
    shorter [] is rest_is = not_ended encode texts place rule u s.past s.finished (sym is) (sym rest_is)
    shorter (z ∷ zs) is rest_is = absurd (cc)

-- ---- one place and rule

abbrev AreOne : (place other : ℕ) (rule next : Rule) → Type 0
AreOne place other rule next = (place ≡ other) × (rule ≡ next)

not_lower : (encode : Spelling) (texts : List (List ℕ)) (p q : ℕ) (r s : Rule) (u : IsUnsound encode texts p r) (v : IsUnsound encode texts q s)
    → u.past ≡ v.past → u.at ≡ v.at → rule_number r < rule_number s → ⊥
not_lower encode texts p q r s u v same here less =
    u.broken (subst (λ a. Keeps encode r u.past a) (sym here) (subst (λ l. Keeps encode r l v.at) (sym same) (v.least r less)))

at_one_place : (encode : Spelling) (texts : List (List ℕ)) (p q : ℕ) (r s : Rule) (u : IsUnsound encode texts p r) (v : IsUnsound encode texts q s)
    → u.past ≡ v.past → u.rest ≡ v.rest → AreOne p q r s
at_one_place encode texts p q r s u v same rest_is = (
  u.place_is ∙ ap (λ l. length l + 1) same ∙ sym v.place_is,
  elim (cases_lt (rule_number r) (rule_number s)) [
    | inl less ↦ absurd (not_lower encode texts p q r s u v same here less)
    | inr most ↦ elim (cases_lt (rule_number s) (rule_number r)) [
      | inl less ↦ absurd (not_lower encode texts q p s r v u (sym same) (sym here) less)
      | inr least ↦ one_rule r s (omega (arith, most, least))
    ]
  ],
)
  where
    here : u.at ≡ v.at
    here = one_place v.rest u.at v.at (subst (λ ts. Stands ts u.at) rest_is u.stands) v.stands

pub one_unsound : (encode : Spelling) (texts : List (List ℕ)) (p q : ℕ) (r s : Rule) → IsUnsound encode texts p r → IsUnsound encode texts q s
    → AreOne p q r s
one_unsound encode texts p q r s u v =
    elim (compare (reverse u.past) (reverse v.past) u.rest v.rest (proper-reverse u.past u.proper) (proper-reverse v.past v.proper)
    (sym u.texts_are ∙ v.texts_are)) [
      | inl on ↦ longer on.more (backwards u.past v.past on.more on.lines_are) on.texts_are
      | inr on ↦ shorter on.more (backwards v.past u.past on.more on.lines_are) on.texts_are
    ]
  where
    longer : (more : List TextLine) → u.past ≡ reverse more ++ v.past → map text_of more ++ u.rest ≡ v.rest → AreOne p q r s
    longer [] is rest_is = at_one_place encode texts p q r s u v is rest_is
    longer (z ∷ zs) is rest_is = absurd (not_gone_on encode texts q s v u.past z zs u.rest u.sound u.proper is rest_is)

    shorter : (more : List TextLine) → v.past ≡ reverse more ++ u.past → map text_of more ++ v.rest ≡ u.rest → AreOne p q r s
    shorter [] is rest_is = at_one_place encode texts p q r s u v (sym is) (sym rest_is)
    shorter (z ∷ zs) is rest_is = absurd (not_gone_on encode texts p r u v.past z zs v.rest v.sound v.proper is rest_is)
