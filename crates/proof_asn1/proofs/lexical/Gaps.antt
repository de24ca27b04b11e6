-- What is passed before an item is a gap, and no other.
use Rattle.std.proofs.Common.{◌≡◌, ℕ, List, [], ◌∷◌, Bool, true, false, cond, ◌&&◌, refl, sym, ap, ◌∙◌, subst, Some, None}
use Rattle.std.specs.Prelude.{◌==◌}
use Rattle.std.proofs.lemmas.Bool.{eqb-true}
use Rattle.gnb_types.proofs.Choices.{by_choice, both}
use Rattle.asn1_tokens.specs.declared.scan.Gap.{Gap}
use Rattle.asn1_tokens.specs.declared.scan.Gap.TheVariants as gaps
use Rattle.asn1_tokens.specs.Scan.{is_white, begins, is_mark, gap_rest, after_gap}
use Rattle.asn1_defs.specs.Items.{begins_comment, Comment, closed, line, ended, goes_on, IsGap, ends, white, comment}

no_second : (a : Bool) → (a && false) ≡ true → ⊥
no_second true h = cc
no_second false h = cc

-- two hyphens begin a text with a mark
mark_is : (c d : ℕ) (ds : List ℕ) → is_mark c (d ∷ ds) ≡ true → c ∷ d ∷ ds ≡ 45 ∷ 45 ∷ ds
mark_is c d ds m = go (both (c == 45) (d == 45) m)
  where
    go : ((c == 45) ≡ true) × ((d == 45) ≡ true) → c ∷ d ∷ ds ≡ 45 ∷ 45 ∷ ds
    go (x, y) = λ i. eqb-true c 45 x i ∷ eqb-true d 45 y i ∷ ds

-- what each state of the passing says of what is left
abbrev pub Told : Gap → List ℕ → List ℕ → Type 0
Told gaps.Between text here = IsGap text here
Told gaps.Opens [] here = Unit {0}
Told gaps.Opens (c ∷ cs) here = (rest : List ℕ) × Comment cs rest × IsGap rest here
Told gaps.Comment text here = (rest : List ℕ) × Comment text rest × IsGap rest here
Told gaps.Closes [] here = Unit {0}
Told gaps.Closes (c ∷ cs) here = IsGap cs here

opened : (c : ℕ) (cs here : List ℕ) → is_mark c cs ≡ true → Told gaps.Opens cs here → IsGap (c ∷ cs) here
opened c [] here m t = absurd (no_second (c == 45) m)
opened c (d ∷ ds) here m t = subst (λ (xs : List ℕ). IsGap xs here) (sym (mark_is c d ds m)) (comment t.1 t.2)

closes : (c : ℕ) (cs here : List ℕ) → is_mark c cs ≡ true → Told gaps.Closes cs here → Told gaps.Comment (c ∷ cs) here
closes c [] here m t = absurd (no_second (c == 45) m)
closes c (d ∷ ds) here m t = (ds, subst (λ (xs : List ℕ). Comment xs ds) (sym (mark_is c d ds m)) closed, t)

ends_line : (c : ℕ) (cs here : List ℕ) → (c == 10) ≡ true → IsGap cs here → Told gaps.Comment (c ∷ cs) here
ends_line c cs here h t = (cs, subst (λ (n : ℕ). Comment (n ∷ cs) cs) (sym (eqb-true c 10 h)) line, t)

stays : (c : ℕ) (cs here : List ℕ) → (c == 10) ≡ false → is_mark c cs ≡ false → Told gaps.Comment cs here → Told gaps.Comment (c ∷ cs) here
stays c cs here h m t = (t.0, goes_on h m t.1, t.2)

between_step : (c : ℕ) (cs : List ℕ) → Told gaps.Between cs (after_gap gaps.Between cs) → Told gaps.Opens cs (after_gap gaps.Opens cs) → Told gaps.Between (c ∷ cs) (after_gap gaps.Between (c ∷ cs))
unfolding after_gap
between_step c cs between opens =
    by_choice (λ found. IsGap (c ∷ cs) (gap_rest found (c ∷ cs) (λ next. after_gap next cs))) (is_white c) _ _
    (λ w. white w between)
    (λ w. by_choice (λ found. IsGap (c ∷ cs) (gap_rest found (c ∷ cs) (λ next. after_gap next cs))) (is_mark c cs) _ _
    (λ m. opened c cs (after_gap gaps.Opens cs) m opens)
    (λ m. ends w m))

comment_step : (c : ℕ) (cs : List ℕ) → Told gaps.Between cs (after_gap gaps.Between cs) → Told gaps.Closes cs (after_gap gaps.Closes cs) → Told gaps.Comment cs (after_gap gaps.Comment cs) → Told gaps.Comment (c ∷ cs) (after_gap gaps.Comment (c ∷ cs))
unfolding after_gap
comment_step c cs between closing inside =
    by_choice (λ found. Told gaps.Comment (c ∷ cs) (gap_rest found (c ∷ cs) (λ next. after_gap next cs))) (c == 10) _ _
    (λ h. ends_line c cs (after_gap gaps.Between cs) h between)
    (λ h. by_choice (λ found. Told gaps.Comment (c ∷ cs) (gap_rest found (c ∷ cs) (λ next. after_gap next cs))) (is_mark c cs) _ _
    (λ m. closes c cs (after_gap gaps.Closes cs) m closing)
    (λ m. stays c cs (after_gap gaps.Comment cs) h m inside))

pub told : (g : Gap) (text : List ℕ) → Told g text (after_gap g text)
unfolding after_gap
told gaps.Between [] = ends refl refl
told gaps.Opens [] = tt
told gaps.Comment [] = ([], ended, ends refl refl)
told gaps.Closes [] = tt
told gaps.Between (c ∷ cs) = between_step c cs (told gaps.Between cs) (told gaps.Opens cs)
told gaps.Opens (c ∷ cs) = told gaps.Comment cs
told gaps.Comment (c ∷ cs) = comment_step c cs (told gaps.Between cs) (told gaps.Closes cs) (told gaps.Comment cs)
told gaps.Closes (c ∷ cs) = told gaps.Between cs

-- ---- and what is a gap is passed

white_passed : (c : ℕ) (cs : List ℕ) → is_white c ≡ true → after_gap gaps.Between (c ∷ cs) ≡ after_gap gaps.Between cs
unfolding after_gap
white_passed c cs w = ap (λ (b : Bool). gap_rest (cond b (Some gaps.Between) (cond (is_mark c cs) (Some gaps.Opens) None)) (c ∷ cs) (λ next. after_gap next cs)) w

item_stays : (text : List ℕ) → begins is_white text ≡ false → begins_comment text ≡ false → after_gap gaps.Between text ≡ text
unfolding after_gap
item_stays [] w m = refl
item_stays (c ∷ cs) w m = λ i. gap_rest (cond (w i) (Some gaps.Between) (cond (m i) (Some gaps.Opens) None)) (c ∷ cs) (λ next. after_gap next cs)

inside_passed : (c : ℕ) (cs : List ℕ) → (c == 10) ≡ false → is_mark c cs ≡ false → after_gap gaps.Comment (c ∷ cs) ≡ after_gap gaps.Comment cs
unfolding after_gap
inside_passed c cs h m = λ i. gap_rest (cond (h i) (Some gaps.Between) (cond (m i) (Some gaps.Closes) (Some gaps.Comment))) (c ∷ cs) (λ next. after_gap next cs)

opening_passed : (cs : List ℕ) → after_gap gaps.Between (45 ∷ 45 ∷ cs) ≡ after_gap gaps.Comment cs
unfolding after_gap
opening_passed cs = refl

closing_passed : (cs : List ℕ) → after_gap gaps.Comment (45 ∷ 45 ∷ cs) ≡ after_gap gaps.Between cs
unfolding after_gap
closing_passed cs = refl

line_passed : (cs : List ℕ) → after_gap gaps.Comment (10 ∷ cs) ≡ after_gap gaps.Between cs
unfolding after_gap
line_passed cs = refl

end_passed : after_gap gaps.Comment [] ≡ after_gap gaps.Between []
unfolding after_gap
end_passed = refl

comment_passed : {text rest : List ℕ} → Comment text rest → after_gap gaps.Comment text ≡ after_gap gaps.Between rest
comment_passed (closed {rest}) = closing_passed rest
comment_passed (line {rest}) = line_passed rest
comment_passed ended = end_passed
comment_passed (goes_on {c} {cs} h m k) = inside_passed c cs h m ∙ comment_passed k

pub gap_passed : {text here : List ℕ} → IsGap text here → after_gap gaps.Between text ≡ here
gap_passed (ends {text} w m) = item_stays text w m
gap_passed (white {c} {cs} w k) = white_passed c cs w ∙ gap_passed k
gap_passed (comment {cs} inside k) = opening_passed cs ∙ comment_passed inside ∙ gap_passed k
