-- A reading function takes what the grammar wants, and fails where the grammar does not go on, or at an item with which it does.
use Rattle.std.proofs.Common.{◌≡◌, ℕ, ◌+◌, ◌≤◌, ◌<◌, List, [], ◌∷◌, ◌++◌, zero, suc, length, Bool, true, false, cond, refl, sym, ap, ◌∙◌, subst, inl, inr, arith, Some, None}
use Rattle.std.specs.Prelude.{◌⊎◌, Result, Ok, Err}
use Rattle.gnb_types.proofs.Choices.{by_test, by_choice}
use Rattle.asn1_tokens.specs.declared.token.Word.{Word}
use Rattle.asn1_tokens.specs.declared.token.Sign.{Sign}
use Rattle.asn1_tokens.specs.declared.token.Token.{Token}
use Rattle.asn1_tokens.specs.declared.token.Token.TheVariants as tokens
use Rattle.asn1_tokens.specs.Stream.{Placed, first_token, first_place, others}
use Rattle.asn1_syntax.specs.declared.types.fault.ModuleReason.{ModuleReason}
use Rattle.asn1_syntax.specs.declared.types.fault.ModuleReason.TheVariants as reasons
use Rattle.asn1_syntax.specs.declared.types.fault.Fault.{Fault}
use Rattle.asn1_syntax.specs.types.Reading.{Left, reason_of, is_word_token, is_sign_token, begins_with, begins_with_sign}
use Rattle.asn1_syntax.specs.types.inside.Reading.{◌>>=◌, unexpected, word_at, sign_at, upper_of, upper_at, lower_of, lower_at, number_of, number_at, repeat_at}
use Rattle.asn1_defs.specs.Grammar.{Terminal, AnUpper, ALower, ANumber, TheWord, TheSign, fits, Part, Symbol, Item, Whole, word, sign}
use Rattle.proof_asn1.proofs.grammar.Predict.{chosen}
use Rattle.proof_asn1.proofs.grammar.Steps.{Steps, here, shift, expand, then, IsStuck, at_item, at_part}

-- the next item fits
pub data IsFit : List Symbol → Token → Type 0 where
  fit : {k : Terminal} {symbols : List Symbol} {t : Token} → fits k t ≡ true → IsFit (Item k ∷ symbols) t

-- why an item is wrong
abbrev pub Why : List Symbol → List Placed → ModuleReason → Type 0
Why left us reason = (IsStuck left (first_token us) × (reason ≡ reason_of (first_token us))) ⊎ (IsFit left (first_token us) × ((reason ≡ reasons.Bounds) ⊎ (reason ≡ reasons.Twice)))

pub record Fails (symbols : List Symbol) (ts : List Placed) (f : Fault) : Type 0 where
  pub left : List Symbol
  pub us : List Placed
  pub steps : Steps symbols ts left us
  pub at : f.place ≡ (first_place us).start
  pub why : Why left us f.reason

-- from these symbols to those that are left, by at least so many items
pub data Sim (least : ℕ) {A : Type 0} (symbols : List Symbol) (ts : List Placed) (left : A → List Symbol) (rest : A → List Placed) : Result A Fault → Type 0 where
  goes : {a : A} → Steps symbols ts (left a) (rest a) → least + length (rest a) ≤ length ts → Sim least symbols ts left rest (Ok a)
  fails : {f : Fault} → Fails symbols ts f → Sim least symbols ts left rest (Err f)

pub fails_behind : {symbols mid : List Symbol} {ts us : List Placed} {f : Fault} → Steps symbols ts mid us → Fails mid us f → Fails symbols ts f
fails_behind steps late = record { left = late.left; us = late.us; steps = then steps late.steps; at = late.at; why = late.why }

pub and_then : {A B : Type 0} {least : ℕ} {symbols : List Symbol} {ts : List Placed} {mid : A → List Symbol} {rest : A → List Placed} {left : B → List Symbol} {last : B → List Placed} {r : Result A Fault} {g : A → Result B Fault} → Sim least symbols ts mid rest r → ((a : A) → r ≡ Ok a → least + length (rest a) ≤ length ts → Sim 0 (mid a) (rest a) left last (g a)) → Sim least symbols ts left last (r >>= g)
and_then {least} {symbols} {ts} {mid} {rest} {left} {last} {g} (goes {a} steps le) on = further (g a) (on a refl le)
  where
    further : (s : Result _ Fault) → Sim 0 (mid a) (rest a) left last s → Sim least symbols ts left last s
    further (Ok b) (goes more less) = goes (then steps more) (omega (arith, le, less))
    further (Err f) (fails late) = fails (fails_behind steps late)
and_then (fails late) on = fails late

-- the same, where what follows may tell a fault of what was read
pub and_so : {A B : Type 0} {least : ℕ} {symbols : List Symbol} {ts : List Placed} {mid : A → List Symbol} {rest : A → List Placed} {left : B → List Symbol} {last : B → List Placed} {r : Result A Fault} {g : A → Result B Fault} → Sim least symbols ts mid rest r → ((a : A) → r ≡ Ok a → Steps symbols ts (mid a) (rest a) → least + length (rest a) ≤ length ts → Sim least symbols ts left last (g a)) → Sim least symbols ts left last (r >>= g)
and_so (goes {a} steps le) on = on a refl steps le
and_so (fails late) on = fails late

-- ---- single items

one_less : (k : Terminal) (ts : List Placed) → fits k (first_token ts) ≡ true → 1 + length (others ts) ≤ length ts
one_less k [] h = cc
one_less k (p ∷ ps) h = omega arith

pub taken : {A : Type 0} (k : Terminal) (symbols : List Symbol) (ts : List Placed) (rest : A → List Placed) (a : A) → rest a ≡ others ts → fits k (first_token ts) ≡ true → Sim 1 (Item k ∷ symbols) ts (λ _. symbols) rest (Ok a)
taken k symbols ts rest a is h = goes (shift h (subst (λ us. Steps symbols (others ts) symbols us) (sym is) here)) (omega (arith, one_less k ts h, ap length is))

pub refused : {A : Type 0} {least : ℕ} {left : A → List Symbol} {rest : A → List Placed} (symbols : List Symbol) (ts : List Placed) → IsStuck symbols (first_token ts) → Sim least symbols ts left rest (Err (unexpected ts))
unfolding unexpected
refused symbols ts stuck = fails (record { left = symbols; us = ts; steps = here; at = refl; why = inl (stuck, refl) })

-- a symbol that was stepped over fits
pub fit_of : {k : Terminal} {symbols left : List Symbol} {ts us : List Placed} → Steps (Item k ∷ symbols) ts left us → 1 + length us ≤ length ts → fits k (first_token ts) ≡ true
fit_of here le = absurd (omega (arith, le))
fit_of (shift h more) le = h

-- a fault at the first item, which fits
pub misused : {A : Type 0} {least : ℕ} {left : A → List Symbol} {rest : A → List Placed} {k : Terminal} {symbols mid : List Symbol} {ts us : List Placed} (f : Fault) → Steps (Item k ∷ symbols) ts mid us → 1 + length us ≤ length ts → f.place ≡ (first_place ts).start → (f.reason ≡ reasons.Bounds) ⊎ (f.reason ≡ reasons.Twice) → Sim least (Item k ∷ symbols) ts left rest (Err f)
misused f steps le at reason = fails (record { left = _; us = _; steps = here; at = at; why = inr (fit (fit_of steps le), reason) })

pub is_word-fits : (w : Word) (t : Token) → is_word_token w t ≡ fits (TheWord w) t
is_word-fits w (tokens.Upper name) = refl
is_word-fits w (tokens.Lower name) = refl
is_word-fits w (tokens.Number value) = refl
is_word-fits w (tokens.Word found) = refl
is_word-fits w (tokens.Sign found) = refl
is_word-fits w tokens.OutOfProfile = refl
is_word-fits w tokens.Nothing = refl
is_word-fits w tokens.EndOfText = refl

pub is_sign-fits : (s : Sign) (t : Token) → is_sign_token s t ≡ fits (TheSign s) t
is_sign-fits s (tokens.Upper name) = refl
is_sign-fits s (tokens.Lower name) = refl
is_sign-fits s (tokens.Number value) = refl
is_sign-fits s (tokens.Word found) = refl
is_sign-fits s (tokens.Sign found) = refl
is_sign-fits s tokens.OutOfProfile = refl
is_sign-fits s tokens.Nothing = refl
is_sign-fits s tokens.EndOfText = refl

pub word_sim : (w : Word) (symbols : List Symbol) (ts : List Placed) → Sim 1 (word w ∷ symbols) ts (λ _. symbols) (λ us. us) (word_at w ts)
unfolding word_at
word_sim w symbols ts = by_choice (Sim 1 (word w ∷ symbols) ts (λ _. symbols) (λ us. us)) (begins_with w ts) (Ok (others ts)) (Err (unexpected ts))
    (λ h. taken (TheWord w) symbols ts (λ us. us) (others ts) refl (sym (is_word-fits w (first_token ts)) ∙ h))
    (λ h. refused (word w ∷ symbols) ts (at_item (sym (is_word-fits w (first_token ts)) ∙ h)))

pub sign_sim : (s : Sign) (symbols : List Symbol) (ts : List Placed) → Sim 1 (sign s ∷ symbols) ts (λ _. symbols) (λ us. us) (sign_at s ts)
unfolding sign_at
sign_sim s symbols ts = by_choice (Sim 1 (sign s ∷ symbols) ts (λ _. symbols) (λ us. us)) (begins_with_sign s ts) (Ok (others ts)) (Err (unexpected ts))
    (λ h. taken (TheSign s) symbols ts (λ us. us) (others ts) refl (sym (is_sign-fits s (first_token ts)) ∙ h))
    (λ h. refused (sign s ∷ symbols) ts (at_item (sym (is_sign-fits s (first_token ts)) ∙ h)))

pub upper_sim : (symbols : List Symbol) (ts : List Placed) → Sim 1 (Item AnUpper ∷ symbols) ts (λ _. symbols) (λ a. a.1) (upper_at ts)
unfolding upper_at
upper_sim symbols ts = go (first_token ts) refl
  where
    go : (t : Token) → first_token ts ≡ t → Sim 1 (Item AnUpper ∷ symbols) ts (λ _. symbols) (λ a. a.1) (upper_of t ts)
    go (tokens.Upper name) e = taken AnUpper symbols ts (λ a. a.1) (name, others ts) refl (ap (fits AnUpper) e)
    go (tokens.Lower name) e = refused (Item AnUpper ∷ symbols) ts (at_item (ap (fits AnUpper) e))
    go (tokens.Number value) e = refused (Item AnUpper ∷ symbols) ts (at_item (ap (fits AnUpper) e))
    go (tokens.Word found) e = refused (Item AnUpper ∷ symbols) ts (at_item (ap (fits AnUpper) e))
    go (tokens.Sign found) e = refused (Item AnUpper ∷ symbols) ts (at_item (ap (fits AnUpper) e))
    go tokens.OutOfProfile e = refused (Item AnUpper ∷ symbols) ts (at_item (ap (fits AnUpper) e))
    go tokens.Nothing e = refused (Item AnUpper ∷ symbols) ts (at_item (ap (fits AnUpper) e))
    go tokens.EndOfText e = refused (Item AnUpper ∷ symbols) ts (at_item (ap (fits AnUpper) e))

pub lower_sim : (symbols : List Symbol) (ts : List Placed) → Sim 1 (Item ALower ∷ symbols) ts (λ _. symbols) (λ a. a.1) (lower_at ts)
unfolding lower_at
lower_sim symbols ts = go (first_token ts) refl
  where
    go : (t : Token) → first_token ts ≡ t → Sim 1 (Item ALower ∷ symbols) ts (λ _. symbols) (λ a. a.1) (lower_of t ts)
    go (tokens.Lower name) e = taken ALower symbols ts (λ a. a.1) (name, others ts) refl (ap (fits ALower) e)
    go (tokens.Upper name) e = refused (Item ALower ∷ symbols) ts (at_item (ap (fits ALower) e))
    go (tokens.Number value) e = refused (Item ALower ∷ symbols) ts (at_item (ap (fits ALower) e))
    go (tokens.Word found) e = refused (Item ALower ∷ symbols) ts (at_item (ap (fits ALower) e))
    go (tokens.Sign found) e = refused (Item ALower ∷ symbols) ts (at_item (ap (fits ALower) e))
    go tokens.OutOfProfile e = refused (Item ALower ∷ symbols) ts (at_item (ap (fits ALower) e))
    go tokens.Nothing e = refused (Item ALower ∷ symbols) ts (at_item (ap (fits ALower) e))
    go tokens.EndOfText e = refused (Item ALower ∷ symbols) ts (at_item (ap (fits ALower) e))

pub number_sim : (symbols : List Symbol) (ts : List Placed) → Sim 1 (Item ANumber ∷ symbols) ts (λ _. symbols) (λ a. a.1) (number_at ts)
unfolding number_at
number_sim symbols ts = go (first_token ts) refl
  where
    go : (t : Token) → first_token ts ≡ t → Sim 1 (Item ANumber ∷ symbols) ts (λ _. symbols) (λ a. a.1) (number_of t ts)
    go (tokens.Number value) e = taken ANumber symbols ts (λ a. a.1) (value, others ts) refl (ap (fits ANumber) e)
    go (tokens.Upper name) e = refused (Item ANumber ∷ symbols) ts (at_item (ap (fits ANumber) e))
    go (tokens.Lower name) e = refused (Item ANumber ∷ symbols) ts (at_item (ap (fits ANumber) e))
    go (tokens.Word found) e = refused (Item ANumber ∷ symbols) ts (at_item (ap (fits ANumber) e))
    go (tokens.Sign found) e = refused (Item ANumber ∷ symbols) ts (at_item (ap (fits ANumber) e))
    go tokens.OutOfProfile e = refused (Item ANumber ∷ symbols) ts (at_item (ap (fits ANumber) e))
    go tokens.Nothing e = refused (Item ANumber ∷ symbols) ts (at_item (ap (fits ANumber) e))
    go tokens.EndOfText e = refused (Item ANumber ∷ symbols) ts (at_item (ap (fits ANumber) e))

-- ---- what is read

pub weaker : {A : Type 0} {symbols : List Symbol} {ts : List Placed} {left : A → List Symbol} {rest : A → List Placed} {r : Result A Fault} → Sim 1 symbols ts left rest r → Sim 0 symbols ts left rest r
weaker (goes steps le) = goes steps (omega (arith, le))
weaker (fails late) = fails late

pub done : {A : Type 0} {left : A → List Symbol} {rest : A → List Placed} {symbols : List Symbol} {ts : List Placed} (a : A) → left a ≡ symbols → rest a ≡ ts → Sim 0 symbols ts left rest (Ok a)
done {left} {rest} {symbols} {ts} a l r = goes (subst (λ us. Steps symbols ts (left a) us) (sym r) (subst (λ ss. Steps symbols ts ss ts) (sym l) here)) (omega (arith, ap length r))

pub expands : {A : Type 0} {least : ℕ} {symbols : List Symbol} {ts : List Placed} {left : A → List Symbol} {rest : A → List Placed} {r : Result A Fault} (n : Part) (b : List Symbol) → chosen n (first_token ts) ≡ Some b → Sim least (b ++ symbols) ts left rest r → Sim least (Whole n ∷ symbols) ts left rest r
expands n b h (goes steps le) = goes (expand b h steps) le
expands n b h (fails late) = fails (record { left = late.left; us = late.us; steps = expand b h late.steps; at = late.at; why = late.why })

-- and then the next, where something was taken before
pub next : {A B : Type 0} {symbols : List Symbol} {ts : List Placed} {mid : A → List Symbol} {rest : A → List Placed} {left : B → List Symbol} {last : B → List Placed} {r : Result A Fault} {g : A → Result B Fault} → Sim 1 symbols ts mid rest r → ((a : A) → 1 + length (rest a) ≤ length ts → Sim 0 (mid a) (rest a) left last (g a)) → Sim 0 symbols ts left last (r >>= g)
next first on = weaker (and_then first (λ a e le. on a le))

pub first : {A B : Type 0} {symbols : List Symbol} {ts : List Placed} {mid : A → List Symbol} {rest : A → List Placed} {left : B → List Symbol} {last : B → List Placed} {r : Result A Fault} {g : A → Result B Fault} → Sim 1 symbols ts mid rest r → ((a : A) → 1 + length (rest a) ≤ length ts → Sim 0 (mid a) (rest a) left last (g a)) → Sim 1 symbols ts left last (r >>= g)
first one on = and_then one (λ a e le. on a le)

pub maybe : {A B : Type 0} {symbols : List Symbol} {ts : List Placed} {mid : A → List Symbol} {rest : A → List Placed} {left : B → List Symbol} {last : B → List Placed} {r : Result A Fault} {g : A → Result B Fault} → Sim 0 symbols ts mid rest r → ((a : A) → length (rest a) ≤ length ts → Sim 0 (mid a) (rest a) left last (g a)) → Sim 0 symbols ts left last (r >>= g)
maybe one on = and_then one (λ a e le. on a (omega (arith, le)))

-- a part that one production makes where the next item is this sign, and another one where it isn't
pub fits_sign : (s : Sign) (ts : List Placed) (b : Bool) → begins_with_sign s ts ≡ b → fits (TheSign s) (first_token ts) ≡ b
fits_sign s ts b h = sym (is_sign-fits s (first_token ts)) ∙ h

pub fits_word : (w : Word) (ts : List Placed) (b : Bool) → begins_with w ts ≡ b → fits (TheWord w) (first_token ts) ≡ b
fits_word w ts b h = sym (is_word-fits w (first_token ts)) ∙ h

-- what is chosen of two productions
pub chosen_one : {X : Type 0} (b : Bool) (x y : X) → b ≡ true → cond b x y ≡ x
chosen_one true x y h = refl
chosen_one false x y h = cc

pub chosen_other : {X : Type 0} (b : Bool) (x y z : X) → b ≡ false → y ≡ z → cond b x y ≡ z
chosen_other true x y z h e = cc
chosen_other false x y z h e = e

-- a part that is this production where its first item fits, and else nothing
pub part_of : {A : Type 0} {symbols : List Symbol} {ts : List Placed} {left : A → List Symbol} {rest : A → List Placed} {r : Result A Fault} (n : Part) (k : Terminal) (b : List Symbol) → chosen n (first_token ts) ≡ cond (fits k (first_token ts)) (Some (Item k ∷ b)) None → Sim 1 (Item k ∷ b ++ symbols) ts left rest r → Sim 1 (Whole n ∷ symbols) ts left rest r
part_of {symbols} {ts} {left} {rest} n k b is (goes {a} steps le) = goes (expand (Item k ∷ b) (is ∙ chosen_one _ _ _ (fit_of steps le)) steps) le
part_of {symbols} {ts} n k b is (fails {f} late) = fails (go late.steps late.at late.why)
  where
    go : {mid : List Symbol} {us : List Placed} → Steps (Item k ∷ b ++ symbols) ts mid us → f.place ≡ (first_place us).start → Why mid us f.reason → Fails (Whole n ∷ symbols) ts f
    go here at (inl (at_item miss, e)) = record { left = Whole n ∷ symbols; us = ts; steps = here; at = at; why = inl (at_part (is ∙ chosen_other _ _ _ _ miss refl), e) }
    go here at (inr (fit hit, e)) = record { left = Item k ∷ b ++ symbols; us = ts; steps = expand (Item k ∷ b) (is ∙ chosen_one _ _ _ hit) here; at = at; why = inr (fit hit, e) }
    go (shift hit more) at why = record { left = _; us = _; steps = expand (Item k ∷ b) (is ∙ chosen_one _ _ _ hit) (shift hit more); at = at; why = why }

-- ---- turns

pub by_flag : {A : Type 0} {least : ℕ} {ts : List Placed} {left : A → List Symbol} {rest : A → List Placed} (b : Bool) (x y : List Symbol) (u v : Result A Fault) → (b ≡ true → Sim least x ts left rest u) → (b ≡ false → Sim least y ts left rest v) → Sim least (cond b x y) ts left rest (cond b u v)
by_flag true x y u v p q = p refl
by_flag false x y u v p q = q refl

-- Each turn takes an item, or ends the list where it is.
abbrev pub Turns : {S : Type 0} → (S → Left → Result (Bool × S × Left) Fault) → (S → List Symbol) → (S → List Symbol) → S → Left → Type 0
Turns turn before after state ts =
    Sim 1 (before state) ts (λ a. cond a.0 (before a.1) (after a.1)) (λ a. a.2) (turn state ts)
    ⊎ ((turn state ts ≡ Ok (false, state, ts)) × (before state ≡ after state))

pub repeat_sim : {S : Type 0} (turn : S → Left → Result (Bool × S × Left) Fault) (before after : S → List Symbol) {most : ℕ} → ((state : S) (ts : Left) → length ts < most → Turns turn before after state ts) → (turns : ℕ) (state : S) (ts : List Placed) → length ts < turns → length ts < most → Sim 0 (before state) ts (λ a. after a.0) (λ a. a.1) (repeat_at turn turns state ts)
unfolding repeat_at
repeat_sim {S} turn before after step zero state ts lt small = absurd (omega (arith, lt))
repeat_sim {S} turn before after step (suc turns) state ts lt small = go (step state ts small) (λ state us short. repeat_sim turn before after step turns state us (omega (arith, short, lt)) (omega (arith, short, small)))
  where
    go : Turns turn before after state ts → ((state : S) (us : List Placed) → 1 + length us ≤ length ts → Sim 0 (before state) us (λ a. after a.0) (λ a. a.1) (repeat_at turn turns state us)) → Sim 0 (before state) ts (λ a. after a.0) (λ a. a.1) (turn state ts >>= λ t. cond t.0 (repeat_at turn turns t.1 t.2) (Ok (t.1, t.2)))
    go (inl one) again = next one (λ t short. by_flag t.0 (before t.1) (after t.1) (repeat_at turn turns t.1 t.2) (Ok (t.1, t.2)) (λ _. again t.1 t.2 short) (λ _. done (t.1, t.2) refl refl))
    go (inr last) again = subst (λ r. Sim 0 (before state) ts (λ a. after a.0) (λ a. a.1) (r >>= λ t. cond t.0 (repeat_at turn turns t.1 t.2) (Ok (t.1, t.2)))) (sym last.0) (done (state, ts) (sym last.1) refl)
