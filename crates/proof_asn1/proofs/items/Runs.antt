-- A reading function passes items that are allowed, and fails at one for a cause that is told of it.
use Rattle.std.proofs.Common.{◌≡◌, ℕ, List, [], ◌∷◌, zero, suc, Bool, true, false, cond, not, ◌&&◌, refl, sym, ap, ◌∙◌, subst}
use Rattle.std.specs.Prelude.{Result, Ok, Err, ℤ, pos}
use Rattle.std.specs.Int.Signed.{le_z}
use Rattle.gnb_types.proofs.Choices.{by_choice}
use Rattle.asn1_tokens.specs.declared.token.Word.{Word}
use Rattle.asn1_tokens.specs.declared.token.Sign.{Sign}
use Rattle.asn1_tokens.specs.declared.token.Token.{Token}
use Rattle.asn1_tokens.specs.declared.token.Token.TheVariants as tokens
use Rattle.asn1_tokens.specs.Stream.{Placed, is_last, first_token, first_place, others}
use Rattle.asn1_syntax.specs.declared.types.fault.ModuleReason.TheVariants as reasons
use Rattle.asn1_syntax.specs.declared.types.fault.Fault.{Fault}
use Rattle.asn1_syntax.specs.types.Reading.{Left, begins_with, begins_with_sign}
use Rattle.asn1_syntax.specs.types.inside.Reading.{◌>>=◌, fault_at, unexpected, word_at, sign_at, upper_of, upper_at, lower_of, lower_at, number_of, number_at, repeat_at}
use Rattle.asn1_syntax.specs.types.Sizes.{natural}
use Rattle.asn1_syntax.specs.types.inside.Sizes.{bounded_at, natural_at}
use Rattle.asn1_defs.specs.Spelling.{tokens_of}
use Rattle.proof_asn1.proofs.asn1_proof_syntax.Exact.{a_word, a_sign}
use Rattle.asn1_defs.specs.Bounds.{from_to, range_behind, is_outside}
use Rattle.asn1_defs.specs.Repetitions.{begins_assignment, is_given}
use Rattle.asn1_defs.specs.ItemFaults.{IsAllowed, sign_passes, passes_bound, is_repeated}
use Rattle.proof_asn1.specs.items.JudgedItems.{Because, misplaced, bounds}

-- The items from ts to us are allowed, where these are before them; the last list is what is before us then. A module may go on behind
-- each of them.
pub data AllowedTo : List Token → Left → List Token → Left → Type 0 where
  here : {before : List Token} {ts : Left} → AllowedTo before ts before ts
  past : {p : Placed} {before after : List Token} {ts us : Left} → is_last p.token ≡ false → IsAllowed before p.token (tokens_of ts) → AllowedTo (p.token ∷ before) ts after us → AllowedTo before (p ∷ ts) after us

-- a fault behind allowed items
pub record Wrongs (before : List Token) (ts : Left) (f : Fault) : Type 0 where
  pub after : List Token
  pub us : Left
  pub allowed_to : AllowedTo before ts after us
  pub at : f.place ≡ (first_place us).start
  pub because : Because after (first_token us) (tokens_of (others us)) f.reason

-- what is read leaves the items that rest tells, with others before them of which Post is told
pub data Run {A : Type 0} (before : List Token) (ts : Left) (rest : A → Left) (Post : A → List Token → Type 0) : Result A Fault → Type 0 where
  goes : {a : A} {after : List Token} → AllowedTo before ts after (rest a) → Post a after → Run before ts rest Post (Ok a)
  fails : {f : Fault} → Wrongs before ts f → Run before ts rest Post (Err f)

pub allowed_then : {a b c : List Token} {ts us vs : Left} → AllowedTo a ts b us → AllowedTo b us c vs → AllowedTo a ts c vs
allowed_then here more = more
allowed_then (past goes_on allowed one) more = past goes_on allowed (allowed_then one more)

-- what follows allowed items
pub behind_allowed : {A : Type 0} {rest : A → Left} {Post : A → List Token → Type 0} {before mid : List Token} {ts us : Left} {r : Result A Fault} → AllowedTo before ts mid us → Run mid us rest Post r → Run before ts rest Post r
behind_allowed allowed_to (goes more post) = goes (allowed_then allowed_to more) post
behind_allowed allowed_to (fails late) = fails (record { after = late.after; us = late.us; allowed_to = allowed_then allowed_to late.allowed_to; at = late.at; because = late.because })

pub and_then : {A B : Type 0} {before : List Token} {ts : Left} {mid : A → Left} {Mid : A → List Token → Type 0} {rest : B → Left} {Post : B → List Token → Type 0} {r : Result A Fault} {g : A → Result B Fault} → Run before ts mid Mid r → ((a : A) (after : List Token) → Mid a after → Run after (mid a) rest Post (g a)) → Run before ts rest Post (r >>= g)
and_then (goes {a} {after} allowed_to post) on = behind_allowed allowed_to (on a after post)
and_then (fails late) on = fails late

pub done : {A : Type 0} {rest : A → Left} {Post : A → List Token → Type 0} {before : List Token} (a : A) → Post a before → Run before (rest a) rest Post (Ok a)
done a post = goes here post

-- ---- single items

-- this item stands first, and these behind it
pub record Stands (t : Token) (ts us : Left) : Type 0 where
  pub is : first_token ts ≡ t
  pub behind : us ≡ others ts

-- a fault at the first item
pub wrong : {A : Type 0} {rest : A → Left} {Post : A → List Token → Type 0} {before : List Token} {t : Token} {ts us : Left} {f : Fault} → Stands t ts us → f.place ≡ (first_place ts).start → Because before t (tokens_of us) f.reason → Run before ts rest Post (Err f)
wrong {before} {t} {ts} {us} {f} stands at because = fails (record { after = before; us = ts; allowed_to = here; at = at; because = subst (λ (vs : Left). Because before (first_token ts) (tokens_of vs) f.reason) stands.behind (subst (λ (u : Token). Because before u (tokens_of us) f.reason) (sym stands.is) because) })

pub refused : {A : Type 0} {rest : A → Left} {Post : A → List Token → Type 0} {before : List Token} (ts : Left) → Run before ts rest Post (Err (unexpected ts))
unfolding unexpected
refused ts = wrong (record { is = refl; behind = refl }) refl misplaced

-- the first item is allowed
pub took : {A : Type 0} {rest : A → Left} {Post : A → List Token → Type 0} {before : List Token} {r : Result A Fault} {t : Token} {ts us : Left} → Stands t ts us → is_last t ≡ false → passes_bound before t (tokens_of us) ≡ false → is_repeated before t ≡ false → Run (t ∷ before) us rest Post r → Run before ts rest Post r
took {rest} {Post} {before} {r} {t} {ts} {us} stands not within new run = go ts stands.is (subst (λ (vs : Left). passes_bound before t (tokens_of vs) ≡ false) stands.behind within) (subst (λ (vs : Left). Run (t ∷ before) vs rest Post r) stands.behind run)
  where
    last : true ≡ false → ⊥
    last f = cc

    go : (ts : Left) → first_token ts ≡ t → passes_bound before t (tokens_of (others ts)) ≡ false → Run (t ∷ before) (others ts) rest Post r → Run before ts rest Post r
    go [] is within run = absurd (last (subst (λ (u : Token). is_last u ≡ false) (sym is) not))
    go (p ∷ ps) is within run = behind_allowed (past (subst (λ (u : Token). is_last u ≡ false) (sym is) not) (subst (λ (u : Token). IsAllowed before u (tokens_of ps)) (sym is) (record { within = within; new = new })) here) (subst (λ (u : Token). Run (u ∷ before) ps rest Post r) (sym is) run)

-- this word or sign is taken, or the first item is wrong
pub word_then : {A : Type 0} {rest : A → Left} {Post : A → List Token → Type 0} {before : List Token} {g : Left → Result A Fault} (w : Word) (ts : Left) → ((us : Left) → Run (tokens.Word w ∷ before) us rest Post (g us)) → Run before ts rest Post (word_at w ts >>= g)
unfolding word_at passes_bound is_repeated
word_then {rest} {Post} {before} {g} w ts on = by_choice (λ (r : Result Left Fault). Run before ts rest Post (r >>= g)) (begins_with w ts) (Ok (others ts)) (Err (unexpected ts))
    (λ h. took (record { is = a_word w (first_token ts) h; behind = refl }) refl refl refl (on (others ts)))
    (λ h. refused ts)

pub sign_first : {A : Type 0} {rest : A → Left} {Post : A → List Token → Type 0} {before : List Token} {g : Left → Result A Fault} (s : Sign) (ts : Left) → ((us : Left) → begins_with_sign s ts ≡ true → Stands (tokens.Sign s) ts us → Run before ts rest Post (g us)) → Run before ts rest Post (sign_at s ts >>= g)
unfolding sign_at
sign_first {rest} {Post} {before} {g} s ts on = by_choice (λ (r : Result Left Fault). Run before ts rest Post (r >>= g)) (begins_with_sign s ts) (Ok (others ts)) (Err (unexpected ts))
    (λ h. on (others ts) h (record { is = a_sign s (first_token ts) h; behind = refl }))
    (λ h. refused ts)

-- a sign that passes no bound where it stands
pub sign_when : {A : Type 0} {rest : A → Left} {Post : A → List Token → Type 0} {before : List Token} {g : Left → Result A Fault} (s : Sign) (ts : Left) → (begins_with_sign s ts ≡ true → sign_passes s before ≡ false) → ((us : Left) → Run (tokens.Sign s ∷ before) us rest Post (g us)) → Run before ts rest Post (sign_at s ts >>= g)
unfolding passes_bound is_repeated
sign_when s ts within on = sign_first s ts (λ us h stands. took stands refl (within h) refl (on us))

pub sign_then : {A : Type 0} {rest : A → Left} {Post : A → List Token → Type 0} {before : List Token} {g : Left → Result A Fault} (s : Sign) (ts : Left) → sign_passes s before ≡ false → ((us : Left) → Run (tokens.Sign s ∷ before) us rest Post (g us)) → Run before ts rest Post (sign_at s ts >>= g)
sign_then s ts within on = sign_when s ts (λ _. within) on

-- a name stands first, of which a fault may still be told, or the first item is wrong
pub upper_first : {A : Type 0} {rest : A → Left} {Post : A → List Token → Type 0} {before : List Token} {g : List ℕ × Left → Result A Fault} (ts : Left) → ((a : List ℕ × Left) → Stands (tokens.Upper a.0) ts a.1 → Run before ts rest Post (g a)) → Run before ts rest Post (upper_at ts >>= g)
unfolding upper_at
upper_first {rest} {Post} {before} {g} ts on = go (first_token ts) refl
  where
    go : (t : Token) → first_token ts ≡ t → Run before ts rest Post (upper_of t ts >>= g)
    go (tokens.Upper name) e = on (name, others ts) (record { is = e; behind = refl })
    go (tokens.Lower name) e = refused ts
    go (tokens.Number value) e = refused ts
    go (tokens.Word found) e = refused ts
    go (tokens.Sign found) e = refused ts
    go tokens.OutOfProfile e = refused ts
    go tokens.Nothing e = refused ts
    go tokens.EndOfText e = refused ts

pub lower_first : {A : Type 0} {rest : A → Left} {Post : A → List Token → Type 0} {before : List Token} {g : List ℕ × Left → Result A Fault} (ts : Left) → ((a : List ℕ × Left) → Stands (tokens.Lower a.0) ts a.1 → Run before ts rest Post (g a)) → Run before ts rest Post (lower_at ts >>= g)
unfolding lower_at
lower_first {rest} {Post} {before} {g} ts on = go (first_token ts) refl
  where
    go : (t : Token) → first_token ts ≡ t → Run before ts rest Post (lower_of t ts >>= g)
    go (tokens.Lower name) e = on (name, others ts) (record { is = e; behind = refl })
    go (tokens.Upper name) e = refused ts
    go (tokens.Number value) e = refused ts
    go (tokens.Word found) e = refused ts
    go (tokens.Sign found) e = refused ts
    go tokens.OutOfProfile e = refused ts
    go tokens.Nothing e = refused ts
    go tokens.EndOfText e = refused ts

pub no_first : (a b : Bool) → a ≡ false → a && b ≡ false
no_first true b h = cc
no_first false b h = refl

-- a name of upper form where no assignment begins
pub upper_then : {A : Type 0} {rest : A → Left} {Post : A → List Token → Type 0} {before : List Token} {g : List ℕ × Left → Result A Fault} (ts : Left) → begins_assignment before ≡ false → ((a : List ℕ × Left) → Run (tokens.Upper a.0 ∷ before) a.1 rest Post (g a)) → Run before ts rest Post (upper_at ts >>= g)
unfolding passes_bound is_repeated
upper_then {before} ts no_name on = upper_first ts (λ a stands. took stands refl (no_first _ _ no_name) (no_first _ _ no_name) (on a))

-- a number within its bounds stands first, or the first item is wrong
pub bounded_first : {A : Type 0} {rest : A → Left} {Post : A → List Token → Type 0} {before : List Token} {g : ℤ × Left → Result A Fault} (low high : ℤ) (ts : Left) → range_behind before ≡ from_to low high → ((a : ℤ × Left) → Stands (tokens.Number a.0) ts a.1 → passes_bound before (tokens.Number a.0) (tokens_of a.1) ≡ false → Run before ts rest Post (g a)) → Run before ts rest Post (bounded_at low high ts >>= g)
unfolding bounded_at number_at passes_bound
bounded_first {rest} {Post} {before} {g} low high ts range on = go (first_token ts) refl
  where
    go : (t : Token) → first_token ts ≡ t → Run before ts rest Post ((number_of t ts >>= λ value. cond (le_z low value.0 && le_z value.0 high) (Ok (value.0, value.1)) (Err (fault_at reasons.Bounds ts))) >>= g)
    go (tokens.Number value) e = by_choice (λ (r : Result (ℤ × Left) Fault). Run before ts rest Post (r >>= g)) (le_z low value && le_z value high) (Ok (value, others ts)) (Err (fault_at reasons.Bounds ts))
        (λ h. on (value, others ts) (record { is = e; behind = refl }) (ap (is_outside value) range ∙ ap not h))
        (λ h. wrong (record { is = e; behind = refl }) refl (bounds (ap (is_outside value) range ∙ ap not h)))
    go (tokens.Upper name) e = refused ts
    go (tokens.Lower name) e = refused ts
    go (tokens.Word found) e = refused ts
    go (tokens.Sign found) e = refused ts
    go tokens.OutOfProfile e = refused ts
    go tokens.Nothing e = refused ts
    go tokens.EndOfText e = refused ts

pub natural_first : {A : Type 0} {rest : A → Left} {Post : A → List Token → Type 0} {before : List Token} {g : ℕ × Left → Result A Fault} (low high : ℕ) (ts : Left) → range_behind before ≡ from_to (pos low) (pos high) → ((a : ℕ × Left) (value : ℤ) → a.0 ≡ natural value → Stands (tokens.Number value) ts a.1 → passes_bound before (tokens.Number value) (tokens_of a.1) ≡ false → Run before ts rest Post (g a)) → Run before ts rest Post (natural_at low high ts >>= g)
unfolding natural_at
natural_first {rest} {Post} {before} {g} low high ts range on = subst (Run before ts rest Post) (bind_twice (bounded_at (pos low) (pos high) ts)) (bounded_first (pos low) (pos high) ts range (λ value stands within. on (natural value.0, value.1) value.0 refl stands within))
  where
    bind_twice : (r : Result (ℤ × Left) Fault) → (r >>= λ value. g (natural value.0, value.1)) ≡ ((r >>= λ value. Ok (natural value.0, value.1)) >>= g)
    bind_twice (Ok value) = refl
    bind_twice (Err f) = refl

-- the same where the number is no id or code
pub bounded_then : {A : Type 0} {rest : A → Left} {Post : A → List Token → Type 0} {before : List Token} {g : ℤ × Left → Result A Fault} (low high : ℤ) (ts : Left) → range_behind before ≡ from_to low high → ((n : ℕ) → is_given n before ≡ false) → ((a : ℤ × Left) → Run (tokens.Number a.0 ∷ before) a.1 rest Post (g a)) → Run before ts rest Post (bounded_at low high ts >>= g)
unfolding is_repeated
bounded_then low high ts range new on = bounded_first low high ts range (λ a stands within. took stands refl within (new (natural a.0)) (on a))

pub natural_then : {A : Type 0} {rest : A → Left} {Post : A → List Token → Type 0} {before : List Token} {g : ℕ × Left → Result A Fault} (low high : ℕ) (ts : Left) → range_behind before ≡ from_to (pos low) (pos high) → ((n : ℕ) → is_given n before ≡ false) → ((a : ℕ × Left) (value : ℤ) → a.0 ≡ natural value → Run (tokens.Number value ∷ before) a.1 rest Post (g a)) → Run before ts rest Post (natural_at low high ts >>= g)
unfolding is_repeated
natural_then low high ts range new on = natural_first low high ts range (λ a value is stands within. took stands refl within (new (natural value)) (on a value is))

-- ---- turns

-- what is told where turns go on, and where they end
abbrev pub Turned : {S : Type 0} → (S → List Token → Type 0) → (S → List Token → Type 0) → Bool × S × Left → List Token → Type 0
Turned Going Ended (true, state, us) after = Going state after
Turned Going Ended (false, state, us) after = Ended state after

pub repeat_run : {S : Type 0} {turn : S → Left → Result (Bool × S × Left) Fault} (Going Ended : S → List Token → Type 0) → ((state : S) (before : List Token) (ts : Left) → Going state before → Run before ts (λ a. a.2) (Turned Going Ended) (turn state ts)) → (turns : ℕ) (state : S) (before : List Token) (ts : Left) → Going state before → Run before ts (λ a. a.1) (λ a after. Ended a.0 after) (repeat_at turn turns state ts)
unfolding repeat_at
repeat_run Going Ended step zero state before ts going = refused ts
repeat_run {S} {turn} Going Ended step (suc turns) state before ts going = and_then (step state before ts going) (λ t after. go t.0 t.1 t.2 after (repeat_run Going Ended step turns t.1 after t.2))
  where
    go : (more : Bool) (next : S) (us : Left) (after : List Token) → (Going next after → Run after us (λ a. a.1) (λ a b. Ended a.0 b) (repeat_at turn turns next us)) → Turned Going Ended (more, next, us) after → Run after us (λ a. a.1) (λ a b. Ended a.0 b) (cond more (repeat_at turn turns next us) (Ok (next, us)))
    go true next us after again post = again post
    go false next us after again post = done (next, us) post
