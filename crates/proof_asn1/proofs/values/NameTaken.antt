-- What the turns of a list give together, what names of an ENUMERATED mean that were read, and what a set's name in braces means.
use Rattle.std.proofs.Common.{◌≡◌, ℕ, List, [], zero, suc, Bool, true, false, ◌&&◌}
use Rattle.std.specs.Prelude.{Result, Ok}
use Rattle.gnb_types.proofs.Choices.{by_choice}
use Rattle.asn1_tokens.specs.declared.token.Sign.TheVariants as signs
use Rattle.asn1_tokens.specs.declared.token.Token.TheVariants as tokens
use Rattle.asn1_syntax.specs.declared.types.fault.Fault.{Fault}
use Rattle.asn1_syntax.specs.declared.types.definition.Extensible.{Extensible}
use Rattle.asn1_syntax.specs.types.Reading.{Left, begins_with_sign}
use Rattle.asn1_syntax.specs.types.inside.Reading.{repeat_at}
use Rattle.asn1_syntax.specs.types.Members.{no_parts, all_parts, is_full, has_name}
use Rattle.asn1_syntax.specs.types.inside.Members.{can_extend, new_name_at, list_goes_on_at, name_entry_at, names_turn_at, names_at}
use Rattle.asn1_syntax.specs.types.inside.Types.{set_name_at}
use Rattle.proof_asn1.proofs.asn1_proof_syntax.Gives.{Gives, ok, no_value, and_gives, gives_so, and_parts}
use Rattle.asn1_defs.specs.ItemMeanings.{The, SetName, set_name, AddedNames, none, one, Names, mark, last, more}
use Rattle.proof_asn1.proofs.values.InBraces.{Told, Lists, FromEntry, BehindEntry, part_from, mark_from, comma_behind, brace_behind, whole_from}
use Rattle.proof_asn1.proofs.values.Taken.{the_sign_gives, the_upper_gives, the_lower_gives}

-- ---- turns of a list

-- Where M tells what the items mean from a state to the last one: a turn that goes on is put before what the later turns give.
pub record Turned {S : Type 0} (M : S → Left → S → Left → Type 0) (state : S) (ts : Left) (a : Bool × S × Left) : Type 0 where
  pub goes : a.0 ≡ true → (last : S) (rest : Left) → M a.1 a.2 last rest → M state ts last rest
  pub ended : a.0 ≡ false → M state ts a.1 a.2

pub repeat_means : {S : Type 0} (turn : S → Left → Result (Bool × S × Left) Fault) (M : S → Left → S → Left → Type 0) → ((state : S) (ts : Left) → Gives (Turned M state ts) (turn state ts)) → (turns : ℕ) (state : S) (ts : Left) → Gives (λ (a : S × Left). M state ts a.0 a.1) (repeat_at turn turns state ts)
unfolding repeat_at
repeat_means turn M step zero state ts = no_value
repeat_means turn M step (suc turns) state ts = and_gives (step state ts) (λ t turned.
    by_choice (Gives (λ (a : _ × Left). M state ts a.0 a.1)) t.0 (repeat_at turn turns t.1 t.2) (Ok (t.1, t.2))
    (λ h. gives_so (repeat_means turn M step turns t.1 t.2) (λ a later. turned.goes h a.0 a.1 later))
    (λ h. ok (turned.ended h)))

-- a comma, or the brace at the end
pub data GoesOn (ts : Left) : Bool × Left → Type 0 where
  comma : {rest : Left} → The (tokens.Sign signs.Comma) ts rest → GoesOn ts (true, rest)
  brace : {rest : Left} → The (tokens.Sign signs.RightBrace) ts rest → GoesOn ts (false, rest)

pub goes_on_gives : (ts : Left) → Gives (GoesOn ts) (list_goes_on_at ts)
unfolding list_goes_on_at
goes_on_gives ts = by_choice (Gives (GoesOn ts)) (begins_with_sign signs.Comma ts) _ _
    (λ _. and_gives (the_sign_gives signs.Comma ts) (λ a t. ok (comma t)))
    (λ _. and_gives (the_sign_gives signs.RightBrace ts) (λ a t. ok (brace t)))

-- ---- names of an ENUMERATED

pub the_name_gives : (taken : List ℕ → Bool) (full : Bool) (ts : Left) → Gives (λ (a : List ℕ × Left). The (tokens.Lower a.0) ts a.1) (new_name_at taken full ts)
unfolding new_name_at
the_name_gives taken full ts = and_gives (the_lower_gives ts) (λ name t.
    by_choice (Gives (λ (a : List ℕ × Left). The (tokens.Lower a.0) ts a.1)) full _ _ (λ _. no_value)
    (λ _. by_choice (Gives (λ (a : List ℕ × Left). The (tokens.Lower a.0) ts a.1)) (taken name.0) _ _ (λ _. no_value) (λ _. ok t)))

abbrev AName : Told (List ℕ)
AName _ ts found _ rest = The (tokens.Lower found) ts rest

abbrev AllNames : Told (Extensible (List ℕ))
AllNames _ ts names _ rest = Names ts names rest

abbrev NamesBehindMark : Told (List (List ℕ))
NamesBehindMark _ ts names _ rest = AddedNames ts names rest

names_lists : Lists AName AllNames NamesBehindMark
names_lists = record {
  mark = λ t later. mark t later;
  last = λ m t. last m t;
  more = λ m t later. more m t later;
  none = λ t. none t;
  one = λ t m later. one t m later;
}

-- all names, from those so far on
abbrev AreNames : Extensible (List ℕ) → Left → Extensible (List ℕ) → Left → Type 0
AreNames so_far ts names rest = FromEntry AName AllNames NamesBehindMark so_far [] ts names [] rest

-- an entry is put before what stands behind it
abbrev Entered : Extensible (List ℕ) → Left → Extensible (List ℕ) × Left → Type 0
Entered so_far ts a = (names : Extensible (List ℕ)) (rest : Left) → BehindEntry AName AllNames NamesBehindMark a.0 [] a.1 names [] rest → AreNames so_far ts names rest

name_entry_gives : (so_far : Extensible (List ℕ)) (ts : Left) → Gives (Entered so_far ts) (name_entry_at so_far ts)
unfolding name_entry_at
name_entry_gives so_far ts = by_choice (Gives (Entered so_far ts)) (can_extend 1 so_far && begins_with_sign signs.Ellipsis ts) _ _
    (λ h. and_gives (the_sign_gives signs.Ellipsis ts) (λ a t. ok (λ names rest later. mark_from names_lists so_far 1 (and_parts _ _ h).0 [] ts a names [] rest t later)))
    (λ _. and_gives (the_name_gives (λ other. has_name other (all_parts so_far)) (is_full so_far) ts) (λ found t. ok (λ names rest later. part_from names_lists so_far found.0 [] [] ts found.1 names [] rest t later)))

names_turned : (so_far : Extensible (List ℕ)) (ts : Left) (entry : Extensible (List ℕ) × Left) → Entered so_far ts entry → (a : Bool × Left) → GoesOn entry.1 a → Turned AreNames so_far ts (a.0, entry.0, a.1)
names_turned so_far ts entry entered (true, us) (comma t) = record { goes = λ _ names rest later. entered names rest (comma_behind names_lists entry.0 [] entry.1 us names [] rest t later); ended = λ h. cc }
names_turned so_far ts entry entered (false, us) (brace t) = record { goes = λ h. cc; ended = λ _. entered entry.0 us (brace_behind names_lists entry.0 [] entry.1 us t) }

names_turn_gives : (so_far : Extensible (List ℕ)) (ts : Left) → Gives (Turned AreNames so_far ts) (names_turn_at so_far ts)
unfolding names_turn_at
names_turn_gives so_far ts = and_gives (name_entry_gives so_far ts) (λ entry entered.
    and_gives (goes_on_gives entry.1) (λ a t. ok (names_turned so_far ts entry entered a t)))

pub names_gives : (turns : ℕ) (ts : Left) → Gives (λ (a : Extensible (List ℕ) × Left). Names ts a.0 a.1) (names_at turns ts)
unfolding names_at
names_gives turns ts = gives_so (repeat_means names_turn_at AreNames names_turn_gives turns no_parts ts)
    (λ a m. whole_from {One = AName} {Whole = AllNames} {Added = NamesBehindMark} [] ts a.0 [] a.1 m)

-- ---- a set's name in braces

pub set_name_gives : (ts : Left) → Gives (λ (a : List ℕ × ℕ × Left). SetName ts a.0 a.1 a.2) (set_name_at ts)
unfolding set_name_at
set_name_gives ts = and_gives (the_sign_gives signs.LeftBrace ts) (λ a t1.
    and_gives (the_sign_gives signs.LeftBrace a) (λ b t2.
    and_gives (the_upper_gives b) (λ found t3.
    and_gives (the_sign_gives signs.RightBrace found.1) (λ c t4.
    and_gives (the_sign_gives signs.RightBrace c) (λ d t5. ok (set_name t1 t2 t3 t4 t5))))))
