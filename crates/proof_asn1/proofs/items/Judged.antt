-- What is told of the items of a text, by the run that read them.
use mathlib.Core.List.{reverse_aux}
use Rattle.std.proofs.Common.{◌≡◌, ℕ, ◌+◌, List, [], ◌∷◌, ◌++◌, length, Bool, true, false, refl, sym, ap, ◌∙◌, subst}
use Rattle.std.proofs.lemmas.List.{append_assoc}
use Rattle.std.specs.Prelude.{Result, Ok, Err}
use Rattle.asn1_tokens.specs.declared.token.Word.{Word}
use Rattle.asn1_tokens.specs.declared.token.Word.TheVariants as words
use Rattle.asn1_tokens.specs.declared.token.Token.{Token}
use Rattle.asn1_tokens.specs.declared.token.Token.TheVariants as tokens
use Rattle.asn1_tokens.specs.Stream.{Placed, items_of, first_token, first_place, others}
use Rattle.asn1_syntax.specs.declared.types.fault.Fault.{Fault}
use Rattle.asn1_syntax.specs.types.Reading.{Left, begins_with}
use Rattle.asn1_syntax.specs.types.inside.Reading.{◌>>=◌}
use Rattle.asn1_syntax.specs.declared.assignments.assignment.Syntax.{Syntax}
use Rattle.asn1_syntax.specs.assignments.inside.Module.{Parts, header_at, assignments_at, syntax_at, syntax_of}
use Rattle.asn1_defs.specs.Spelling.{tokens_of}
use Rattle.proof_asn1.proofs.asn1_proof_syntax.Streams.{IsStream, items-stream, first_of_stream}
use Rattle.proof_asn1.proofs.asn1_proof_syntax.Streams as streams
use Rattle.asn1_defs.specs.ItemFaults.{IsAllowed, AreAllowed, passes_bound, is_repeated}
use Rattle.proof_asn1.specs.items.JudgedItems.{Because, AreAllowedTo, IsJudged}
use Rattle.proof_asn1.proofs.asn1_proof_syntax.Exact.{a_word}
use Rattle.proof_asn1.proofs.items.Runs.{AllowedTo, here, past, Wrongs, Run, goes, fails, behind_allowed}
use Rattle.proof_asn1.proofs.items.ModuleRuns.{Between, header_run, assignments_run}

-- ---- allowed items, as a list

tokens_append : (xs ys : List Placed) → tokens_of (xs ++ ys) ≡ tokens_of xs ++ tokens_of ys
tokens_append [] ys = refl
tokens_append (x ∷ xs) ys = ap (λ (l : List Token). x.token ∷ l) (tokens_append xs ys)

record Front (before : List Token) (ts : Left) (after : List Token) (us : Left) : Type 0 where
  front : List Placed
  split : ts ≡ front ++ us
  turned : after ≡ reverse_aux (tokens_of front) before
  allowed : AreAllowed before (tokens_of front) (tokens_of us)

front_of : {before after : List Token} {ts us : Left} → AllowedTo before ts after us → Front before ts after us
front_of here = record { front = []; split = refl; turned = refl; allowed = tt }
front_of (past {p} {before} {after} {ts} {us} not one more) = further (front_of more)
  where
    further : Front (p.token ∷ before) ts after us → Front before (p ∷ ts) after us
    further rest = record {
      front = p ∷ rest.front;
      split = ap (λ (l : Left). p ∷ l) rest.split;
      turned = rest.turned;
      allowed = (subst (λ (l : List Token). IsAllowed before p.token l) (ap tokens_of rest.split ∙ tokens_append rest.front us) one, rest.allowed);
    }

-- and one more
allowed_snoc : (before xs behind : List Token) (t : Token) → AreAllowed before xs (t ∷ behind) → IsAllowed (reverse_aux xs before) t behind → AreAllowed before (xs ++ t ∷ []) behind
allowed_snoc before [] behind t h one = (one, tt)
allowed_snoc before (x ∷ xs) behind t h one = (subst (λ (l : List Token). IsAllowed before x l) (sym (append_assoc xs (t ∷ []) behind)) h.0, allowed_snoc (x ∷ before) xs behind t h.1 one)

-- a word is allowed
word_allowed : (w : Word) (before behind : List Token) (t : Token) → t ≡ tokens.Word w → IsAllowed before t behind
unfolding passes_bound is_repeated
word_allowed w before behind t is = subst (λ (u : Token). IsAllowed before u behind) (sym is) (record { within = refl; new = refl })

-- no allowed item is the last of a text
still : {from after : List Token} {ts us : Left} → AllowedTo from ts after us → IsStream ts → IsStream us
still here stream = stream
still (past not one more) (streams.alone last) = absurd (clash not last)
  where
    clash : {b : Bool} → b ≡ false → b ≡ true → ⊥
    clash e f = cc
still (past not one more) (streams.before _ stream) = still more stream

-- ---- a module

data Outcome (ts : Left) : Result Syntax Fault → Type 0 where
  reads : {s : Syntax} {after : List Token} (us : Left) → AllowedTo [] ts after us → begins_with words.End us ≡ true → s.end ≡ (first_place us).end → Outcome ts (Ok s)
  wrong : {f : Fault} → Wrongs [] ts f → Outcome ts (Err f)

syntax_read : (turns : ℕ) (ts : Left) → Outcome ts (syntax_at turns ts)
unfolding syntax_at
syntax_read turns ts = go (header_at ts) (header_run ts)
  where
    body : (name : List ℕ) (r : Result (Parts × Left) Fault) → Run [] ts (λ a. a.1) (λ a _. begins_with words.End a.1 ≡ true) r → Outcome ts (r >>= λ parts. Ok (record { name = name; assignments = parts.0.assignments; nodes = parts.0.nodes; end = (first_place parts.1).end }))
    body name (Ok parts) (goes allowed_to end) = reads parts.1 allowed_to end refl
    body name (Err f) (fails late) = wrong late

    go : (r : Result (List ℕ × Left) Fault) → Run [] ts (λ a. a.1) (λ _ after. Between [] after) r → Outcome ts (r >>= λ header. assignments_at turns [] header.1 >>= λ parts. Ok (record { name = header.0; assignments = parts.0.assignments; nodes = parts.0.nodes; end = (first_place parts.1).end }))
    go (Ok header) (goes {after} allowed_to between) = body header.0 (assignments_at turns [] header.1) (behind_allowed allowed_to (assignments_run turns [] after header.1 between))
    go (Err f) (fails late) = wrong late

-- ---- what it says of the text

allowed_of : (text : List ℕ) (s : Syntax) → Outcome (items_of text) (Ok s) → AreAllowedTo text s.end
allowed_of text s (reads {after} us allowed_to ends at) =
    let found = first_of_stream (still allowed_to (items-stream text)) in
    let way = front_of (subst (λ (l : Left). AllowedTo [] (items_of text) after l) found.2 allowed_to) in
    let is = a_word words.End found.0.token (subst (λ (l : Left). begins_with words.End l ≡ true) found.2 ends) in
    record {
      front = way.front;
      last = found.0;
      rest = found.1;
      items = way.split;
      word = is;
      allowed = allowed_snoc [] (tokens_of way.front) (tokens_of found.1) found.0.token way.allowed (word_allowed words.End _ _ found.0.token is);
      ends = at ∙ ap (λ (l : Left). (first_place l).end) found.2;
    }

judged_of : (text : List ℕ) (f : Fault) → Outcome (items_of text) (Err f) → IsJudged text f
judged_of text f (wrong late) =
    let found = first_of_stream (still late.allowed_to (items-stream text)) in
    let way = front_of (subst (λ (l : Left). AllowedTo [] (items_of text) late.after l) found.2 late.allowed_to) in
    record {
      front = way.front;
      item = found.0;
      rest = found.1;
      items = way.split;
      at = late.at ∙ ap (λ (l : Left). (first_place l).start) found.2;
      allowed = way.allowed;
      because = subst (λ (b : List Token). Because b found.0.token (tokens_of found.1) f.reason) way.turned (subst (λ (l : Left). Because late.after (first_token l) (tokens_of (others l)) f.reason) found.2 late.because);
    }

outcome : (text : List ℕ) → Outcome (items_of text) (syntax_of text)
outcome text = syntax_read (length text + 1) (items_of text)

pub allowed_to : (text : List ℕ) (s : Syntax) → syntax_of text ≡ Ok s → AreAllowedTo text s.end
allowed_to text s h = allowed_of text s (subst (Outcome (items_of text)) h (outcome text))

pub judged : (text : List ℕ) (f : Fault) → syntax_of text ≡ Err f → IsJudged text f
judged text f h = judged_of text f (subst (Outcome (items_of text)) h (outcome text))
