-- Of what is put out, what names a terminal: of two lists one after another, and of what is another terminal's.
use Rattle.std.proofs.Common.{◌≡◌, ℕ, ◌==◌, Bool, true, false, List, [], ◌∷◌, ◌++◌, refl, sym, ap, ◌∙◌, eqb-true}
use Rattle.std.specs.Prelude.{◌≢◌, if◌then◌else◌}
use Rattle.std.specs.List.{AllByRecursion, flat_map}
use Rattle.gnb_types.specs.declared.keys.Channel.{Channel}
use Rattle.gnb_types.specs.Orders.{channel_cmp}
use Rattle.tables.specs.Tables.{IsSorted}
use Rattle.transaction_defs.specs.Callers.{opened_at, after_tick, Due, repeats, expires}
use Rattle.unit_defs.specs.Ways.{Put, Output, control, packet, radio, deliver, dropped, held, opened, closed, failed, no}
use Rattle.unit_defs.specs.Transactions.{Transactions}
use Rattle.unit_defs.specs.Messages.{channel}
use Rattle.law_requests_act_once.proofs.channel.Ticks.{aged_in, opened_after_tick}
use Rattle.law_terminals_are_isolated.specs.projections.Projections.{Requests, requests_of}
use Rattle.law_terminals_are_isolated.specs.projections.Steps.{IsFor}
use Rattle.law_terminals_are_isolated.specs.tick_projections.Ticks.{names_ue, outputs_of, due_ue, own_dues, ticked}

not_it : (ue v u : ℕ) → v ≢ ue → u ≡ v → (u == ue) ≡ false
not_it ue v u apart is = by (u == ue) refl
  where
    by : (b : Bool) → (u == ue) ≡ b → b ≡ false
    by true e = absurd (apart (sym is ∙ eqb-true u ue e))
    by false e = refl

module _ {M L P : Type 0} where
  pub outputs_append : (ue : ℕ) (xs ys : List (Put M L P)) → outputs_of ue (xs ++ ys) ≡ outputs_of ue xs ++ outputs_of ue ys
  outputs_append ue [] ys = refl
  outputs_append ue (x ∷ xs) ys = by (names_ue ue x) (outputs_append ue xs ys)
    where
      by : (b : Bool) → outputs_of ue (xs ++ ys) ≡ outputs_of ue xs ++ outputs_of ue ys
          → (if b then x ∷ outputs_of ue (xs ++ ys) else outputs_of ue (xs ++ ys)) ≡ (if b then x ∷ outputs_of ue xs else outputs_of ue xs) ++ outputs_of ue ys
      by true again = ap (λ (os : List (Put M L P)). x ∷ os) again
      by false again = again

  not_named : (ue v : ℕ) → v ≢ ue → (x : Put M L P) → IsFor v x → names_ue ue x ≡ false
  not_named ue v apart (control to u m) is = not_it ue v u apart is
  not_named ue v apart (packet to teid u bearer dir tag load) is = not_it ue v u.0 apart is
  not_named ue v apart (radio u bearer dir epoch tag pdu) is = not_it ue v u.0 apart is
  not_named ue v apart (deliver u bearer dir count p) is = not_it ue v u.0 apart is
  not_named ue v apart (failed u cause) is = not_it ue v u.0 apart is
  not_named ue v apart (dropped reason) is = refl
  not_named ue v apart (held reason) is = refl
  not_named ue v apart (opened teid) is = refl
  not_named ue v apart (closed teid) is = refl
  not_named ue v apart (no reason) is = refl

  pub none_named : (ue v : ℕ) → v ≢ ue → (xs : List (Put M L P)) → AllByRecursion (IsFor v) xs → outputs_of ue xs ≡ []
  none_named ue v apart [] all = refl
  none_named ue v apart (x ∷ xs) all =
      ap (λ (b : Bool). if b then x ∷ outputs_of ue xs else outputs_of ue xs) (not_named ue v apart x all.0) ∙ none_named ue v apart xs all.1

-- requests that are due, put again
module _ {M P : Type 0} (f : Due M → List (Output M P)) where
  pub dues_shown : ((c : Channel) (m : M) → f (repeats c m) ≡ control c.peer c.ue m ∷ []) → ((c : Channel) → f (expires c) ≡ []) → (ue : ℕ)
      → (ds : List (Due M)) → outputs_of ue (flat_map f ds) ≡ outputs_of ue (flat_map f (own_dues ue ds))
  dues_shown there none ue [] = refl
  dues_shown there none ue (d ∷ ds) = outputs_append ue (f d) (flat_map f ds) ∙ by (dues_shown there none ue ds) (due_ue d == ue) refl
    where
      apart : (x : Due M) → (due_ue x == ue) ≡ false → outputs_of ue (f x) ≡ []
      apart (repeats c m) e = ap (outputs_of ue) (there c m) ∙ ap (λ (b : Bool). if b then control c.peer c.ue m ∷ [] else []) e
      apart (expires c) e = ap (outputs_of ue) (none c)

      by : outputs_of ue (flat_map f ds) ≡ outputs_of ue (flat_map f (own_dues ue ds)) → (b : Bool) → (due_ue d == ue) ≡ b → outputs_of ue (f d) ++ outputs_of ue (flat_map f ds)
          ≡ outputs_of ue (flat_map f (if b then d ∷ own_dues ue ds else own_dues ue ds))
      by again true e = ap (λ (os : List (Output M P)). outputs_of ue (f d) ++ os) again ∙ sym (outputs_append ue (f d) (flat_map f (own_dues ue ds)))
      by again false e = ap (λ (os : List (Output M P)). os ++ outputs_of ue (flat_map f ds)) (apart d e) ∙ again

-- ---- what is kept of a terminal's requests after a tick

module _ {M C : Type 0} where
  aged_requests : Requests M C → Requests M C
  aged_requests s = record s { opened = λ peer. aged_in (s.opened peer) }

  requests_ticked : (ue : ℕ) (t : Transactions M C) → IsSorted channel_cmp t.caller.opened → requests_of ue (ticked t) ≡ aged_requests (requests_of ue t)
  unfolding aged_requests opened_at after_tick
  requests_ticked ue t sorted = λ i. record (requests_of ue t) { opened = λ peer. opened_after_tick t.caller (channel ue peer) sorted i }

  pub ticked_same : (ue : ℕ) (t u : Transactions M C) → IsSorted channel_cmp t.caller.opened → IsSorted channel_cmp u.caller.opened
      → requests_of ue t ≡ requests_of ue u → requests_of ue (ticked t) ≡ requests_of ue (ticked u)
  ticked_same ue t u st su e = requests_ticked ue t st ∙ ap aged_requests e ∙ sym (requests_ticked ue u su)
